-- Lists of signals and of values, one for each of some sorts, and how few gates an operator on few signals has.
use Rattle.std.specs.Prelude.{ℕ, ◌+◌, ◌-◌, ◌*◌, ◌^◌, ◌≤◌, ◌<◌, ◌≡◌, true, List, [], ◌∷◌, ◌++◌, refl, Some, length, map, All}
use Rattle.std.proofs.Common.{arith, ap, sym, ◌∙◌, subst, get_or, take, length-append}
use Rattle.std.proofs.Math.Nat.{mul-le-mul_left, mul-le-mul_right}
use Rattle.std.proofs.lemmas.List.{map-append, take_more, take_all}
use Rattle.std.proofs.lemmas.List.Elements.{All-nil, All-cons, All-head, All-tail, All-append}
use Rattle.sy_terms.specs.Denoted.{val_of, vals_of, AreValid, IsSorted}
use Rattle.sy_terms.specs.Sorts.{sort_of}
use Rattle.sy_terms.specs.Theories.{sort_of_value, valid}
use Rattle.sy_terms.specs.declared.op.Op.{Op}
use Rattle.sy_terms.specs.declared.op.Op.TheVariants as ops
use Rattle.sy_terms.specs.declared.sort.Sort.{Sort}
use Rattle.sy_terms.specs.declared.sort.Sort.TheVariants as sorts
use Rattle.sy_terms.specs.declared.sort.Value.{Value}
use Rattle.std.proofs.lemmas.Bool.Decides.{nat_tests}
use Rattle.sy_terms.specs.declared.sorts.Sorted.TheVariants.{Is}
use Rattle.sy_meaning_words.specs.Vectors.{vector, owned, TakesSorts, has_a_sort}
use Rattle.sy_meaning_words.specs.declared.word.Word.{Word}
use Rattle.sy_query_base.specs.Weights.{operator_weight, sort_weight}
use Rattle.sy_gates.specs.Circuits.{Plan, variables, bit_bound, word_bound}
use Rattle.sy_gates.specs.declared.gate.Bit.{Bit}
use Rattle.sy_gates.proofs.Words.{word_bound-push}
use Rattle.sy_bits_operators.specs.declared.signal.Signal.{Signal}
use Rattle.sy_bits_operators.specs.Signals.{signal_sort, signal_sorts, signal_bound, signals_bound, sort_width, total_width, has_signals, AllHaveSignals}
use Rattle.sy_bits_operators.specs.Costs.{gates}
use Rattle.sy_bits_operators.proofs.Kept.{kept}
use Rattle.sy_bits_operators.proofs.Rows.{bound-last}
use Rattle.sy_bits_circuit.proofs.Bounded.{few}

-- the first bits of a word of input variables
pub record IsInput (i : ℕ) (word : List Bit) : Type 0 where
  pub long : length word ≡ i
  pub bound : word_bound word ≤ 12

pub one-more : (i : ℕ) (word after : List Bit) (bit : Bit) → after ≡ word ++ bit ∷ [] → bit_bound bit ≤ 12 → IsInput i word → IsInput (i + 1) after
one-more i word after bit longer low so =
    rw longer (record {
      long = length-append word (bit ∷ []) ∙ ap (λ n. n + 1) so.long;
      bound = omega (arith, word_bound-push word bit, so.bound, low);
    })

-- the first sorts, and the next
next : (sorts : List Sort) (i : ℕ) (sort d : Sort) → i < length sorts → sort ≡ get_or sorts i d → take (i + 1) sorts ≡ take i sorts ++ sort ∷ []
next sorts i sort d h e = take_more sorts i d h ∙ ap (λ s. take i sorts ++ s ∷ []) (sym e)

-- signals of the first sorts
pub record AreInputsOf (sorts : List Sort) (i : ℕ) (signals : List Signal) : Type 0 where
  pub are : signal_sorts signals ≡ take i sorts
  pub have : AllHaveSignals (signal_sorts signals)
  pub bound : signals_bound signals ≤ 12

pub no-inputs : (sorts : List Sort) → AreInputsOf sorts 0 []
no-inputs sorts = record { are = refl; have = All-nil (λ sort. has_signals sort ≡ true); bound = omega arith }

pub more-inputs : (sorts : List Sort) (i : ℕ) (signals after : List Signal) (signal : Signal) (d : Sort) → let sort : Sort = get_or sorts i d in after ≡ signals ++ signal ∷ [] → i < length sorts → signal_sort signal ≡ sort → has_signals sort ≡ true → signal_bound signal ≤ 12 → AreInputsOf sorts i signals → AreInputsOf sorts (i + 1) after
more-inputs sorts i signals after signal d longer h is has low so =
    let sort : Sort = get_or sorts i d in
    let both : signal_sorts (signals ++ signal ∷ []) ≡ signal_sorts signals ++ signal_sort signal ∷ [] = map-append signal_sort signals (signal ∷ []) in
    let own : has_signals (signal_sort signal) ≡ true = ap has_signals is ∙ has in
    rw longer (record {
      are = both ∙ ap (λ ss. ss ++ signal_sort signal ∷ []) so.are ∙ ap (λ s. take i sorts ++ s ∷ []) is ∙ sym (next sorts i sort d h refl);
      have = subst AllHaveSignals (sym both) (All-append (λ sort. has_signals sort ≡ true) (signal_sorts signals) (signal_sort signal ∷ []) so.have (All-cons (λ sort. has_signals sort ≡ true) (signal_sort signal) [] own (All-nil (λ sort. has_signals sort ≡ true))));
      bound = omega (arith, bound-last signals signal, low, so.bound);
    })

pub all-inputs : (sorts : List Sort) (i : ℕ) (signals : List Signal) → length sorts ≤ i → AreInputsOf sorts i signals → (signal_sorts signals ≡ sorts) × AllHaveSignals sorts
all-inputs sorts i signals h so =
    let whole = so.are ∙ take_all i sorts h in
    (whole, subst AllHaveSignals whole so.have)

-- values of the first sorts
pub record AreValuesOf (sorts : List Sort) (i : ℕ) (values : List (Value Word)) : Type 0 where
  pub are : map sort_of_value (vals_of vector values) ≡ take i sorts
  pub valid : AreValid vector values

pub no-values : (sorts : List Sort) → AreValuesOf sorts 0 []
no-values sorts = record { are = refl; valid = All-nil (λ v. valid v ≡ true) }

pub more-values : (sorts : List Sort) (i : ℕ) (values after : List (Value Word)) (value : Value Word) (d : Sort) → let sort : Sort = get_or sorts i d in after ≡ values ++ value ∷ [] → i < length sorts → sort_of_value (val_of vector value) ≡ sort → valid (val_of vector value) ≡ true → AreValuesOf sorts i values → AreValuesOf sorts (i + 1) after
more-values sorts i values after value d longer h is good so =
    let sort : Sort = get_or sorts i d in
    let both : vals_of vector (values ++ value ∷ []) ≡ vals_of vector values ++ val_of vector value ∷ [] = map-append (val_of vector) values (value ∷ []) in
    rw longer (record {
      are = ap (map sort_of_value) both ∙ map-append sort_of_value (vals_of vector values) (val_of vector value ∷ []) ∙ ap (λ ss. ss ++ sort_of_value (val_of vector value) ∷ []) so.are ∙ ap (λ s. take i sorts ++ s ∷ []) is ∙ sym (next sorts i sort d h refl);
      valid = subst (All (λ v. valid v ≡ true)) (sym both) (All-append (λ v. valid v ≡ true) (vals_of vector values) (val_of vector value ∷ []) so.valid (All-cons (λ v. valid v ≡ true) (val_of vector value) [] good (All-nil (λ v. valid v ≡ true))));
    })

pub all-values : (sorts : List Sort) (i : ℕ) (values : List (Value Word)) → length sorts ≤ i → AreValuesOf sorts i values → map sort_of_value (vals_of vector values) ≡ sorts
all-values sorts i values h so = so.are ∙ take_all i sorts h

-- an operator on three signals or fewer has few gates

wide : (w : ℕ) → has_signals (sorts.Bits w) ≡ true → w ≤ 64
wide w h = grind (arith, nat_tests)

weight-small : (s : Sort) → has_signals s ≡ true → sort_weight (Some s) ≤ 64
weight-small sorts.Bool h = omega arith
weight-small sorts.Int h = omega arith
weight-small (sorts.Bits w) h = wide w h

width-small : (s : Sort) → has_signals s ≡ true → sort_width s ≤ 64
width-small sorts.Bool h = omega arith
width-small sorts.Int h = omega arith
width-small (sorts.Bits w) h = wide w h

widths-small : (ss : List Sort) → AllHaveSignals ss → total_width ss ≤ 64 * length ss
widths-small [] all = omega arith
widths-small (s ∷ ss) all = omega (arith, width-small s (All-head (λ sort. has_signals sort ≡ true) s ss all), widths-small ss (All-tail (λ sort. has_signals sort ≡ true) s ss all))

weight-most : (op : Op) (n own : ℕ) → operator_weight op n own ≤ n * n + (n + 1) * (own * own) + own + 8 * n + 8
weight-most ops.BvUdiv n own = omega arith
weight-most ops.BvUrem n own = omega arith
weight-most ops.BvSdiv n own = omega arith
weight-most ops.BvSrem n own = omega arith
weight-most ops.BvSmod n own = omega arith
weight-most ops.BvShl n own = omega arith
weight-most ops.BvLshr n own = omega arith
weight-most ops.BvAshr n own = omega arith
weight-most ops.BvMul n own = let m : (n - 1) * (own * own) ≤ (n + 1) * (own * own) = mul-le-mul_right (own * own) (omega arith) in omega (arith, m)
weight-most ops.Distinct n own = omega arith
weight-most ops.Div n own = omega arith
weight-most ops.Mod n own = omega arith
weight-most ops.Abs n own = omega arith
weight-most _ n own = omega arith

small-weight : (op : Op) (n own : ℕ) → n ≤ 3 → own ≤ 64 → operator_weight op n own ≤ 20000
small-weight op n own few small =
    let a : n * n ≤ n * 3 = mul-le-mul_left n few in
    let b : own * own ≤ own * 64 = mul-le-mul_left own small in
    let c : (n + 1) * (own * own) ≤ (n + 1) * 4096 = mul-le-mul_left (n + 1) (omega (arith, b, small)) in
    omega (arith, weight-most op n own, a, c, few, small)

pub small-gates : (op : Op) (ss : List Sort) (s : Sort) → owned op ≡ true → sort_of op ss ≡ Is s → AllHaveSignals ss → length ss ≤ 3 → gates op ss ≤ 3000000
small-gates op ss s own is all short =
    let weight = small-weight op (length ss) (sort_weight (Some s)) short (weight-small s (kept op ss s own is all)) in
    omega (arith, few op ss s own is all, weight, widths-small ss all, short)

-- what an operator's circuit asks for
pub record Asks (op : Op) (list : List Signal) (circuit : Plan) : Type 0 where
  pub takes : TakesSorts op (signal_sorts list)
  pub have : AllHaveSignals (signal_sorts list)
  pub inside : signals_bound list ≤ variables circuit
  pub room : variables circuit + gates op (signal_sorts list) + 1 < 2 ^ 31

pub asks : (op : Op) (sorts : List Sort) (s : Sort) (list signals : List Signal) (circuit : Plan) → list ≡ signals → signal_sorts signals ≡ sorts → AllHaveSignals sorts → length sorts ≤ 3 → signals_bound signals ≤ 12 → variables circuit ≡ 12 → owned op ≡ true → Is s ≡ sort_of op sorts → Asks op list circuit
asks op sorts s list signals circuit same are have short low twelve own is =
    rw (same) (record {
      takes = ap (λ ss. has_a_sort (sort_of op ss)) are ∙ ap has_a_sort (sym is);
      have = subst AllHaveSignals (sym are) have;
      inside = omega (arith, low, twelve);
      room = rw are (omega (arith, twelve, small-gates op sorts s own (sym is) have short));
    })

-- what an operator's value asks for
pub sorted : (op : Op) (sorts : List Sort) (s : Sort) (list values : List (Value Word)) → list ≡ values → map sort_of_value (vals_of vector values) ≡ sorts → AreValid vector values → Is s ≡ sort_of op sorts → IsSorted op (vals_of vector list)
sorted op sorts s list values same are good is = rw same (record { sort = s; fits = ap (sort_of op) are ∙ sym is; each = good })
