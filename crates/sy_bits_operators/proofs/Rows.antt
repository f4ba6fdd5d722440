-- Lists of signals and of their values, one by one.
use Rattle.std.specs.Prelude.{ℕ, ◌+◌, ◌*◌, ◌-◌, ◌≤◌, ◌<◌, ◌≡◌, Bool, true, false, not, cond, ◌&&◌, ◌||◌, max, List, [], ◌∷◌, ◌++◌, refl, length, map, take, drop}
use Rattle.std.specs.List.{list_all, list_any}
use Rattle.std.proofs.Common.{arith, ap, sym, ◌∙◌, subst, get_or, zero, suc}
use Rattle.std.proofs.Math.Nat.{mul-le-mul_right}
use Rattle.std.proofs.lemmas.List.{take_more, at_drop_more, take_all, length-drop}
use Rattle.sy_terms.specs.Values.{Val, Truth, truth, same, to_all, all_pairs}
use Rattle.sy_terms.specs.Operators.{op_value, implied}
use Rattle.sy_terms.specs.Sorts.{sort_of, same_sort}
use Rattle.sy_terms.specs.Theories.{sort_of_value}
use Rattle.sy_terms.specs.declared.op.Op.TheVariants as ops
use Rattle.sy_terms.specs.declared.sort.Sort.{Sort}
use Rattle.sy_terms.specs.declared.sorts.Sorted.{Sorted}
use Rattle.sy_terms.specs.declared.sorts.Sorted.TheVariants.{Is}
use Rattle.sy_meaning_core.proofs.Lists.{odd_from, xor-odd, map-last, implied-last}
use Rattle.sy_terms_operators.proofs.Equations.{same_sort_is}
use Rattle.sy_meaning_words.specs.Vectors.{TakesSorts, has_a_sort}
use Rattle.sy_gates.specs.declared.bitwise.Joint.TheVariants.{And, Or, Xor}
use Rattle.sy_gates.specs.declared.gate.Bit.{Bit}
use Rattle.sy_gates.specs.Bitwise.{all_joined}
use Rattle.sy_gates.specs.Circuits.{xor, bit_value}
use Rattle.sy_bits_operators.specs.declared.signal.Signal.{Signal}
use Rattle.sy_bits_operators.specs.declared.signal.Signal.TheVariants as signals
use Rattle.sy_bits_operators.specs.Signals.{signal_value, signal_values, signal_sort, signal_sorts, signal_bound, signals_bound, sort_width, are_alike}
use Rattle.sy_bits_operators.specs.Costs.{same_gates, first_width}

-- a signal's value has its sort

pub sort-is : (v : ℕ → Bool) (signal : Signal) → sort_of_value (signal_value v signal) ≡ signal_sort signal
sort-is v (signals.Truth bit) = refl
sort-is v (signals.Vector word) = refl

pub sorts-are : (v : ℕ → Bool) (list : List Signal) → map sort_of_value (signal_values v list) ≡ signal_sorts list
sorts-are v [] = refl
sorts-are v (signal ∷ list) = ap (λ (s : Sort). s ∷ map sort_of_value (signal_values v list)) (sort-is v signal) ∙ ap (λ (ss : List Sort). signal_sort signal ∷ ss) (sorts-are v list)

-- where its variables lie

pub bound-at : (list : List Signal) (i : ℕ) (d : Signal) → i < length list → signal_bound (get_or list i d) ≤ signals_bound list
bound-at [] i d h = absurd (omega arith)
bound-at (s ∷ list) zero d h = omega arith
bound-at (s ∷ list) (suc i) d h = omega (arith, bound-at list i d (omega arith))

pub bound-drop : (n : ℕ) (list : List Signal) → signals_bound (drop n list) ≤ signals_bound list
bound-drop zero list = omega arith
bound-drop (suc n) [] = omega arith
bound-drop (suc n) (s ∷ list) = omega (arith, bound-drop n list)

pub bound-last : (list : List Signal) (signal : Signal) → signals_bound (list ++ signal ∷ []) ≡ max (signals_bound list) (signal_bound signal)
bound-last [] signal = omega arith
bound-last (s ∷ list) signal = omega (arith, bound-last list signal)

-- joined truth values

pub joined-And : (values : List Val) → all_joined And (map truth values) ≡ list_all truth values
joined-And [] = refl
joined-And (x ∷ values) = ap (λ b. truth x && b) (joined-And values)

pub joined-Or : (values : List Val) → all_joined Or (map truth values) ≡ list_any truth values
joined-Or [] = refl
joined-Or (x ∷ values) = ap (λ b. truth x || b) (joined-Or values)

regrouped : (a b c : Bool) → xor (not (cond a b (not b))) c ≡ xor a (xor b c)
regrouped true true true = refl
regrouped true true false = refl
regrouped true false c = refl
regrouped false true c = refl
regrouped false false c = refl

odd-joined : (v : ℕ → Bool) (odd : Bool) (list : List Signal) → odd_from (λ s. truth (signal_value v s)) odd list ≡ xor odd (all_joined Xor (map truth (signal_values v list)))
odd-joined v true [] = refl
odd-joined v false [] = refl
odd-joined v odd (s ∷ list) =
    odd-joined v (not (same (Truth odd) (Truth (truth (signal_value v s))))) list
    ∙ regrouped odd (truth (signal_value v s)) (all_joined Xor (map truth (signal_values v list)))

pub taken-sort : (sorted : Sorted) → has_a_sort sorted ≡ true → (s : Sort) × (sorted ≡ Is s)
taken-sort (Is s) h = (s, refl)
taken-sort _ h = absurd cc

pub joined-Xor : (v : ℕ → Bool) (list : List Signal) → TakesSorts ops.Xor (signal_sorts list) → Truth (all_joined Xor (map truth (signal_values v list))) ≡ op_value ops.Xor (signal_values v list)
joined-Xor v list takes =
    let sorted = taken-sort (sort_of ops.Xor (signal_sorts list)) takes in
    ap Truth (sym (odd-joined v false list)) ∙ xor-odd (signal_value v) list sorted.0 (ap (sort_of ops.Xor) (sorts-are v list) ∙ sorted.1)

pub implied-is : (v : ℕ → Bool) (list premises : List Signal) (conclusion : Signal) → list ≡ premises ++ conclusion ∷ [] → (truth (signal_value v conclusion) || not (list_all truth (signal_values v premises))) ≡ implied (signal_values v list)
implied-is v list premises conclusion e =
    sym (implied-last (signal_values v premises) (signal_value v conclusion))
    ∙ ap implied (sym (map-last (signal_value v) premises conclusion))
    ∙ ap (λ (xs : List Signal). implied (signal_values v xs)) (sym e)

-- the bits of a list, one by one

pub bits-more : (v : ℕ → Bool) (list : List Signal) (i : ℕ) (d : Signal) (bits more : List Bit) (bit : Bit) → i < length list → more ≡ bits ++ bit ∷ [] → bit_value v bit ≡ truth (signal_value v (get_or list i d)) → map (λ b. bit_value v b) bits ≡ map truth (signal_values v (take i list)) → map (λ b. bit_value v b) more ≡ map truth (signal_values v (take (i + 1) list))
bits-more v list i d bits more bit h m e f =
    ap (map (λ b. bit_value v b)) m
    ∙ map-last (λ b. bit_value v b) bits bit
    ∙ ap (λ (xs : List Bool). xs ++ bit_value v bit ∷ []) f
    ∙ ap (λ (b : Bool). map truth (signal_values v (take i list)) ++ b ∷ []) e
    ∙ sym (ap (λ (xs : List Signal). map truth (signal_values v xs)) (take_more list i d h)
    ∙ ap (map truth) (map-last (signal_value v) (take i list) (get_or list i d))
    ∙ map-last truth (signal_values v (take i list)) (signal_value v (get_or list i d)))

-- tests of each

and-assoc : (a b c : Bool) → (a && (b && c)) ≡ ((a && b) && c)
and-assoc true b c = refl
and-assoc false b c = refl

and-true : (a : Bool) → a ≡ (true && a)
and-true a = refl

all-last : (test : Val → Bool) (values : List Val) (x : Val) → list_all test (values ++ x ∷ []) ≡ (list_all test values && test x)
all-last test [] x = first-and (test x)
  where
    first-and : (a : Bool) → (a && true) ≡ (true && a)
    first-and true = refl
    first-and false = refl
all-last test (y ∷ values) x = ap (λ b. test y && b) (all-last test values x) ∙ and-assoc (test y) (list_all test values) (test x)

pub all-more : (test : Val → Bool) (v : ℕ → Bool) (list : List Signal) (i : ℕ) (d : Signal) (all next one : Bool) → i < length list → one ≡ test (signal_value v (get_or list i d)) → next ≡ (all && one) → all ≡ list_all test (signal_values v (take i list)) → next ≡ list_all test (signal_values v (take (i + 1) list))
all-more test v list i d all next one h e f g =
    f ∙ ap (λ b. b && one) g ∙ ap (λ b. list_all test (signal_values v (take i list)) && b) e
    ∙ sym (ap (λ (xs : List Signal). list_all test (signal_values v xs)) (take_more list i d h)
    ∙ ap (list_all test) (map-last (signal_value v) (take i list) (get_or list i d))
    ∙ all-last test (signal_values v (take i list)) (signal_value v (get_or list i d)))

pub to_all-is : (related : Val → Val → Bool) (x : Val) (values : List Val) → to_all related x values ≡ list_all (related x) values
to_all-is related x [] = refl
to_all-is related x (y ∷ values) = ap (λ b. related x y && b) (to_all-is related x values)

-- all at the end

pub all-end : (test : Val → Bool) (v : ℕ → Bool) (list : List Signal) (i : ℕ) (all : Bool) → length list ≤ i → all ≡ list_all test (signal_values v (take i list)) → all ≡ list_all test (signal_values v list)
all-end test v list i all h e = e ∙ ap (λ (xs : List Signal). list_all test (signal_values v xs)) (take_all i list h)

-- signals of one sort

both : (a b : Bool) → (a && b) ≡ true → (a ≡ true) × (b ≡ true)
both true b e = (refl, e)
both false b e = cc

pub sort-at : (s : Sort) (list : List Signal) (i : ℕ) (d : Signal) → list_all (same_sort s) (signal_sorts list) ≡ true → i < length list → s ≡ signal_sort (get_or list i d)
sort-at s [] i d e h = absurd (omega arith)
sort-at s (x ∷ list) zero d e h = same_sort_is s (signal_sort x) (both (same_sort s (signal_sort x)) (list_all (same_sort s) (signal_sorts list)) e).0
sort-at s (x ∷ list) (suc i) d e h = sort-at s list i d (both (same_sort s (signal_sort x)) (list_all (same_sort s) (signal_sorts list)) e).1 (omega arith)

drop-alike : (s : Sort) (n : ℕ) (list : List Signal) → list_all (same_sort s) (signal_sorts list) ≡ true → list_all (same_sort s) (signal_sorts (drop n list)) ≡ true
drop-alike s zero list e = e
drop-alike s (suc n) [] e = refl
drop-alike s (suc n) (x ∷ list) e = drop-alike s n list (both (same_sort s (signal_sort x)) (list_all (same_sort s) (signal_sorts list)) e).1

-- each signal has the sort of those after it
pub alike-after : (list : List Signal) (i : ℕ) (d : Signal) → are_alike (signal_sorts list) ≡ true → i < length list → list_all (same_sort (signal_sort (get_or list i d))) (signal_sorts (drop (i + 1) list)) ≡ true
alike-after [] i d e h = absurd (omega arith)
alike-after (x ∷ list) zero d e h = e
alike-after (x ∷ list) (suc i) d e h =
    let s = sort-at (signal_sort x) list i d e (omega arith) in
    let rest = drop-alike (signal_sort x) (i + 1) list e in
    let e' : suc i + 1 ≡ suc (i + 1) = omega arith in
    let step : drop (suc i + 1) (x ∷ list) ≡ drop (i + 1) list = ap (λ n. drop n (x ∷ list)) e' in
    subst (λ t. list_all (same_sort t) (signal_sorts (drop (suc i + 1) (x ∷ list))) ≡ true) s (rw step rest)

pub first-sort : (list : List Signal) (i : ℕ) (d : Signal) → are_alike (signal_sorts list) ≡ true → i < length list → (x : Signal) (rest : List Signal) → list ≡ x ∷ rest → signal_sort x ≡ signal_sort (get_or list i d)
first-sort [] i d e h x rest q = absurd (omega arith)
first-sort (y ∷ list) zero d e h x rest q = let same : y ≡ x = cc in ap signal_sort (sym same)
first-sort (y ∷ list) (suc i) d e h x rest q = let same : y ≡ x = cc in ap signal_sort (sym same) ∙ sort-at (signal_sort y) list i d e (omega arith)

-- no two the same

pub pairs-more : (v : ℕ → Bool) (list : List Signal) (i : ℕ) (d : Signal) (all next apart : Bool) → i < length list → apart ≡ to_all (λ x y. not (same x y)) (signal_value v (get_or list i d)) (signal_values v (drop (i + 1) list)) → next ≡ (all && apart) → (whole : Bool) → (all && all_pairs (λ x y. not (same x y)) (signal_values v (drop i list))) ≡ whole → (next && all_pairs (λ x y. not (same x y)) (signal_values v (drop (i + 1) list))) ≡ whole
pairs-more v list i d all next apart h e f whole g =
    let rest = all_pairs (λ x y. not (same x y)) (signal_values v (drop (i + 1) list)) in
    ap (λ b. b && rest) f
    ∙ sym (and-assoc all apart rest)
    ∙ ap (λ b. all && (b && rest)) e
    ∙ sym (ap (λ b. all && b) (at_drop_more (λ (xs : List Signal). all_pairs (λ x y. not (same x y)) (signal_values v xs)) list i d h))
    ∙ g

pub bound-of : (list : List Signal) (i : ℕ) (signal : Signal) → i < length list → signal ≡ get_or list i signal → signal_bound signal ≤ signals_bound list
bound-of list i signal h e =
    let at = bound-at list i signal h in
    let same : signal_bound signal ≡ signal_bound (get_or list i signal) = ap signal_bound e in
    omega (arith, at, same)

pub sort-of : (s : Sort) (list : List Signal) (i : ℕ) (signal : Signal) → list_all (same_sort s) (signal_sorts list) ≡ true → i < length list → signal ≡ get_or list i signal → s ≡ signal_sort signal
sort-of s list i signal e h is = sort-at s list i signal e h ∙ ap signal_sort (sym is)

-- what comes after a signal, as the code takes it

rest-is : (list : List Signal) (i : ℕ) → take (length list - (i + 1)) (drop (i + 1) list) ≡ drop (i + 1) list
rest-is list i = take_all (length list - (i + 1)) (drop (i + 1) list) (omega (arith, length-drop (i + 1) list))

pub rest-bound : (list : List Signal) (i : ℕ) → signals_bound (take (length list - (i + 1)) (drop (i + 1) list)) ≤ signals_bound list
rest-bound list i = rw (rest-is list i) (bound-drop (i + 1) list)

pub rest-length : (list : List Signal) (i : ℕ) → length (take (length list - (i + 1)) (drop (i + 1) list)) ≡ length list - (i + 1)
rest-length list i = ap (λ xs. length xs) (rest-is list i) ∙ length-drop (i + 1) list

pub alike-rest : (list : List Signal) (i : ℕ) (signal : Signal) → are_alike (signal_sorts list) ≡ true → i < length list → signal ≡ get_or list i signal → list_all (same_sort (signal_sort signal)) (signal_sorts (take (length list - (i + 1)) (drop (i + 1) list))) ≡ true
alike-rest list i signal e h is =
    let same : signal_sort (get_or list i signal) ≡ signal_sort signal = ap signal_sort (sym is) in
    subst (λ t. list_all (same_sort t) (signal_sorts (take (length list - (i + 1)) (drop (i + 1) list))) ≡ true) same
    (rw (rest-is list i) (alike-after list i signal e h))

width-at : (list : List Signal) (i : ℕ) (d : Signal) → are_alike (signal_sorts list) ≡ true → i < length list → first_width (signal_sorts list) ≡ sort_width (signal_sort (get_or list i d))
width-at [] i d e h = absurd (omega arith)
width-at (x ∷ list) i d e h = ap sort_width (first-sort (x ∷ list) i d e h x list refl)

width-of : (list : List Signal) (i : ℕ) (signal : Signal) → are_alike (signal_sorts list) ≡ true → i < length list → signal ≡ get_or list i signal → first_width (signal_sorts list) ≡ sort_width (signal_sort signal)
width-of list i signal e h is = width-at list i signal e h ∙ ap (λ s. sort_width (signal_sort s)) (sym is)

-- the gates of one round, and those of all

one-round : (n i r g : ℕ) → i < n → r ≡ n - (i + 1) → r * (2 * g + 1) + 1 ≤ n * (2 * g + 1)
one-round n i r g h e =
    let m : (r + 1) * (2 * g + 1) ≤ n * (2 * g + 1) = mul-le-mul_right (2 * g + 1) (omega arith) in
    omega (arith, m)

rounds : (n i c : ℕ) → i < n → i * c + c ≤ n * c
rounds n i c h = let m : (i + 1) * c ≤ n * c = mul-le-mul_right c (omega arith) in omega (arith, m)

pub row-room : (n i g old now most : ℕ) → i < n → now ≤ old + i * (2 * g + 1) → old + n * (2 * g + 1) < most → now + 2 * g + 1 < most
row-room n i g old now most h k room = let m = rounds n i (2 * g + 1) h in omega (arith, m, k, room)

pub distinct-cost : (list : List Signal) (i : ℕ) (signal : Signal) (old now : ℕ) → are_alike (signal_sorts list) ≡ true → i < length list → signal ≡ get_or list i signal → now ≤ old + i * (length list * same_gates (first_width (signal_sorts list))) →
    now + length (take (length list - (i + 1)) (drop (i + 1) list)) * same_gates (sort_width (signal_sort signal)) + 1 ≤ old + (i + 1) * (length list * same_gates (first_width (signal_sorts list)))
distinct-cost list i signal old now e h is k =
    let w = width-of list i signal e h is in
    let r = rest-length list i in
    let one = one-round (length list) i (length (take (length list - (i + 1)) (drop (i + 1) list))) (first_width (signal_sorts list)) h r in
    let done : now + length (take (length list - (i + 1)) (drop (i + 1) list)) * same_gates (first_width (signal_sorts list)) + 1 ≤ old + (i + 1) * (length list * same_gates (first_width (signal_sorts list))) = omega (arith, k, one) in
    subst (λ g. now + length (take (length list - (i + 1)) (drop (i + 1) list)) * same_gates g + 1 ≤ old + (i + 1) * (length list * same_gates (first_width (signal_sorts list)))) w done

pub distinct-room : (list : List Signal) (i : ℕ) (signal : Signal) (old now most : ℕ) → are_alike (signal_sorts list) ≡ true → i < length list → signal ≡ get_or list i signal → now ≤ old + i * (length list * same_gates (first_width (signal_sorts list))) → old + length list * (length list * same_gates (first_width (signal_sorts list))) < most →
    now + length (take (length list - (i + 1)) (drop (i + 1) list)) * same_gates (sort_width (signal_sort signal)) + 1 < most
distinct-room list i signal old now most e h is k room =
    let step = distinct-cost list i signal old now e h is k in
    let all = rounds (length list) i (length list * same_gates (first_width (signal_sorts list))) h in
    omega (arith, step, all, room)

pub pairs-step : (v : ℕ → Bool) (list : List Signal) (i : ℕ) (signal : Signal) (all next apart : Bool) → i < length list → signal ≡ get_or list i signal → apart ≡ to_all (λ x y. not (same x y)) (signal_value v signal) (signal_values v (take (length list - (i + 1)) (drop (i + 1) list))) → next ≡ (all && apart) → (whole : Bool) → (all && all_pairs (λ x y. not (same x y)) (signal_values v (drop i list))) ≡ whole → (next && all_pairs (λ x y. not (same x y)) (signal_values v (drop (i + 1) list))) ≡ whole
pairs-step v list i signal all next apart h is e f whole g =
    pairs-more v list i signal all next apart h
    (e ∙ ap (λ (xs : List Signal). to_all (λ x y. not (same x y)) (signal_value v signal) (signal_values v xs)) (rest-is list i)
    ∙ ap (λ (s : Signal). to_all (λ x y. not (same x y)) (signal_value v s) (signal_values v (drop (i + 1) list))) is)
    f whole g
