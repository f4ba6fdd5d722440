-- What is known of an operator's arguments by their number.
use Rattle.std.specs.Prelude.{ℕ, ◌*◌, ◌≤◌, ◌<◌, ◌≡◌, Bool, true, false, ◌&&◌, nat_le, List, [], ◌∷◌, refl, length, map, All, if◌then◌else◌}
use Rattle.std.specs.List.{list_all}
use Rattle.std.proofs.Common.{arith, ap, sym, ◌∙◌, subst}
use Rattle.std.proofs.lemmas.List.{length-map}
use Rattle.std.proofs.lemmas.List.Elements.{All-head}
use Rattle.std.proofs.lemmas.Bool.Decides.{nat_tests}
use Rattle.sy_terms.specs.Operators.{op_value}
use Rattle.sy_terms.specs.Sorts.{sort_of, same_sort}
use Rattle.sy_terms.specs.Theories.{sort_of_value}
use Rattle.sy_terms.specs.declared.op.Op.{Op}
use Rattle.sy_terms.specs.declared.op.Op.TheVariants as ops
use Rattle.sy_terms.specs.declared.sort.Sort.{Sort}
use Rattle.sy_terms.specs.declared.sort.Sort.TheVariants as sorts
use Rattle.sy_terms.specs.declared.sorts.Sorted.TheVariants.{Is, Mismatch}
use Rattle.sy_meaning_words.specs.Vectors.{in_vectors, is_bits, has_a_sort, TakesSorts, TakesMany}
use Rattle.sy_terms_operators.proofs.Equations.{same_sort_is}
use Rattle.sy_bits_operators.proofs.Taken.{many, none_taken, single_bits, pair_bits, no_items}
use Rattle.sy_gates.specs.declared.gate.Bit.{Bit}
use Rattle.sy_gates.specs.Circuits.{word_bound}
use Rattle.sy_bits_operators.specs.declared.signal.Signal.{Signal}
use Rattle.sy_bits_operators.specs.declared.signal.Signal.TheVariants as signals
use Rattle.sy_bits_operators.specs.Signals.{signal_values, signal_sort, signal_sorts, signals_bound, has_signals, AllHaveSignals, are_alike}
use Rattle.sy_bits_operators.specs.Costs.{pair_gates, single_gates, vector_gates}
use Rattle.sy_bits_operators.proofs.Pairs.{word_value}
use Rattle.sy_bits_operators.proofs.Folds.{many-value-sort}

wide : (w : ℕ) → has_signals (sorts.Bits w) ≡ true → (1 ≤ w) × (w ≤ 64)
wide w h = grind (arith, nat_tests)

first-wide : (word : List Bit) (rest : List Signal) → AllHaveSignals (signal_sorts (signals.Vector word ∷ rest)) → (1 ≤ length word) × (length word ≤ 64)
first-wide word rest all = wide (length word) (All-head (λ sort. has_signals sort ≡ true) (sorts.Bits (length word)) (signal_sorts rest) all)

-- one vector

pub record One (op : Op) (list : List Signal) (s : List Bit) : Type 0 where
  pub takes : TakesSorts op (sorts.Bits (length s) ∷ [])
  pub least : 1 ≤ length s
  pub most : length s ≤ 64
  pub inside : word_bound s ≤ signals_bound list
  pub gates : vector_gates op (signal_sorts list) ≡ single_gates op (length s)
  pub values : (v : ℕ → Bool) → signal_values v list ≡ word_value v s ∷ []

one-at : (op : Op) (s : List Bit) → TakesSorts op (signal_sorts (signals.Vector s ∷ [])) → AllHaveSignals (signal_sorts (signals.Vector s ∷ [])) → One op (signals.Vector s ∷ []) s
one-at op s takes all =
    let size = first-wide s [] all in
    record { takes = takes; least = size.0; most = size.1; inside = omega arith; gates = refl; values = λ v. refl }

pub one : (op : Op) (list : List Signal) (x : Signal) (s : List Bit) → list ≡ x ∷ [] → signals.Vector s ≡ x → TakesSorts op (signal_sorts list) → AllHaveSignals (signal_sorts list) → One op list s
one op list x s e f takes all =
    let same : list ≡ signals.Vector s ∷ [] = e ∙ ap (λ y. y ∷ []) (sym f) in
    subst (λ (xs : List Signal). One op xs s) (sym same) (one-at op s (rw same at takes) (rw same at all))

-- two vectors

pub record Two (op : Op) (list : List Signal) (s t : List Bit) : Type 0 where
  pub takes : TakesSorts op (sorts.Bits (length s) ∷ sorts.Bits (length t) ∷ [])
  pub least : 1 ≤ length s
  pub most : length s ≤ 64
  pub left : word_bound s ≤ signals_bound list
  pub right : word_bound t ≤ signals_bound list
  pub gates : vector_gates op (signal_sorts list) ≡ pair_gates op (length s)
  pub values : (v : ℕ → Bool) → signal_values v list ≡ word_value v s ∷ word_value v t ∷ []

once : (n : ℕ) → 1 * n ≡ n
once n = omega arith

two-at : (op : Op) (s t : List Bit) → TakesSorts op (signal_sorts (signals.Vector s ∷ signals.Vector t ∷ [])) → AllHaveSignals (signal_sorts (signals.Vector s ∷ signals.Vector t ∷ [])) → Two op (signals.Vector s ∷ signals.Vector t ∷ []) s t
two-at op s t takes all =
    let size = first-wide s (signals.Vector t ∷ []) all in
    record { takes = takes; least = size.0; most = size.1; left = omega arith; right = omega arith; gates = once (pair_gates op (length s)); values = λ v. refl }

pub two : (op : Op) (list : List Signal) (x y : Signal) (s t : List Bit) → list ≡ x ∷ y ∷ [] → signals.Vector s ≡ x → signals.Vector t ≡ y → TakesSorts op (signal_sorts list) → AllHaveSignals (signal_sorts list) → Two op list s t
two op list x y s t e f g takes all =
    let same : list ≡ signals.Vector s ∷ signals.Vector t ∷ [] = e ∙ ap (λ z. z ∷ y ∷ []) (sym f) ∙ ap (λ z. signals.Vector s ∷ z ∷ []) (sym g) in
    subst (λ (xs : List Signal). Two op xs s t) (sym same) (two-at op s t (rw same at takes) (rw same at all))

-- three vectors or more

pub record More (op : Op) (list rest : List Signal) (s : List Bit) : Type 0 where
  pub takes : TakesMany op (sorts.Bits (length s) ∷ signal_sorts rest)
  pub least : 1 ≤ length s
  pub most : length s ≤ 64
  pub left : word_bound s ≤ signals_bound list
  pub right : signals_bound rest ≤ signals_bound list
  pub gates : vector_gates op (signal_sorts list) ≡ length rest * pair_gates op (length s)
  pub values : (v : ℕ → Bool) → signal_values v list ≡ word_value v s ∷ signal_values v rest
  pub sort : (v : ℕ → Bool) → sorts.Bits (length s) ≡ sort_of_value (op_value op (signal_values v list))

more-at : (op : Op) (s : List Bit) (rest : List Signal) → 2 ≤ length rest → in_vectors op ≡ true → TakesSorts op (signal_sorts (signals.Vector s ∷ rest)) → AllHaveSignals (signal_sorts (signals.Vector s ∷ rest)) → More op (signals.Vector s ∷ rest) rest s
more-at op s [] h ours takes all = absurd (omega arith)
more-at op s (x ∷ []) h ours takes all = absurd (omega arith)
more-at op s (x ∷ y ∷ rest) h ours takes all =
    let size = first-wide s (x ∷ y ∷ rest) all in
    let taken = many op (sorts.Bits (length s)) (signal_sort x) (signal_sort y) (signal_sorts rest) ours takes in
    record {
      takes = taken;
      least = size.0;
      most = size.1;
      left = omega arith;
      right = omega arith;
      gates = ap (λ n. n * pair_gates op (length s)) (length-map (x ∷ y ∷ rest) signal_sort);
      values = λ v. refl;
      sort = λ v. many-value-sort op v (signals.Vector s) (x ∷ y ∷ rest) (length s) refl taken (omega arith);
    }

pub more : (op : Op) (list rest : List Signal) (x : Signal) (s : List Bit) → list ≡ x ∷ rest → signals.Vector s ≡ x → 3 ≤ length list → in_vectors op ≡ true → TakesSorts op (signal_sorts list) → AllHaveSignals (signal_sorts list) → More op list rest s
more op list rest x s e f h ours takes all =
    let same : list ≡ signals.Vector s ∷ rest = e ∙ ap (λ y. y ∷ rest) (sym f) in
    let long : length list ≡ length (signals.Vector s ∷ rest) = ap (λ xs. length xs) same in
    subst (λ (xs : List Signal). More op xs rest s) (sym same) (more-at op s rest (omega (arith, long, h)) ours (rw same at takes) (rw same at all))

-- arguments of one sort

both : (a b : Bool) → (a && b) ≡ true → (a ≡ true) × (b ≡ true)
both true b e = (refl, e)
both false b e = cc

if_is_sort : (b : Bool) (s : Sort) → has_a_sort (if b then Is s else Mismatch) ≡ true → b ≡ true
if_is_sort true s h = refl
if_is_sort false s h = cc

pub alike-Equal : (ss : List Sort) → TakesSorts ops.Equal ss → are_alike ss ≡ true
unfolding sort_of
alike-Equal [] h = refl
alike-Equal (s ∷ rest) h = (both (nat_le 1 (length rest)) (list_all (same_sort s) rest) (if_is_sort (nat_le 1 (length rest) && list_all (same_sort s) rest) sorts.Bool h)).1

pub alike-Distinct : (ss : List Sort) → TakesSorts ops.Distinct ss → are_alike ss ≡ true
unfolding sort_of
alike-Distinct [] h = refl
alike-Distinct (s ∷ rest) h = (both (nat_le 1 (length rest)) (list_all (same_sort s) rest) (if_is_sort (nat_le 1 (length rest) && list_all (same_sort s) rest) sorts.Bool h)).1

first-of-many : (op : Op) (s : Sort) (rest : List Sort) → TakesMany op (s ∷ rest) → is_bits s ≡ true
first-of-many op s rest takes =
    let is = same_sort_is (sorts.Bits takes.width) s (both (same_sort (sorts.Bits takes.width) s) (list_all (same_sort (sorts.Bits takes.width)) rest) takes.same).0 in
    rw (← is) refl

first-at : (op : Op) (x : Signal) (rest : List Signal) → 2 ≤ length rest → in_vectors op ≡ true → TakesSorts op (signal_sorts (x ∷ rest)) → is_bits (signal_sort x) ≡ true
first-at op x [] h ours takes = absurd (omega arith)
first-at op x (y ∷ []) h ours takes = absurd (omega arith)
first-at op x (y ∷ z ∷ rest) h ours takes = first-of-many op (signal_sort x) (signal_sorts (y ∷ z ∷ rest)) (many op (signal_sort x) (signal_sort y) (signal_sort z) (signal_sorts rest) ours takes)

pub first-bits : (op : Op) (list rest : List Signal) (x : Signal) → list ≡ x ∷ rest → 3 ≤ length list → in_vectors op ≡ true → TakesSorts op (signal_sorts list) → is_bits (signal_sort x) ≡ true
first-bits op list rest x e h ours takes =
    let long : length list ≡ length (x ∷ rest) = ap (λ xs. length xs) e in
    first-at op x rest (omega (arith, long, h)) ours (rw e at takes)

pub one-bits : (op : Op) (list : List Signal) (x : Signal) → list ≡ x ∷ [] → in_vectors op ≡ true → TakesSorts op (signal_sorts list) → is_bits (signal_sort x) ≡ true
one-bits op list x e ours takes = single_bits op (signal_sort x) ours (rw e at takes)

pub two-bits : (op : Op) (list : List Signal) (x y : Signal) → list ≡ x ∷ y ∷ [] → in_vectors op ≡ true → TakesSorts op (signal_sorts list) → (is_bits (signal_sort x) ≡ true) × (is_bits (signal_sort y) ≡ true)
two-bits op list x y e ours takes = pair_bits op (signal_sort x) (signal_sort y) ours (rw e at takes)

pub no-bits : (op : Op) (list : List Signal) → length list < 1 → in_vectors op ≡ true → TakesSorts op (signal_sorts list) → ⊥
no-bits op list h ours takes = none_taken op ours (rw (no_items list h) at takes)
