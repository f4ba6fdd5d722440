-- Choices by a truth value.
use Rattle.std.specs.Prelude.{ℕ, ◌≤◌, ◌<◌, ◌≡◌, Bool, true, false, cond, List, [], ◌∷◌, refl, length, map, if◌then◌else◌}
use Rattle.std.proofs.Common.{arith, subst, ap, sym, ◌∙◌, get_or}
use Rattle.std.proofs.lemmas.List.{length-map}
use Rattle.sy_terms.specs.Values.{Val, truth}
use Rattle.sy_terms.specs.Operators.{op_value}
use Rattle.sy_terms.specs.Sorts.{sort_of, same_sort}
use Rattle.sy_terms.specs.Theories.{sort_of_value}
use Rattle.sy_terms.specs.declared.op.Op.TheVariants as ops
use Rattle.sy_terms.specs.declared.sort.Sort.{Sort}
use Rattle.sy_terms.specs.declared.sort.Sort.TheVariants as sorts
use Rattle.sy_terms.specs.declared.sorts.Sorted.TheVariants.{Is, Mismatch}
use Rattle.sy_meaning_core.proofs.Three.{ite-three}
use Rattle.sy_terms_operators.proofs.Equations.{same_sort_is}
use Rattle.sy_meaning_words.specs.Vectors.{TakesSorts, has_a_sort}
use Rattle.sy_bits_operators.specs.declared.signal.Signal.{Signal}
use Rattle.sy_bits_operators.specs.Signals.{signal_value, signal_values, signal_sort, signal_sorts, signal_bound, signals_bound, sort_width}
use Rattle.sy_bits_operators.specs.Costs.{core_gates}
use Rattle.sy_bits_operators.proofs.Rows.{sort-is, taken-sort}

pub takes-three : (list : List Signal) → TakesSorts ops.Ite (signal_sorts list) → length list ≡ 3
takes-three list takes =
    let sorted = taken-sort (sort_of ops.Ite (signal_sorts list)) takes in
    let three = ite-three (signal_sorts list) sorted.0 sorted.1 in
    omega (arith, three, length-map list signal_sort)

pub three-items : (xs : List Signal) (a b c : Signal) → 3 ≤ length xs → length xs < 4 → a ≡ get_or xs 0 a → b ≡ get_or xs 1 b → c ≡ get_or xs 2 c → xs ≡ a ∷ b ∷ c ∷ []
three-items [] a b c h k ia ib ic = absurd (omega arith)
three-items (x ∷ []) a b c h k ia ib ic = absurd (omega arith)
three-items (x ∷ y ∷ []) a b c h k ia ib ic = absurd (omega arith)
three-items (x ∷ y ∷ z ∷ u ∷ xs) a b c h k ia ib ic = absurd (omega arith)
three-items (x ∷ y ∷ z ∷ []) a b c h k ia ib ic = cc

if_is_sort : (b : Bool) (s : Sort) → has_a_sort (if b then Is s else Mismatch) ≡ true → b ≡ true
if_is_sort true s h = refl
if_is_sort false s h = cc

same-branches : (s t u : Sort) → TakesSorts ops.Ite (s ∷ t ∷ u ∷ []) → t ≡ u
unfolding sort_of
same-branches sorts.Bool t u h = same_sort_is t u (if_is_sort (same_sort t u) t h)
same-branches sorts.Int t u h = cc
same-branches (sorts.Bits w) t u h = cc

pub branch-sorts : (list : List Signal) (test a b : Signal) → list ≡ test ∷ a ∷ b ∷ [] → TakesSorts ops.Ite (signal_sorts list) → signal_sort a ≡ signal_sort b
branch-sorts list test a b e takes = same-branches (signal_sort test) (signal_sort a) (signal_sort b) (rw e at takes)

cond-sort : (t : Bool) (x y : Val) (s : Sort) → sort_of_value x ≡ s → sort_of_value y ≡ s → sort_of_value (cond t x y) ≡ s
cond-sort true x y s h k = h
cond-sort false x y s h k = k

pub chosen-sort : (v : ℕ → Bool) (list : List Signal) (test a b : Signal) (s : Sort) → list ≡ test ∷ a ∷ b ∷ [] → signal_sort a ≡ signal_sort b → s ≡ signal_sort a → s ≡ sort_of_value (op_value ops.Ite (signal_values v list))
unfolding op_value
chosen-sort v list test a b s e same h =
    rw e (h ∙ sym (cond-sort (truth (signal_value v test)) (signal_value v a) (signal_value v b) (signal_sort a) (sort-is v a) (sort-is v b ∙ sym same)))

pub chosen-value : (v : ℕ → Bool) (list : List Signal) (test a b : Signal) (bit : Bool) (value : Val) → list ≡ test ∷ a ∷ b ∷ [] → bit ≡ truth (signal_value v test) → value ≡ cond bit (signal_value v a) (signal_value v b) → value ≡ op_value ops.Ite (signal_values v list)
unfolding op_value
chosen-value v list test a b bit value e f g = rw e (g ∙ ap (λ t. cond t (signal_value v a) (signal_value v b)) f)

-- three arguments by their places

pub three-placed : (xs : List Signal) (a b c : Signal) → TakesSorts ops.Ite (signal_sorts xs) → a ≡ get_or xs 0 a → b ≡ get_or xs 1 b → c ≡ get_or xs 2 c → xs ≡ a ∷ b ∷ c ∷ []
three-placed xs a b c takes ia ib ic = let three = takes-three xs takes in three-items xs a b c (omega (arith, three)) (omega (arith, three)) ia ib ic

pub record Three (list : List Signal) (a b c : Signal) : Type 0 where
  pub first : signal_bound a ≤ signals_bound list
  pub second : signal_bound b ≤ signals_bound list
  pub third : signal_bound c ≤ signals_bound list
  pub gates : core_gates ops.Ite (length list) (signal_sorts list) ≡ sort_width (signal_sort b)

three-at : (a b c : Signal) → Three (a ∷ b ∷ c ∷ []) a b c
three-at a b c = record { first = omega arith; second = omega arith; third = omega arith; gates = refl }

pub three : (list : List Signal) (a b c : Signal) → list ≡ a ∷ b ∷ c ∷ [] → Three list a b c
three list a b c e = subst (λ (xs : List Signal). Three xs a b c) (sym e) (three-at a b c)

pub ruleset choice_steps = (takes-three)
