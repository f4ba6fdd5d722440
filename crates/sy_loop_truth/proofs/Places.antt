-- What stands at a place.
use Rattle.std.proofs.Common.{◌≡◌, ◌<◌, refl, ap, ◌∙◌, ℕ, zero, suc, List, [], ◌∷◌, Some, length, arith, slice_get}
use Rattle.std.specs.Option.{option_map}
use Rattle.std.proofs.lemmas.Option.{slice_get-map}
use Rattle.sy_terms.specs.Values.{Val}
use Rattle.sy_terms.specs.declared.sort.Value.{Value}
use Rattle.sy_terms.specs.declared.term.Term.{Term}
use Rattle.sy_points.specs.declared.stored.Stored.{Stored}
use Rattle.sy_loop_spec.specs.Goods.{assignments_of}
use Rattle.sy_loop_spec.specs.Histories.{Counterexample}
use Rattle.sy_loop_spec.specs.Stored.{counterexample_of, history_of}

-- what stands at a place
pub item_at : {X : Type 0} (xs : List X) (k : ℕ) → k < length xs → (x : X) × (slice_get xs k ≡ Some x)
item_at [] k less = absurd (omega (arith, less))
item_at (x ∷ xs) zero less = (x, refl)
item_at (x ∷ xs) (suc k) less = item_at xs k (omega (arith, less))

-- the counterexample of this place
pub place_of : {T N : Type 0} (number : N → Val) (stored : Stored T N) (place : ℕ) (pair : List (Value N) × List (Term T N)) → slice_get stored.items place ≡ Some pair → slice_get (history_of number stored) place ≡ Some (counterexample_of number pair)
place_of number stored place pair at = slice_get-map (counterexample_of number) stored.items place ∙ ap (option_map (counterexample_of number)) at

-- the stored assignment of a counterexample
pub assignment_at : (history : List Counterexample) (place : ℕ) (c : Counterexample) → slice_get history place ≡ Some c → slice_get (assignments_of history) place ≡ Some c.assignment
assignment_at history place c at = slice_get-map (λ (k : Counterexample). k.assignment) history place ∙ ap (option_map (λ (k : Counterexample). k.assignment)) at
