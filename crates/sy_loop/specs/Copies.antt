-- Bodies with an assignment at which they are known to fail.
use Rattle.std.specs.Prelude.{ℕ, ◌≡◌, List, [], ◌∷◌, map, slice_get, Some}
use Rattle.sy_terms.specs.Values.{Val}
use Rattle.sy_terms.specs.Denoted.{expr_of}
use Rattle.sy_terms.specs.declared.sort.Value.{Value}
use Rattle.sy_terms.specs.declared.term.Term.{Term}
use Rattle.sy_points.specs.declared.stored.Stored.{Stored}
use Rattle.sy_bank_level.specs.Banks.{Entry}
use Rattle.sy_loop_spec.specs.Histories.{Counterexample}
use Rattle.sy_loop_spec.specs.Stored.{history_of}
use Rattle.sy_loop_candidate.specs.Steps.{IsStoredAt}
use Rattle.sy_loop_goods.specs.declared.goods.Leaving.{Leaving}

-- the bodies and the assignment are the stored ones of this place
pub record AreStored {T N : Type 0} (number : N → Val) (stored : Stored T N) (place : ℕ) (bodies : List (Term T N)) (assignment : List (Value N)) : Type 0 where
  pub counterexample : Counterexample
  pub at : slice_get (history_of number stored) place ≡ Some counterexample
  pub bodies_are : map (expr_of number) bodies ≡ counterexample.bodies
  pub assigned : IsStoredAt number stored place assignment

-- the one body is the leaf, and the assignment the stored one of the place
pub record AreLeft {T N : Type 0} (number : N → Val) (stored : Stored T N) (leaves : List Entry) (leaving : Leaving) (bodies : List (Term T N)) (assignment : List (Value N)) : Type 0 where
  pub entry : Entry
  pub at : slice_get leaves leaving.leaf ≡ Some entry
  pub bodies_are : map (expr_of number) bodies ≡ entry.term ∷ []
  pub assigned : IsStoredAt number stored leaving.place assignment
