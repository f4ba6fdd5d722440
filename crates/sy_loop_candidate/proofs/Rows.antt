-- The place of a tuple among those of a function, and what a row has there.
use Rattle.std.proofs.Common.{◌≡◌, ◌<◌, ap, sym, subst, ℕ, List, [], length, arith, slice_get, Some}
use Rattle.std.specs.List.{Contains}
use Rattle.std.proofs.lemmas.Option.{get_or_from_slice_get, slice_get_within}
use Rattle.sy_terms.specs.Values.{Val}
use Rattle.sy_points.specs.Asked.{Asked, of_function}
use Rattle.sy_loop_candidate.specs.Observing.{HasValueAt}

module _ (asked : Asked) (function : ℕ) (tuples : List (List Val)) (at : slice_get asked.tuples function ≡ Some tuples) (tuple : List Val) where
  tuples_are : of_function asked function ≡ tuples
  tuples_are = get_or_from_slice_get asked.tuples function tuples [] at

  -- it isn't there
  pub missing : (Contains tuples tuple → ⊥) → Contains (of_function asked function) tuple → ⊥
  missing none is = none (subst (λ all. Contains all tuple) tuples_are is)

  -- its place is one of a row of as many values
  pub place_within : (place many : ℕ) → slice_get tuples place ≡ Some tuple → many ≡ length (of_function asked function) → place < many
  place_within place many there same = omega (arith, slice_get_within tuples place tuple there, ap length tuples_are, same)

  -- what the row has at its place
  pub value_there : (place : ℕ) (row : List Val) (value : Val) → slice_get tuples place ≡ Some tuple → slice_get row place ≡ Some value → HasValueAt (of_function asked function) row tuple value
  value_there place row value there has = record { place = place; tuple_is = subst (λ all. slice_get all place ≡ Some tuple) (sym tuples_are) there; value_is = has }
