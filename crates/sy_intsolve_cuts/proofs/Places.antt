-- Points that are whole, or corners.
use Rattle.std.specs.Prelude.{ℕ, ◌⊎◌, List, length, ℤ}
use Rattle.std.proofs.Common.{inl, inr}
use Rattle.sy_frac.specs.Fraction.{Fraction}
use Rattle.sy_terms.specs.declared.sort.Sort.{Sort}
use Rattle.sy_linear_known.specs.declared.path.Fact.{Fact}
use Rattle.sy_linear_known.specs.Trees.{forms}
use Rattle.sy_simplex.specs.Answers.{TellsFeasible}
use Rattle.sy_simplex.specs.declared.answer.Feasible.{Feasible}
use Rattle.sy_simplex.specs.declared.answer.Feasible.TheVariants.{Point, Conflict, Pivots, Range}
use Rattle.sy_intsolve_cuts.specs.Points.{IsCornerOf, IsFirstBroken, ValuesAreWhole, IsSoundFor, IsPlaceOf, TellsPlace}

-- a corner is such a point
pub corner-place : (vars : List Sort) (path : List Fact) (pivots : ℕ) (answer : Feasible) → IsSoundFor vars path answer → TellsFeasible (length vars) (forms path) pivots answer → TellsPlace vars path pivots answer
corner-place vars path pivots (Point p) s t = record { at = s.at; place = inr s }
corner-place vars path pivots (Conflict ms) s t = s
corner-place vars path pivots (Pivots run) s t = t
corner-place vars path pivots (Range run) s t = t

-- where a value isn't whole it is a corner
pub broken-corner : (vars : List Sort) (path : List Fact) (p : List Fraction) (i : ℕ) (k : ℤ) → IsPlaceOf vars path p → IsFirstBroken p i k → IsCornerOf vars path p
broken-corner vars path p i k place first = by place.place
  where
    by : ValuesAreWhole p ⊎ IsCornerOf vars path p → IsCornerOf vars path p
    by (inl whole) = absurd (first.broken (whole i first.within))
    by (inr corner) = corner
