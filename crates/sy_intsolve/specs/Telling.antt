-- What few facts of a path tell of it.
use Rattle.std.specs.Prelude.{List}
use Rattle.sy_terms.specs.declared.sort.Sort.{Sort}
use Rattle.sy_linear_known.specs.declared.path.Fact.{Fact}
use Rattle.sy_linear_known.specs.Trees.{forms, IsContradiction}
use Rattle.sy_intsolve_cuts.specs.Points.{IsPointOf}
use Rattle.sy_intsolve.specs.declared.rounds.Near.{Near}
use Rattle.sy_intsolve.specs.declared.rounds.Near.TheVariants.{Point, Conflict, Unknown}
use Rattle.sy_intsolve.specs.declared.rounds.Round.{Round}
use Rattle.sy_intsolve.specs.declared.rounds.Round.TheVariants.{On, Over}

-- the point is one of the path, or the multipliers combine its forms to a negative constant
abbrev pub IsNear : List Sort → List Fact → Near → Type 0
IsNear vars path (Point point) = IsPointOf vars path point
IsNear vars path (Conflict multipliers) = IsContradiction multipliers (forms path)
IsNear vars path Unknown = Unit {0}

-- what is told is so
abbrev pub IsToldBy : List Sort → List Fact → Round → Type 0
IsToldBy vars path (On place) = Unit {0}
IsToldBy vars path (Over told) = IsNear vars path told
