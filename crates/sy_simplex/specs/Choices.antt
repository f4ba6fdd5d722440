-- What a tableau asks for next.
use Rattle.sy_simplex.specs.declared.choice.Choice.{Choice}
use Rattle.sy_simplex.specs.declared.choice.Choice.TheVariants.{Met, Stuck, Exchange}
use Rattle.sy_simplex.specs.States.{TableauState, BoundsAreMet, IsStuck, IsLeaving, IsEntering}

abbrev pub IsChoice : TableauState → Choice → Type 0
IsChoice t Met = BoundsAreMet t
IsChoice t (Stuck r) = IsStuck t r
IsChoice t (Exchange r e) = IsLeaving t r × IsEntering t r e
