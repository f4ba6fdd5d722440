use Rattle.std.proofs.Common.{ℕ, ◌<◌}
use Rattle.sy_simplex.specs.Problems.{IsForm, form}
use Rattle.sy_simplex.proofs.forms.are_forms.Given as goal

abbrev pub invariant-loop-at : goal.invariant-loop-at
invariant-loop-at l = (i : ℕ) → i < l.at → IsForm l.vars (form l.forms i)
