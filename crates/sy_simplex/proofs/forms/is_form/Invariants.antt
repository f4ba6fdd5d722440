use Rattle.std.proofs.Common.{◌+◌, ℕ, ◌<◌}
use Rattle.sy_simplex.specs.Problems.{variable_at}
use Rattle.sy_simplex.proofs.forms.is_form.Given as goal

abbrev pub invariant-loop-at : goal.invariant-loop-at
invariant-loop-at l = record {
  below : (k : ℕ) → k < l.at → variable_at l.coefs k < l.vars;
  ascending : (k : ℕ) → k + 1 < l.at → variable_at l.coefs k < variable_at l.coefs (k + 1);
}
