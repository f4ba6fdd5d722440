use Rattle.std.proofs.Common.{◌≡◌, ℕ, ◌<◌, Some}
use Rattle.std.specs.Prelude.{slice_get}
use Rattle.sy_clauses.specs.declared.Lit.{Lit}
use Rattle.bench_parts.proofs.dimacs.clause_fits.Given as goal

abbrev pub invariant-loop-literal : goal.invariant-loop-literal
invariant-loop-literal l = (k : ℕ) (x : Lit) → k < l.literal-index → slice_get l.literals k ≡ Some x → x.var < l.vars
