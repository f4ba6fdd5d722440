use Rattle.std.proofs.Common.{◌≡◌, ℕ, ◌<◌, Some, List}
use Rattle.std.specs.Prelude.{slice_get}
use Rattle.sy_clauses.specs.declared.Lit.{Lit}
use Rattle.bench_parts.proofs.dimacs.fits.Given as goal

abbrev pub invariant-loop-clause : goal.invariant-loop-clause
invariant-loop-clause l = (n : ℕ) (c : List Lit) (k : ℕ) (x : Lit) → n < l.clause-index →
    slice_get l.cnf.clauses n ≡ Some c → slice_get c k ≡ Some x → x.var < l.cnf.vars
