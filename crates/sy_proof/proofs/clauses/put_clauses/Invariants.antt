use Rattle.std.proofs.Common.{◌≡◌, ◌++◌, drop, map}
use Rattle.std.specs.List.{concat}
use Rattle.sy_proof.specs.Clauses.{clause_text}
use Rattle.sy_proof.proofs.clauses.put_clauses.Given as goal

abbrev pub invariant-loop-clause : goal.invariant-loop-clause
invariant-loop-clause l = l.out ++ concat (map clause_text (drop l.clause-index l.clauses)) ≡ l.fn.out ++ concat (map clause_text l.clauses)
