use Rattle.std.proofs.Common.{◌≡◌, ◌++◌, drop, map}
use Rattle.std.specs.List.{concat}
use Rattle.sy_proof.specs.Clauses.{literal_text}
use Rattle.sy_proof.proofs.clauses.put_literals.Given as goal

abbrev pub invariant-loop-literal : goal.invariant-loop-literal
invariant-loop-literal l = l.out ++ concat (map literal_text (drop l.literal-index l.literals)) ≡ l.fn.out ++ concat (map literal_text l.literals)
