use Rattle.sy_terms.specs.Denoted.{vals_of}
use Rattle.sy_loop_claims.proofs.Summing.{Summed}
use Rattle.sy_loop_claims.proofs.sizes.are_at_most.Given as goal

abbrev pub invariant-loop-wanted : goal.invariant-loop-wanted
invariant-loop-wanted g l = Summed g.T.Theory.denotes (vals_of g.T.Theory.denotes l.problem.pool) l.wanted-items l.wanted-index l.size l.left
