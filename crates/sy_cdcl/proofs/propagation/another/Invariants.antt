use Rattle.std.proofs.Common.{take}
use Rattle.sy_clauses.specs.Clauses.{literals}
use Rattle.sy_cdcl.specs.Visits.{IsOnly}
use Rattle.sy_cdcl.proofs.propagation.another.Given as goal

abbrev pub invariant-loop-code : goal.invariant-loop-code
invariant-loop-code l = IsOnly (literals (take l.code-index l.clause)) l.literal
