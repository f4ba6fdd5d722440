use Rattle.std.proofs.Common.{take}
use Rattle.sy_clauses.specs.Clauses.{literals}
use Rattle.sy_clauses.specs.Marking.{clause_of}
use Rattle.sy_cdcl.specs.Short.{IsCovered}
use Rattle.sy_cdcl.proofs.shortening.covers.Given as goal

abbrev pub invariant-loop-other : goal.invariant-loop-other
invariant-loop-other l = IsCovered (literals (take l.other-index l.clause)) l.literal (clause_of l.marks)
