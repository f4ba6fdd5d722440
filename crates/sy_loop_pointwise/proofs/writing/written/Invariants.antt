use Rattle.sy_loop_pointwise.proofs.Numbered.{AreVariables}
use Rattle.sy_loop_pointwise.proofs.writing.written.Given as goal

abbrev pub invariant-loop-position : goal.invariant-loop-position
invariant-loop-position g l = AreVariables l.table l.names.items l.position
