use Rattle.std.proofs.Common.{◌≡◌, length}
use Rattle.sy_cdcl.specs.States.{StateIsSound}
use Rattle.sy_cdcl.proofs.solver.learn.Given as goal

abbrev pub invariant-loop-learned : goal.invariant-loop-learned
invariant-loop-learned l = record {
  sound : StateIsSound l.cnf l.state;
  lines : length l.state.lines ≡ l.learned;
}
