use Rattle.std.proofs.Common.{length}
use Rattle.sy_loop_scan.proofs.guess.+size_of.Given as goal

abbrev pub decreases-size_of : goal.decreases-size_of
decreases-size_of l = length l.operands.now
