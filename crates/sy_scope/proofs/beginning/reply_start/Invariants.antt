use Rattle.std.proofs.Common.{◌-◌, length}
use Rattle.sy_scope.proofs.FrontLeading.{LeadsToFront}
use Rattle.sy_scope.proofs.beginning.reply_start.Given as goal

abbrev pub invariant-loop-item : goal.invariant-loop-item
invariant-loop-item l = LeadsToFront l.bytes l.at

abbrev pub decreases-loop-item : goal.decreases-loop-item
decreases-loop-item l = length l.bytes - l.at
