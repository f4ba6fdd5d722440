use Rattle.std.proofs.Common.{length}
use Rattle.sy_forms_items.proofs.sorts.+same_sorts.Given as goal

abbrev pub decreases-same_sorts : goal.decreases-same_sorts
decreases-same_sorts l = length l.a.now
