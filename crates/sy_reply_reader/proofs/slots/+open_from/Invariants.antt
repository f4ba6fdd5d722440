use Rattle.std.proofs.Common.{length}
use Rattle.sy_reply_reader.proofs.slots.+open_from.Given as goal

abbrev pub decreases-open_from : goal.decreases-open_from
decreases-open_from g l = length l.titles.now
