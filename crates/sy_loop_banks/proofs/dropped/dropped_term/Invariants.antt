use Rattle.std.proofs.Common.{map, take}
use Rattle.sy_bank_level.specs.Bank.{merged_of}
use Rattle.sy_loop_banks.specs.Dropping.{DroppedNothing}
use Rattle.sy_loop_banks.proofs.dropped.dropped_term.Given as goal

abbrev pub invariant-loop-function : goal.invariant-loop-function
invariant-loop-function g l = DroppedNothing (map (merged_of g.T.Theory.denotes) (take l.function l.banks))
