use Rattle.std.proofs.Common.{◌≡◌, [], replicate}
use Rattle.sy_bank_level.proofs.level.Level.new.Given as goal

abbrev pub invariant-loop : goal.invariant-loop
invariant-loop g l = l.lists.items ≡ replicate l.counter []
