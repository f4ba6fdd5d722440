use Rattle.std.proofs.Common.{◌≡◌, ◌++◌, take}
use Rattle.sy_bank_level.specs.Stored.{chosen_of, entries_of}
use Rattle.sy_loop.proofs.kept.push_all.Given as goal

abbrev pub invariant-loop-term : goal.invariant-loop-term
invariant-loop-term g l = chosen_of g.T.Theory.denotes l.all.items ≡ chosen_of g.T.Theory.denotes l.fn.all.items ++ entries_of g.T.Theory.denotes (take l.term-index l.kept)
