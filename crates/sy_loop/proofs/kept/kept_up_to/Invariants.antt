use Rattle.std.proofs.Common.{◌≡◌}
use Rattle.sy_bank_level.specs.Bank.{merged_of}
use Rattle.sy_bank_level.specs.Stored.{chosen_of}
use Rattle.sy_loop_spec.specs.Trees.{kept_below}
use Rattle.sy_loop.proofs.kept.kept_up_to.Given as goal

abbrev pub invariant-loop-size : goal.invariant-loop-size
invariant-loop-size g l = chosen_of g.T.Theory.denotes l.all.items ≡ kept_below (merged_of g.T.Theory.denotes l.bank).levels l.nonterminal l.size
