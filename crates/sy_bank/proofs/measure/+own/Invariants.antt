use Rattle.std.proofs.Common.{◌≡◌, min, take}
use Rattle.sy_grammar_base.specs.Patterns.{own_sizes}
use Rattle.sy_grammar_base.specs.Written.{patterns_of}
use Rattle.sy_bank.proofs.measure.+own.Given as goal

abbrev pub invariant-all_own-loop-part : goal.invariant-all_own-loop-part
invariant-all_own-loop-part g l = l.total ≡ min l.cap (own_sizes (patterns_of g.T.Theory.denotes (take l.part-index l.part-items)))
