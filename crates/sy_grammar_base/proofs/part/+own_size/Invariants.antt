use Rattle.std.proofs.Common.{◌≡◌, min, take}
use Rattle.sy_grammar_base.specs.Patterns.{own_sizes}
use Rattle.sy_grammar_base.specs.Written.{patterns_of}
use Rattle.sy_grammar_base.proofs.part.+own_size.Given as goal

abbrev pub invariant-Parts::own_size-loop-part : goal.invariant-Parts::own_size-loop-part
invariant-Parts::own_size-loop-part g l = l.total ≡ min l.cap (own_sizes (patterns_of g.T.Theory.denotes (take l.part-index l.part-items)))
