use Rattle.std.proofs.Common.{◌≡◌, ◌+◌, length, take}
use Rattle.sy_grammar_base.specs.Patterns.{all_occurring}
use Rattle.sy_grammar_base.specs.Written.{patterns_of}
use Rattle.sy_grammar_base.proofs.part.+occurrence.Given as goal

abbrev pub invariant-Parts::occurrence-loop-part : goal.invariant-Parts::occurrence-loop-part
invariant-Parts::occurrence-loop-part g l = l.i ≡ length (all_occurring (patterns_of g.T.Theory.denotes (take l.part-index l.part-items))) + l.rest
