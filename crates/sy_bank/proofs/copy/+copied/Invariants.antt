use Rattle.std.proofs.Common.{◌≡◌, take}
use Rattle.sy_grammar_base.specs.Written.{patterns_of}
use Rattle.sy_bank.proofs.copy.+copied.Given as goal

abbrev pub invariant-copied_parts-loop-part : goal.invariant-copied_parts-loop-part
invariant-copied_parts-loop-part g l = patterns_of g.T.Theory.denotes l.copies.items.items ≡ patterns_of g.T.Theory.denotes (take l.part-index l.part-items)
