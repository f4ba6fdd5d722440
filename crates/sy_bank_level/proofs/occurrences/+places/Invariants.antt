use Rattle.std.proofs.Common.{◌≡◌, length, take}
use Rattle.std.specs.Prelude.{min}
use Rattle.sy_grammar_base.specs.Patterns.{all_occurring}
use Rattle.sy_grammar_base.specs.Written.{patterns_of}
use Rattle.sy_bank_level.proofs.occurrences.+places.Given as goal

abbrev pub invariant-places_of-loop-part : goal.invariant-places_of-loop-part
invariant-places_of-loop-part g l = l.total ≡ min l.cap (length (all_occurring (patterns_of g.T.Theory.denotes (take l.part-index l.part-items))))
