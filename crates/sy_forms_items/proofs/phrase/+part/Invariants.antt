use Rattle.std.proofs.Common.{◌≡◌, take}
use Rattle.sy_grammar_base.specs.Written.{patterns_of}
use Rattle.sy_forms_items.specs.Phrases.{patterns_at}
use Rattle.sy_forms_items.specs.Meant.{phrases_of}
use Rattle.sy_forms_items.proofs.phrase.+part.Given as goal

abbrev pub invariant-Phrases::parts-loop-phrase : goal.invariant-Phrases::parts-loop-phrase
invariant-Phrases::parts-loop-phrase g l = patterns_of g.T.Theory.denotes l.parts.items.items ≡ patterns_at (phrases_of g.T.Theory.denotes (take l.phrase-index l.phrase-items))
