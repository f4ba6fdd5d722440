use Rattle.std.proofs.Common.{◌≡◌, min, take}
use Rattle.sy_forms_items.specs.Measures.{unfolded_depths}
use Rattle.sy_forms_items.specs.Meant.{phrases_of}
use Rattle.sy_forms_items.proofs.phrase.+depth.Given as goal

abbrev pub invariant-Phrases::unfolded_depths-loop-phrase : goal.invariant-Phrases::unfolded_depths-loop-phrase
invariant-Phrases::unfolded_depths-loop-phrase g l = l.greatest ≡ min l.cap (unfolded_depths l.depths (phrases_of g.T.Theory.denotes (take l.phrase-index l.phrase-items)))
