use Rattle.std.proofs.Common.{◌≡◌, min, take}
use Rattle.sy_forms_items.specs.Measures.{unfolded_sizes}
use Rattle.sy_forms_items.specs.Meant.{phrases_of}
use Rattle.sy_forms_items.proofs.phrase.+size.Given as goal

abbrev pub invariant-Phrases::unfolded_sizes-loop-phrase : goal.invariant-Phrases::unfolded_sizes-loop-phrase
invariant-Phrases::unfolded_sizes-loop-phrase g l = l.total ≡ min l.cap (unfolded_sizes l.sizes (phrases_of g.T.Theory.denotes (take l.phrase-index l.phrase-items)))
