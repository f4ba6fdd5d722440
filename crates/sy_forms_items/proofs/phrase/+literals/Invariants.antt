use Rattle.std.proofs.Common.{◌≡◌, ◌++◌, take}
use Rattle.sy_terms.specs.Denoted.{vals_of}
use Rattle.sy_forms_items.specs.Measures.{all_literals}
use Rattle.sy_forms_items.specs.Meant.{phrases_of}
use Rattle.sy_forms_items.proofs.phrase.+literals.Given as goal

abbrev pub invariant-Phrases::all_literals-loop-phrase : goal.invariant-Phrases::all_literals-loop-phrase
invariant-Phrases::all_literals-loop-phrase g l =
    vals_of g.T.Theory.denotes l.out ≡ vals_of g.T.Theory.denotes l.fn.out ++ all_literals (phrases_of g.T.Theory.denotes (take l.phrase-index l.phrase-items))
