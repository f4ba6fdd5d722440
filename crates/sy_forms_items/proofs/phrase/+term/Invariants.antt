use Rattle.std.proofs.Common.{◌≡◌, take}
use Rattle.sy_terms.specs.Denoted.{exprs_of}
use Rattle.sy_forms_items.specs.Phrases.{exprs_at}
use Rattle.sy_forms_items.specs.Meant.{phrases_of}
use Rattle.sy_forms_items.proofs.phrase.+term.Given as goal

abbrev pub invariant-Phrases::terms-loop-phrase : goal.invariant-Phrases::terms-loop-phrase
invariant-Phrases::terms-loop-phrase g l = exprs_of g.T.Theory.denotes l.terms.items.items ≡ exprs_at l.outside (phrases_of g.T.Theory.denotes (take l.phrase-index l.phrase-items))
