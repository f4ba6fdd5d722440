use Rattle.std.proofs.Common.{◌≡◌, map, take}
use Rattle.sy_terms.specs.Denoted.{expr_of}
use Rattle.sy_forms_items.specs.Meant.{phrase_of}
use Rattle.sy_forms_items.specs.Phrases.{expr_at}
use Rattle.sy_scope_declared.proofs.check.terms_of.Given as goal

abbrev pub invariant-loop-phrase : goal.invariant-loop-phrase
invariant-loop-phrase g l =
    let number = g.T.Theory.denotes in
    map (expr_of number) l.terms ≡ map (expr_at l.outside) (map (phrase_of number) (take l.phrase-index l.phrases))
