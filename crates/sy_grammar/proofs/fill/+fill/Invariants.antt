use Rattle.sy_terms.specs.Denoted.{exprs_of}
use Rattle.sy_grammar_base.specs.Written.{patterns_of}
use Rattle.sy_grammar.specs.Filled.{AllFilled}
use Rattle.sy_grammar.specs.Noted.{notes_of}
use Rattle.sy_grammar.proofs.Filling.{Rest, Left}
use Rattle.sy_grammar.proofs.fill.+fill.Given as goal

abbrev pub invariant-fill_all-loop-i : goal.invariant-fill_all-loop-i
invariant-fill_all-loop-i g l =
    let number = g.T.Theory.denotes in
    let parts = l.part-items in
    let terms = l.terms.items.items in
    Rest (AllFilled (patterns_of number l.fn.parts.items.items) (exprs_of number terms) (notes_of l.below)) (Left number parts terms l.below l.i) l.initial.steps.items l.steps.items
