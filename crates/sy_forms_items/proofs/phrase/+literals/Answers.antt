use Rattle.std.proofs.Common.{◌∙◌, ◌++◌, sym, ap, arith, take}
use Rattle.std.proofs.lemmas.List.{take_more}
use Rattle.sy_terms.specs.Denoted.{vals_of}
use Rattle.sy_forms_items.specs.Meant.{phrase_of, phrases_of, phrase_of-Literal, phrase_of-Position, phrase_of-Local, phrase_of-Nonterminal, phrase_of-Operation, phrase_of-Invocation, phrase_of-Let}
use Rattle.sy_forms_items.specs.Measures.{literals_in, all_literals, at_most_one, literal_negated}
use Rattle.sy_forms_items.proofs.Literals.{nil_right, assoc, all_literals-last}
use Rattle.sy_forms_items.proofs.phrase.+literals.Goals as goal

pub Phrase::literals-returns-in-Literal : goal.Phrase::literals-returns-in-Literal
unfolding literals_in all_literals
Phrase::literals-returns-in-Literal g t c = rw (c.in-Literal.is, phrase_of-Literal) c.note.ensures

pub Phrase::literals-returns-in-Position : goal.Phrase::literals-returns-in-Position
unfolding literals_in all_literals
Phrase::literals-returns-in-Position g t c = rw (c.in-Position.is, phrase_of-Position) (sym (nil_right (vals_of g.T.Theory.denotes c.args.out.now)))

pub Phrase::literals-returns-in-Local : goal.Phrase::literals-returns-in-Local
unfolding literals_in all_literals
Phrase::literals-returns-in-Local g t c = rw (c.in-Local.is, phrase_of-Local) (sym (nil_right (vals_of g.T.Theory.denotes c.args.out.now)))

pub Phrase::literals-returns-in-Nonterminal : goal.Phrase::literals-returns-in-Nonterminal
unfolding literals_in all_literals
Phrase::literals-returns-in-Nonterminal g t c = rw (c.in-Nonterminal.is, phrase_of-Nonterminal) (sym (nil_right (vals_of g.T.Theory.denotes c.args.out.now)))

pub Phrase::literals-returns-in_ok-all_literals-in-Operation : goal.Phrase::literals-returns-in_ok-all_literals-in-Operation
unfolding literals_in all_literals
Phrase::literals-returns-in_ok-all_literals-in-Operation g t c =
    let arguments = phrases_of g.T.Theory.denotes c.in-Operation.arguments.items.items in
    let both = assoc (vals_of g.T.Theory.denotes c.args.out.now) (all_literals arguments) (at_most_one (literal_negated c.in-Operation.operator arguments)) in
    rw (c.in-Operation.is, phrase_of-Operation, ← both, ← c.in_ok-all_literals-in-Operation.ensures, ← c.as_slice.ensures, ← c.negated.ensures) c.note_any.ensures

pub Phrase::literals-returns-in-Invocation : goal.Phrase::literals-returns-in-Invocation
unfolding literals_in all_literals
Phrase::literals-returns-in-Invocation g t c = rw (c.in-Invocation.is, phrase_of-Invocation) c.all_literals-in-Invocation.ensures

pub Phrase::literals-returns-in_ok-all_literals-in-Let : goal.Phrase::literals-returns-in_ok-all_literals-in-Let
unfolding literals_in all_literals
Phrase::literals-returns-in_ok-all_literals-in-Let g t c =
    let bound = phrases_of g.T.Theory.denotes c.in-Let.bound.items.items in
    let both = assoc (vals_of g.T.Theory.denotes c.args.out.now) (all_literals bound) (literals_in (phrase_of g.T.Theory.denotes c.in-Let.inner.value)) in
    rw (c.in-Let.is, phrase_of-Let, ← both, ← c.in_ok-all_literals-in-Let.ensures, ← c.deref.ensures) c.literals.ensures

pub Phrases::all_literals-loop-phrase-init : goal.Phrases::all_literals-loop-phrase-init
unfolding literals_in all_literals
Phrases::all_literals-loop-phrase-init g t c = sym (nil_right (vals_of g.T.Theory.denotes c.args.out.now))

pub Phrases::all_literals-loop-phrase-preserved : goal.Phrases::all_literals-loop-phrase-preserved
Phrases::all_literals-loop-phrase-preserved g t c =
    let items = c.as_slice-phrase-items.result.now in
    let i = c.loop-phrase.phrase-index in
    let last = literals_in (phrase_of g.T.Theory.denotes c.phrase-item.result) in
    let next = take_more items i c.phrase-item.result (grind arith) in
    rw (next, ← c.phrase-item.is, all_literals-last)
    (c.in_ok-literals.ensures ∙ ap (λ l. l ++ last) c.loop-phrase.invariant
    ∙ assoc (vals_of g.T.Theory.denotes c.args.out.now) (all_literals (phrases_of g.T.Theory.denotes (take i items))) last)
