use Rattle.std.proofs.Common.{refl, arith}
use Rattle.std.proofs.lemmas.List.{take_more}
use Rattle.sy_grammar_base.specs.Written.{pattern_of-Const, pattern_of-Var, pattern_of-Non, pattern_of-App, pattern_of-Call}
use Rattle.sy_forms_items.specs.Phrases.{pattern_at, patterns_at}
use Rattle.sy_forms_items.specs.Meant.{phrase_of-Literal, phrase_of-Position, phrase_of-Local, phrase_of-Nonterminal, phrase_of-Operation, phrase_of-Invocation, phrase_of-Let, phrases_of-append}
use Rattle.sy_forms_items.proofs.Conversions.{patterns_at-append, patterns_of-append}
use Rattle.sy_forms_items.proofs.phrase.+part.Goals as goal

pub Phrase::part-returns-in-Literal : goal.Phrase::part-returns-in-Literal
unfolding pattern_at patterns_at
Phrase::part-returns-in-Literal g t c = rw (c.in-Literal.is, phrase_of-Literal, pattern_of-Const) refl

pub Phrase::part-returns-in-Position : goal.Phrase::part-returns-in-Position
unfolding pattern_at patterns_at
Phrase::part-returns-in-Position g t c = rw (c.in-Position.is, phrase_of-Position, pattern_of-Var) refl

pub Phrase::part-returns-in-Local : goal.Phrase::part-returns-in-Local
unfolding pattern_at patterns_at
Phrase::part-returns-in-Local g t c = rw (c.in-Local.is, phrase_of-Local, pattern_of-Const) refl

pub Phrase::part-returns-in-Nonterminal : goal.Phrase::part-returns-in-Nonterminal
unfolding pattern_at patterns_at
Phrase::part-returns-in-Nonterminal g t c = rw (c.in-Nonterminal.is, phrase_of-Nonterminal, pattern_of-Non) refl

pub Phrase::part-returns-in_ok-arguments-in-Operation : goal.Phrase::part-returns-in_ok-arguments-in-Operation
unfolding pattern_at patterns_at
Phrase::part-returns-in_ok-arguments-in-Operation g t c = rw (c.in-Operation.is, phrase_of-Operation, pattern_of-App, c.in_ok-arguments-in-Operation.ensures) refl

pub Phrase::part-returns-in_ok-arguments-in-Invocation : goal.Phrase::part-returns-in_ok-arguments-in-Invocation
unfolding pattern_at patterns_at
Phrase::part-returns-in_ok-arguments-in-Invocation g t c = rw (c.in-Invocation.is, phrase_of-Invocation, pattern_of-Call, c.in_ok-arguments-in-Invocation.ensures, c.number_of.ensures) refl

pub Phrase::part-returns-in-Let : goal.Phrase::part-returns-in-Let
unfolding pattern_at patterns_at
Phrase::part-returns-in-Let g t c = rw (c.in-Let.is, phrase_of-Let, pattern_of-Const) refl

pub Phrases::parts-loop-phrase-init : goal.Phrases::parts-loop-phrase-init
unfolding pattern_at patterns_at
Phrases::parts-loop-phrase-init g t c = rw (c.new-parts.ensures) refl

pub Phrases::parts-loop-phrase-preserved : goal.Phrases::parts-loop-phrase-preserved
unfolding pattern_at patterns_at
Phrases::parts-loop-phrase-preserved g t c =
    let next = take_more c.as_slice-phrase-items.result.now c.loop-phrase.phrase-index c.phrase-item.result (grind arith) in
    rw (next, ← c.phrase-item.is, c.in_ok-push.ensures.ok, patterns_of-append, phrases_of-append, patterns_at-append, c.loop-phrase.invariant, c.in_ok-part.ensures) refl
