use Rattle.std.proofs.Common.{refl, ap, arith}
use Rattle.std.proofs.lemmas.List.{take_more}
use Rattle.sy_terms.specs.Expr as expr
use Rattle.sy_terms.specs.Denoted.{expr_of-Const, expr_of-Var, expr_of-App, expr_of-Call, expr_of-Let, exprs_of-append}
use Rattle.sy_forms_items.specs.Phrases.{expr_at, exprs_at}
use Rattle.sy_forms_items.specs.Meant.{phrase_of-Literal, phrase_of-Position, phrase_of-Local, phrase_of-Nonterminal, phrase_of-Operation, phrase_of-Invocation, phrase_of-Let, phrases_of-append}
use Rattle.sy_forms_items.proofs.Conversions.{exprs_at-append}
use Rattle.sy_forms_items.proofs.phrase.+term.Goals as goal

pub Phrase::term-returns-in-Literal : goal.Phrase::term-returns-in-Literal
unfolding expr_at exprs_at
Phrase::term-returns-in-Literal g t c = rw (c.in-Literal.is, phrase_of-Literal, expr_of-Const) refl

pub Phrase::term-returns-in-Position : goal.Phrase::term-returns-in-Position
unfolding expr_at exprs_at
Phrase::term-returns-in-Position g t c = rw (c.in-Position.is, phrase_of-Position, expr_of-Var) refl

pub Phrase::term-returns-in-Some : goal.Phrase::term-returns-in-Some
unfolding expr_at exprs_at
Phrase::term-returns-in-Some g t c = rw (c.in-Local.is, phrase_of-Local, expr_of-Var) (ap expr.Variable c.in-Some.ensures.1)

pub Phrase::term-returns-in-Nonterminal : goal.Phrase::term-returns-in-Nonterminal
unfolding expr_at exprs_at
Phrase::term-returns-in-Nonterminal g t c = rw (c.in-Nonterminal.is, phrase_of-Nonterminal, expr_of-Const) refl

pub Phrase::term-returns-in_ok-arguments-in-Operation : goal.Phrase::term-returns-in_ok-arguments-in-Operation
unfolding expr_at exprs_at
Phrase::term-returns-in_ok-arguments-in-Operation g t c = rw (c.in-Operation.is, phrase_of-Operation, expr_of-App, c.in_ok-arguments-in-Operation.ensures) refl

pub Phrase::term-returns-in_ok-arguments-in-Invocation : goal.Phrase::term-returns-in_ok-arguments-in-Invocation
unfolding expr_at exprs_at
Phrase::term-returns-in_ok-arguments-in-Invocation g t c = rw (c.in-Invocation.is, phrase_of-Invocation, expr_of-Call, c.in_ok-arguments-in-Invocation.ensures) refl

pub Phrase::term-returns-in_ok-new-in-Let : goal.Phrase::term-returns-in_ok-new-in-Let
unfolding expr_at exprs_at
Phrase::term-returns-in_ok-new-in-Let g t c = rw (c.in-Let.is, phrase_of-Let, expr_of-Let, c.in_ok-bound-in-Let.ensures, c.in_ok-new-in-Let.ensures.ok, c.in_ok-inner-in-Let.ensures, c.deref.ensures) refl

pub Phrases::terms-loop-phrase-init : goal.Phrases::terms-loop-phrase-init
unfolding expr_at exprs_at
Phrases::terms-loop-phrase-init g t c = rw (c.new-terms.ensures) refl

pub Phrases::terms-loop-phrase-preserved : goal.Phrases::terms-loop-phrase-preserved
unfolding expr_at exprs_at
Phrases::terms-loop-phrase-preserved g t c =
    let next = take_more c.as_slice-phrase-items.result.now c.loop-phrase.phrase-index c.phrase-item.result (grind arith) in
    rw (next, ← c.phrase-item.is, c.in_ok-push.ensures.ok, exprs_of-append, phrases_of-append, exprs_at-append, c.loop-phrase.invariant, c.in_ok-term.ensures) refl
