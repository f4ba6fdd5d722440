use Rattle.std.proofs.Common.{refl, ap, ◌∙◌}
use Rattle.sy_terms.specs.Values.{Whole}
use Rattle.sy_terms.specs.Denoted.{exprs_of, expr_of-Const, expr_of-Var, expr_of-App, expr_of-Call, expr_of-Let}
use Rattle.sy_lower.specs.Codes.{term_key, terms_key}
use Rattle.sy_lower.proofs.Keyed as step
use Rattle.sy_lower.proofs.keys.+key.Goals as goal

pub term_key-returns-in-Const : goal.term_key-returns-in-Const
unfolding term_key
term_key-returns-in-Const t c = rw (c.in-Const.is, expr_of-Const) c.constant_key.ensures

pub term_key-returns-in-Var : goal.term_key-returns-in-Var
unfolding term_key
term_key-returns-in-Var t c = rw (c.in-Var.is, expr_of-Var) c.variable_key.ensures

pub term_key-returns-in-App : goal.term_key-returns-in-App
unfolding term_key
term_key-returns-in-App t c =
    rw (c.in-App.is, expr_of-App) (rw c.as_slice.ensures at c.terms_key.ensures ∙ ap (λ s. terms_key s (exprs_of Whole c.in-App.arguments.items.items)) c.operator_seed.ensures)

pub term_key-returns-in-Call : goal.term_key-returns-in-Call
unfolding term_key
term_key-returns-in-Call t c = rw (c.in-Call.is, expr_of-Call) refl

pub term_key-returns-in-Let : goal.term_key-returns-in-Let
unfolding term_key
term_key-returns-in-Let t c = rw (c.in-Let.is, expr_of-Let) refl

pub terms_key-loop-term-init : goal.terms_key-loop-term-init
terms_key-loop-term-init t c = refl

pub terms_key-loop-term-preserved : goal.terms_key-loop-term-preserved
terms_key-loop-term-preserved t c = step.next_key c.args.terms.now c.loop-term.term-index c.term-item.result c.loop-term.key _ _ c.loop-term-test.true c.term-item.is c.term_key-key.ensures c.loop-term.invariant

pub terms_key-returns : goal.terms_key-returns
terms_key-returns t c = step.all_keyed c.args.terms.now c.loop-term.term-index _ _ c.loop-term-test.false c.loop-term.invariant
