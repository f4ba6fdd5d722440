use Rattle.std.proofs.Common.{ap, sym, refl, ◌∙◌, take}
use Rattle.std.proofs.lemmas.List.{take_more}
use Rattle.sy_terms.specs.Denoted.{expr_of, expr_of-Const, expr_of-Var, expr_of-App, expr_of-Call, expr_of-Let}
use Rattle.sy_terms_operators.specs.Plain.{is_plain, are_plain}
use Rattle.sy_rewrite_orders.proofs.Replaced.{plain_more, not_plain}
use Rattle.sy_rewrite_orders.proofs.names.+plain.Goals as goal

pub is_plain-returns-in-Const : goal.is_plain-returns-in-Const
unfolding is_plain
is_plain-returns-in-Const g t c = rw (c.in-Const.is, expr_of-Const) refl

pub is_plain-returns-in-Var : goal.is_plain-returns-in-Var
unfolding is_plain
is_plain-returns-in-Var g t c = rw (c.in-Var.is, expr_of-Var) refl

pub is_plain-returns-in-App : goal.is_plain-returns-in-App
unfolding is_plain
is_plain-returns-in-App g t c = rw (c.in-App.is, expr_of-App) (rw c.as_slice.ensures at c.are_plain.ensures)

pub is_plain-returns-in-Call : goal.is_plain-returns-in-Call
unfolding is_plain
is_plain-returns-in-Call g t c = rw (c.in-Call.is, expr_of-Call) refl

pub is_plain-returns-in-Let : goal.is_plain-returns-in-Let
unfolding is_plain
is_plain-returns-in-Let g t c = rw (c.in-Let.is, expr_of-Let) refl

pub are_plain-returns-then-not-is_plain : goal.are_plain-returns-then-not-is_plain
are_plain-returns-then-not-is_plain g t c =
    let number = g.T.Theory.denotes in
    sym (not_plain number c.args.count c.args.terms.now c.loop-term.term-index c.term-item.result c.loop-term-test.true
    (ap (λ term. is_plain c.args.count (expr_of number term)) (sym c.term-item.is) ∙ sym c.is_plain.ensures ∙ c.if-not-is_plain.true))

pub are_plain-loop-term-init : goal.are_plain-loop-term-init
unfolding are_plain
are_plain-loop-term-init g t c = refl

pub are_plain-loop-term-preserved : goal.are_plain-loop-term-preserved
are_plain-loop-term-preserved g t c =
    let more = take_more c.args.terms.now c.loop-term.term-index c.term-item.result c.loop-term-test.true in
    rw (more, ← c.term-item.is)
    (plain_more g.T.Theory.denotes c.args.count (take c.loop-term.term-index c.args.terms.now) c.term-item.result c.loop-term.invariant (sym c.is_plain.ensures ∙ c.if-not-is_plain.false))
