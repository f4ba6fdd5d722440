use Rattle.std.proofs.Common.{arith, take}
use Rattle.std.proofs.lemmas.List.{take_more}
use Rattle.sy_terms.specs.Denoted.{expr_of, exprs_of, val_of, expr_of-Const, expr_of-Var}
use Rattle.sy_terms_operators.proofs.Steps.{app-is}
use Rattle.sy_meaning_words.specs.Vectors.{vector}
use Rattle.sy_rewrite_orders.proofs.TermsLaws.{constant-found, variable-found, application-found, none-have, one-more}
use Rattle.sy_rewrite_orders.proofs.sums.+sums.Goals as goal

pub sum_of-returns-in_ok-found-in-Const : goal.sum_of-returns-in_ok-found-in-Const
sum_of-returns-in_ok-found-in-Const t c =
    constant-found c.args.sorts.now c.in_ok-found-in-Const.found (expr_of vector c.args.term.now) (val_of vector c.in-Const.value) (rw c.in-Const.is (expr_of-Const _ vector c.in-Const.value)) c.in_ok-found-in-Const.ensures

pub sum_of-returns-in_ok-found-in-Var : goal.sum_of-returns-in_ok-found-in-Var
sum_of-returns-in_ok-found-in-Var t c =
    variable-found c.args.sorts.now c.in_ok-found-in-Var.found (expr_of vector c.args.term.now) c.in-Var.position (rw c.in-Var.is (expr_of-Var _ vector c.in-Var.position)) c.in_ok-found-in-Var.ensures

pub sum_of-returns-in_ok-found-in-App : goal.sum_of-returns-in_ok-found-in-App
sum_of-returns-in_ok-found-in-App t c =
    application-found c.args.sorts.now c.in_ok-found-in-App.found (expr_of vector c.args.term.now) c.in-App.operator (exprs_of vector c.in-App.arguments.items.items) c.in-Some.sums.items (app-is vector c.args.term.now c.in-App.operator c.in-App.arguments c.in-App.is) (rw (c.in-Some.is, c.as_slice.ensures) at c.in_ok-sums-in-App.ensures) (rw c.as_slice-in-App.ensures.value at c.in_ok-found-in-App.ensures)

pub sums_of-loop-term-preserved : goal.sums_of-loop-term-preserved
sums_of-loop-term-preserved t c = λ values sorted.
    let more = take_more c.args.terms.now c.loop-term.term-index c.term-item.result (grind arith) in
    rw (more, ← c.term-item.is, c.in_ok-push.ensures.items)
    (one-more vector values c.loop-term.sums.items c.in-Some.sum (take c.loop-term.term-index c.args.terms.now) c.term-item.result (c.loop-term.invariant values sorted) ((rw c.in-Some.is at c.in_ok-sum.ensures) values sorted))

pub sums_of-loop-term-init : goal.sums_of-loop-term-init
sums_of-loop-term-init t c = λ values sorted. none-have values c.in_ok-sums.sums.items c.in_ok-sums.ensures.items
