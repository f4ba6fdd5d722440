use Rattle.std.proofs.Common.{arith, take}
use Rattle.std.proofs.lemmas.List.{take_more}
use Rattle.std.proofs.lemmas.Result.{IfOk-from_err}
use Rattle.sy_terms.specs.Denoted.{expr_of-App, expr_of-Let}
use Rattle.sy_meaning_words.specs.Vectors.{vector}
use Rattle.sy_rewrite_orders.proofs.TermsLaws.{applied-same, bound-same, next-same}
use Rattle.sy_query_normal.proofs.normal.+normal.Goals as goal

pub normal-returns-in_ok-found-in-App : goal.normal-returns-in_ok-found-in-App
normal-returns-in_ok-found-in-App t c =
    rw (c.in-App.is, expr_of-App) (applied-same c.args.sorts.now c.in-App.operator _ _ _ c.in_ok-found-in-App.ensures (rw c.as_slice.ensures at c.in_ok-arguments-in-App.ensures))

pub normal-returns-in_ok-new-in-Let : goal.normal-returns-in_ok-new-in-Let
normal-returns-in_ok-new-in-Let t c =
    rw (c.in-Let.is, expr_of-Let, expr_of-Let, c.in_ok-new-in-Let.ensures.ok)
    (bound-same c.args.sorts.now _ _ _ _ (rw c.as_slice-in-Let.ensures at c.in_ok-bound-in-Let.ensures) (rw c.deref.ensures at c.in_ok-inner-in-Let.ensures))

pub all_normal-loop-term-preserved : goal.all_normal-loop-term-preserved
all_normal-loop-term-preserved t c =
    let more = take_more c.args.terms.now c.loop-term.term-index c.term-item.result (grind arith) in
    rw (more, ← c.term-item.is, c.in_ok-push.ensures.ok)
    (next-same vector c.args.sorts.now c.loop-term.all.items.items (take c.loop-term.term-index c.args.terms.now) c.in_ok-found.found c.term-item.result c.loop-term.invariant c.in_ok-found.ensures)

pub normal-returns-in_err-arguments-in-App : goal.normal-returns-in_err-arguments-in-App
normal-returns-in_err-arguments-in-App t c = IfOk-from_err c.from_residual.result _ c.from_residual.ensures.0

pub normal-returns-in_err-found-in-App : goal.normal-returns-in_err-found-in-App
normal-returns-in_err-found-in-App t c = IfOk-from_err c.from_residual-in_err-found-in-App.result _ c.from_residual-in_err-found-in-App.ensures.0

pub normal-returns-in_err-bound-in-Let : goal.normal-returns-in_err-bound-in-Let
normal-returns-in_err-bound-in-Let t c = IfOk-from_err c.from_residual-in_err-bound-in-Let.result _ c.from_residual-in_err-bound-in-Let.ensures.0

pub normal-returns-in_err-inner-in-Let : goal.normal-returns-in_err-inner-in-Let
normal-returns-in_err-inner-in-Let t c = IfOk-from_err c.from_residual-in_err-inner-in-Let.result _ c.from_residual-in_err-inner-in-Let.ensures.0

pub normal-returns-in_err-new-in-Let : goal.normal-returns-in_err-new-in-Let
normal-returns-in_err-new-in-Let t c = IfOk-from_err c.from_residual-in_err-new-in-Let.result _ c.from_residual-in_err-new-in-Let.ensures.0

pub all_normal-returns-in_err-all : goal.all_normal-returns-in_err-all
all_normal-returns-in_err-all t c = IfOk-from_err c.from_residual.result _ c.from_residual.ensures.0

pub all_normal-returns-in_err-found : goal.all_normal-returns-in_err-found
all_normal-returns-in_err-found t c = IfOk-from_err c.from_residual-in_err-found.result _ c.from_residual-in_err-found.ensures.0

pub all_normal-returns-in_err-push : goal.all_normal-returns-in_err-push
all_normal-returns-in_err-push t c = IfOk-from_err c.from_residual-in_err-push.result _ c.from_residual-in_err-push.ensures.0
