use Rattle.std.proofs.Common.{refl, take}
use Rattle.std.proofs.lemmas.List.{take_all, take_more}
use Rattle.std.proofs.lemmas.Result.{IfOk-from_err}
use Rattle.sy_terms.specs.Denoted.{expr_of-App, expr_of-Call, expr_of-Let}
use Rattle.sy_rewrite_orders.proofs.Alike.{applied_alike, bound_alike, called_alike, more_alike}
use Rattle.sy_rewrite_orders.proofs.apart.+apart.Goals as goal

pub apart-returns-in_ok-found-in-App : goal.apart-returns-in_ok-found-in-App
apart-returns-in_ok-found-in-App g t c =
    rw (c.in-App.is, expr_of-App) (applied_alike _ _ _ _ c.in_ok-found-in-App.ensures (rw c.as_slice.ensures at c.in_ok-arguments-in-App.ensures))

pub apart-returns-in_ok-arguments-in-Call : goal.apart-returns-in_ok-arguments-in-Call
apart-returns-in_ok-arguments-in-Call g t c =
    rw (c.in-Call.is, expr_of-Call, expr_of-Call) (called_alike _ _ _ (rw c.as_slice-in-Call.ensures at c.in_ok-arguments-in-Call.ensures))

pub apart-returns-in_ok-new-in-Let : goal.apart-returns-in_ok-new-in-Let
apart-returns-in_ok-new-in-Let g t c =
    rw (c.in-Let.is, expr_of-Let, expr_of-Let, c.in_ok-new-in-Let.ensures.ok)
    (bound_alike _ _ _ _ (rw c.as_slice-in-Let.ensures at c.in_ok-bound-in-Let.ensures) (rw c.deref.ensures at c.in_ok-inner-in-Let.ensures))

pub all_apart-loop-term-preserved : goal.all_apart-loop-term-preserved
all_apart-loop-term-preserved g t c =
    let number = g.T.Theory.denotes in
    let more = take_more c.args.terms.now c.loop-term.term-index c.term-item.result c.loop-term-test.true in
    rw (more, ← c.term-item.is, c.in_ok-push.ensures.ok)
    (more_alike number c.loop-term.all.items.items (take c.loop-term.term-index c.args.terms.now) c.in_ok-found.found c.term-item.result c.loop-term.invariant c.in_ok-found.ensures)

pub apart-returns-in_err-arguments-in-App : goal.apart-returns-in_err-arguments-in-App
apart-returns-in_err-arguments-in-App g t c = IfOk-from_err c.from_residual.result _ c.from_residual.ensures.0

pub apart-returns-in_err-found-in-App : goal.apart-returns-in_err-found-in-App
apart-returns-in_err-found-in-App g t c = IfOk-from_err c.from_residual-in_err-found-in-App.result _ c.from_residual-in_err-found-in-App.ensures.0

pub apart-returns-in_err-arguments-in-Call : goal.apart-returns-in_err-arguments-in-Call
apart-returns-in_err-arguments-in-Call g t c = IfOk-from_err c.from_residual-in_err-arguments-in-Call.result _ c.from_residual-in_err-arguments-in-Call.ensures.0

pub apart-returns-in_err-bound-in-Let : goal.apart-returns-in_err-bound-in-Let
apart-returns-in_err-bound-in-Let g t c = IfOk-from_err c.from_residual-in_err-bound-in-Let.result _ c.from_residual-in_err-bound-in-Let.ensures.0

pub apart-returns-in_err-inner-in-Let : goal.apart-returns-in_err-inner-in-Let
apart-returns-in_err-inner-in-Let g t c = IfOk-from_err c.from_residual-in_err-inner-in-Let.result _ c.from_residual-in_err-inner-in-Let.ensures.0

pub apart-returns-in_err-new-in-Let : goal.apart-returns-in_err-new-in-Let
apart-returns-in_err-new-in-Let g t c = IfOk-from_err c.from_residual-in_err-new-in-Let.result _ c.from_residual-in_err-new-in-Let.ensures.0

pub all_apart-returns-in_err-all : goal.all_apart-returns-in_err-all
all_apart-returns-in_err-all g t c = IfOk-from_err c.from_residual.result _ c.from_residual.ensures.0

pub all_apart-returns-in_err-found : goal.all_apart-returns-in_err-found
all_apart-returns-in_err-found g t c = IfOk-from_err c.from_residual-in_err-found.result _ c.from_residual-in_err-found.ensures.0

pub all_apart-returns-in_err-push : goal.all_apart-returns-in_err-push
all_apart-returns-in_err-push g t c = IfOk-from_err c.from_residual-in_err-push.result _ c.from_residual-in_err-push.ensures.0

pub apart-returns-in-Const : goal.apart-returns-in-Const
apart-returns-in-Const g t c = rw (c.in-Const.is) (λ defined wanted values. refl)

pub apart-returns-in-Var : goal.apart-returns-in-Var
apart-returns-in-Var g t c = rw (c.in-Var.is) (λ defined wanted values. refl)

pub all_apart-returns : goal.all_apart-returns
all_apart-returns g t c =
    let all = take_all c.loop-term.term-index c.args.terms.now c.loop-term-test.false in
    rw all at c.loop-term.invariant
