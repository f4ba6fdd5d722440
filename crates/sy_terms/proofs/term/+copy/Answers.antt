use Rattle.std.proofs.Common.{arith, ap, refl, ◌∙◌}
use Rattle.std.proofs.lemmas.List.{take_all, take_more}
use Rattle.std.proofs.lemmas.Result.{IfOk-from_err}
use Rattle.sy_terms.specs.Denoted.{exprs_of, expr_of-App, expr_of-Call, expr_of-Let, exprs_of-append}
use Rattle.sy_terms.proofs.term.+copy.Goals as goal

pub Term::copy-returns-in_ok-arguments-in-App : goal.Term::copy-returns-in_ok-arguments-in-App
Term::copy-returns-in_ok-arguments-in-App g t c = rw (c.in-App.is, expr_of-App, expr_of-App, c.in_ok-arguments-in-App.ensures) refl

pub Term::copy-returns-in_ok-arguments-in-Call : goal.Term::copy-returns-in_ok-arguments-in-Call
Term::copy-returns-in_ok-arguments-in-Call g t c = rw (c.in-Call.is, expr_of-Call, expr_of-Call, c.in_ok-arguments-in-Call.ensures) refl

pub Term::copy-returns-in_ok-new-in-Let : goal.Term::copy-returns-in_ok-new-in-Let
Term::copy-returns-in_ok-new-in-Let g t c = rw (c.in-Let.is, expr_of-Let, expr_of-Let, c.in_ok-bound-in-Let.ensures, c.in_ok-new-in-Let.ensures.ok, c.in_ok-inner-in-Let.ensures, c.deref.ensures) refl

pub Terms::copy-loop-term-preserved : goal.Terms::copy-loop-term-preserved
Terms::copy-loop-term-preserved g t c =
    let more = take_more c.deref-term-items.result.now c.loop-term.term-index c.term-item.result (grind arith) in
    rw (more, ← c.term-item.is, c.in_ok-push.ensures.items, exprs_of-append, exprs_of-append, c.loop-term.invariant, c.in_ok-copy.ensures) refl

pub Term::copy-returns-in_err-arguments-in-App : goal.Term::copy-returns-in_err-arguments-in-App
Term::copy-returns-in_err-arguments-in-App g t c = IfOk-from_err c.from_residual.result _ c.from_residual.ensures.0

pub Term::copy-returns-in_err-arguments-in-Call : goal.Term::copy-returns-in_err-arguments-in-Call
Term::copy-returns-in_err-arguments-in-Call g t c = IfOk-from_err c.from_residual-in_err-arguments-in-Call.result _ c.from_residual-in_err-arguments-in-Call.ensures.0

pub Term::copy-returns-in_err-bound-in-Let : goal.Term::copy-returns-in_err-bound-in-Let
Term::copy-returns-in_err-bound-in-Let g t c = IfOk-from_err c.from_residual-in_err-bound-in-Let.result _ c.from_residual-in_err-bound-in-Let.ensures.0

pub Term::copy-returns-in_err-inner-in-Let : goal.Term::copy-returns-in_err-inner-in-Let
Term::copy-returns-in_err-inner-in-Let g t c = IfOk-from_err c.from_residual-in_err-inner-in-Let.result _ c.from_residual-in_err-inner-in-Let.ensures.0

pub Term::copy-returns-in_err-new-in-Let : goal.Term::copy-returns-in_err-new-in-Let
Term::copy-returns-in_err-new-in-Let g t c = IfOk-from_err c.from_residual-in_err-new-in-Let.result _ c.from_residual-in_err-new-in-Let.ensures.0

pub Terms::copy-loop-term-init : goal.Terms::copy-loop-term-init
Terms::copy-loop-term-init g t c = rw (c.in_ok-items.ensures.items) refl

pub Terms::copy-returns-in_err-items : goal.Terms::copy-returns-in_err-items
Terms::copy-returns-in_err-items g t c = IfOk-from_err c.from_residual.result _ c.from_residual.ensures.0

pub Terms::copy-returns-in_err-copy : goal.Terms::copy-returns-in_err-copy
Terms::copy-returns-in_err-copy g t c = IfOk-from_err c.from_residual-in_err-copy.result _ c.from_residual-in_err-copy.ensures.0

pub Terms::copy-returns-in_err-push : goal.Terms::copy-returns-in_err-push
Terms::copy-returns-in_err-push g t c = IfOk-from_err c.from_residual-in_err-push.result _ c.from_residual-in_err-push.ensures.0

pub Terms::copy-returns : goal.Terms::copy-returns
Terms::copy-returns g t c =
    let all = take_all c.loop-term.term-index c.deref-term-items.result.now c.loop-term-test.false in
    rw (← c.deref-term-items.ensures.value) (c.loop-term.invariant ∙ ap (exprs_of g.T.Theory.denotes) all)

pub Term::copy-returns-in-Const : goal.Term::copy-returns-in-Const
Term::copy-returns-in-Const g t c = rw (c.in-Const.is) refl

pub Term::copy-returns-in-Var : goal.Term::copy-returns-in-Var
Term::copy-returns-in-Var g t c = rw (c.in-Var.is) refl
