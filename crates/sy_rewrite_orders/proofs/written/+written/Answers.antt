-- Each clause is a part of what proofs/Replaced.antt says of the term's form.
use Rattle.std.proofs.Common.{arith, ◌∙◌, refl, sym, ap, take}
use Rattle.std.proofs.lemmas.List.{take_more}
use Rattle.std.proofs.lemmas.Result.{IfOk-from_err}
use Rattle.sy_terms.specs.Denoted.{expr_of-Const, expr_of-Var, expr_of-App, expr_of-Call, expr_of-Let, exprs_of}
use Rattle.sy_terms_operators.proofs.Steps.{app-falls, call-falls, let-falls, all-falls}
use Rattle.sy_terms_operators.specs.Plain.{are_plain}
use Rattle.sy_rewrite_orders.proofs.Replaced as law
use Rattle.sy_rewrite_orders.proofs.written.+written.Goals as goal

-- ---- constants, variables, applications and calls

pub written-returns-in-Const-clause-replaced : goal.written-returns-in-Const-clause-replaced
written-returns-in-Const-clause-replaced g t c = rw (c.in-Const.is, expr_of-Const) (law.constant_replaced _ _ _)

pub written-returns-in_ok-found-in-Var-clause-replaced : goal.written-returns-in_ok-found-in-Var-clause-replaced
written-returns-in_ok-found-in-Var-clause-replaced g t c =
    rw (c.in-Var.is, expr_of-Var) (law.variable_replaced _ _ _ _ (rw c.as_slice.ensures.value at c.in_ok-found-in-Var.ensures))

pub written-all_written-requires : goal.written-all_written-requires
written-all_written-requires g t c κs within =
    let falls = app-falls g.T.Theory.denotes c.args.term.now c.in-App.operator c.in-App.arguments 0 c.in-App.is in
    (rw (c.as_slice-in-App.ensures) (omega (arith, falls, c.decreases)), (within.0, (within.1, c.requires)))

pub written-returns-in_ok-arguments-in-App-clause-replaced : goal.written-returns-in_ok-arguments-in-App-clause-replaced
written-returns-in_ok-arguments-in-App-clause-replaced g t c =
    rw (c.in-App.is, expr_of-App, expr_of-App) (law.applied_replaced _ _ _ _ _ (rw c.as_slice-in-App.ensures at c.in_ok-arguments-in-App.ensures.replaced))

pub written-all_written-requires-in-Call : goal.written-all_written-requires-in-Call
written-all_written-requires-in-Call g t c κs within =
    let falls = call-falls g.T.Theory.denotes c.args.term.now c.in-Call.function c.in-Call.arguments 0 c.in-Call.is in
    (rw (c.as_slice-in-Call.ensures) (omega (arith, falls, c.decreases)), (within.0, (within.1, c.requires)))

pub written-returns-in_ok-arguments-in-Call-clause-replaced : goal.written-returns-in_ok-arguments-in-Call-clause-replaced
written-returns-in_ok-arguments-in-Call-clause-replaced g t c =
    rw (c.in-Call.is, expr_of-Call, expr_of-Call) (law.called_replaced _ _ _ _ _ (rw c.as_slice-in-Call.ensures at c.in_ok-arguments-in-Call.ensures.replaced))

-- ---- bindings

pub written-all_written-requires-in-Let : goal.written-all_written-requires-in-Let
written-all_written-requires-in-Let g t c κs within =
    let falls = let-falls g.T.Theory.denotes c.args.term.now c.in-Let.bound c.in-Let.inner 0 c.in-Let.is in
    let first = falls.0 in
    (rw (c.as_slice-in-Let.ensures) (omega (arith, first, c.decreases)), (within.0, (within.1, c.requires)))

pub written-name_all-requires-clause-names : goal.written-name_all-requires-clause-names
written-name_all-requires-clause-names g t c = rw c.in_ok-bound-in-Let.ensures.kept c.requires

pub written-name_all-requires-clause-bound : goal.written-name_all-requires-clause-bound
written-name_all-requires-clause-bound g t c = λ stand.
    ap (λ terms. are_plain c.args.count (exprs_of g.T.Theory.denotes terms)) (c.as_slice-in-Let-3.ensures ∙ sym c.as_slice-in-Let-2.ensures) ∙ c.may_stand-stand.ensures stand

pub written-written-requires : goal.written-written-requires
written-written-requires g t c κs within =
    let falls = let-falls g.T.Theory.denotes c.args.term.now c.in-Let.bound c.in-Let.inner 0 c.in-Let.is in
    let second = falls.1 in
    (rw c.deref.ensures (omega (arith, second, c.decreases)), (within.0, (within.1, c.in_ok-many-in-Let.ensures.plain)))

pub written-returns-in_ok-found-in-Let-clause-replaced : goal.written-returns-in_ok-found-in-Let-clause-replaced
written-returns-in_ok-found-in-Let-clause-replaced g t c =
    let are = rw c.as_slice-in-Let.ensures at c.in_ok-bound-in-Let.ensures.replaced in
    let is = rw c.deref.ensures at c.in_ok-inner-in-Let.ensures.replaced in
    let named = rw (c.as_slice-in-Let-3.ensures, c.in_ok-bound-in-Let.ensures.kept) at c.in_ok-many-in-Let.ensures.named in
    rw (c.in-Let.is, expr_of-Let, c.in_ok-found-in-Let.ensures) (named _ _ _ are is)

pub written-returns-in_ok-found-in-Let-clause-kept : goal.written-returns-in_ok-found-in-Let-clause-kept
written-returns-in_ok-found-in-Let-clause-kept g t c =
    law.cut_back _ _ _ _ _ _ c.truncate.ensures.items c.in_ok-inner-in-Let.ensures.kept c.in_ok-many-in-Let.ensures.kept (c.len-outer.ensures ∙ c.all_written-in-Let.new.names.ok.0) c.in_ok-bound-in-Let.ensures.kept

-- ---- terms, one by one

pub all_written-loop-term-init : goal.all_written-loop-term-init
all_written-loop-term-init g t c = record { kept = refl; replaced = rw (c.in_ok-all.ensures) (law.none_replaced c.args.count (exprs_of g.T.Theory.denotes c.args.names.now.items)) }

pub all_written-written-requires : goal.all_written-written-requires
all_written-written-requires g t c κs within =
    let falls = all-falls g.T.Theory.denotes c.args.terms.now c.loop-term.term-index c.term-item.result 0 c.loop-term-test.true c.term-item.is in
    (omega (arith, falls, c.decreases), (within.0, (within.1, rw (c.loop-term.invariant.kept) c.requires)))

pub all_written-loop-term-preserved : goal.all_written-loop-term-preserved
all_written-loop-term-preserved g t c =
    let number = g.T.Theory.denotes in
    let longer = take_more c.args.terms.now c.loop-term.term-index c.term-item.result c.loop-term-test.true in
    let is = rw (c.loop-term.invariant.kept) at c.in_ok-found.ensures.replaced in
    record {
      kept = c.in_ok-found.ensures.kept ∙ c.loop-term.invariant.kept;
      replaced = rw (longer, ← c.term-item.is, c.in_ok-push.ensures.ok)
          (law.more_replaced number c.args.count (exprs_of number c.args.names.now.items) c.loop-term.all.items.items (take c.loop-term.term-index c.args.terms.now) c.in_ok-found.found c.term-item.result c.loop-term.invariant.replaced is);
    }

pub written-returns-in_err-found-in-Var-clause-kept : goal.written-returns-in_err-found-in-Var-clause-kept
written-returns-in_err-found-in-Var-clause-kept g t c = IfOk-from_err c.from_residual.result _ c.from_residual.ensures.0

pub written-returns-in_err-found-in-Var-clause-replaced : goal.written-returns-in_err-found-in-Var-clause-replaced
written-returns-in_err-found-in-Var-clause-replaced g t c = IfOk-from_err c.from_residual.result _ c.from_residual.ensures.0

pub written-returns-in_err-arguments-in-App-clause-kept : goal.written-returns-in_err-arguments-in-App-clause-kept
written-returns-in_err-arguments-in-App-clause-kept g t c = IfOk-from_err c.from_residual-in_err-arguments-in-App.result _ c.from_residual-in_err-arguments-in-App.ensures.0

pub written-returns-in_err-arguments-in-App-clause-replaced : goal.written-returns-in_err-arguments-in-App-clause-replaced
written-returns-in_err-arguments-in-App-clause-replaced g t c = IfOk-from_err c.from_residual-in_err-arguments-in-App.result _ c.from_residual-in_err-arguments-in-App.ensures.0

pub written-returns-in_err-arguments-in-Call-clause-kept : goal.written-returns-in_err-arguments-in-Call-clause-kept
written-returns-in_err-arguments-in-Call-clause-kept g t c = IfOk-from_err c.from_residual-in_err-arguments-in-Call.result _ c.from_residual-in_err-arguments-in-Call.ensures.0

pub written-returns-in_err-arguments-in-Call-clause-replaced : goal.written-returns-in_err-arguments-in-Call-clause-replaced
written-returns-in_err-arguments-in-Call-clause-replaced g t c = IfOk-from_err c.from_residual-in_err-arguments-in-Call.result _ c.from_residual-in_err-arguments-in-Call.ensures.0

pub written-returns-in_err-bound-in-Let-clause-kept : goal.written-returns-in_err-bound-in-Let-clause-kept
written-returns-in_err-bound-in-Let-clause-kept g t c = IfOk-from_err c.from_residual-in_err-bound-in-Let.result _ c.from_residual-in_err-bound-in-Let.ensures.0

pub written-returns-in_err-bound-in-Let-clause-replaced : goal.written-returns-in_err-bound-in-Let-clause-replaced
written-returns-in_err-bound-in-Let-clause-replaced g t c = IfOk-from_err c.from_residual-in_err-bound-in-Let.result _ c.from_residual-in_err-bound-in-Let.ensures.0

pub written-returns-in_err-found-in-Let-clause-kept : goal.written-returns-in_err-found-in-Let-clause-kept
written-returns-in_err-found-in-Let-clause-kept g t c = IfOk-from_err c.from_residual-in_err-found-in-Let.result _ c.from_residual-in_err-found-in-Let.ensures.0

pub written-returns-in_err-found-in-Let-clause-replaced : goal.written-returns-in_err-found-in-Let-clause-replaced
written-returns-in_err-found-in-Let-clause-replaced g t c = IfOk-from_err c.from_residual-in_err-found-in-Let.result _ c.from_residual-in_err-found-in-Let.ensures.0

pub written-returns-in_err-many-in-Let-clause-kept : goal.written-returns-in_err-many-in-Let-clause-kept
written-returns-in_err-many-in-Let-clause-kept g t c = IfOk-from_err c.from_residual-in_err-many-in-Let.result _ c.from_residual-in_err-many-in-Let.ensures.0

pub written-returns-in_err-many-in-Let-clause-replaced : goal.written-returns-in_err-many-in-Let-clause-replaced
written-returns-in_err-many-in-Let-clause-replaced g t c = IfOk-from_err c.from_residual-in_err-many-in-Let.result _ c.from_residual-in_err-many-in-Let.ensures.0

pub written-returns-in_err-inner-in-Let-clause-kept : goal.written-returns-in_err-inner-in-Let-clause-kept
written-returns-in_err-inner-in-Let-clause-kept g t c = IfOk-from_err c.from_residual-in_err-inner-in-Let.result _ c.from_residual-in_err-inner-in-Let.ensures.0

pub written-returns-in_err-inner-in-Let-clause-replaced : goal.written-returns-in_err-inner-in-Let-clause-replaced
written-returns-in_err-inner-in-Let-clause-replaced g t c = IfOk-from_err c.from_residual-in_err-inner-in-Let.result _ c.from_residual-in_err-inner-in-Let.ensures.0

pub all_written-returns-in_err-all-clause-kept : goal.all_written-returns-in_err-all-clause-kept
all_written-returns-in_err-all-clause-kept g t c = IfOk-from_err c.from_residual.result _ c.from_residual.ensures.0

pub all_written-returns-in_err-all-clause-replaced : goal.all_written-returns-in_err-all-clause-replaced
all_written-returns-in_err-all-clause-replaced g t c = IfOk-from_err c.from_residual.result _ c.from_residual.ensures.0

pub all_written-returns-in_err-found-clause-kept : goal.all_written-returns-in_err-found-clause-kept
all_written-returns-in_err-found-clause-kept g t c = IfOk-from_err c.from_residual-in_err-found.result _ c.from_residual-in_err-found.ensures.0

pub all_written-returns-in_err-found-clause-replaced : goal.all_written-returns-in_err-found-clause-replaced
all_written-returns-in_err-found-clause-replaced g t c = IfOk-from_err c.from_residual-in_err-found.result _ c.from_residual-in_err-found.ensures.0

pub all_written-returns-in_err-push-clause-kept : goal.all_written-returns-in_err-push-clause-kept
all_written-returns-in_err-push-clause-kept g t c = IfOk-from_err c.from_residual-in_err-push.result _ c.from_residual-in_err-push.ensures.0

pub all_written-returns-in_err-push-clause-replaced : goal.all_written-returns-in_err-push-clause-replaced
all_written-returns-in_err-push-clause-replaced g t c = IfOk-from_err c.from_residual-in_err-push.result _ c.from_residual-in_err-push.ensures.0
