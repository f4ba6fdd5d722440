use Rattle.std.proofs.Common.{arith, ◌++◌, ap, sym, ◌∙◌, Result, Ok, Err, IfOk}
use Rattle.std.proofs.lemmas.Result.{IfOk-from_err}
use Rattle.sy_terms_operators.proofs.Steps as step
use Rattle.sy_meaning.proofs.Sorts as sorts
use Rattle.sy_meaning.proofs.fitting.+term_sort.Goals as goal

ok_then : {T E : Type 0} {P Q : T → Type 0} (r : Result T E) → IfOk r P → ((x : T) → P x → Q x) → IfOk r Q
ok_then (Ok x) h f = f x h
ok_then (Err e) h f = tt

pub term_sort-term_sorts-requires : goal.term_sort-term_sorts-requires
term_sort-term_sorts-requires g t c κs within =
    let falls = step.app-falls g.T.Theory.denotes c.args.term.now c.in-App.operator c.in-App.arguments 0 c.in-App.is in
    (omega (arith, falls, c.decreases), within)

pub term_sort-term_sorts-requires-in-Call : goal.term_sort-term_sorts-requires-in-Call
term_sort-term_sorts-requires-in-Call g t c κs within =
    let falls = step.call-falls g.T.Theory.denotes c.args.term.now c.in-Call.function c.in-Call.arguments 0 c.in-Call.is in
    (omega (arith, falls, c.decreases), within)

pub term_sort-term_sorts-requires-in-Let : goal.term_sort-term_sorts-requires-in-Let
term_sort-term_sorts-requires-in-Let g t c κs within =
    let falls = step.let-falls g.T.Theory.denotes c.args.term.now c.in-Let.bound c.in-Let.inner 0 c.in-Let.is in
    let first = falls.0 in
    (omega (arith, first, c.decreases), within)

pub term_sort-term_sort-requires : goal.term_sort-term_sort-requires
term_sort-term_sort-requires g t c κs within =
    let falls = step.let-falls g.T.Theory.denotes c.args.term.now c.in-Let.bound c.in-Let.inner 0 c.in-Let.is in
    let second = falls.1 in
    (rw c.deref.ensures (omega (arith, second, c.decreases)), within)

pub term_sort-returns-in-Const : goal.term_sort-returns-in-Const
term_sort-returns-in-Const g t c = c.constant_sort.ensures ∙ sorts.sort-const g.T.Theory.denotes _ _ c.args.term.now _ c.in-Const.is

pub term_sort-returns-in-Var : goal.term_sort-returns-in-Var
term_sort-returns-in-Var g t c = c.variable_sort.ensures ∙ sorts.sort-var g.T.Theory.denotes _ _ c.args.term.now _ c.in-Var.is

pub term_sort-returns-in-Some : goal.term_sort-returns-in-Some
term_sort-returns-in-Some g t c =
    let found = rw (c.in-Some.is) at c.in_ok-found-in-App.ensures in
    c.operator_sort.ensures ∙ sorts.sort-app g.T.Theory.denotes _ _ c.args.term.now _ _ c.in-Some.found.items _ c.in-App.is found c.as_slice.ensures.value

pub term_sort-returns-in-None : goal.term_sort-returns-in-None
term_sort-returns-in-None g t c =
    let found = rw (c.in-None.is) at c.in_ok-found-in-App.ensures in
    sorts.sort-app-none g.T.Theory.denotes _ _ c.args.term.now _ _ c.in-App.is found

pub term_sort-returns-in-Some-found : goal.term_sort-returns-in-Some-found
term_sort-returns-in-Some-found g t c =
    let found = rw (c.in-Some-found.is) at c.in_ok-found-in-Call.ensures in
    c.function_sort.ensures ∙ sorts.sort-call g.T.Theory.denotes _ _ c.args.term.now _ _ c.in-Some-found.found.items _ c.in-Call.is found c.as_slice-in-Some-found.ensures.value

pub term_sort-returns-in-None-found : goal.term_sort-returns-in-None-found
term_sort-returns-in-None-found g t c =
    let found = rw (c.in-None-found.is) at c.in_ok-found-in-Call.ensures in
    sorts.sort-call-none g.T.Theory.denotes _ _ c.args.term.now _ _ c.in-Call.is found

pub term_sort-returns-in_ok-longer-in-Some-found-2 :
    goal.term_sort-returns-in_ok-longer-in-Some-found-2
term_sort-returns-in_ok-longer-in-Some-found-2 g t c =
    let found = rw (c.in-Some-found-2.is) at c.in_ok-found-in-Let.ensures in
    let longer = c.as_slice-in-Some-found-2-2.ensures.value ∙ c.in_ok-longer-in-Some-found-2.ensures ∙ ap (λ rest. c.args.sorts.now ++ rest) c.as_slice-in-Some-found-2.ensures.value in
    ok_then c.term_sort.result c.term_sort.ensures (λ sort is. is ∙ sorts.sort-let g.T.Theory.denotes _ _ c.args.term.now _ _ c.in-Some-found-2.found.items _ _ c.in-Let.is found longer c.deref.ensures)

pub term_sort-returns-in-None-found-2 : goal.term_sort-returns-in-None-found-2
term_sort-returns-in-None-found-2 g t c =
    let found = rw (c.in-None-found-2.is) at c.in_ok-found-in-Let.ensures in
    sorts.sort-let-none g.T.Theory.denotes _ _ c.args.term.now _ _ c.in-Let.is found

pub term_sorts-loop-term-init : goal.term_sorts-loop-term-init
term_sorts-loop-term-init g t c = sorts.sorts_in-nil _ _ _ c.in_ok-found.ensures.items

pub term_sorts-term_sort-requires : goal.term_sorts-term_sort-requires
term_sorts-term_sort-requires g t c κs within =
    let falls = step.all-falls g.T.Theory.denotes c.as_slice-term-items.result.now c.loop-term.term-index c.term-item.result 0 (omega arith) c.term-item.is in
    let same = c.as_slice-term-items.ensures in
    (omega (arith, rw same at falls, c.decreases), within)

pub term_sorts-returns-in-None : goal.term_sorts-returns-in-None
term_sorts-returns-in-None g t c =
    let missing = rw (c.in-None.is) at c.in_ok-sort.ensures in
    let whole = sorts.sorts_in-without g.T.Theory.denotes _ _ c.as_slice-term-items.result.now c.loop-term.term-index c.term-item.result (omega arith) c.term-item.is missing in
    rw (c.as_slice-term-items.ensures) at whole

pub term_sorts-loop-term-preserved : goal.term_sorts-loop-term-preserved
term_sorts-loop-term-preserved g t c =
    let is = rw (c.in-Some.is) at c.in_ok-sort.ensures in
    rw (c.in_ok-push-in-Some.ensures.items) (sorts.sorts_in-next g.T.Theory.denotes _ _ c.as_slice-term-items.result.now c.loop-term.term-index c.term-item.result c.loop-term.found.items c.in-Some.sort (omega arith) c.term-item.is c.loop-term.invariant (sym is))

pub term_sort-returns-in_err-found-in-App : goal.term_sort-returns-in_err-found-in-App
term_sort-returns-in_err-found-in-App g t c = IfOk-from_err c.from_residual.result _ c.from_residual.ensures.0

pub term_sort-returns-in_err-found-in-Call : goal.term_sort-returns-in_err-found-in-Call
term_sort-returns-in_err-found-in-Call g t c = IfOk-from_err c.from_residual-in_err-found-in-Call.result _ c.from_residual-in_err-found-in-Call.ensures.0

pub term_sort-returns-in_err-found-in-Let : goal.term_sort-returns-in_err-found-in-Let
term_sort-returns-in_err-found-in-Let g t c = IfOk-from_err c.from_residual-in_err-found-in-Let.result _ c.from_residual-in_err-found-in-Let.ensures.0

pub term_sort-returns-in_err-longer-in-Some-found-2 : goal.term_sort-returns-in_err-longer-in-Some-found-2
term_sort-returns-in_err-longer-in-Some-found-2 g t c = IfOk-from_err c.from_residual-in_err-longer-in-Some-found-2.result _ c.from_residual-in_err-longer-in-Some-found-2.ensures.0

pub term_sorts-returns-in_err-found : goal.term_sorts-returns-in_err-found
term_sorts-returns-in_err-found g t c = IfOk-from_err c.from_residual.result _ c.from_residual.ensures.0

pub term_sorts-returns-in_err-sort : goal.term_sorts-returns-in_err-sort
term_sorts-returns-in_err-sort g t c = IfOk-from_err c.from_residual-in_err-sort.result _ c.from_residual-in_err-sort.ensures.0

pub term_sorts-returns-in_err-push-in-Some : goal.term_sorts-returns-in_err-push-in-Some
term_sorts-returns-in_err-push-in-Some g t c = IfOk-from_err c.from_residual-in_err-push-in-Some.result _ c.from_residual-in_err-push-in-Some.ensures.0
