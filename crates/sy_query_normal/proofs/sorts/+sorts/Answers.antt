use Rattle.std.proofs.Common.{◌≡◌, [], arith, take, map, subst, sym, ap, ◌∙◌}
use Rattle.std.proofs.lemmas.List.{take_all, take_more}
use Rattle.std.proofs.lemmas.Result.{IfOk-from_err}
use Rattle.sy_terms.specs.Sorts.{sort_of}
use Rattle.sy_terms.specs.Theories.{sort_of_value}
use Rattle.sy_terms.specs.Denoted.{expr_of, exprs_of, val_of, expr_of-Const, expr_of-Var}
use Rattle.sy_terms.specs.Meaning.{meanings}
use Rattle.sy_terms_operators.proofs.Steps.{app-is}
use Rattle.sy_meaning_words.specs.Vectors.{vector}
use Rattle.sy_query_normal.proofs.Terms.{constant_sorted, variable_sorted, application_sorted, operator_sorted, next_sorted}
use Rattle.sy_query_normal.proofs.Truths.{says_truth}
use Rattle.sy_query_normal.proofs.sorts.+sorts.Goals as goal

pub sort_of-returns-in-Const : goal.sort_of-returns-in-Const
sort_of-returns-in-Const t c =
    constant_sorted c.args.sorts.now c.constant_sort.result (expr_of vector c.args.term.now) (val_of vector c.in-Const.value) (rw c.in-Const.is (expr_of-Const _ vector c.in-Const.value)) c.constant_sort.ensures

pub sort_of-returns-in-Var : goal.sort_of-returns-in-Var
sort_of-returns-in-Var t c =
    variable_sorted c.args.sorts.now c.variable_sort.result (expr_of vector c.args.term.now) c.in-Var.position (rw c.in-Var.is (expr_of-Var _ vector c.in-Var.position)) c.variable_sort.ensures

pub sort_of-returns-in_ok-found-in-App : goal.sort_of-returns-in_ok-found-in-App
sort_of-returns-in_ok-found-in-App t c =
    application_sorted c.args.sorts.now c.in_ok-found-in-App.found (expr_of vector c.args.term.now) c.in-App.operator (exprs_of vector c.in-App.arguments.items.items) (app-is vector c.args.term.now c.in-App.operator c.in-App.arguments c.in-App.is) (rw c.as_slice.ensures at c.in_ok-found-in-App.ensures)

pub application_sort-loop-term-init : goal.application_sort-loop-term-init
unfolding meanings
application_sort-loop-term-init t c = λ values sorted. sym c.in_ok-found.ensures.items

pub application_sort-loop-term-preserved : goal.application_sort-loop-term-preserved
application_sort-loop-term-preserved t c = λ values sorted.
    let more = take_more c.args.terms.now c.loop-term.term-index c.term-item.result (grind arith) in
    rw (more, ← c.term-item.is, c.in_ok-push.ensures.items)
    (next_sorted vector values (take c.loop-term.term-index c.args.terms.now) c.term-item.result c.loop-term.found.items c.in-Some.sort (c.loop-term.invariant values sorted) ((rw c.in-Some.is at c.in_ok-sort.ensures) values sorted))

pub application_sort-returns-in-Is : goal.application_sort-returns-in-Is
application_sort-returns-in-Is t c = λ values sorted.
    let whole = take_all c.loop-term.term-index c.args.terms.now (grind arith) in
    operator_sorted c.args.operator c.in-Is.sort c.loop-term.found.items (meanings [] [] values (exprs_of vector c.args.terms.now))
    (ap (sort_of c.args.operator) (sym c.as_slice.ensures.value) ∙ sym c.operator_sort.ensures ∙ c.in-Is.is)
    (subst (λ list. map sort_of_value (meanings [] [] values (exprs_of vector list)) ≡ c.loop-term.found.items) whole (c.loop-term.invariant values sorted))

pub application_sort-returns-then-gives_truth : goal.application_sort-returns-then-gives_truth
application_sort-returns-then-gives_truth t c = λ values sorted.
    says_truth c.args.operator (meanings [] [] values (exprs_of vector c.args.terms.now)) (sym c.gives_truth.ensures ∙ c.if-gives_truth.true)

pub sort_of-returns-in_err-found-in-App : goal.sort_of-returns-in_err-found-in-App
sort_of-returns-in_err-found-in-App t c = IfOk-from_err c.from_residual.result _ c.from_residual.ensures.0

pub application_sort-returns-in_err-found : goal.application_sort-returns-in_err-found
application_sort-returns-in_err-found t c = IfOk-from_err c.from_residual.result _ c.from_residual.ensures.0

pub application_sort-returns-in_err-sort : goal.application_sort-returns-in_err-sort
application_sort-returns-in_err-sort t c = IfOk-from_err c.from_residual-in_err-sort.result _ c.from_residual-in_err-sort.ensures.0

pub application_sort-returns-in_err-push : goal.application_sort-returns-in_err-push
application_sort-returns-in_err-push t c = IfOk-from_err c.from_residual-in_err-push.result _ c.from_residual-in_err-push.ensures.0
