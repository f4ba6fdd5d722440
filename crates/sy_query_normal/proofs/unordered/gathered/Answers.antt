use Rattle.std.proofs.Common.{◌≤◌, length, subst, arith}
use Rattle.std.proofs.lemmas.Result.{IfOk-from_err}
use Rattle.sy_terms.specs.Expr.{Apply}
use Rattle.sy_terms.specs.Denoted.{expr_of, exprs_of}
use Rattle.sy_meaning_words.specs.Vectors.{vector}
use Rattle.sy_rewrite_orders.specs.Sums.{IsSameOver}
use Rattle.sy_query_normal.proofs.Terms.{gathered_same}
use Rattle.sy_query_normal.proofs.unordered.gathered.Goals as goal

pub returns : goal.returns
returns c =
    let law = c.is_unordered.ensures c.if-not-is_unordered.false in
    let some : 1 ≤ length c.as_slice-terms.result.now = omega arith in
    let sorted = rw c.in-Some.is at c.in_ok-sort.ensures in
    let puts = rw (c.in-Some-2.is, c.as_slice.ensures.value) at c.in_ok-parts-2.ensures in
    let stands = rw (c.in-Some-3.is, c.as_slice-2.ensures.value) at c.in_ok-term.ensures in
    subst (λ list. IsSameOver c.args.sorts.now (expr_of vector c.in-Some-3.term) (Apply c.args.operator (exprs_of vector list))) c.as_slice-terms.ensures
    (gathered_same vector c.args.sorts.now c.in-Some.sort c.args.operator law (expr_of vector c.in-Some-3.term) c.as_slice-terms.result.now c.in_ok-parts.parts.items c.in-Some-2.parts.items some
    (c.in_ok-has_sort.ensures c.if-not-branch.false) sorted (stands law) (puts law) (c.in_ok-parts.ensures c.in-Some.sort law))

pub returns-in_err-sort : goal.returns-in_err-sort
returns-in_err-sort c = IfOk-from_err c.from_residual.result _ c.from_residual.ensures.0

pub returns-in_err-parts : goal.returns-in_err-parts
returns-in_err-parts c = IfOk-from_err c.from_residual-in_err-parts.result _ c.from_residual-in_err-parts.ensures.0

pub returns-in_err-parts-2 : goal.returns-in_err-parts-2
returns-in_err-parts-2 c = IfOk-from_err c.from_residual-in_err-parts-2.result _ c.from_residual-in_err-parts-2.ensures.0

pub returns-in_err-term : goal.returns-in_err-term
returns-in_err-term c = IfOk-from_err c.from_residual-in_err-term.result _ c.from_residual-in_err-term.ensures.0

pub returns-in_err-has_sort : goal.returns-in_err-has_sort
returns-in_err-has_sort c = IfOk-from_err c.from_residual-in_err-has_sort.result _ c.from_residual-in_err-has_sort.ensures.0
