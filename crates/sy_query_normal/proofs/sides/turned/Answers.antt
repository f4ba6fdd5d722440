use Rattle.std.proofs.Common.{◌≡◌, length, arith}
use Rattle.std.proofs.lemmas.Result.{IfOk-from_err}
use Rattle.sy_terms.specs.Denoted.{expr_of}
use Rattle.sy_meaning_words.specs.Vectors.{vector}
use Rattle.sy_query_normal.proofs.Pairs.{turned_same}
use Rattle.sy_query_normal.proofs.sides.turned.Goals as goal

pub returns : goal.returns
returns c =
    let many : length c.args.arguments.now.items.items ≡ 2 = omega (arith, c.len.ensures) in
    turned_same vector c.args.sorts.now c.args.operator c.in-Some.other (expr_of vector c.in_ok-term.term) c.args.arguments.now.items.items c.in-Some-Some.left.now c.in-Some-Some.right.now many c.in-Some-Some.ensures c.in-Some-Some.ensures'
    c.in_ok-term.ensures (c.in_ok-have_one_sort.ensures c.if-not-branch.false) c.in-Some.ensures

pub returns-in_err-have_one_sort : goal.returns-in_err-have_one_sort
returns-in_err-have_one_sort c = IfOk-from_err c.from_residual.result _ c.from_residual.ensures.0

pub returns-in_err-term : goal.returns-in_err-term
returns-in_err-term c = IfOk-from_err c.from_residual-in_err-term.result _ c.from_residual-in_err-term.ensures.0
