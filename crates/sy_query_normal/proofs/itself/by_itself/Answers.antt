use Rattle.std.proofs.Common.{◌≡◌, ◌-◌, arith}
use Rattle.std.proofs.lemmas.Result.{IfOk-from_err}
use Rattle.sy_terms.specs.Denoted.{expr_of, exprs_of}
use Rattle.sy_meaning_words.specs.Vectors.{vector}
use Rattle.sy_query_normal.proofs.Twice.{zeros-same, sign-same}
use Rattle.sy_query_normal.proofs.itself.by_itself.Goals as goal

pub returns-then-leaves_nothing : goal.returns-then-leaves_nothing
returns-then-leaves_nothing c =
    zeros-same vector c.args.sorts.now c.args.operator c.in-Some-2.width c.constant.result (expr_of vector c.in-Some.term.now) (exprs_of vector c.args.arguments.now.items.items)
    c.in-Some.ensures (rw c.in-Some-2.is at c.in_ok-width.ensures) (c.leaves_nothing.ensures c.if-leaves_nothing.true) c.constant.ensures

pub returns : goal.returns
returns c =
    let less : c.saturating_sub.result ≡ c.in-Some-2.width - 1 = omega (arith, c.from.ensures) in
    rw c.in-BvAshr.is
    (sign-same c.args.sorts.now c.in-Some-2.width c.saturating_sub.result (expr_of vector c.in_ok-shifted.shifted) (expr_of vector c.in-Some.term.now) (expr_of vector c.in-Some-constant.places) (exprs_of vector c.args.arguments.now.items.items)
    c.in-Some.ensures (rw c.in-Some-2.is at c.in_ok-width.ensures) less c.in-Some-constant.ensures c.in_ok-shifted.ensures)

pub returns-in_err-width : goal.returns-in_err-width
returns-in_err-width c = IfOk-from_err c.from_residual.result _ c.from_residual.ensures.0

pub returns-in_err-shifted : goal.returns-in_err-shifted
returns-in_err-shifted c = IfOk-from_err c.from_residual-in_err-shifted.result _ c.from_residual-in_err-shifted.ensures.0
