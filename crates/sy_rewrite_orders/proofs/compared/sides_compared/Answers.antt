use Rattle.std.proofs.Common.{arith, ◌≡◌, length}
use Rattle.std.proofs.lemmas.Result.{IfOk-from_err}
use Rattle.sy_rewrite_orders.proofs.Meanings.{two_are}
use Rattle.sy_rewrite_orders.proofs.compared.sides_compared.Goals as goal

pub returns-then-size-le-SMALL : goal.returns-then-size-le-SMALL
returns-then-size-le-SMALL g c =
    let many : length c.args.arguments.now.items.items ≡ 2 = omega (arith, c.len.ensures, c.if-len-ne2.false) in
    rw (two_are g.T.Theory.denotes c.args.arguments.now.items.items c.in-Some-Some.first.now c.in-Some-Some.second.now many c.in-Some-Some.ensures c.in-Some-Some.ensures') (c.in_ok-term.ensures)

pub returns-then-size-le-SMALL-2 : goal.returns-then-size-le-SMALL-2
returns-then-size-le-SMALL-2 g c =
    let many : length c.args.arguments.now.items.items ≡ 2 = omega (arith, c.len.ensures, c.if-len-ne2.false) in
    rw (two_are g.T.Theory.denotes c.args.arguments.now.items.items c.in-Some-Some.first.now c.in-Some-Some.second.now many c.in-Some-Some.ensures c.in-Some-Some.ensures') (c.in_ok-term-2.ensures)

pub returns-in_err-term : goal.returns-in_err-term
returns-in_err-term g c = IfOk-from_err c.from_residual.result _ c.from_residual.ensures.0

pub returns-in_err-term-2 : goal.returns-in_err-term-2
returns-in_err-term-2 g c = IfOk-from_err c.from_residual-in_err-term-2.result _ c.from_residual-in_err-term-2.ensures.0
