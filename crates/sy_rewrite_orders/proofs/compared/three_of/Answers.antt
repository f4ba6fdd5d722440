use Rattle.std.proofs.Common.{arith, ◌≡◌, length}
use Rattle.sy_rewrite_orders.proofs.Meanings.{three_are}
use Rattle.sy_rewrite_orders.proofs.compared.three_of.Goals as goal

pub returns : goal.returns
returns g c =
    let many : length c.args.terms.now.items.items ≡ 3 = omega (arith, c.len.ensures, c.if-len-ne3.false) in
    three_are g.T.Theory.denotes c.args.terms.now.items.items c.in_ok-test.test.now c.in_ok-there.there.now c.in_ok-here.here.now many c.in_ok-test.ensures c.in_ok-there.ensures c.in_ok-here.ensures
