use Rattle.std.proofs.Common.{◌≡◌, arith}
use Rattle.sy_rewrite_orders.specs.Sums.{number_at}
use Rattle.sy_rewrite_orders.proofs.Operations.{compared}
use Rattle.sy_rewrite_orders.proofs.comparisons.compared.Goals as goal

pub returns : goal.returns
returns c = λ values x y has also.
    let same : c.args.right.now.width ≡ c.args.left.now.width = omega arith in
    compared values c.args.left.now c.args.right.now c.in_ok-difference.difference x y c.greatest-ones.result c.in-Some.number same c.greatest-ones.ensures (c.in_ok-difference.ensures.value (number_at values)) (c.in-Some.ensures (number_at values)) (omega arith) has also
