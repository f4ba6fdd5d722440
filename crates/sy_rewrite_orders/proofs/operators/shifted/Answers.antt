use Rattle.std.proofs.Common.{arith}
use Rattle.sy_rewrite_orders.specs.Sums.{number_at}
use Rattle.sy_rewrite_orders.proofs.Operations.{shifted}
use Rattle.sy_rewrite_orders.proofs.operators.shifted.Goals as goal

pub returns : goal.returns
returns c = λ values x y has also.
    shifted values c.args.left.now c.args.right.now c.new-zero.result c.in_ok-sum.sum x y c.in-Some.by c.power.result c.requires.same c.in_ok-sum.ensures.width (c.in-Some.ensures (number_at values)) (omega arith) c.power.ensures (c.new-zero.ensures.value (number_at values)) (c.in_ok-sum.ensures.value (number_at values)) has also
