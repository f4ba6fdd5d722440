use Rattle.sy_rewrite_orders.specs.Sums.{number_at}
use Rattle.sy_rewrite_orders.proofs.Operations.{multiplied}
use Rattle.sy_rewrite_orders.proofs.operators.multiplied.Goals as goal

pub returns : goal.returns
returns c = λ values x y has also.
    multiplied values c.args.left.now c.args.right.now c.in_ok-product.product x y c.requires.same c.in_ok-product.ensures.width (c.in_ok-product.ensures.value (number_at values)) has also
