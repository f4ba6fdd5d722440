use Rattle.sy_rewrite_orders.specs.Sums.{number_at}
use Rattle.sy_rewrite_orders.proofs.Operations.{negated, inverted}
use Rattle.sy_rewrite_orders.proofs.operators.of_one.Goals as goal

pub returns-in_ok-negated-in-BvNeg : goal.returns-in_ok-negated-in-BvNeg
returns-in_ok-negated-in-BvNeg c = λ values x has.
    rw c.in-BvNeg.is (negated values c.args.sum.now c.new-zero.result c.in_ok-negated-in-BvNeg.negated x c.greatest-ones.result c.in_ok-negated-in-BvNeg.ensures.width c.greatest-ones.ensures (c.new-zero.ensures.value (number_at values)) (c.in_ok-negated-in-BvNeg.ensures.value (number_at values)) has)

pub returns-in_ok-inverted-in-BvNot : goal.returns-in_ok-inverted-in-BvNot
returns-in_ok-inverted-in-BvNot c = λ values x has.
    rw c.in-BvNot.is (inverted values c.args.sum.now c.in_ok-most-in-BvNot.most c.in_ok-inverted-in-BvNot.inverted x c.greatest-ones.result c.in_ok-inverted-in-BvNot.ensures.width c.greatest-ones.ensures (c.in_ok-most-in-BvNot.ensures.value (number_at values)) (c.in_ok-inverted-in-BvNot.ensures.value (number_at values)) has)
