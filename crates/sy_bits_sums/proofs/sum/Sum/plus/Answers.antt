use Rattle.sy_bits_sums.proofs.Adding.{number-value, two-sums}
use Rattle.sy_bits_sums.proofs.sum.Sum.plus.Goals as goal

pub returns-clause-value : goal.returns-clause-value
returns-clause-value c = λ values. two-sums c.args.width _ _ _ _ _ _ _ _ _ c.args.multiple c.new-sum.ensures.width c.in_ok-add_multiple.ensures.width (c.in_ok-add_multiple.ensures.value values) (c.in_ok-add_multiple-2.ensures.value values) (c.new-sum.ensures.value values)
    (number-value values c.number-one.result 1 c.number-one.ensures.coefficient c.number-one.ensures.factors)
    (number-value values c.number-by.result c.args.multiple c.number-by.ensures.coefficient c.number-by.ensures.factors)
