use Rattle.sy_bits_sums.proofs.Agreeing.{less-multiple}
use Rattle.sy_bits_sums.proofs.sum.Sum.minus.Goals as goal

pub returns-clause-value : goal.returns-clause-value
returns-clause-value c = λ values. less-multiple c.args.width _ _ _ c.greatest.result c.greatest.ensures (c.in_ok-difference.ensures.value values)
