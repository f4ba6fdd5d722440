use Rattle.std.proofs.Common.{◌∙◌}
use Rattle.sy_linear_known.proofs.Equality.{pointwise_is}
use Rattle.sy_linear_known.proofs.coefficients.are_same.Goals as goal

pub returns : goal.returns
returns c = c.eq.ensures ∙ pointwise_is c.args.cs.now c.args.ds.now
