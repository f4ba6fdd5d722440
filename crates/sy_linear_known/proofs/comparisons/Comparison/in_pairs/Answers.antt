use Rattle.std.proofs.lemmas.Result.{IfOk-from_err}
use Rattle.sy_linear_known.proofs.comparisons.Comparison.in_pairs.Goals as goal

pub returns-in_err-node : goal.returns-in_err-node
returns-in_err-node c = IfOk-from_err c.from_residual.result _ c.from_residual.ensures.0
