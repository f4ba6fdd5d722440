use Rattle.std.proofs.Common.{sym, ◌∙◌, arith}
use Rattle.std.proofs.lemmas.Result.{IfOk-from_err}
use Rattle.sy_linear_known.specs.Operations.{comparison}
use Rattle.sy_linear_known.proofs.Steps.{in_row_end}
use Rattle.sy_linear_known.proofs.comparisons.Comparison.in_row.Goals as goal

pub returns : goal.returns
returns c = sym (in_row_end (comparison c.args.self c.args.path.now) c.loop-left.node c.loop-left.left.now (omega (arith, c.in_default.len_below))) ∙ c.loop-left.invariant.kept

pub returns-in_err-node : goal.returns-in_err-node
returns-in_err-node c = IfOk-from_err c.from_residual.result _ c.from_residual.ensures.0
