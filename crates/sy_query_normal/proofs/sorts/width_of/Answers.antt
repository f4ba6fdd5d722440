use Rattle.std.proofs.Common.{◌∙◌}
use Rattle.std.proofs.lemmas.Result.{IfOk-from_err}
use Rattle.sy_query_normal.proofs.sorts.width_of.Goals as goal

pub returns : goal.returns
returns c = λ values are. (rw c.in-Some.is at c.in_ok-sort.ensures) values are ∙ c.in-Bits.is

pub returns-in_err-sort : goal.returns-in_err-sort
returns-in_err-sort c = IfOk-from_err c.from_residual.result _ c.from_residual.ensures.0
