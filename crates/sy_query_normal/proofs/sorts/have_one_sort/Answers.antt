use Rattle.std.proofs.Common.{sym, ◌∙◌}
use Rattle.std.proofs.lemmas.Result.{IfOk-from_err}
use Rattle.sy_query_normal.proofs.sorts.have_one_sort.Goals as goal

pub returns : goal.returns
returns c = λ does values are.
    c.in_ok-yes.ensures does values are ∙ sym ((rw c.in-Some.is at c.in_ok-sort.ensures) values are)

pub returns-in_err-sort : goal.returns-in_err-sort
returns-in_err-sort c = IfOk-from_err c.from_residual.result _ c.from_residual.ensures.0

pub returns-in_err-yes : goal.returns-in_err-yes
returns-in_err-yes c = IfOk-from_err c.from_residual-in_err-yes.result _ c.from_residual-in_err-yes.ensures.0
