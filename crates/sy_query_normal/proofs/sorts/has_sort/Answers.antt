use Rattle.std.proofs.Common.{sym, ◌∙◌}
use Rattle.std.proofs.lemmas.Result.{IfOk-from_err}
use Rattle.sy_terms_operators.proofs.Equations.{same_sort_is}
use Rattle.sy_query_normal.proofs.sorts.has_sort.Goals as goal

pub returns : goal.returns
returns c = λ does values are.
    (rw c.in-Some.is at c.in_ok-found.ensures) values are ∙ same_sort_is c.in-Some.found c.args.sort (sym c.same_sort.ensures ∙ does)

pub returns-in_err-found : goal.returns-in_err-found
returns-in_err-found c = IfOk-from_err c.from_residual.result _ c.from_residual.ensures.0
