use Rattle.std.proofs.Common.{refl}
use Rattle.std.proofs.lemmas.Result.{IfOk-from_err}
use Rattle.sy_terms.specs.Denoted.{expr_of-App}
use Rattle.sy_query_normal.proofs.Folds.{application_is}
use Rattle.sy_query_normal.proofs.chains.paired_application.Goals as goal

pub returns-in-Some : goal.returns-in-Some
returns-in-Some c = rw (c.in-Some.is, c.as_slice.ensures) at c.in_ok-found.ensures

pub returns-in-None : goal.returns-in-None
returns-in-None c = application_is _ _ _ (rw expr_of-App refl)

pub returns-in_err-found : goal.returns-in_err-found
returns-in_err-found c = IfOk-from_err c.from_residual.result _ c.from_residual.ensures.0
