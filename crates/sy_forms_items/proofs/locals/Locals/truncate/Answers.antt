use Rattle.std.proofs.lemmas.Result.{IfOk-from_err}
use Rattle.sy_forms_items.proofs.locals.Locals.truncate.Goals as goal

pub returns-in_err-pop : goal.returns-in_err-pop
returns-in_err-pop c = IfOk-from_err c.from_residual.result _ c.from_residual.ensures.0
