use Rattle.sy_forms_items.specs.declared.fault.ReadEnd.TheVariants as ends
use Rattle.sy_scope.proofs.Exits.{fails, silent}
use Rattle.sy_scope.proofs.constraints.assume.Goals as goal

pub returns-in_err-phrase-clause-logic : goal.returns-in_err-phrase-clause-logic
returns-in_err-phrase-clause-logic g c = silent _ c.from_residual.result _ c.from_residual.ensures.1

pub returns-in_err-noted-clause-step : goal.returns-in_err-noted-clause-step
returns-in_err-noted-clause-step g c = fails _ c.from_residual-in_err-noted.result ends.Want _ c.from_residual-in_err-noted.ensures.1 tt

pub returns-in_err-noted-clause-logic : goal.returns-in_err-noted-clause-logic
returns-in_err-noted-clause-logic g c = silent _ c.from_residual-in_err-noted.result _ c.from_residual-in_err-noted.ensures.1

pub returns-in_err-kept-clause-step : goal.returns-in_err-kept-clause-step
returns-in_err-kept-clause-step g c = fails _ c.from_residual-in_err-kept.result ends.Want _ c.from_residual-in_err-kept.ensures.1 tt

pub returns-in_err-kept-clause-logic : goal.returns-in_err-kept-clause-logic
returns-in_err-kept-clause-logic g c = silent _ c.from_residual-in_err-kept.result _ c.from_residual-in_err-kept.ensures.1
