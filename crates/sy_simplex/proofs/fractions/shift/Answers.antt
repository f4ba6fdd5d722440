use Rattle.sy_simplex.proofs.Results.{shift_is}
use Rattle.sy_simplex.proofs.fractions.shift.Goals as goal

pub returns-in-Some : goal.returns-in-Some
returns-in-Some c = shift_is c.args.bound.now c.args.value.now c.args.coefficient.now c.in-Some.gap _ (record { fits = c.in-Some.ensures.0; exact = c.in-Some.ensures.1 }) c.div.ensures
