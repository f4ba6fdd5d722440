use Rattle.std.proofs.lemmas.Result.{IfOk-from_err}
use Rattle.sy_inv.proofs.starts.Goals as goal

pub returns : goal.returns
returns g c =
    let made = c.binary.ensures in
    rw (c.in_ok-state.ensures, c.in_ok-invariant.ensures) at made

pub returns-in_err-state : goal.returns-in_err-state
returns-in_err-state g c = IfOk-from_err c.from_residual.result _ c.from_residual.ensures.0

pub returns-in_err-invariant : goal.returns-in_err-invariant
returns-in_err-invariant g c = IfOk-from_err c.from_residual-in_err-invariant.result _ c.from_residual-in_err-invariant.ensures.0
