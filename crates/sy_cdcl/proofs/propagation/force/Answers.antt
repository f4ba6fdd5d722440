use Rattle.std.proofs.Common.{refl, Some}
use Rattle.std.proofs.lemmas.Result.{IfOk-from_err}
use Rattle.sy_cdcl.specs.Storing.{clauses_in}
use Rattle.sy_cdcl.proofs.Push.{ready_forced, extends_push}
use Rattle.sy_cdcl.proofs.propagation.force.Goals as goal

pub assign-requires-clause-within : goal.assign-requires-clause-within
assign-requires-clause-within c =
    let u = c.requires.unit in
    c.requires.vars c.args.number u.clause c.args.literal.var c.args.literal.positive u.at u.unit.has

pub returns-clause-ready : goal.returns-clause-ready
returns-clause-ready c =
    let u = c.requires.unit in
    ready_forced (clauses_in c.args.store.now) c.args.trail.now c.assign.new.self
    record { literal = c.args.literal; reason = Some c.args.number } c.args.number u.clause
    c.requires.ready c.in_ok-assign.ensures.entries c.assign.ensures.starts c.in_ok-assign.ensures.agrees refl u.at u.unit

pub returns-clause-extends : goal.returns-clause-extends
returns-clause-extends c =
    extends_push c.args.trail.now c.assign.new.self record { literal = c.args.literal; reason = Some c.args.number }
    c.in_ok-assign.ensures.entries c.assign.ensures.starts c.in_ok-assign.ensures.vars c.in_ok-assign.ensures.fewer

pub returns-in_err-assign-clause-ready : goal.returns-in_err-assign-clause-ready
returns-in_err-assign-clause-ready c = IfOk-from_err c.from_residual.result _ c.from_residual.ensures.0

pub returns-in_err-assign-clause-entries : goal.returns-in_err-assign-clause-entries
returns-in_err-assign-clause-entries c = IfOk-from_err c.from_residual.result _ c.from_residual.ensures.0

pub returns-in_err-assign-clause-extends : goal.returns-in_err-assign-clause-extends
returns-in_err-assign-clause-extends c = IfOk-from_err c.from_residual.result _ c.from_residual.ensures.0
