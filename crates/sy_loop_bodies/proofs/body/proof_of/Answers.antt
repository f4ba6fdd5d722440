use Rattle.std.proofs.lemmas.Result.{IfOk-from_err}
use Rattle.sy_loop_bodies.proofs.Small.{within_fit}
use Rattle.sy_loop_bodies.proofs.body.proof_of.Goals as goal

pub meet_all-requires-clause-bodies : goal.meet_all-requires-clause-bodies
meet_all-requires-clause-bodies g c =
    within_fit g.T.Theory.owned g.T.Theory.numeric g.T.Theory.denotes c.args.task.now.problem.now c.args.task.now.bound c.args.bodies.now c.requires.problem g.met.T.Theory.negation c.requires.within

pub returns-in-Some-Never-clause-found : goal.returns-in-Some-Never-clause-found
returns-in-Some-Never-clause-found g c = rw (c.in-Some-Never.is, c.in-Some-Never.field-0-is) at c.in_ok-found.ensures

pub returns-in_err-meet_all-clause-assigned : goal.returns-in_err-meet_all-clause-assigned
returns-in_err-meet_all-clause-assigned g c = IfOk-from_err c.from_residual.result _ c.from_residual.ensures.0

pub returns-in_err-meet_all-clause-found : goal.returns-in_err-meet_all-clause-found
returns-in_err-meet_all-clause-found g c = IfOk-from_err c.from_residual.result _ c.from_residual.ensures.0

pub returns-in_err-found-clause-assigned : goal.returns-in_err-found-clause-assigned
returns-in_err-found-clause-assigned g c = IfOk-from_err c.from_residual-in_err-found.result _ c.from_residual-in_err-found.ensures.0

pub returns-in_err-found-clause-found : goal.returns-in_err-found-clause-found
returns-in_err-found-clause-found g c = IfOk-from_err c.from_residual-in_err-found.result _ c.from_residual-in_err-found.ensures.0

pub returns-in_err-push-in-Some-Model-clause-assigned : goal.returns-in_err-push-in-Some-Model-clause-assigned
returns-in_err-push-in-Some-Model-clause-assigned g c = IfOk-from_err c.from_residual-in_err-push-in-Some-Model.result _ c.from_residual-in_err-push-in-Some-Model.ensures.0

pub returns-in_err-push-in-Some-Model-clause-found : goal.returns-in_err-push-in-Some-Model-clause-found
returns-in_err-push-in-Some-Model-clause-found g c = IfOk-from_err c.from_residual-in_err-push-in-Some-Model.result _ c.from_residual-in_err-push-in-Some-Model.ensures.0
