use Rattle.sy_query_base.specs.Asked.{query_of}
use Rattle.sy_loop_bodies.proofs.Small.{within_fit}
use Rattle.sy_loop_bodies.proofs.Verdicts.{verdict_on_bodies}
use Rattle.sy_loop_bodies.proofs.body.verdict_on.Goals as goal

pub build-requires-clause-bodies : goal.build-requires-clause-bodies
build-requires-clause-bodies g c =
    within_fit g.T.Theory.owned g.T.Theory.numeric g.T.Theory.denotes c.args.task.now.problem.now c.args.task.now.bound c.args.bodies.now c.requires.problem g.met.T.Theory.negation c.requires.within

pub returns : goal.returns
returns g c =
    let query = query_of g.T.Theory.denotes c.in-Ok.query in
    verdict_on_bodies g.T.Theory g.D.Decide c.args.task.now.problem.now c.args.task.now.limits.now c.args.task.now.bound c.args.bodies.now query c.in_ok-verdict.verdict
    (λ proof accepts. g.met.D.Decide.sound query proof c.in-Ok.ensures.fits accepts) c.in-Ok.ensures.query c.in-Ok.ensures.violations c.requires.within c.in_ok-verdict.ensures
