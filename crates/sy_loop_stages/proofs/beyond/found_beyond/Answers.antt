use Rattle.std.proofs.Common.{Some}
use Rattle.sy_loop_stages.proofs.Staged.{solves_in}
use Rattle.sy_loop_stages.proofs.beyond.found_beyond.Goals as goal

pub found_after_cause-requires-clause-holds : goal.found_after_cause-requires-clause-holds
found_after_cause-requires-clause-holds g c = rw c.in-Fail.is at c.requires.right

pub returns : goal.returns
returns g c =
    solves_in g.T.Theory g.D.Decide c.args.problem.now c.args.stage.now.limits c.in-Fail.cause c.in_ok-found.found (rw c.in-Fail.is at c.requires.right) (rw c.max.ensures at c.in_ok-found.ensures)

pub returns-in-Some : goal.returns-in-Some
returns-in-Some g c =
    solves_in g.T.Theory g.D.Decide c.args.problem.now c.args.stage.now.limits c.in-Fail.cause (Some c.in-Some.again) (rw c.in-Fail.is at c.requires.right) (rw (c.in-Some.is, c.max.ensures) at c.in_ok-again.ensures)
