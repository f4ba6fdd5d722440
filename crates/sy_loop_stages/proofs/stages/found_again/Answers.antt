use Rattle.std.proofs.Common.{inr}
use Rattle.sy_loop_stages.proofs.stages.found_again.Goals as goal

pub returns-in-Some-found : goal.returns-in-Some-found
returns-in-Some-found g c =
    let found = rw (c.in-Some-found.is, c.max.ensures) at c.in_ok-found.ensures in
    (found.0, inr (record { stopped = c.requires.stopped; within = found.1 }))
