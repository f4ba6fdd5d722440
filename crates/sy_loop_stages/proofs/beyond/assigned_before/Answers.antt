use Rattle.sy_loop_stages.proofs.Assigned.{honest_assigned, left_assigned}
use Rattle.sy_loop_stages.proofs.beyond.assigned_before.Goals as goal

pub copied_assignments-requires : goal.copied_assignments-requires
copied_assignments-requires g c =
    let limits = c.args._limits.now in
    let holds = rw c.in-Rounds.is at c.requires.holds in
    honest_assigned g.T.Theory.denotes c.args.task.now.problem.now limits.size limits.rounds c.in-Rounds.stored
    holds.honest

pub copied_assignments-requires-in-Points : goal.copied_assignments-requires-in-Points
copied_assignments-requires-in-Points g c =
    let limits = c.args._limits.now in
    let holds = rw c.in-Points.is at c.requires.holds in
    honest_assigned g.T.Theory.denotes c.args.task.now.problem.now limits.size limits.rounds c.in-Points.stored
    holds.honest

pub copied_assignments-requires-in-Bank : goal.copied_assignments-requires-in-Bank
copied_assignments-requires-in-Bank g c =
    let limits = c.args._limits.now in
    let holds = rw c.in-Bank.is at c.requires.holds in
    honest_assigned g.T.Theory.denotes c.args.task.now.problem.now limits.size limits.rounds c.in-Bank.stored
    holds.honest

pub copied_assignments-requires-in-Weight : goal.copied_assignments-requires-in-Weight
copied_assignments-requires-in-Weight g c =
    let limits = c.args._limits.now in
    let holds = rw c.in-Weight.is at c.requires.holds in
    honest_assigned g.T.Theory.denotes c.args.task.now.problem.now limits.size limits.rounds c.in-Weight.stored
    holds.honest

pub copied_assignments-requires-in-Decide : goal.copied_assignments-requires-in-Decide
copied_assignments-requires-in-Decide g c =
    let limits = c.args._limits.now in
    let holds = rw c.in-Decide.is at c.requires.holds in
    honest_assigned g.T.Theory.denotes c.args.task.now.problem.now limits.size limits.rounds c.in-Decide.stored
    holds.honest

pub copied_assignments-requires-in-Range : goal.copied_assignments-requires-in-Range
copied_assignments-requires-in-Range g c =
    left_assigned g.T.Theory.denotes c.args.task.now.problem.now c.args._limits.now c.in-Range.stored c.in-Range.field-1
    (rw c.in-Range.is at c.requires.holds)
