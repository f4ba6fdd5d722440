use Rattle.sy_clauses.proofs.MarksLaws.{marked_step}
use Rattle.sy_clauses.proofs.marking.mark_named.Goals as goal

pub loop-step-preserved : goal.loop-step-preserved
loop-step-preserved c =
    marked_step c.args.formula c.args.place c.args.line.now.first c.args.line.now.steps c.loop-step.step-index _
    c.args.needed.now c.loop-step.needed c.mark-in-loop-step.new.needed
    (rw c.as_slice-step-items.ensures at c.loop-step-test.true)
    c.loop-step.invariant (rw c.as_slice-step-items.ensures at c.mark-in-loop-step.ensures)
