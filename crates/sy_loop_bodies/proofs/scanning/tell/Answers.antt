use Rattle.std.proofs.Common.{List, refl}
use Rattle.sy_terms.specs.Denoted.{vals_of}
use Rattle.sy_terms.specs.declared.sort.Value.{Value}
use Rattle.sy_grammar_base.specs.Solving.{AreValues}
use Rattle.sy_loop_truth.proofs.Items.{item_of}
use Rattle.sy_loop_bodies.proofs.scanning.tell.Goals as goal

pub tell_at-requires-clause-values : goal.tell_at-requires-clause-values
tell_at-requires-clause-values g c =
    rw c.as_slice.ensures
    (item_of (λ (values : List (Value g.row.T-Num.Denot)). AreValues c.args.task.now.problem.now.vars (vals_of g.T.Theory.denotes values)) c.args.assignments.now c.args.assignments.now c.loop-place.place c.index-assignments-place.result refl
    c.loop-place-test.true c.index-assignments-place.is c.requires.assigned)
