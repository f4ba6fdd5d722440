use Rattle.std.proofs.Common.{arith, List}
use Rattle.sy_terms.specs.Denoted.{vals_of}
use Rattle.sy_terms.specs.declared.sort.Value.{Value}
use Rattle.sy_grammar_base.specs.Solving.{AreValues}
use Rattle.sy_loop_bodies.proofs.Copied.{item_at}
use Rattle.sy_loop_bodies.proofs.tuples.wishes_of.Goals as goal

pub spaced_wishes-requires-clause-values : goal.spaced_wishes-requires-clause-values
spaced_wishes-requires-clause-values g c =
    rw c.as_slice.ensures
    (item_at (λ (values : List (Value g.row.T-Num.Denot)). AreValues c.args.task.now.problem.now.vars (vals_of g.T.Theory.denotes values)) c.args.assignments.now _ c.index-assignments-place.result
    c.index-assignments-place.is (omega arith) c.requires.assigned)
