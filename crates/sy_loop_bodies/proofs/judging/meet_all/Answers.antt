use Rattle.std.proofs.Common.{arith, List}
use Rattle.sy_terms.specs.Denoted.{vals_of}
use Rattle.sy_terms.specs.declared.sort.Value.{Value}
use Rattle.sy_grammar_base.specs.Solving.{AreValues}
use Rattle.sy_loop_bodies.proofs.Copied.{item_at}
use Rattle.sy_loop_bodies.proofs.judging.meet_all.Goals as goal

pub meet-requires-clause-values : goal.meet-requires-clause-values
meet-requires-clause-values g c =
    rw c.as_slice.ensures
    (item_at (λ (values : List (Value g.row.T-Num.Denot)). AreValues c.args.problem.now.vars (vals_of g.T.Theory.denotes values)) c.args.assignments.now _ c.index-assignments-place.result
    c.index-assignments-place.is (omega arith) c.requires.assignments)
