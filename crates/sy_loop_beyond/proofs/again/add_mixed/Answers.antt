use Rattle.std.proofs.Common.{List}
use Rattle.std.proofs.lemmas.List.Elements.{All-push}
use Rattle.sy_terms.specs.Denoted.{vals_of}
use Rattle.sy_terms.specs.declared.sort.Value.{Value}
use Rattle.sy_grammar_base.specs.Solving.{AreValues}
use Rattle.sy_loop_beyond.proofs.again.add_mixed.Goals as goal

pub loop-seed-preserved : goal.loop-seed-preserved
loop-seed-preserved g c =
    rw c.in_ok-push.ensures.items
    (All-push (λ (values : List (Value g.row.T-Num.Denot)). AreValues c.args.task.now.problem.now.vars (vals_of g.T.Theory.denotes values)) c.loop-seed.assignments.items c.in-Some.values c.loop-seed.invariant
    (rw c.as_slice.ensures at (rw c.in-Some.is at c.in_ok-found.ensures)))
