use Rattle.std.proofs.Common.{List}
use Rattle.std.proofs.lemmas.List.Elements.{All-push}
use Rattle.sy_terms.specs.Denoted.{vals_of}
use Rattle.sy_terms.specs.declared.sort.Value.{Value}
use Rattle.sy_grammar_base.specs.Solving.{AreValues}
use Rattle.sy_loop_bodies.proofs.assignments.copied_assignments.Goals as goal

pub loop-place-preserved : goal.loop-place-preserved
loop-place-preserved g c =
    rw c.in_ok-push.ensures.items
    (All-push (λ (values : List (Value g.row.T-Num.Denot)). AreValues c.args._problem.now.vars (vals_of g.T.Theory.denotes values)) c.loop-place.copies.items c.in_ok-copy.copy c.loop-place.invariant
    (rw (c.in_ok-copy.ensures, c.as_slice.ensures) (c.requires c.loop-place.place (c.in-Some.assignment.now, c.in-Some.field-0-1.now) c.in-Some.ensures)))
