use Rattle.std.proofs.Common.{arith, inr}
use Rattle.std.proofs.lemmas.List.{length-map}
use Rattle.sy_terms.specs.Denoted.{expr_of, vals_of}
use Rattle.sy_grammar_base.specs.Questions.{question_of}
use Rattle.sy_loop_candidate.specs.Bodies.{bodies_of}
use Rattle.sy_loop_candidate.specs.Refuting.{IsUnrefuted}
use Rattle.sy_loop_candidate.proofs.Places.{all_both, found_either}
use Rattle.sy_loop_candidate.proofs.Telling.{shown}
use Rattle.sy_loop_candidate.proofs.tell.violated_constraint.Goals as goal

pub returns-in-Some : goal.returns-in-Some
returns-in-Some g c =
    shown (question_of g.T.Theory.denotes c.args.problem.now) c.args.points.now (bodies_of g.T.Theory.denotes c.args.chosen.now) (vals_of g.T.Theory.denotes c.args.values.now)
    (c.in_ok-are_assumed.ensures.assumed c.if-not-branch.false) (rw c.in-Some.is at c.in_ok-place.ensures)

pub returns : goal.returns
returns g c =
    let question = question_of g.T.Theory.denotes c.args.problem.now in
    let bodies = bodies_of g.T.Theory.denotes c.args.chosen.now in
    let values = vals_of g.T.Theory.denotes c.args.values.now in
    let after = rw c.in_default.is at c.in_ok-place.ensures in
    found_either c.in_ok-found.found
    (λ before. inr (all_both (IsUnrefuted question c.args.points.now bodies values) question.constraints _ _ (omega (arith, c.len-count.ensures, length-map c.args.problem.now.constraints (expr_of g.T.Theory.denotes))) after before))
    (λ place one. shown question c.args.points.now bodies values (c.in_ok-are_assumed.ensures.assumed c.if-not-branch.false) one)
    c.in_ok-found.ensures
