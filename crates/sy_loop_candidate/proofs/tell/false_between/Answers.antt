use Rattle.std.proofs.Common.{arith, inl, inr, refl}
use Rattle.std.proofs.lemmas.List.Elements.{AllWithin-none, AllWithin-upto}
use Rattle.sy_terms.specs.Denoted.{expr_of, vals_of}
use Rattle.sy_grammar_base.specs.Questions.{question_of}
use Rattle.sy_grammar_base.specs.Fits.{IsTruth}
use Rattle.sy_grammar_base.proofs.Problems.{problem_constraints}
use Rattle.sy_loop_truth.proofs.Items.{item_of, has_at}
use Rattle.sy_loop_candidate.specs.Bodies.{bodies_of}
use Rattle.sy_loop_candidate.specs.Refuting.{IsUnrefuted}
use Rattle.sy_loop_candidate.proofs.Places.{within_more}
use Rattle.sy_loop_candidate.proofs.tell.false_between.Goals.{in-True, in-Nothing}
use Rattle.sy_loop_candidate.proofs.tell.false_between.Goals as goal

pub loop-place-init : goal.loop-place-init
loop-place-init g c =
    AllWithin-none (IsUnrefuted (question_of g.T.Theory.denotes c.args.problem.now) c.args.points.now (bodies_of g.T.Theory.denotes c.args.chosen.now) (vals_of g.T.Theory.denotes c.args.values.now))
    (question_of g.T.Theory.denotes c.args.problem.now).constraints c.args.from

pub tell-requires-clause-term : goal.tell-requires-clause-term
tell-requires-clause-term g c =
    item_of (IsTruth g.T.Theory.owned g.T.Theory.denotes c.args.problem.now) c.args.problem.now.constraints c.args.problem.now.constraints c.loop-place.place c.index-constraints-place.result refl
    (omega (arith, c.loop-place-test.true, c.requires.within)) (rw c.as_slice-constraints.ensures at c.index-constraints-place.is)
    (problem_constraints g.T.Theory.owned g.T.Theory.numeric g.T.Theory.denotes c.args.problem.now c.requires.problem)

pub returns-in-False : goal.returns-in-False
returns-in-False g c = record {
  term = expr_of g.T.Theory.denotes c.index-constraints-place.result;
  of = has_at (expr_of g.T.Theory.denotes) c.args.problem.now.constraints c.loop-place.place c.index-constraints-place.result (omega (arith, c.loop-place-test.true, c.requires.within)) (rw c.as_slice-constraints.ensures at c.index-constraints-place.is);
  is = rw c.in-False.is at c.in_ok-tell.ensures;
}

pub loop-place-preserved : goal.loop-place-preserved
loop-place-preserved g c =
    within_more (IsUnrefuted (question_of g.T.Theory.denotes c.args.problem.now) c.args.points.now (bodies_of g.T.Theory.denotes c.args.chosen.now) (vals_of g.T.Theory.denotes c.args.values.now))
    (expr_of g.T.Theory.denotes) c.args.problem.now.constraints c.args.from c.loop-place.place c.index-constraints-place.result
    (omega (arith, c.loop-place-test.true, c.requires.within)) (rw c.as_slice-constraints.ensures at c.index-constraints-place.is) c.loop-place.invariant
    (elim c.match-branch-2.branch [ in-True w ↦ inl (rw w.in-True.is at c.in_ok-tell.ensures) | in-Nothing w ↦ inr (rw w.in-Nothing.is at c.in_ok-tell.ensures) ])

pub returns : goal.returns
returns g c =
    AllWithin-upto (IsUnrefuted (question_of g.T.Theory.denotes c.args.problem.now) c.args.points.now (bodies_of g.T.Theory.denotes c.args.chosen.now) (vals_of g.T.Theory.denotes c.args.values.now))
    (question_of g.T.Theory.denotes c.args.problem.now).constraints c.args.from c.loop-place.place c.args.to c.loop-place-test.false c.loop-place.invariant
