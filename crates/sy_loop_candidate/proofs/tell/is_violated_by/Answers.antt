use Rattle.std.proofs.Common.{refl, sym}
use Rattle.std.proofs.lemmas.Option.{slice_get_within, get_or_from_slice_get}
use Rattle.sy_terms.specs.Denoted.{expr_of, vals_of}
use Rattle.sy_grammar_base.specs.Questions.{question_of}
use Rattle.sy_grammar_base.specs.Fits.{IsTruth}
use Rattle.sy_grammar_base.proofs.Problems.{problem_constraints}
use Rattle.sy_loop_truth.proofs.Items.{item_of, has_at}
use Rattle.sy_loop_candidate.specs.Bodies.{bodies_of}
use Rattle.sy_loop_candidate.proofs.Telling.{shown}
use Rattle.sy_loop_candidate.proofs.tell.is_violated_by.Goals as goal

pub tell-requires-clause-term : goal.tell-requires-clause-term
tell-requires-clause-term g c =
    let all = c.args.problem.now.constraints in
    let term = c.in-Some.term.now in
    item_of (IsTruth g.T.Theory.owned g.T.Theory.denotes c.args.problem.now) all all c.args.constraint term refl (slice_get_within all c.args.constraint term c.in-Some.ensures) (sym (get_or_from_slice_get all c.args.constraint term term c.in-Some.ensures))
    (problem_constraints g.T.Theory.owned g.T.Theory.numeric g.T.Theory.denotes c.args.problem.now c.requires.problem)

pub returns : goal.returns
returns g c =
    let all = c.args.problem.now.constraints in
    let term = c.in-Some.term.now in
    λ e. shown (question_of g.T.Theory.denotes c.args.problem.now) c.args.points.now (bodies_of g.T.Theory.denotes c.args.chosen.now) (vals_of g.T.Theory.denotes c.args.values.now) (c.in_ok-assumed.ensures.assumed e)
    (record {
      term = expr_of g.T.Theory.denotes term;
      of = has_at (expr_of g.T.Theory.denotes) all c.args.constraint term (slice_get_within all c.args.constraint term c.in-Some.ensures) (sym (get_or_from_slice_get all c.args.constraint term term c.in-Some.ensures));
      is = rw c.in-False.is at c.in_ok-tell.ensures;
    })
