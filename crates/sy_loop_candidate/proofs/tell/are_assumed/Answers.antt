use Rattle.std.proofs.Common.{sym, inl, inr}
use mathlib.Core.Bool.{true≢false}
use Rattle.sy_terms.specs.Denoted.{expr_of, vals_of}
use Rattle.sy_grammar_base.specs.Questions.{question_of}
use Rattle.sy_grammar_base.specs.Solving.{IsTrueUnder}
use Rattle.sy_grammar_base.specs.Fits.{IsTruth}
use Rattle.sy_grammar_base.proofs.Problems.{problem_assumptions}
use Rattle.sy_loop_truth.proofs.Items.{item_of, all_more, all_done, has_at}
use Rattle.sy_loop_candidate.specs.Bodies.{bodies_of}
use Rattle.sy_loop_candidate.proofs.tell.are_assumed.Goals as goal

pub returns-in-False : goal.returns-in-False
returns-in-False g c =
    let of = has_at (expr_of g.T.Theory.denotes) c.as_slice-term-items.result.now c.loop-term.term-index c.term-item.result c.loop-term-test.true c.term-item.is in
    let told = rw c.in-False.is at c.in_ok-tell.ensures in
    record {
      assumed = λ e. absurd (true≢false (sym e));
      unassured = λ _. record { term = expr_of g.T.Theory.denotes c.term-item.result; of = rw c.as_slice-term-items.ensures at of; is = inl told.is.untrue };
    }

pub returns-in-Nothing : goal.returns-in-Nothing
returns-in-Nothing g c =
    let of = has_at (expr_of g.T.Theory.denotes) c.as_slice-term-items.result.now c.loop-term.term-index c.term-item.result c.loop-term-test.true c.term-item.is in
    record {
      assumed = λ e. absurd (true≢false (sym e));
      unassured = λ _. record { term = expr_of g.T.Theory.denotes c.term-item.result; of = rw c.as_slice-term-items.ensures at of; is = inr (rw c.in-Nothing.is at c.in_ok-tell.ensures) };
    }

pub loop-term-preserved : goal.loop-term-preserved
loop-term-preserved g c =
    all_more (IsTrueUnder (question_of g.T.Theory.denotes c.args.problem.now) (bodies_of g.T.Theory.denotes c.args.chosen.now) (vals_of g.T.Theory.denotes c.args.values.now))
    (expr_of g.T.Theory.denotes) c.as_slice-term-items.result.now c.loop-term.term-index c.term-item.result c.loop-term-test.true c.term-item.is c.loop-term.invariant
    (rw c.in-True.is at c.in_ok-tell.ensures)

pub returns-clause-assumed : goal.returns-clause-assumed
returns-clause-assumed g c =
    let all = all_done (IsTrueUnder (question_of g.T.Theory.denotes c.args.problem.now) (bodies_of g.T.Theory.denotes c.args.chosen.now) (vals_of g.T.Theory.denotes c.args.values.now))
    (expr_of g.T.Theory.denotes) c.as_slice-term-items.result.now c.loop-term.term-index c.loop-term-test.false c.loop-term.invariant in
    λ _. (rw c.as_slice-term-items.ensures at all)

pub tell-requires-clause-term : goal.tell-requires-clause-term
tell-requires-clause-term g c =
    item_of (IsTruth g.T.Theory.owned g.T.Theory.denotes c.args.problem.now) c.as_slice-term-items.result.now c.args.problem.now.assumptions c.loop-term.term-index c.term-item.result c.as_slice-term-items.ensures c.loop-term-test.true c.term-item.is
    (problem_assumptions g.T.Theory.owned g.T.Theory.numeric g.T.Theory.denotes c.args.problem.now c.requires.problem)
