use Rattle.std.proofs.Common.{ap, Err}
use Rattle.sy_terms.specs.Denoted.{vals_of}
use Rattle.sy_grammar_base.proofs.Problems.{problem_definitions, problem_constraints}
use Rattle.sy_grammar_base.specs.Fits.{IsTruth}
use Rattle.sy_loop_truth.proofs.Items.{item_of}
use Rattle.sy_loop_truth.proofs.Saying.{fits_with}
use Rattle.sy_loop_candidate.proofs.Asking.{calls_next, calls_done, leaves_next}
use Rattle.sy_loop_candidate.proofs.asks.calls_at.Goals as goal

pub returns-in-Err-Range : goal.returns-in-Err-Range
returns-in-Err-Range g c =
    leaves_next g.T.Theory.owned g.T.Theory.denotes c.args.problem.now c.args.bodies.now (vals_of g.T.Theory.denotes c.args.values.now) c.requires.bodies c.requires.values
    c.as_slice-term-items.result.now c.loop-term.term-index c.term-item.result (problem_constraints g.T.Theory.owned g.T.Theory.numeric g.T.Theory.denotes c.args.problem.now c.requires.problem) c.as_slice-term-items.ensures c.loop-term-test.true c.term-item.is
    (c.in-Err-Range.ensures.range (ap Err c.in-Err-Range.field-0-is))

pub loop-term-preserved : goal.loop-term-preserved
loop-term-preserved g c =
    calls_next g.T.Theory.owned g.T.Theory.denotes c.args.problem.now c.args.bodies.now (vals_of g.T.Theory.denotes c.args.values.now) c.requires.bodies c.requires.values
    c.as_slice-term-items.result.now c.loop-term.term-index c.term-item.result c.loop-term.calls c.evaluate_with.new.trace (problem_constraints g.T.Theory.owned g.T.Theory.numeric g.T.Theory.denotes c.args.problem.now c.requires.problem) c.as_slice-term-items.ensures c.loop-term-test.true c.term-item.is
    c.loop-term.invariant c.in-Ok.ensures.traced c.in-Ok.ensures.calls

pub returns : goal.returns
returns g c =
    calls_done g.T.Theory.owned g.T.Theory.denotes c.args.problem.now c.args.bodies.now (vals_of g.T.Theory.denotes c.args.values.now) c.requires.bodies c.requires.values
    c.as_slice-term-items.result.now c.loop-term.term-index c.loop-term.calls c.as_slice-term-items.ensures c.loop-term-test.false c.loop-term.invariant

pub evaluate_with-requires-clause-definitions : goal.evaluate_with-requires-clause-definitions
evaluate_with-requires-clause-definitions g c = problem_definitions g.T.Theory.owned g.T.Theory.numeric g.T.Theory.denotes c.args.problem.now c.requires.problem

pub evaluate_with-requires-clause-term : goal.evaluate_with-requires-clause-term
evaluate_with-requires-clause-term g c =
    fits_with g.T.Theory.owned g.T.Theory.denotes c.args.problem.now c.args.bodies.now (vals_of g.T.Theory.denotes c.args.values.now) c.term-item.result c.requires.bodies c.requires.values
    (item_of (IsTruth g.T.Theory.owned g.T.Theory.denotes c.args.problem.now) c.as_slice-term-items.result.now c.args.problem.now.constraints c.loop-term.term-index c.term-item.result c.as_slice-term-items.ensures c.loop-term-test.true c.term-item.is
    (problem_constraints g.T.Theory.owned g.T.Theory.numeric g.T.Theory.denotes c.args.problem.now c.requires.problem))
