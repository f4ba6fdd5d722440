use Rattle.std.proofs.Common.{map}
use Rattle.std.proofs.lemmas.List.Elements.{All-nil}
use Rattle.std.proofs.lemmas.Result.{IfOk-from_err}
use Rattle.sy_terms.specs.Denoted.{expr_of, vals_of}
use Rattle.sy_grammar_base.specs.Questions.{question_of}
use Rattle.sy_grammar_base.specs.Solving.{IsTrueUnder}
use Rattle.sy_loop_truth.proofs.Saying.{one_false, one_leaves}
use Rattle.sy_loop_truth.proofs.Items.{all_more, all_done, has_at}
use Rattle.sy_loop_truth.proofs.truth.all_true.Goals as goal

pub loop-term-init : goal.loop-term-init
loop-term-init g c = All-nil (IsTrueUnder (question_of g.T.Theory.denotes c.args.problem.now) (map (expr_of g.T.Theory.denotes) c.args.bodies.now) (vals_of g.T.Theory.denotes c.args.values.now))

pub returns-in-False : goal.returns-in-False
returns-in-False g c =
    one_false (question_of g.T.Theory.denotes c.args.problem.now) (map (expr_of g.T.Theory.denotes) c.args.bodies.now) (vals_of g.T.Theory.denotes c.args.values.now) (map (expr_of g.T.Theory.denotes) c.args.terms.now) (expr_of g.T.Theory.denotes c.term-item.result) c.in-False.calls
    (has_at (expr_of g.T.Theory.denotes) c.args.terms.now c.loop-term.term-index c.term-item.result c.loop-term-test.true c.term-item.is)
    (rw c.in-False.is at c.in_ok-truth_of.ensures)

pub returns-in-Leaves : goal.returns-in-Leaves
returns-in-Leaves g c =
    one_leaves (question_of g.T.Theory.denotes c.args.problem.now) (map (expr_of g.T.Theory.denotes) c.args.bodies.now) (vals_of g.T.Theory.denotes c.args.values.now) (map (expr_of g.T.Theory.denotes) c.args.terms.now) (expr_of g.T.Theory.denotes c.term-item.result)
    (has_at (expr_of g.T.Theory.denotes) c.args.terms.now c.loop-term.term-index c.term-item.result c.loop-term-test.true c.term-item.is)
    (rw c.in-Leaves.is at c.in_ok-truth_of.ensures)

pub loop-term-preserved : goal.loop-term-preserved
loop-term-preserved g c =
    all_more (IsTrueUnder (question_of g.T.Theory.denotes c.args.problem.now) (map (expr_of g.T.Theory.denotes) c.args.bodies.now) (vals_of g.T.Theory.denotes c.args.values.now)) (expr_of g.T.Theory.denotes) c.args.terms.now c.loop-term.term-index c.term-item.result c.loop-term-test.true c.term-item.is c.loop-term.invariant
    (rw c.in-True.is at c.in_ok-truth_of.ensures)

pub returns : goal.returns
returns g c =
    all_done (IsTrueUnder (question_of g.T.Theory.denotes c.args.problem.now) (map (expr_of g.T.Theory.denotes) c.args.bodies.now) (vals_of g.T.Theory.denotes c.args.values.now)) (expr_of g.T.Theory.denotes) c.args.terms.now c.loop-term.term-index c.loop-term-test.false c.loop-term.invariant

pub returns-in_err-truth_of : goal.returns-in_err-truth_of
returns-in_err-truth_of g c = IfOk-from_err c.from_residual.result _ c.from_residual.ensures.0
