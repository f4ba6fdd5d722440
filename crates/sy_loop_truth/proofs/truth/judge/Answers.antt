use Rattle.std.proofs.Common.{map}
use Rattle.std.proofs.lemmas.Result.{IfOk-from_err}
use Rattle.sy_terms.specs.Denoted.{expr_of, vals_of}
use Rattle.sy_grammar_base.specs.Questions.{question_of}
use Rattle.sy_grammar_base.proofs.Problems.{problem_assumptions, problem_constraints}
use Rattle.sy_loop_truth.proofs.Saying.{judged, unassumed, assumption_leaves}
use Rattle.sy_loop_truth.proofs.truth.judge.Goals as goal

pub returns-in-False : goal.returns-in-False
returns-in-False g c =
    unassumed (question_of g.T.Theory.denotes c.args.problem.now) (map (expr_of g.T.Theory.denotes) c.args.bodies.now) (vals_of g.T.Theory.denotes c.args.values.now) c.in-False.field-0
    (rw (c.in-False.is, c.as_slice.ensures) at c.in_ok-all_true.ensures)

pub returns-in-Leaves : goal.returns-in-Leaves
returns-in-Leaves g c =
    assumption_leaves (question_of g.T.Theory.denotes c.args.problem.now) (map (expr_of g.T.Theory.denotes) c.args.bodies.now) (vals_of g.T.Theory.denotes c.args.values.now)
    (rw (c.in-Leaves.is, c.as_slice.ensures) at c.in_ok-all_true.ensures)

pub returns : goal.returns
returns g c =
    judged (question_of g.T.Theory.denotes c.args.problem.now) (map (expr_of g.T.Theory.denotes) c.args.bodies.now) (vals_of g.T.Theory.denotes c.args.values.now) c.in_ok-judged.judged
    (rw (c.in-True.is, c.as_slice.ensures) at c.in_ok-all_true.ensures)
    (rw c.as_slice-2.ensures at c.in_ok-judged.ensures)

pub all_true-requires-clause-terms : goal.all_true-requires-clause-terms
all_true-requires-clause-terms g c =
    rw c.as_slice.ensures (problem_assumptions g.T.Theory.owned g.T.Theory.numeric g.T.Theory.denotes c.args.problem.now c.requires.problem)

pub all_true-requires-2-clause-terms : goal.all_true-requires-2-clause-terms
all_true-requires-2-clause-terms g c =
    rw c.as_slice-2.ensures (problem_constraints g.T.Theory.owned g.T.Theory.numeric g.T.Theory.denotes c.args.problem.now c.requires.problem)

pub returns-in_err-all_true : goal.returns-in_err-all_true
returns-in_err-all_true g c = IfOk-from_err c.from_residual.result _ c.from_residual.ensures.0

pub returns-in_err-judged : goal.returns-in_err-judged
returns-in_err-judged g c = IfOk-from_err c.from_residual-in_err-judged.result _ c.from_residual-in_err-judged.ensures.0
