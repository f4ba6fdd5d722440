use Rattle.sy_grammar_base.proofs.Problems.{problem_assumptions, problem_constraints}
use Rattle.sy_loop_bodies.proofs.judging.meet.Goals as goal

pub are_true-requires-clause-terms : goal.are_true-requires-clause-terms
are_true-requires-clause-terms g c =
    rw c.as_slice-constraints.ensures (problem_constraints g.T.Theory.owned g.T.Theory.numeric g.T.Theory.denotes c.args.problem.now c.requires.problem)

pub are_true-requires-2-clause-terms : goal.are_true-requires-2-clause-terms
are_true-requires-2-clause-terms g c =
    rw c.as_slice-assumptions.ensures (problem_assumptions g.T.Theory.owned g.T.Theory.numeric g.T.Theory.denotes c.args.problem.now c.requires.problem)
