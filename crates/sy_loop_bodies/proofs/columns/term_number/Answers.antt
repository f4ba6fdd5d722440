use Rattle.sy_grammar_base.proofs.Problems.{problem_definitions}
use Rattle.sy_loop_bodies.proofs.columns.term_number.Goals as goal

pub evaluate-requires-clause-definitions : goal.evaluate-requires-clause-definitions
evaluate-requires-clause-definitions g c = problem_definitions g.T.Theory.owned g.T.Theory.numeric g.T.Theory.denotes c.args.task.now.problem.now c.requires
