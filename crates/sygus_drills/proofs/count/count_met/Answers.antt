use Rattle.sy_grammar_base.proofs.Problems.{problem_constraints}
use Rattle.sygus_drills.proofs.count.count_met.Goals as goal

pub count_true-requires-clause-terms : goal.count_true-requires-clause-terms
count_true-requires-clause-terms g c = rw c.as_slice.ensures (problem_constraints g.T.Theory.owned g.T.Theory.numeric g.T.Theory.denotes c.args.problem.now c.requires.problem)
