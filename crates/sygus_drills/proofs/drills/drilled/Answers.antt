use Rattle.sy_meaning_words.specs.Vectors as vectors
use Rattle.sygus_drills.proofs.Drilling.{problem_asks, problem_fits, drilled_by, named_either}
use Rattle.sygus_answers.proofs.Named.{vectors_fit}
use Rattle.sygus_drills.proofs.drills.drilled.Goals as goal

pub drill-requires-clause-problem : goal.drill-requires-clause-problem
drill-requires-clause-problem g c = problem_fits c.args.number c.in_ok-problems.problems c.in_ok-problems.ensures c.in-Some.problem.now c.in-Some.ensures

pub drill-requires-clause-always : goal.drill-requires-clause-always
drill-requires-clause-always g c = vectors_fit

pub drill-requires-clause-asks : goal.drill-requires-clause-asks
drill-requires-clause-asks g c = problem_asks c.args.number c.in_ok-problems.problems c.in_ok-problems.ensures c.in-Some.problem.now c.in-Some.ensures

pub returns-clause-answered : goal.returns-clause-answered
returns-clause-answered g c small = drilled_by c.args.number c.in_ok-problems.problems c.in_ok-problems.ensures c.args.limits.now c.in-Some.problem.now _ _ c.in-Some.ensures (c.in_ok-solved.ensures.answered small)

pub returns-clause-cut_off : goal.returns-clause-cut_off
returns-clause-cut_off g c is = drilled_by c.args.number c.in_ok-problems.problems c.in_ok-problems.ensures c.args.limits.now c.in-Some.problem.now _ _ c.in-Some.ensures (c.in_ok-solved.ensures.cut_off is)

pub returns-clause-named : goal.returns-clause-named
returns-clause-named g c =
    named_either c.args.number c.in_ok-problems.problems c.in_ok-problems.ensures c.args.limits.now c.in-Some.problem.now _ _ _ _ c.in-Some.ensures c.in_ok-solved.ensures.status c.in_ok-solved.ensures.answered c.in_ok-solved.ensures.cut_off
