use Rattle.std.proofs.Common.{map}
use Rattle.sy_terms.specs.Denoted.{expr_of}
use Rattle.sy_grammar_base.specs.Questions.{question_of}
use Rattle.sygus_verdicts.proofs.Printable.{printable}
use Rattle.sygus_verdicts.proofs.verifying.VerifyingJudge.judge.Goals as goal

pub returns-clause-printable : goal.returns-clause-printable
returns-clause-printable g c =
    printable g.T.Theory.owned g.T.Theory.denotes g.D.Decide.accepted g.D.Decide.budget g.D.Decide.shows (question_of g.T.Theory.denotes c.args.problem.now) c.args.limits.now
    (map (expr_of g.T.Theory.denotes) c.args.bodies.now) c.in_ok-found.found c.in_ok-found.ensures
