use Rattle.sygus_verdicts.proofs.Proved.{printable_rechecked}
use Rattle.sygus_verdicts.proofs.rechecking.RecheckingJudge.judge.Goals as goal

pub returns-clause-right : goal.returns-clause-right
returns-clause-right g c = rw c.in-Some.is c.in_ok-found.ensures

pub returns-clause-printable : goal.returns-clause-printable
returns-clause-printable g c = printable_rechecked c.in_ok-found.found
