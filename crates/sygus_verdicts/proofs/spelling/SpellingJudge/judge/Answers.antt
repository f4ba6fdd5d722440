use Rattle.sygus_verdicts.proofs.Proved.{printable_spelled}
use Rattle.sygus_verdicts.proofs.spelling.SpellingJudge.judge.Goals as goal

pub returns-clause-printable : goal.returns-clause-printable
returns-clause-printable g c = printable_spelled c.in_ok-found.found
