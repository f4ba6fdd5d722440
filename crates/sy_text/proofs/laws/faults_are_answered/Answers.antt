use Rattle.sy_text.proofs.Failing as failing
use Rattle.sy_text.proofs.laws.faults_are_answered.Goals as goal

pub returns : goal.returns
returns c = failing.faults_are_answered
