use Rattle.sy_text.proofs.Faulty as faulty
use Rattle.sy_text.proofs.laws.faults_are_right.Goals as goal

pub returns : goal.returns
returns c = faulty.faults_are_right
