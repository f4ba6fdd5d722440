use Rattle.sy_simplex.proofs.Outcomes.{answers_agree}
use Rattle.sy_simplex.proofs.law.answers_are_determined.Goals as goal

pub returns : goal.returns
returns c = answers_agree
