use Rattle.sy_scope.proofs.Files.{step_sound}
use Rattle.sy_scope.proofs.laws.steps_keep_sound.Goals as goal

pub returns : goal.returns
returns c = step_sound
