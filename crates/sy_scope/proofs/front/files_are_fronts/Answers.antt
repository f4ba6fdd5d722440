use Rattle.sy_scope.proofs.Own.{files_are_fronts}
use Rattle.sy_scope.proofs.front.files_are_fronts.Goals as goal

pub returns : goal.returns
returns c = files_are_fronts
