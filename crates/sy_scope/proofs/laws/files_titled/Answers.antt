use Rattle.sy_scope.proofs.FilesNamed.{files_named}
use Rattle.sy_scope.proofs.laws.files_titled.Goals as goal

pub returns : goal.returns
returns c = files_named
