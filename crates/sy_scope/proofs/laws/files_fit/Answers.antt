use Rattle.sy_scope.proofs.Files.{file_fits}
use Rattle.sy_scope.proofs.laws.files_fit.Goals as goal

pub returns : goal.returns
returns c = file_fits
