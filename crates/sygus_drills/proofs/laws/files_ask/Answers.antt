use Rattle.sygus_drills.proofs.Files.{files_are_read}
use Rattle.sygus_drills.proofs.Lengths.{files_are_short}
use Rattle.sygus_drills.proofs.laws.files_ask.Goals as goal

pub returns-clause-short : goal.returns-clause-short
returns-clause-short c = files_are_short

pub returns-clause-asks : goal.returns-clause-asks
returns-clause-asks c = files_are_read
