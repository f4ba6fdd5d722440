use Rattle.sy_intsolve_paths_laws.proofs.Paths.{asked}
use Rattle.sy_intsolve_paths_laws.proofs.law.open_tests_suit.Goals as goal

pub returns : goal.returns
returns c query path test = asked query path test
