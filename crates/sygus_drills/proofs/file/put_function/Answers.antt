use Rattle.std.proofs.Common.{refl}
use Rattle.sygus_drills.specs.Files.{function}
use Rattle.sygus_drills.proofs.Texts.{two}
use Rattle.sygus_drills.proofs.file.put_function.Goals as goal

pub returns : goal.returns
unfolding function
returns c = two c.put_condition.result _ _ _ _ _ _ c.in_ok-append.ensures.ok refl c.put_condition.ensures
