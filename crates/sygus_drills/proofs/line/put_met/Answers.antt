use Rattle.std.proofs.Common.{refl}
use Rattle.sygus_drills.proofs.Texts.{three}
use Rattle.sygus_drills.proofs.line.put_met.Goals as goal

pub returns : goal.returns
returns c = three c.append-2.result _ _ _ _ _ _ _ _ c.in_ok-append.ensures.ok c.in_ok-write_numeral.ensures refl c.append-2.ensures.ok
