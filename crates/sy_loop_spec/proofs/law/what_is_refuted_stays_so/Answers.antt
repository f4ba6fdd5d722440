use Rattle.sy_loop_spec.proofs.Refuted as refuted
use Rattle.sy_loop_spec.proofs.law.what_is_refuted_stays_so.Goals as goal

pub returns : goal.returns
returns c = refuted.stays_refuted
