use Rattle.sy_loop_spec.proofs.Refuted as refuted
use Rattle.sy_loop_spec.proofs.law.assumptions_ask_nothing.Goals as goal

pub returns : goal.returns
returns c = refuted.assumes_nothing
