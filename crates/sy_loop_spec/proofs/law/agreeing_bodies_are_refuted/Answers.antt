use Rattle.sy_loop_spec.proofs.Refuted as refuted
use Rattle.sy_loop_spec.proofs.law.agreeing_bodies_are_refuted.Goals as goal

pub returns-clause-at : goal.returns-clause-at
returns-clause-at c = refuted.violated_together

pub returns-clause-violates : goal.returns-clause-violates
returns-clause-violates c = refuted.violates

pub returns-clause-stored : goal.returns-clause-stored
returns-clause-stored c = refuted.refuted_together
