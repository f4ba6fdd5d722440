use Rattle.sy_loop_spec.proofs.Refuted as refuted
use Rattle.sy_loop_spec.proofs.law.members_are_refuted.Goals as goal

pub returns-clause-whole : goal.returns-clause-whole
returns-clause-whole c = refuted.all_refuted

pub returns-clause-next : goal.returns-clause-next
returns-clause-next c = refuted.next_refuted
