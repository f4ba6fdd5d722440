use Rattle.sy_loop_spec.proofs.Covered.{are_merged}
use Rattle.sy_loop_spec.proofs.law.members_are_merged.Goals as goal

pub returns : goal.returns
returns c = are_merged
