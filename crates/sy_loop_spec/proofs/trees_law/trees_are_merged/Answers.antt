use Rattle.sy_loop_spec.proofs.Merged as merged
use Rattle.sy_loop_spec.proofs.trees_law.trees_are_merged.Goals as goal

pub returns : goal.returns
returns c = merged.trees_are_merged
