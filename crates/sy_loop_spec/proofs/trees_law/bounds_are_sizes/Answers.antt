use Rattle.sy_loop_spec.proofs.Sizes.{by_sizes}
use Rattle.sy_loop_spec.proofs.trees_law.bounds_are_sizes.Goals as goal

pub returns : goal.returns
returns c = by_sizes
