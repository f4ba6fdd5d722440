use Rattle.bench_parts.proofs.trees.+branches.Given as goal

abbrev pub decreases-branches : goal.decreases-branches
decreases-branches l = l.depth
