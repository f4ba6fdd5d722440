use Rattle.sy_bank.proofs.building.build.Goals as goal

pub all_sizes-requires-clause-points : goal.all_sizes-requires-clause-points
all_sizes-requires-clause-points g c = rw (c.in_ok-copied_tuples.ensures, c.as_slice.ensures) c.requires.points
