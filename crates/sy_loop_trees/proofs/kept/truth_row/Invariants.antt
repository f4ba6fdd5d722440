use Rattle.std.proofs.Common.{◌≡◌, map, take}
use Rattle.sy_terms.specs.Denoted.{vals_of}
use Rattle.sy_terms.specs.Values as values
use Rattle.sy_loop_trees.proofs.kept.truth_row.Given as goal

abbrev pub invariant-loop-value : goal.invariant-loop-value
invariant-loop-value g l = l.truths ≡ map values.truth (vals_of g.T.Theory.denotes (take l.value-index l.row))
