use Rattle.std.proofs.Common.{◌≡◌, take}
use Rattle.sy_bank_level.specs.Stored.{chosen_of}
use Rattle.sy_loop_spec.specs.Trees.{truths}
use Rattle.sy_loop_trees.proofs.kept.truth_rows.Given as goal

abbrev pub invariant-loop-kept : goal.invariant-loop-kept
invariant-loop-kept g l = l.rows ≡ truths (chosen_of g.T.Theory.denotes (take l.kept-index l.fn.kept))
