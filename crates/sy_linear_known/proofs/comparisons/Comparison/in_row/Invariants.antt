use Rattle.std.proofs.Common.{◌≡◌, true, length}
use Rattle.sy_linear_known.specs.Sights.{neighbours_in_row, none_yet}
use Rattle.sy_linear_known.specs.Fitting.{all_fit}
use Rattle.sy_linear_known.specs.Operations.{comparison}
use Rattle.sy_linear_known.proofs.comparisons.Comparison.in_row.Given as goal

abbrev pub invariant-loop-left : goal.invariant-loop-left
invariant-loop-left l = record {
  kept : neighbours_in_row (comparison l.self l.path) l.node l.left ≡ neighbours_in_row (comparison l.self l.path) none_yet l.sights;
  fits : all_fit l.left ≡ true;
}

abbrev pub decreases-loop-left : goal.decreases-loop-left
decreases-loop-left l = length l.left
