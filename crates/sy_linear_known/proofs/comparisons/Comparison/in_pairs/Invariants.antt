use Rattle.std.proofs.Common.{◌≡◌, true, length}
use Rattle.sy_linear_known.specs.Sights.{in_pairs, none_yet}
use Rattle.sy_linear_known.specs.Fitting.{all_fit}
use Rattle.sy_linear_known.specs.Operations.{comparison}
use Rattle.sy_linear_known.proofs.comparisons.Comparison.in_pairs.Given as goal

abbrev pub invariant-loop-first : goal.invariant-loop-first
invariant-loop-first l = record {
  kept : in_pairs (comparison l.self l.path) l.node l.left ≡ in_pairs (comparison l.self l.path) none_yet l.sights;
  fits : all_fit l.left ≡ true;
}

abbrev pub decreases-loop-first : goal.decreases-loop-first
decreases-loop-first l = length l.left
