use Rattle.std.proofs.Common.{◌≡◌, drop}
use Rattle.sy_linear_known.specs.Sights.{with_each}
use Rattle.sy_linear_known.specs.Operations.{comparison}
use Rattle.sy_linear_known.proofs.comparisons.Comparison.with_each.Given as goal

abbrev pub invariant-loop-other : goal.invariant-loop-other
invariant-loop-other l = with_each (comparison l.self l.path) l.node l.first (drop l.other-index l.others) ≡ with_each (comparison l.self l.path) l.initial.node l.first l.others
