use Rattle.std.proofs.Common.{◌≡◌, ◌+◌, ◌≤◌, length, drop}
use Rattle.sy_linear_known.specs.Trees.{forms}
use Rattle.sy_linear.proofs.combination.count_forms.Given as goal

abbrev pub invariant-loop-fact : goal.invariant-loop-fact
invariant-loop-fact l = record {
  kept : l.count + length (forms (drop l.fact-index l.facts)) ≡ length (forms l.facts);
  small : l.count ≤ l.fact-index;
}
