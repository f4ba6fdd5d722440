use Rattle.std.proofs.Common.{◌≡◌, drop}
use Rattle.sy_linear_known.specs.Trees.{forms}
use Rattle.sy_linear.specs.Combining.{forms_folded, empty_combination}
use Rattle.sy_linear.proofs.combination.combined.Given as goal

abbrev pub invariant-loop-fact : goal.invariant-loop-fact
invariant-loop-fact l = forms_folded l.sum l.left (forms (drop l.fact-index l.facts)) ≡ forms_folded empty_combination l.multipliers (forms l.facts)
