use Rattle.std.proofs.Common.{◌≡◌, ◌++◌, drop}
use Rattle.sy_terms.specs.Values.{Whole}
use Rattle.sy_terms.specs.Denoted.{sorts_of}
use Rattle.sy_linear_known.proofs.truths.sorts_of.Given as goal

abbrev pub invariant-loop-value : goal.invariant-loop-value
invariant-loop-value l = l.sorts ++ sorts_of Whole (drop l.value-index l.values) ≡ sorts_of Whole l.values
