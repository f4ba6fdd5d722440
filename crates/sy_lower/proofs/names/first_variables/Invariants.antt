use Rattle.std.proofs.Common.{◌≡◌}
use Rattle.sy_terms.specs.Values.{Whole}
use Rattle.sy_terms.specs.Denoted.{exprs_of}
use Rattle.sy_lower_laws.specs.Lowering.{first_variables}
use Rattle.sy_lower.proofs.names.first_variables.Given as goal

abbrev pub invariant-loop-number : goal.invariant-loop-number
invariant-loop-number l = exprs_of Whole l.names.items ≡ first_variables l.number
