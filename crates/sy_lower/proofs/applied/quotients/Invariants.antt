use Rattle.std.proofs.Common.{◌≡◌, drop}
use Rattle.sy_terms.specs.Values.{Whole}
use Rattle.sy_terms.specs.Denoted.{expr_of, exprs_of}
use Rattle.sy_lower_laws.specs.Lowering as spec
use Rattle.sy_lower.specs.Stored.{progress_in}
use Rattle.sy_lower.proofs.applied.quotients.Given as goal

abbrev pub invariant-loop-divisor : goal.invariant-loop-divisor
invariant-loop-divisor l =
    spec.quotients (progress_in l.progress) (expr_of Whole l.quotient) (exprs_of Whole (drop l.divisor-index l.divisors)) ≡ spec.quotients (progress_in l.fn.progress) (expr_of Whole l.fn.dividend) (exprs_of Whole l.divisors)
