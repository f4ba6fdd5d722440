use Rattle.std.proofs.Common.{◌≡◌, drop}
use Rattle.sy_terms.specs.Values.{Whole}
use Rattle.sy_terms.specs.Denoted.{expr_of}
use Rattle.sy_lower_laws.specs.Lowering.{pair_of}
use Rattle.sy_lower.specs.Kept.{pairs_in}
use Rattle.sy_lower.proofs.pairs.found_in.Given as goal

abbrev pub invariant-loop-place : goal.invariant-loop-place
invariant-loop-place l = pair_of (pairs_in (drop l.place l.all)) (expr_of Whole l.dividend) l.divisor ≡ pair_of (pairs_in l.all) (expr_of Whole l.dividend) l.divisor
