use Rattle.std.proofs.Common.{◌≡◌, drop}
use Rattle.sy_terms.specs.Values.{Whole}
use Rattle.sy_terms.specs.Denoted.{exprs_of}
use Rattle.sy_lower_laws.specs.Lowering.{same_exprs}
use Rattle.sy_lower.proofs.same.+same.Given as goal

abbrev pub invariant-same_terms-loop-place : goal.invariant-same_terms-loop-place
invariant-same_terms-loop-place l = same_exprs (exprs_of Whole (drop l.place l.terms)) (exprs_of Whole (drop l.place l.others)) ≡ same_exprs (exprs_of Whole l.terms) (exprs_of Whole l.others)
