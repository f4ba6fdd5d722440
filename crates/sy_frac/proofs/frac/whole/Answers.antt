use Rattle.std.proofs.Common.{sym, subst}
use Rattle.std.proofs.lemmas.Int.{to_z-of_z}
use mir.Syntax.{w128}
use Rattle.sy_frac.specs.Fraction.{IsLowest}
use Rattle.sy_frac.proofs.Quotients.{whole_lowest}
use Rattle.sy_frac.proofs.frac.whole.Goals as goal

pub invariant_of-result : goal.invariant_of-result
invariant_of-result c = subst (λ n. IsLowest (record { num = n; den = 1 })) (sym (to_z-of_z w128 c.args.num c.ranges.num)) (whole_lowest c.args.num c.requires)
