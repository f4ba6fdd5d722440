use Rattle.std.proofs.Common.{◌≡◌, to_z, of_z}
use Rattle.std.specs.Int.{w128}
use Rattle.std.proofs.lemmas.Int.{to_z-of_z}
use Rattle.sy_terms.specs.Values.{Whole}
use Rattle.sy_terms.specs.Denoted.{expr_of, expr_of-Var}
use Rattle.sy_lower.proofs.Making.{recomposes}
use Rattle.sy_lower.proofs.progress.recomposed.Goals as goal

pub returns : goal.returns
returns c =
    let e : to_z w128 (of_z w128 c.args.divisor) ≡ c.args.divisor = to_z-of_z w128 c.args.divisor c.ranges.divisor in
    recomposes c.args.divisor c.args.quotient c.args.remainder _ _ (expr_of Whole c.in_ok-product.product) _ (expr_of Whole c.in_ok-sum.sum)
    (rw e at c.number.ensures) (expr_of-Var _ Whole c.args.quotient) c.in_ok-product.ensures (expr_of-Var _ Whole c.args.remainder) c.requires c.in_ok-sum.ensures
