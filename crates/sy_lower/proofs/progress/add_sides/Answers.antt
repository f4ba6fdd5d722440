use Rattle.std.proofs.Common.{ap, ◌∙◌, ◌≡◌, to_z, of_z, rules}
use Rattle.std.specs.Int.{w128}
use Rattle.std.proofs.lemmas.Int.{to_z-of_z}
use Rattle.sy_terms.specs.Values.{Whole}
use Rattle.sy_terms.specs.Denoted.{expr_of, expr_of-Var}
use Rattle.sy_lower_laws.specs.Lowering.{whole_constant}
use Rattle.sy_lower.proofs.Making.{three_sides, are_sides}
use Rattle.sy_lower.proofs.progress.add_sides.Goals as goal

pub returns : goal.returns
returns c =
    let e : to_z w128 (of_z w128 c.args.divisor) ≡ c.args.divisor = to_z-of_z w128 c.args.divisor c.ranges.divisor in
    let g : to_z w128 (of_z w128 c.greatest_remainder.result) ≡ c.greatest_remainder.result = to_z-of_z w128 c.greatest_remainder.result (search rules) in
    three_sides _ _ _ _ c.in_ok-is_whole.is_whole c.in_ok-has_least.has_least c.in_ok-has_most.has_most _ c.in_ok-push.ensures.ok c.in_ok-push-2.ensures.ok c.in_ok-push-3.ensures.ok
    (are_sides (expr_of Whole c.args.dividend) (expr_of Whole c.in_ok-whole.whole) _ _ _ _ _ _ c.args.divisor c.args.quotient c.args.remainder c.requires (expr_of-Var _ Whole c.args.remainder) (rw e at c.in_ok-whole.ensures) c.in_ok-is_whole.ensures c.number.ensures
    c.in_ok-has_least.ensures (rw g at c.number-greatest.ensures ∙ ap whole_constant (rw e at c.greatest_remainder.ensures)) c.in_ok-has_most.ensures)
