use Rattle.std.proofs.Common.{◌≡◌, ap, arith, ◌∙◌}
use Rattle.sy_terms.specs.Values.{Whole}
use Rattle.sy_terms.specs.Denoted.{exprs_of, expr_of-Var}
use Rattle.sy_lower.proofs.Making.{no_variables, variables_more}
use Rattle.sy_lower.proofs.names.first_variables.Goals as goal

pub loop-number-init : goal.loop-number-init
loop-number-init c = ap (exprs_of Whole) c.in_ok-names.ensures.items ∙ no_variables

pub loop-number-preserved : goal.loop-number-preserved
loop-number-preserved c = variables_more c.loop-number.names.items _ c.loop-number.number _ c.loop-number.invariant (expr_of-Var _ Whole c.loop-number.number) c.in_ok-push.ensures.items

pub returns : goal.returns
returns c =
    let e : c.loop-number.number ≡ c.args.count = omega (arith, c.in_ok-many.ensures) in
    rw e at c.loop-number.invariant
