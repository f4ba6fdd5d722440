use Rattle.sy_terms.specs.Values.{Whole}
use Rattle.sy_terms.specs.Denoted.{expr_of, expr_of-App}
use Rattle.sy_terms.specs.declared.op.Op.TheVariants as ops
use Rattle.sy_lower.specs.Stored.{progress_in}
use Rattle.sy_lower.proofs.Making.{divided_is, divided_none}
use Rattle.sy_lower.proofs.applied.divided.Goals as goal

pub returns-in_ok-quotient-in-Some : goal.returns-in_ok-quotient-in-Some
returns-in_ok-quotient-in-Some c =
    divided_is (progress_in c.args.progress.now) _ c.args.terms.now c.in-Some.divisors.now c.in-Some.dividend.now (expr_of Whole c.in_ok-dividend-in-Some.dividend) _ c.in-Some.ensures.cases.0 c.in_ok-dividend-in-Some.ensures c.in_ok-quotient-in-Some.ensures

pub returns-in-None : goal.returns-in-None
returns-in-None c = divided_none (progress_in c.args.progress.now) c.args.terms.now c.new-nothing.result.items.items _ c.in-None.ensures.cases c.new-nothing.ensures (expr_of-App Whole ops.Div c.new-nothing.result)
