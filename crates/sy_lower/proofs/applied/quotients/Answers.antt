use Rattle.std.proofs.Common.{refl}
use Rattle.sy_terms.specs.Values.{Whole}
use Rattle.sy_terms.specs.Denoted.{expr_of}
use Rattle.sy_lower.specs.Stored.{progress_in}
use Rattle.sy_lower.proofs.Making.{next_quotient, last_quotient}
use Rattle.sy_lower.proofs.applied.quotients.Goals as goal

pub loop-divisor-init : goal.loop-divisor-init
loop-divisor-init c = refl

pub loop-divisor-preserved : goal.loop-divisor-preserved
loop-divisor-preserved c =
    next_quotient c.args.divisors.now c.loop-divisor.divisor-index c.divisor-item.result (progress_in c.loop-divisor.progress) _ (expr_of Whole c.loop-divisor.quotient) _ _ c.loop-divisor-test.true c.divisor-item.is c.in_ok-quotient.ensures c.loop-divisor.invariant

pub returns : goal.returns
returns c = last_quotient c.args.divisors.now c.loop-divisor.divisor-index (progress_in c.loop-divisor.progress) (expr_of Whole c.loop-divisor.quotient) _ c.loop-divisor-test.false c.loop-divisor.invariant
