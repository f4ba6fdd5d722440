use Rattle.std.specs.Prelude.{◌≡◌, IfOk}
use Rattle.std.proofs.Common.{sym, subst}
use Rattle.sy_linear_known.specs.Operations.{operation_result}
use Rattle.sy_linear_known.proofs.arithmetic.Operation.apply.Goals as goal

pub returns-in-Sum-clause-ok : goal.returns-in-Sum-clause-ok
returns-in-Sum-clause-ok c = subst (λ o. IfOk c.sum.result (λ form. form ≡ operation_result o c.args.f.now c.args.g.now)) (sym c.in-Sum.is) c.sum.ensures.ok

pub returns-in-Sum-clause-fits : goal.returns-in-Sum-clause-fits
returns-in-Sum-clause-fits c = c.sum.ensures.fits

pub returns-in-Difference-clause-ok : goal.returns-in-Difference-clause-ok
returns-in-Difference-clause-ok c = subst (λ o. IfOk c.difference.result (λ form. form ≡ operation_result o c.args.f.now c.args.g.now)) (sym c.in-Difference.is) c.difference.ensures.ok

pub returns-in-Difference-clause-fits : goal.returns-in-Difference-clause-fits
returns-in-Difference-clause-fits c = c.difference.ensures.fits

pub returns-in-Product-clause-ok : goal.returns-in-Product-clause-ok
returns-in-Product-clause-ok c = subst (λ o. IfOk c.product.result (λ form. form ≡ operation_result o c.args.f.now c.args.g.now)) (sym c.in-Product.is) c.product.ensures.ok

pub returns-in-Product-clause-fits : goal.returns-in-Product-clause-fits
returns-in-Product-clause-fits c = c.product.ensures.fits
