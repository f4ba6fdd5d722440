use Rattle.std.proofs.Common.{arith}
use Rattle.sy_bits_sums.specs.Polynomials.{product}
use Rattle.sy_bits_sums.proofs.Agreeing.{product-more, whole-product, times-value}
use Rattle.sy_bits_sums.proofs.monomial.Monomial.times.Goals as goal

pub loop-place-preserved : goal.loop-place-preserved
loop-place-preserved c = λ values. product-more values c.as_slice-place-items.result.now c.loop-place.place-index 0 _ _ _ (omega arith) (c.loop-place.invariant values) (c.in_ok-add_factor.ensures values)

pub returns-clause-value : goal.returns-clause-value
returns-clause-value c = λ values. times-value c.args.width c.args.self.now.coefficient c.args.other.now.coefficient c.product_modulo-coefficient.result (product values c.args.self.now.factors.items) (product values c.args.other.now.factors.items) (product values c.loop-place.factors.items) c.product_modulo-coefficient.ensures
    (whole-product values c.as_slice-place-items.result.now c.args.other.now.factors.items c.loop-place.place-index (product values c.args.self.now.factors.items) (product values c.loop-place.factors.items) (c.loop-place.invariant values) (omega arith) c.as_slice-place-items.ensures.value)
