use Rattle.std.proofs.Common.{◌*◌, refl}
use Rattle.sy_bits_sums.specs.Polynomials.{total, monomial_value}
use Rattle.sy_bits_sums.proofs.Agreeing.{agree-same, agree-trans, agree-add}
use Rattle.sy_bits_sums.proofs.Adding.{number-value}
use Rattle.sy_bits_sums.proofs.sum.Sum.add_product.Goals as goal

pub returns-clause-value : goal.returns-clause-value
returns-clause-value c = λ values.
    let w = c.args.self.now.width in
    let old = total values c.args.self.now.monomials.items in
    agree-trans w _ _ _ (c.in_ok-add.ensures.value values)
    (agree-add w old old _ (monomial_value values c.args.monomial.now * c.args.number) (agree-same w old old refl)
    (rw (number-value values c.number-by.result c.args.number c.number-by.ensures.coefficient c.number-by.ensures.factors) at (c.in_ok-product.ensures.value values)))
