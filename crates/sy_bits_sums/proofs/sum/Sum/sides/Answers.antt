use Rattle.std.proofs.Common.{arith, ◌*◌, ◌+◌, ◌∙◌, List, refl, subst}
use Rattle.std.proofs.lemmas.List.{take_all}
use Rattle.sy_bits_sums.specs.declared.monomial.Monomial.{Monomial}
use Rattle.sy_bits_sums.specs.Polynomials.{total, monomial_value, Agree}
use Rattle.sy_bits_sums.proofs.Agreeing.{agree-same}
use Rattle.sy_bits_sums.proofs.Adding.{more-sides}
use Rattle.sy_bits_sums.proofs.sum.Sum.sides.Goals as goal

pub loop-monomial-preserved : goal.loop-monomial-preserved
loop-monomial-preserved c = record {
  left = c.in_ok-add_product.ensures.width ∙ c.loop-monomial.invariant.left;
  right = c.in_ok-add_product-2.ensures.width ∙ c.loop-monomial.invariant.right;
  value = λ values.
      let plus = monomial_value values c.monomial-item.result * c.signs-on_left.result.0 in
      let minus = monomial_value values c.monomial-item.result * c.signs-on_left.result.1 in
      more-sides c.args.width values c.as_slice-monomial-items.result.now c.loop-monomial.monomial-index c.monomial-item.result _ _ _ _ plus minus c.signs-on_left.result.0 c.signs-on_left.result.1 (omega arith) c.monomial-item.is (c.loop-monomial.invariant.value values) c.signs-on_left.ensures
      (agree-same c.args.width plus plus refl)
      (agree-same c.args.width minus minus refl)
      (rw c.loop-monomial.invariant.left at (c.in_ok-add_product.ensures.value values))
      (rw c.loop-monomial.invariant.right at (c.in_ok-add_product-2.ensures.value values));
}

pub returns-clause-value : goal.returns-clause-value
returns-clause-value c = λ values.
    subst (λ (zs : List Monomial). Agree c.args.width (total values c.loop-monomial.left.monomials.items) (total values zs + total values c.loop-monomial.right.monomials.items))
    (take_all c.loop-monomial.monomial-index c.as_slice-monomial-items.result.now (omega arith) ∙ c.as_slice-monomial-items.ensures.value)
    (c.loop-monomial.invariant.value values)
