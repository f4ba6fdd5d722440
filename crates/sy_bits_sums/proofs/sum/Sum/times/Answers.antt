use Rattle.std.proofs.Common.{arith, ◌*◌, ◌∙◌, List, subst}
use Rattle.std.proofs.lemmas.List.{take_all}
use Rattle.sy_bits_sums.specs.declared.monomial.Monomial.{Monomial}
use Rattle.sy_bits_sums.specs.Polynomials.{total, Agree}
use Rattle.sy_bits_sums.proofs.Adding.{more-products}
use Rattle.sy_bits_sums.proofs.sum.Sum.times.Goals as goal

pub loop-monomial-preserved : goal.loop-monomial-preserved
loop-monomial-preserved c = record {
  width = c.in_ok-add_multiple.ensures.width ∙ c.loop-monomial.invariant.width;
  value = λ values. more-products c.args.width values c.as_slice-monomial-items.result.now c.loop-monomial.monomial-index c.monomial-item.result (total values c.args.self.now.monomials.items) _ _ (omega arith) c.monomial-item.is (c.loop-monomial.invariant.value values) (rw c.loop-monomial.invariant.width at (c.in_ok-add_multiple.ensures.value values));
}

pub returns-clause-value : goal.returns-clause-value
returns-clause-value c = λ values.
    subst (λ (zs : List Monomial). Agree c.args.width (total values c.loop-monomial.sum.monomials.items) (total values c.args.self.now.monomials.items * total values zs))
    (take_all c.loop-monomial.monomial-index c.as_slice-monomial-items.result.now (omega arith) ∙ c.as_slice-monomial-items.ensures.value)
    (c.loop-monomial.invariant.value values)
