use Rattle.std.proofs.Common.{arith, ap, refl, ◌∙◌}
use Rattle.sy_bits_sums.specs.declared.monomial.Monomial.{Monomial}
use Rattle.sy_bits_sums.specs.Polynomials.{product}
use Rattle.sy_bits_sums.proofs.Agreeing.{agree-same}
use Rattle.sy_bits_sums.proofs.Adding.{joined, kept, dropped}
use Rattle.sy_bits_sums.proofs.sum.Sum.add.Goals as goal
use Rattle.sy_bits_sums.proofs.sum.Sum.add.Goals.{then-has_at, else-has_at}

pub returns-in_ok-insert-clause-value : goal.returns-in_ok-insert-clause-value
returns-in_ok-insert-clause-value c = λ values. kept _ values c.if-has_at.self.monomials.items c.insert.new.self.items c.place_of-place.result _ _ c.in_ok-insert.ensures.items (elim c.if-has_at.branch [
  | then-has_at w ↦ rw (w.self-is, w.coefficient-is) (joined _ values c.args.self.now.monomials.items w.remove-like.new.self.items c.place_of-place.result w.remove-like.result c.args.monomial.factors.items c.args.monomial.coefficient w.sum_modulo-coefficient.result (c.has_at.ensures.within w.if-has_at.true) w.remove-like.ensures.value (ap (λ (m : Monomial). m.factors.items) w.remove-like.ensures.value ∙ c.has_at.ensures.same w.if-has_at.true w.remove-like.result ∙ c.as_slice-3.ensures.value) w.remove-like.ensures.items w.sum_modulo-coefficient.ensures)
  | else-has_at w ↦ rw (w.self-is, w.coefficient-is) (agree-same _ _ _ refl)
])

pub returns-else-coefficient-ne0-clause-value : goal.returns-else-coefficient-ne0-clause-value
returns-else-coefficient-ne0-clause-value c = λ values. dropped _ values c.if-has_at.self.monomials.items c.if-has_at.coefficient (product values c.args.monomial.factors.items) _ (omega (arith, c.if-coefficient-ne0.false)) (elim c.if-has_at.branch [
  | then-has_at w ↦ rw (w.self-is, w.coefficient-is) (joined _ values c.args.self.now.monomials.items w.remove-like.new.self.items c.place_of-place.result w.remove-like.result c.args.monomial.factors.items c.args.monomial.coefficient w.sum_modulo-coefficient.result (c.has_at.ensures.within w.if-has_at.true) w.remove-like.ensures.value (ap (λ (m : Monomial). m.factors.items) w.remove-like.ensures.value ∙ c.has_at.ensures.same w.if-has_at.true w.remove-like.result ∙ c.as_slice-3.ensures.value) w.remove-like.ensures.items w.sum_modulo-coefficient.ensures)
  | else-has_at w ↦ rw (w.self-is, w.coefficient-is) (agree-same _ _ _ refl)
])
