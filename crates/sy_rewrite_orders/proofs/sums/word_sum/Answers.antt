use Rattle.std.proofs.Common.{◌≡◌, ◌∙◌, subst}
use Rattle.sy_bits_sums.specs.Polynomials.{total, Agree}
use Rattle.sy_rewrite_orders.specs.Sums.{number_at}
use Rattle.sy_rewrite_orders.proofs.TermsLaws.{constant-has}
use Rattle.sy_rewrite_orders.proofs.sums.word_sum.Goals as goal

pub returns : goal.returns
returns c = λ values.
    let width : c.from.result ≡ c.args.word.width = c.from.ensures ∙ c.width.ensures in
    let agrees = subst (λ n. Agree c.from.result (total (number_at values) c.in_ok-sum.sum.monomials.items) n) c.bits.ensures (c.in_ok-sum.ensures.value (number_at values)) in
    constant-has values c.in_ok-sum.sum c.args.word.width c.args.word.bits (c.in_ok-sum.ensures.width ∙ width) (subst (λ w. Agree w (total (number_at values) c.in_ok-sum.sum.monomials.items) c.args.word.bits) width agrees) c.args.word.is_valid
