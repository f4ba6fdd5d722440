use Rattle.std.proofs.Common.{◌∙◌, ap, sym, map}
use Rattle.sy_bits_words.specs.Sums.{monomial_content}
use Rattle.sy_bits_words.proofs.Contents.{same-totals}
use Rattle.sy_bits_words.proofs.sums.same_sum.Goals as goal

pub returns-then-a-b-clause-value : goal.returns-then-a-b-clause-value
returns-then-a-b-clause-value c = λ yes values.
    same-totals values c.args.a.now.monomials.items c.args.b.now.monomials.items
    (ap (map monomial_content) (sym c.as_slice.ensures.value) ∙ c.same_monomials.ensures.0 yes ∙ ap (map monomial_content) c.as_slice-then-a-b.ensures.value)
