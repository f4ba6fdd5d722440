use Rattle.std.proofs.Common.{◌∙◌, ap, sym, Some}
use Rattle.sy_terms.specs.declared.sort.Sort.TheVariants as sorts
use Rattle.sy_rewrite_orders.specs.Sums.{number_at}
use Rattle.sy_rewrite_orders.proofs.TermsLaws.{variable-has}
use Rattle.sy_rewrite_orders.proofs.sums.variable_sum.Goals as goal

pub returns : goal.returns
returns c = λ values sorted.
    variable-has c.args.sorts.now values c.in_ok-sum.sum c.from.result c.args.position c.in_ok-sum.ensures.width (c.in-Some.ensures.sort ∙ ap (λ w. Some (sorts.Bits w)) (sym c.from.ensures)) (c.in_ok-sum.ensures.value (number_at values)) sorted
