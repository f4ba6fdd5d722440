use Rattle.std.proofs.Common.{◌∙◌, subst}
use Rattle.sy_terms.specs.Denoted.{expr_of}
use Rattle.sy_query_base.specs.Asked.{query_of}
use Rattle.sy_meaning_words.specs.Vectors.{vector}
use Rattle.sy_rewrite_orders.specs.Sums.{IsSameOver}
use Rattle.sy_rewrite_orders.proofs.TermsLaws.{satisfied-same}
use Rattle.sy_rewrite_orders.proofs.sums_query.settled_query.Goals as goal

pub returns-clause-same : goal.returns-clause-same
returns-clause-same c =
    let same = c.in_ok-vars.ensures ∙ c.as_slice.ensures in
    let is = subst (λ sorts. IsSameOver sorts (expr_of vector c.in_ok-body.body) (expr_of vector c.args.query.now.body)) c.as_slice-2.ensures c.in_ok-body.ensures in
    satisfied-same (query_of vector c.args.query.now) (query_of vector (record { vars = c.in_ok-vars.vars; body = c.in_ok-body.body })) same is
