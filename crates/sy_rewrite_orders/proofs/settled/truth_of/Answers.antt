use Rattle.std.proofs.Common.{◌≡◌, length, arith}
use Rattle.sy_terms.specs.Denoted.{expr_of, exprs_of}
use Rattle.sy_meaning_words.specs.Vectors.{vector}
use Rattle.sy_rewrite_orders.proofs.TermsLaws.{truth-found, two-terms}
use Rattle.sy_rewrite_orders.proofs.settled.truth_of.Goals as goal

pub returns : goal.returns
returns c =
    let many : length c.args.arguments.now.items.items ≡ 2 = omega (arith, c.len.ensures) in
    truth-found c.args.sorts.now c.in_ok-found.found c.args.operator (expr_of vector c.in-Some-Some.left.now) (expr_of vector c.in-Some-Some.right.now) (exprs_of vector c.args.arguments.now.items.items)
    (λ values. two-terms vector values c.args.arguments.now.items.items c.in-Some-Some.left.now c.in-Some-Some.right.now many c.in-Some-Some.ensures c.in-Some-Some.ensures') c.in_ok-found.ensures
