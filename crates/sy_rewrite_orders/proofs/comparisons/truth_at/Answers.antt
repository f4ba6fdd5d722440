use Rattle.sy_terms.specs.Denoted.{expr_of}
use Rattle.sy_meaning_words.specs.Vectors.{vector}
use Rattle.sy_rewrite_orders.proofs.TermsLaws.{compared-found}
use Rattle.sy_rewrite_orders.proofs.comparisons.truth_at.Goals as goal

pub returns : goal.returns
returns c =
    compared-found c.args.sorts.now c.truth_by.result c.args.operator (expr_of vector c.args.left.now) (expr_of vector c.args.right.now) c.in-Some.first c.in-Some-2.second c.in-Some-3.equal (rw c.in-Some.is at c.in_ok-first.ensures) (rw c.in-Some-2.is at c.in_ok-second.ensures) (rw c.in-Some-3.is at c.in_ok-equal.ensures) c.truth_by.ensures
