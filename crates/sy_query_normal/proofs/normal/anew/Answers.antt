use Rattle.sy_terms.specs.Expr.{Apply}
use Rattle.sy_terms.specs.Denoted.{expr_of, exprs_of}
use Rattle.sy_terms.specs.declared.op.Op.TheVariants as ops
use Rattle.sy_meaning_words.specs.Vectors.{vector}
use Rattle.sy_rewrite_orders.specs.Sums.{IsSameOver}
use Rattle.sy_query_normal.proofs.Pairs.{over_these}
use Rattle.sy_query_normal.proofs.normal.anew.Goals as goal

pub returns-in_ok-found-in-Ite : goal.returns-in_ok-found-in-Ite
returns-in_ok-found-in-Ite c =
    rw c.in-Ite.is (over_these c.in_ok-found-in-Ite.found (λ term sorts. IsSameOver sorts (expr_of vector term) (Apply ops.Ite (exprs_of vector c.args.arguments.now.items.items))) c.args.sorts.now c.in_ok-found-in-Ite.ensures)
