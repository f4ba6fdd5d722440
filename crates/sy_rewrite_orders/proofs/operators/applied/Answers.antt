use Rattle.std.proofs.Common.{arith}
use Rattle.sy_rewrite_orders.proofs.TermsLaws.{one-found, two-found, many-found}
use Rattle.sy_rewrite_orders.proofs.operators.applied.Goals as goal

pub returns-in_ok-found-in-len1 : goal.returns-in_ok-found-in-len1
returns-in_ok-found-in-len1 c =
    one-found c.in_ok-found-in-len1.found c.args.operator c.args.sums.now c.sum-item.result (omega (arith, c.in-len1.len_at_least, c.in-len1.len_below)) c.sum-item.is c.in_ok-found-in-len1.ensures

pub returns-in_ok-found-in-len2 : goal.returns-in_ok-found-in-len2
returns-in_ok-found-in-len2 c =
    two-found c.in_ok-found-in-len2.found c.args.operator c.args.sums.now c.left-item.result c.right-item.result (omega (arith, c.in-len2.len_at_least, c.in-len2.len_below)) c.left-item.is c.right-item.is c.in_ok-found-in-len2.ensures

pub returns-in_ok-found-in-len2-up : goal.returns-in_ok-found-in-len2-up
returns-in_ok-found-in-len2-up c =
    many-found c.in_ok-found-in-len2-up.found c.args.operator c.args.sums.now c.first-item.result c.second-item.result (omega (arith, c.in-len2-up.len_at_least)) c.first-item.is c.second-item.is c.in_ok-found-in-len2-up.ensures
