use Rattle.sy_rewrite_orders.proofs.sums.constant_sum.Goals as goal

pub returns-in_ok-sum-in-Num : goal.returns-in_ok-sum-in-Num
returns-in_ok-sum-in-Num c = λ values. rw c.in-Num.is (c.in_ok-sum-in-Num.ensures values)
