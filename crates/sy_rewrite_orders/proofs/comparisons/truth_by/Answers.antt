use Rattle.sy_rewrite_orders.proofs.Operations.{equal-by, distinct-by}
use Rattle.sy_rewrite_orders.proofs.comparisons.truth_by.Goals as goal

pub returns-in-Equal : goal.returns-in-Equal
returns-in-Equal c = rw c.in-Equal.is (λ x y is. equal-by c.args.equal x y is)

pub returns-in-Distinct : goal.returns-in-Distinct
returns-in-Distinct c = rw c.in-Distinct.is (λ x y is. distinct-by c.args.equal x y is)
