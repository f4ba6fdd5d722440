use Rattle.sy_rewrite_orders.proofs.Operations.{tests, ult, ule, ugt, uge, slt, sle, sgt, sge}
use Rattle.sy_terms.specs.declared.op.Op.TheVariants as ops
use Rattle.std.proofs.Common.{true, false}
use Rattle.sy_rewrite_orders.proofs.comparisons.order_by.Goals as goal

pub returns-in-BvUlt : goal.returns-in-BvUlt
returns-in-BvUlt c = rw c.in-BvUlt.is (λ x y is. tests ops.BvUlt false c.args.equal x y ult c.if-not-equal.false is)

pub returns-in-BvUle : goal.returns-in-BvUle
returns-in-BvUle c = rw c.in-BvUle.is (λ x y is. tests ops.BvUle true c.args.equal x y ule c.if-not-equal.false is)

pub returns-in-BvUgt : goal.returns-in-BvUgt
returns-in-BvUgt c = rw c.in-BvUgt.is (λ x y is. tests ops.BvUgt false c.args.equal x y ugt c.if-not-equal.false is)

pub returns-in-BvUge : goal.returns-in-BvUge
returns-in-BvUge c = rw c.in-BvUge.is (λ x y is. tests ops.BvUge true c.args.equal x y uge c.if-not-equal.false is)

pub returns-in-BvSlt : goal.returns-in-BvSlt
returns-in-BvSlt c = rw c.in-BvSlt.is (λ x y is. tests ops.BvSlt false c.args.equal x y slt c.if-not-equal.false is)

pub returns-in-BvSle : goal.returns-in-BvSle
returns-in-BvSle c = rw c.in-BvSle.is (λ x y is. tests ops.BvSle true c.args.equal x y sle c.if-not-equal.false is)

pub returns-in-BvSgt : goal.returns-in-BvSgt
returns-in-BvSgt c = rw c.in-BvSgt.is (λ x y is. tests ops.BvSgt false c.args.equal x y sgt c.if-not-equal.false is)

pub returns-in-BvSge : goal.returns-in-BvSge
returns-in-BvSge c = rw c.in-BvSge.is (λ x y is. tests ops.BvSge true c.args.equal x y sge c.if-not-equal.false is)
