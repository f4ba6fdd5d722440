use Rattle.std.proofs.Common.{arith, ap, refl}
use Rattle.sy_terms.specs.Values.{Truth}
use Rattle.sy_terms.specs.Operators.{op_value}
use Rattle.sy_bits_operators.proofs.Results.{if_any, if_ok, on_ok}
use Rattle.sy_bits_operators.proofs.Pairs.{slt-is, sle-is, sgt-is, sge-is}
use Rattle.sy_bits_operators.proofs.alike.ordered.Goals as goal

pub compare-requires : goal.compare-requires
compare-requires c = record {
  same = c.requires.same;
  left = c.requires.left;
  right = c.requires.right;
  room = omega (arith, rw c.in-BvUlt.is at c.requires.room);
}

pub returns-in-BvUlt-clause-grown : goal.returns-in-BvUlt-clause-grown
returns-in-BvUlt-clause-grown c = c.compare.ensures.grown

pub returns-in-BvUlt-clause-cost : goal.returns-in-BvUlt-clause-cost
returns-in-BvUlt-clause-cost c = on_ok c.compare.result _ _ c.compare.ensures.cost (λ h. rw c.in-BvUlt.is (omega (arith, h)))

pub returns-in-BvUlt-clause-inside : goal.returns-in-BvUlt-clause-inside
returns-in-BvUlt-clause-inside c = c.compare.ensures.inside

pub returns-in-BvUlt-clause-sort : goal.returns-in-BvUlt-clause-sort
unfolding op_value
returns-in-BvUlt-clause-sort c = if_any c.compare.result _ (λ r v. rw c.in-BvUlt.is refl)

pub returns-in-BvUlt-clause-value : goal.returns-in-BvUlt-clause-value
unfolding op_value
returns-in-BvUlt-clause-value c = if_ok c.compare.result _ _ c.compare.ensures.value (λ r b v f. rw c.in-BvUlt.is (ap Truth (b v f)))

pub compare-requires-in-BvUle : goal.compare-requires-in-BvUle
compare-requires-in-BvUle c = record {
  same = c.requires.same;
  left = c.requires.left;
  right = c.requires.right;
  room = omega (arith, rw c.in-BvUle.is at c.requires.room);
}

pub returns-in-BvUle-clause-grown : goal.returns-in-BvUle-clause-grown
returns-in-BvUle-clause-grown c = c.compare-in-BvUle.ensures.grown

pub returns-in-BvUle-clause-cost : goal.returns-in-BvUle-clause-cost
returns-in-BvUle-clause-cost c = on_ok c.compare-in-BvUle.result _ _ c.compare-in-BvUle.ensures.cost (λ h. rw c.in-BvUle.is (omega (arith, h)))

pub returns-in-BvUle-clause-inside : goal.returns-in-BvUle-clause-inside
returns-in-BvUle-clause-inside c = c.compare-in-BvUle.ensures.inside

pub returns-in-BvUle-clause-sort : goal.returns-in-BvUle-clause-sort
unfolding op_value
returns-in-BvUle-clause-sort c = if_any c.compare-in-BvUle.result _ (λ r v. rw c.in-BvUle.is refl)

pub returns-in-BvUle-clause-value : goal.returns-in-BvUle-clause-value
unfolding op_value
returns-in-BvUle-clause-value c = if_ok c.compare-in-BvUle.result _ _ c.compare-in-BvUle.ensures.value (λ r b v f. rw c.in-BvUle.is (ap Truth (b v f)))

pub compare-requires-in-BvUgt : goal.compare-requires-in-BvUgt
compare-requires-in-BvUgt c = record {
  same = c.requires.same;
  left = c.requires.left;
  right = c.requires.right;
  room = omega (arith, rw c.in-BvUgt.is at c.requires.room);
}

pub returns-in-BvUgt-clause-grown : goal.returns-in-BvUgt-clause-grown
returns-in-BvUgt-clause-grown c = c.compare-in-BvUgt.ensures.grown

pub returns-in-BvUgt-clause-cost : goal.returns-in-BvUgt-clause-cost
returns-in-BvUgt-clause-cost c = on_ok c.compare-in-BvUgt.result _ _ c.compare-in-BvUgt.ensures.cost (λ h. rw c.in-BvUgt.is (omega (arith, h)))

pub returns-in-BvUgt-clause-inside : goal.returns-in-BvUgt-clause-inside
returns-in-BvUgt-clause-inside c = c.compare-in-BvUgt.ensures.inside

pub returns-in-BvUgt-clause-sort : goal.returns-in-BvUgt-clause-sort
unfolding op_value
returns-in-BvUgt-clause-sort c = if_any c.compare-in-BvUgt.result _ (λ r v. rw c.in-BvUgt.is refl)

pub returns-in-BvUgt-clause-value : goal.returns-in-BvUgt-clause-value
unfolding op_value
returns-in-BvUgt-clause-value c = if_ok c.compare-in-BvUgt.result _ _ c.compare-in-BvUgt.ensures.value (λ r b v f. rw c.in-BvUgt.is (ap Truth (b v f)))

pub compare-requires-in-BvUge : goal.compare-requires-in-BvUge
compare-requires-in-BvUge c = record {
  same = c.requires.same;
  left = c.requires.left;
  right = c.requires.right;
  room = omega (arith, rw c.in-BvUge.is at c.requires.room);
}

pub returns-in-BvUge-clause-grown : goal.returns-in-BvUge-clause-grown
returns-in-BvUge-clause-grown c = c.compare-in-BvUge.ensures.grown

pub returns-in-BvUge-clause-cost : goal.returns-in-BvUge-clause-cost
returns-in-BvUge-clause-cost c = on_ok c.compare-in-BvUge.result _ _ c.compare-in-BvUge.ensures.cost (λ h. rw c.in-BvUge.is (omega (arith, h)))

pub returns-in-BvUge-clause-inside : goal.returns-in-BvUge-clause-inside
returns-in-BvUge-clause-inside c = c.compare-in-BvUge.ensures.inside

pub returns-in-BvUge-clause-sort : goal.returns-in-BvUge-clause-sort
unfolding op_value
returns-in-BvUge-clause-sort c = if_any c.compare-in-BvUge.result _ (λ r v. rw c.in-BvUge.is refl)

pub returns-in-BvUge-clause-value : goal.returns-in-BvUge-clause-value
unfolding op_value
returns-in-BvUge-clause-value c = if_ok c.compare-in-BvUge.result _ _ c.compare-in-BvUge.ensures.value (λ r b v f. rw c.in-BvUge.is (ap Truth (b v f)))

pub signed_compare-requires : goal.signed_compare-requires
signed_compare-requires c = record {
  same = c.requires.same;
  wide = omega (arith, c.requires.least);
  left = c.requires.left;
  right = c.requires.right;
  room = omega (arith, rw c.in-BvSlt.is at c.requires.room);
}

pub returns-in-BvSlt-clause-grown : goal.returns-in-BvSlt-clause-grown
returns-in-BvSlt-clause-grown c = c.signed_compare.ensures.grown

pub returns-in-BvSlt-clause-cost : goal.returns-in-BvSlt-clause-cost
returns-in-BvSlt-clause-cost c = on_ok c.signed_compare.result _ _ c.signed_compare.ensures.cost (λ h. rw c.in-BvSlt.is (omega (arith, h)))

pub returns-in-BvSlt-clause-inside : goal.returns-in-BvSlt-clause-inside
returns-in-BvSlt-clause-inside c = c.signed_compare.ensures.inside

pub returns-in-BvSlt-clause-sort : goal.returns-in-BvSlt-clause-sort
unfolding op_value
returns-in-BvSlt-clause-sort c = if_any c.signed_compare.result _ (λ r v. rw c.in-BvSlt.is refl)

pub returns-in-BvSlt-clause-value : goal.returns-in-BvSlt-clause-value
returns-in-BvSlt-clause-value c = if_ok c.signed_compare.result _ _ c.signed_compare.ensures.value (λ r b v f. rw c.in-BvSlt.is (slt-is v c.args.s.now c.args.t.now _ c.requires.least c.requires.same (b v f)))

pub signed_compare-requires-in-BvSle : goal.signed_compare-requires-in-BvSle
signed_compare-requires-in-BvSle c = record {
  same = c.requires.same;
  wide = omega (arith, c.requires.least);
  left = c.requires.left;
  right = c.requires.right;
  room = omega (arith, rw c.in-BvSle.is at c.requires.room);
}

pub returns-in-BvSle-clause-grown : goal.returns-in-BvSle-clause-grown
returns-in-BvSle-clause-grown c = c.signed_compare-in-BvSle.ensures.grown

pub returns-in-BvSle-clause-cost : goal.returns-in-BvSle-clause-cost
returns-in-BvSle-clause-cost c = on_ok c.signed_compare-in-BvSle.result _ _ c.signed_compare-in-BvSle.ensures.cost (λ h. rw c.in-BvSle.is (omega (arith, h)))

pub returns-in-BvSle-clause-inside : goal.returns-in-BvSle-clause-inside
returns-in-BvSle-clause-inside c = c.signed_compare-in-BvSle.ensures.inside

pub returns-in-BvSle-clause-sort : goal.returns-in-BvSle-clause-sort
unfolding op_value
returns-in-BvSle-clause-sort c = if_any c.signed_compare-in-BvSle.result _ (λ r v. rw c.in-BvSle.is refl)

pub returns-in-BvSle-clause-value : goal.returns-in-BvSle-clause-value
returns-in-BvSle-clause-value c = if_ok c.signed_compare-in-BvSle.result _ _ c.signed_compare-in-BvSle.ensures.value (λ r b v f. rw c.in-BvSle.is (sle-is v c.args.s.now c.args.t.now _ c.requires.least c.requires.same (b v f)))

pub signed_compare-requires-in-BvSgt : goal.signed_compare-requires-in-BvSgt
signed_compare-requires-in-BvSgt c = record {
  same = c.requires.same;
  wide = omega (arith, c.requires.least);
  left = c.requires.left;
  right = c.requires.right;
  room = omega (arith, rw c.in-BvSgt.is at c.requires.room);
}

pub returns-in-BvSgt-clause-grown : goal.returns-in-BvSgt-clause-grown
returns-in-BvSgt-clause-grown c = c.signed_compare-in-BvSgt.ensures.grown

pub returns-in-BvSgt-clause-cost : goal.returns-in-BvSgt-clause-cost
returns-in-BvSgt-clause-cost c = on_ok c.signed_compare-in-BvSgt.result _ _ c.signed_compare-in-BvSgt.ensures.cost (λ h. rw c.in-BvSgt.is (omega (arith, h)))

pub returns-in-BvSgt-clause-inside : goal.returns-in-BvSgt-clause-inside
returns-in-BvSgt-clause-inside c = c.signed_compare-in-BvSgt.ensures.inside

pub returns-in-BvSgt-clause-sort : goal.returns-in-BvSgt-clause-sort
unfolding op_value
returns-in-BvSgt-clause-sort c = if_any c.signed_compare-in-BvSgt.result _ (λ r v. rw c.in-BvSgt.is refl)

pub returns-in-BvSgt-clause-value : goal.returns-in-BvSgt-clause-value
returns-in-BvSgt-clause-value c = if_ok c.signed_compare-in-BvSgt.result _ _ c.signed_compare-in-BvSgt.ensures.value (λ r b v f. rw c.in-BvSgt.is (sgt-is v c.args.s.now c.args.t.now _ c.requires.least c.requires.same (b v f)))

pub signed_compare-requires-in-BvSge : goal.signed_compare-requires-in-BvSge
signed_compare-requires-in-BvSge c = record {
  same = c.requires.same;
  wide = omega (arith, c.requires.least);
  left = c.requires.left;
  right = c.requires.right;
  room = omega (arith, rw c.in-BvSge.is at c.requires.room);
}

pub returns-in-BvSge-clause-grown : goal.returns-in-BvSge-clause-grown
returns-in-BvSge-clause-grown c = c.signed_compare-in-BvSge.ensures.grown

pub returns-in-BvSge-clause-cost : goal.returns-in-BvSge-clause-cost
returns-in-BvSge-clause-cost c = on_ok c.signed_compare-in-BvSge.result _ _ c.signed_compare-in-BvSge.ensures.cost (λ h. rw c.in-BvSge.is (omega (arith, h)))

pub returns-in-BvSge-clause-inside : goal.returns-in-BvSge-clause-inside
returns-in-BvSge-clause-inside c = c.signed_compare-in-BvSge.ensures.inside

pub returns-in-BvSge-clause-sort : goal.returns-in-BvSge-clause-sort
unfolding op_value
returns-in-BvSge-clause-sort c = if_any c.signed_compare-in-BvSge.result _ (λ r v. rw c.in-BvSge.is refl)

pub returns-in-BvSge-clause-value : goal.returns-in-BvSge-clause-value
returns-in-BvSge-clause-value c = if_ok c.signed_compare-in-BvSge.result _ _ c.signed_compare-in-BvSge.ensures.value (λ r b v f. rw c.in-BvSge.is (sge-is v c.args.s.now c.args.t.now _ c.requires.least c.requires.same (b v f)))
