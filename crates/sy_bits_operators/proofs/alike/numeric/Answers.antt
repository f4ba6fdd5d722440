use Rattle.std.proofs.Common.{arith, ap}
use Rattle.std.proofs.lemmas.Result.{IfOk-from_err}
use Rattle.sy_terms.specs.Operators.{op_value}
use Rattle.sy_terms.specs.declared.sort.Sort.TheVariants as sorts
use Rattle.sy_bits_operators.proofs.Results.{if_ok, if_both, on_ok}
use Rattle.sy_bits_operators.proofs.Pairs.{vector-is, sub-is, udiv-is, urem-is, sdiv-is, srem-is, smod-is, shl-is, lshr-is, ashr-is, comp-is}
use Rattle.sy_bits_operators.proofs.alike.numeric.Goals as goal

pub add-requires : goal.add-requires
add-requires c = record {
  same = c.requires.same;
  left = c.requires.left;
  right = c.requires.right;
  room = omega (arith, rw c.in-BvAdd.is at c.requires.room);
}

pub returns-in-BvAdd-clause-grown : goal.returns-in-BvAdd-clause-grown
returns-in-BvAdd-clause-grown c = c.add.ensures.grown

pub returns-in-BvAdd-clause-cost : goal.returns-in-BvAdd-clause-cost
returns-in-BvAdd-clause-cost c = on_ok c.add.result _ _ c.add.ensures.cost (λ h. rw c.in-BvAdd.is (omega (arith, h)))

pub returns-in-BvAdd-clause-inside : goal.returns-in-BvAdd-clause-inside
returns-in-BvAdd-clause-inside c = c.add.ensures.inside

pub returns-in-BvAdd-clause-sort : goal.returns-in-BvAdd-clause-sort
unfolding op_value
returns-in-BvAdd-clause-sort c = if_ok c.add.result _ _ c.add.ensures.width (λ r w v. rw c.in-BvAdd.is (ap sorts.Bits w))

pub returns-in-BvAdd-clause-value : goal.returns-in-BvAdd-clause-value
unfolding op_value
returns-in-BvAdd-clause-value c = if_both c.add.result _ _ _ c.add.ensures.width c.add.ensures.value (λ r w n v f. rw c.in-BvAdd.is (vector-is _ _ _ _ w (n v f)))

pub sub-requires : goal.sub-requires
sub-requires c = record {
  same = c.requires.same;
  left = c.requires.left;
  right = c.requires.right;
  room = omega (arith, rw c.in-BvSub.is at c.requires.room);
}

pub returns-in-BvSub-clause-grown : goal.returns-in-BvSub-clause-grown
returns-in-BvSub-clause-grown c = c.sub.ensures.grown

pub returns-in-BvSub-clause-cost : goal.returns-in-BvSub-clause-cost
returns-in-BvSub-clause-cost c = on_ok c.sub.result _ _ c.sub.ensures.cost (λ h. rw c.in-BvSub.is (omega (arith, h)))

pub returns-in-BvSub-clause-inside : goal.returns-in-BvSub-clause-inside
returns-in-BvSub-clause-inside c = c.sub.ensures.inside

pub returns-in-BvSub-clause-sort : goal.returns-in-BvSub-clause-sort
unfolding op_value
returns-in-BvSub-clause-sort c = if_ok c.sub.result _ _ c.sub.ensures.width (λ r w v. rw c.in-BvSub.is (ap sorts.Bits w))

pub returns-in-BvSub-clause-value : goal.returns-in-BvSub-clause-value
returns-in-BvSub-clause-value c = if_both c.sub.result _ _ _ c.sub.ensures.width c.sub.ensures.value (λ r w n v f. rw c.in-BvSub.is (sub-is v c.args.s.now c.args.t.now r c.requires.same w (n v f)))

pub mul-requires : goal.mul-requires
mul-requires c = record {
  same = c.requires.same;
  left = c.requires.left;
  right = c.requires.right;
  room = omega (arith, rw c.in-BvMul.is at c.requires.room);
}

pub returns-in-BvMul-clause-grown : goal.returns-in-BvMul-clause-grown
returns-in-BvMul-clause-grown c = c.mul.ensures.grown

pub returns-in-BvMul-clause-cost : goal.returns-in-BvMul-clause-cost
returns-in-BvMul-clause-cost c = on_ok c.mul.result _ _ c.mul.ensures.cost (λ h. rw c.in-BvMul.is (omega (arith, h)))

pub returns-in-BvMul-clause-inside : goal.returns-in-BvMul-clause-inside
returns-in-BvMul-clause-inside c = c.mul.ensures.inside

pub returns-in-BvMul-clause-sort : goal.returns-in-BvMul-clause-sort
unfolding op_value
returns-in-BvMul-clause-sort c = if_ok c.mul.result _ _ c.mul.ensures.width (λ r w v. rw c.in-BvMul.is (ap sorts.Bits w))

pub returns-in-BvMul-clause-value : goal.returns-in-BvMul-clause-value
unfolding op_value
returns-in-BvMul-clause-value c = if_both c.mul.result _ _ _ c.mul.ensures.width c.mul.ensures.value (λ r w n v f. rw c.in-BvMul.is (vector-is _ _ _ _ w (n v f)))

pub divide-requires : goal.divide-requires
divide-requires c = record {
  same = c.requires.same;
  small = omega (arith, c.requires.most);
  left = c.requires.left;
  right = c.requires.right;
  room = omega (arith, rw c.in-BvUdiv.is at c.requires.room);
}

pub returns-in_err-divide-in-BvUdiv-clause-inside : goal.returns-in_err-divide-in-BvUdiv-clause-inside
returns-in_err-divide-in-BvUdiv-clause-inside c = IfOk-from_err c.from_residual.result _ c.from_residual.ensures.0

pub returns-in_err-divide-in-BvUdiv-clause-sort : goal.returns-in_err-divide-in-BvUdiv-clause-sort
returns-in_err-divide-in-BvUdiv-clause-sort c = IfOk-from_err c.from_residual.result _ c.from_residual.ensures.0

pub returns-in_err-divide-in-BvUdiv-clause-value : goal.returns-in_err-divide-in-BvUdiv-clause-value
returns-in_err-divide-in-BvUdiv-clause-value c = IfOk-from_err c.from_residual.result _ c.from_residual.ensures.0

pub returns-in_ok-divide-in-BvUdiv-clause-cost : goal.returns-in_ok-divide-in-BvUdiv-clause-cost
returns-in_ok-divide-in-BvUdiv-clause-cost c = rw c.in-BvUdiv.is (omega (arith, c.in_ok-divide-in-BvUdiv.ensures.cost))

pub returns-in_ok-divide-in-BvUdiv-clause-sort : goal.returns-in_ok-divide-in-BvUdiv-clause-sort
unfolding op_value
returns-in_ok-divide-in-BvUdiv-clause-sort c = λ v. rw c.in-BvUdiv.is (ap sorts.Bits c.in_ok-divide-in-BvUdiv.ensures.quotient_width)

pub returns-in_ok-divide-in-BvUdiv-clause-value : goal.returns-in_ok-divide-in-BvUdiv-clause-value
returns-in_ok-divide-in-BvUdiv-clause-value c = λ v f. rw c.in-BvUdiv.is (udiv-is v c.args.s.now c.args.t.now _ c.in_ok-divide-in-BvUdiv.ensures.quotient_width (c.in_ok-divide-in-BvUdiv.ensures.quotient v f))

pub divide-requires-in-BvUrem : goal.divide-requires-in-BvUrem
divide-requires-in-BvUrem c = record {
  same = c.requires.same;
  small = omega (arith, c.requires.most);
  left = c.requires.left;
  right = c.requires.right;
  room = omega (arith, rw c.in-BvUrem.is at c.requires.room);
}

pub returns-in_err-divide-in-BvUrem-clause-inside : goal.returns-in_err-divide-in-BvUrem-clause-inside
returns-in_err-divide-in-BvUrem-clause-inside c = IfOk-from_err c.from_residual-in_err-divide-in-BvUrem.result _ c.from_residual-in_err-divide-in-BvUrem.ensures.0

pub returns-in_err-divide-in-BvUrem-clause-sort : goal.returns-in_err-divide-in-BvUrem-clause-sort
returns-in_err-divide-in-BvUrem-clause-sort c = IfOk-from_err c.from_residual-in_err-divide-in-BvUrem.result _ c.from_residual-in_err-divide-in-BvUrem.ensures.0

pub returns-in_err-divide-in-BvUrem-clause-value : goal.returns-in_err-divide-in-BvUrem-clause-value
returns-in_err-divide-in-BvUrem-clause-value c = IfOk-from_err c.from_residual-in_err-divide-in-BvUrem.result _ c.from_residual-in_err-divide-in-BvUrem.ensures.0

pub returns-in_ok-divide-in-BvUrem-clause-cost : goal.returns-in_ok-divide-in-BvUrem-clause-cost
returns-in_ok-divide-in-BvUrem-clause-cost c = rw c.in-BvUrem.is (omega (arith, c.in_ok-divide-in-BvUrem.ensures.cost))

pub returns-in_ok-divide-in-BvUrem-clause-sort : goal.returns-in_ok-divide-in-BvUrem-clause-sort
unfolding op_value
returns-in_ok-divide-in-BvUrem-clause-sort c = λ v. rw c.in-BvUrem.is (ap sorts.Bits c.in_ok-divide-in-BvUrem.ensures.remainder_width)

pub returns-in_ok-divide-in-BvUrem-clause-value : goal.returns-in_ok-divide-in-BvUrem-clause-value
returns-in_ok-divide-in-BvUrem-clause-value c = λ v f. rw c.in-BvUrem.is (urem-is v c.args.s.now c.args.t.now _ c.in_ok-divide-in-BvUrem.ensures.remainder_width (c.in_ok-divide-in-BvUrem.ensures.remainder v f))

pub signed_quotient-requires : goal.signed_quotient-requires
signed_quotient-requires c = record {
  same = c.requires.same;
  wide = omega (arith, c.requires.least);
  left = c.requires.left;
  right = c.requires.right;
  small = omega (arith, c.requires.most);
  room = omega (arith, rw c.in-BvSdiv.is at c.requires.room);
}

pub returns-in-BvSdiv-clause-grown : goal.returns-in-BvSdiv-clause-grown
returns-in-BvSdiv-clause-grown c = c.signed_quotient.ensures.grown

pub returns-in-BvSdiv-clause-cost : goal.returns-in-BvSdiv-clause-cost
returns-in-BvSdiv-clause-cost c = on_ok c.signed_quotient.result _ _ c.signed_quotient.ensures.cost (λ h. rw c.in-BvSdiv.is (omega (arith, h)))

pub returns-in-BvSdiv-clause-inside : goal.returns-in-BvSdiv-clause-inside
returns-in-BvSdiv-clause-inside c = c.signed_quotient.ensures.inside

pub returns-in-BvSdiv-clause-sort : goal.returns-in-BvSdiv-clause-sort
unfolding op_value
returns-in-BvSdiv-clause-sort c = if_ok c.signed_quotient.result _ _ c.signed_quotient.ensures.width (λ r w v. rw c.in-BvSdiv.is (ap sorts.Bits w))

pub returns-in-BvSdiv-clause-value : goal.returns-in-BvSdiv-clause-value
returns-in-BvSdiv-clause-value c = if_both c.signed_quotient.result _ _ _ c.signed_quotient.ensures.width c.signed_quotient.ensures.value (λ r w n v f. rw c.in-BvSdiv.is (sdiv-is v c.args.s.now c.args.t.now r c.requires.same w (n v f)))

pub signed_remainder-requires : goal.signed_remainder-requires
signed_remainder-requires c = record {
  same = c.requires.same;
  wide = omega (arith, c.requires.least);
  left = c.requires.left;
  right = c.requires.right;
  small = omega (arith, c.requires.most);
  room = omega (arith, rw c.in-BvSrem.is at c.requires.room);
}

pub returns-in-BvSrem-clause-grown : goal.returns-in-BvSrem-clause-grown
returns-in-BvSrem-clause-grown c = c.signed_remainder.ensures.grown

pub returns-in-BvSrem-clause-cost : goal.returns-in-BvSrem-clause-cost
returns-in-BvSrem-clause-cost c = on_ok c.signed_remainder.result _ _ c.signed_remainder.ensures.cost (λ h. rw c.in-BvSrem.is (omega (arith, h)))

pub returns-in-BvSrem-clause-inside : goal.returns-in-BvSrem-clause-inside
returns-in-BvSrem-clause-inside c = c.signed_remainder.ensures.inside

pub returns-in-BvSrem-clause-sort : goal.returns-in-BvSrem-clause-sort
unfolding op_value
returns-in-BvSrem-clause-sort c = if_ok c.signed_remainder.result _ _ c.signed_remainder.ensures.width (λ r w v. rw c.in-BvSrem.is (ap sorts.Bits w))

pub returns-in-BvSrem-clause-value : goal.returns-in-BvSrem-clause-value
returns-in-BvSrem-clause-value c = if_both c.signed_remainder.result _ _ _ c.signed_remainder.ensures.width c.signed_remainder.ensures.value (λ r w n v f. rw c.in-BvSrem.is (srem-is v c.args.s.now c.args.t.now r c.requires.same w (n v f)))

pub signed_modulo-requires : goal.signed_modulo-requires
signed_modulo-requires c = record {
  same = c.requires.same;
  wide = omega (arith, c.requires.least);
  left = c.requires.left;
  right = c.requires.right;
  small = omega (arith, c.requires.most);
  room = omega (arith, rw c.in-BvSmod.is at c.requires.room);
}

pub returns-in-BvSmod-clause-grown : goal.returns-in-BvSmod-clause-grown
returns-in-BvSmod-clause-grown c = c.signed_modulo.ensures.grown

pub returns-in-BvSmod-clause-cost : goal.returns-in-BvSmod-clause-cost
returns-in-BvSmod-clause-cost c = on_ok c.signed_modulo.result _ _ c.signed_modulo.ensures.cost (λ h. rw c.in-BvSmod.is (omega (arith, h)))

pub returns-in-BvSmod-clause-inside : goal.returns-in-BvSmod-clause-inside
returns-in-BvSmod-clause-inside c = c.signed_modulo.ensures.inside

pub returns-in-BvSmod-clause-sort : goal.returns-in-BvSmod-clause-sort
unfolding op_value
returns-in-BvSmod-clause-sort c = if_ok c.signed_modulo.result _ _ c.signed_modulo.ensures.width (λ r w v. rw c.in-BvSmod.is (ap sorts.Bits w))

pub returns-in-BvSmod-clause-value : goal.returns-in-BvSmod-clause-value
returns-in-BvSmod-clause-value c = if_both c.signed_modulo.result _ _ _ c.signed_modulo.ensures.width c.signed_modulo.ensures.value (λ r w n v f. rw c.in-BvSmod.is (smod-is v c.args.s.now c.args.t.now r c.requires.same w (n v f)))

pub shift_up-requires : goal.shift_up-requires
shift_up-requires c = record {
  small = omega (arith, c.requires.most);
  left = c.requires.left;
  right = c.requires.right;
  room = rw c.requires.same (omega (arith, rw c.in-BvShl.is at c.requires.room));
}

pub returns-in-BvShl-clause-grown : goal.returns-in-BvShl-clause-grown
returns-in-BvShl-clause-grown c = c.shift_up.ensures.grown

pub returns-in-BvShl-clause-cost : goal.returns-in-BvShl-clause-cost
returns-in-BvShl-clause-cost c = on_ok c.shift_up.result _ _ c.shift_up.ensures.cost (λ h. rw c.in-BvShl.is (omega (arith, rw c.requires.same at h)))

pub returns-in-BvShl-clause-inside : goal.returns-in-BvShl-clause-inside
returns-in-BvShl-clause-inside c = c.shift_up.ensures.inside

pub returns-in-BvShl-clause-sort : goal.returns-in-BvShl-clause-sort
unfolding op_value
returns-in-BvShl-clause-sort c = if_ok c.shift_up.result _ _ c.shift_up.ensures.width (λ r w v. rw c.in-BvShl.is (ap sorts.Bits w))

pub returns-in-BvShl-clause-value : goal.returns-in-BvShl-clause-value
returns-in-BvShl-clause-value c = if_both c.shift_up.result _ _ _ c.shift_up.ensures.width c.shift_up.ensures.value (λ r w n v f. rw c.in-BvShl.is (shl-is v c.args.s.now c.args.t.now r w (n v f)))

pub shift_down-requires : goal.shift_down-requires
shift_down-requires c = record {
  small = omega (arith, c.requires.most);
  left = c.requires.left;
  right = c.requires.right;
  room = rw c.requires.same (omega (arith, rw c.in-BvLshr.is at c.requires.room));
}

pub returns-in-BvLshr-clause-grown : goal.returns-in-BvLshr-clause-grown
returns-in-BvLshr-clause-grown c = c.shift_down.ensures.grown

pub returns-in-BvLshr-clause-cost : goal.returns-in-BvLshr-clause-cost
returns-in-BvLshr-clause-cost c = on_ok c.shift_down.result _ _ c.shift_down.ensures.cost (λ h. rw c.in-BvLshr.is (omega (arith, rw c.requires.same at h)))

pub returns-in-BvLshr-clause-inside : goal.returns-in-BvLshr-clause-inside
returns-in-BvLshr-clause-inside c = c.shift_down.ensures.inside

pub returns-in-BvLshr-clause-sort : goal.returns-in-BvLshr-clause-sort
unfolding op_value
returns-in-BvLshr-clause-sort c = if_ok c.shift_down.result _ _ c.shift_down.ensures.width (λ r w v. rw c.in-BvLshr.is (ap sorts.Bits w))

pub returns-in-BvLshr-clause-value : goal.returns-in-BvLshr-clause-value
returns-in-BvLshr-clause-value c = if_both c.shift_down.result _ _ _ c.shift_down.ensures.width c.shift_down.ensures.value (λ r w n v f. rw c.in-BvLshr.is (lshr-is v c.args.s.now c.args.t.now r w (n v f)))

pub signed_shift_down-requires : goal.signed_shift_down-requires
signed_shift_down-requires c = record {
  wide = omega (arith, c.requires.least);
  small = omega (arith, c.requires.most);
  left = c.requires.left;
  right = c.requires.right;
  room = rw c.requires.same (omega (arith, rw c.in-BvAshr.is at c.requires.room));
}

pub returns-in-BvAshr-clause-grown : goal.returns-in-BvAshr-clause-grown
returns-in-BvAshr-clause-grown c = c.signed_shift_down.ensures.grown

pub returns-in-BvAshr-clause-cost : goal.returns-in-BvAshr-clause-cost
returns-in-BvAshr-clause-cost c = on_ok c.signed_shift_down.result _ _ c.signed_shift_down.ensures.cost (λ h. rw c.in-BvAshr.is (omega (arith, rw c.requires.same at h)))

pub returns-in-BvAshr-clause-inside : goal.returns-in-BvAshr-clause-inside
returns-in-BvAshr-clause-inside c = c.signed_shift_down.ensures.inside

pub returns-in-BvAshr-clause-sort : goal.returns-in-BvAshr-clause-sort
unfolding op_value
returns-in-BvAshr-clause-sort c = if_ok c.signed_shift_down.result _ _ c.signed_shift_down.ensures.width (λ r w v. rw c.in-BvAshr.is (ap sorts.Bits w))

pub returns-in-BvAshr-clause-value : goal.returns-in-BvAshr-clause-value
returns-in-BvAshr-clause-value c = if_both c.signed_shift_down.result _ _ _ c.signed_shift_down.ensures.width c.signed_shift_down.ensures.value (λ r w n v f. rw c.in-BvAshr.is (ashr-is v c.args.s.now c.args.t.now r w (n v f)))

pub comp-requires : goal.comp-requires
comp-requires c = record {
  same = c.requires.same;
  left = c.requires.left;
  right = c.requires.right;
  room = omega (arith, rw c.in-BvComp.is at c.requires.room);
}

pub returns-in-BvComp-clause-grown : goal.returns-in-BvComp-clause-grown
returns-in-BvComp-clause-grown c = c.comp.ensures.grown

pub returns-in-BvComp-clause-cost : goal.returns-in-BvComp-clause-cost
returns-in-BvComp-clause-cost c = on_ok c.comp.result _ _ c.comp.ensures.cost (λ h. rw c.in-BvComp.is (omega (arith, h)))

pub returns-in-BvComp-clause-inside : goal.returns-in-BvComp-clause-inside
returns-in-BvComp-clause-inside c = c.comp.ensures.inside

pub returns-in-BvComp-clause-sort : goal.returns-in-BvComp-clause-sort
unfolding op_value
returns-in-BvComp-clause-sort c = if_ok c.comp.result _ _ c.comp.ensures.width (λ r w v. rw c.in-BvComp.is (ap sorts.Bits w))

pub returns-in-BvComp-clause-value : goal.returns-in-BvComp-clause-value
returns-in-BvComp-clause-value c = if_both c.comp.result _ _ _ c.comp.ensures.width c.comp.ensures.value (λ r w n v f. rw c.in-BvComp.is (comp-is v c.args.s.now c.args.t.now r c.requires.same w (n v f)))
