use Rattle.std.proofs.Common.{ap}
use Rattle.sy_terms.specs.Operators.{op_value}
use Rattle.sy_terms.specs.declared.sort.Sort.TheVariants as sorts
use Rattle.sy_bits_operators.proofs.Results.{if_ok, if_both}
use Rattle.sy_bits_operators.proofs.Pairs.{vector-is}
use Rattle.sy_bits_operators.proofs.alike.bitwise.Goals as goal

pub bitwise-requires : goal.bitwise-requires
bitwise-requires c = record {
  same = c.requires.same;
  left = c.requires.left;
  right = c.requires.right;
  room = rw c.in-BvAnd.is at c.requires.room;
}

pub returns-in-BvAnd-clause-grown : goal.returns-in-BvAnd-clause-grown
returns-in-BvAnd-clause-grown c = c.bitwise.ensures.grown

pub returns-in-BvAnd-clause-cost : goal.returns-in-BvAnd-clause-cost
returns-in-BvAnd-clause-cost c = rw c.in-BvAnd.is c.bitwise.ensures.cost

pub returns-in-BvAnd-clause-inside : goal.returns-in-BvAnd-clause-inside
returns-in-BvAnd-clause-inside c = c.bitwise.ensures.inside

pub returns-in-BvAnd-clause-sort : goal.returns-in-BvAnd-clause-sort
unfolding op_value
returns-in-BvAnd-clause-sort c = if_ok c.bitwise.result _ _ c.bitwise.ensures.width (λ r w v. rw c.in-BvAnd.is (ap sorts.Bits w))

pub returns-in-BvAnd-clause-value : goal.returns-in-BvAnd-clause-value
unfolding op_value
returns-in-BvAnd-clause-value c = if_both c.bitwise.result _ _ _ c.bitwise.ensures.width c.bitwise.ensures.value (λ r w n v f. rw c.in-BvAnd.is (vector-is _ _ _ _ w (n v f)))

pub bitwise-requires-in-BvOr : goal.bitwise-requires-in-BvOr
bitwise-requires-in-BvOr c = record {
  same = c.requires.same;
  left = c.requires.left;
  right = c.requires.right;
  room = rw c.in-BvOr.is at c.requires.room;
}

pub returns-in-BvOr-clause-grown : goal.returns-in-BvOr-clause-grown
returns-in-BvOr-clause-grown c = c.bitwise-in-BvOr.ensures.grown

pub returns-in-BvOr-clause-cost : goal.returns-in-BvOr-clause-cost
returns-in-BvOr-clause-cost c = rw c.in-BvOr.is c.bitwise-in-BvOr.ensures.cost

pub returns-in-BvOr-clause-inside : goal.returns-in-BvOr-clause-inside
returns-in-BvOr-clause-inside c = c.bitwise-in-BvOr.ensures.inside

pub returns-in-BvOr-clause-sort : goal.returns-in-BvOr-clause-sort
unfolding op_value
returns-in-BvOr-clause-sort c = if_ok c.bitwise-in-BvOr.result _ _ c.bitwise-in-BvOr.ensures.width (λ r w v. rw c.in-BvOr.is (ap sorts.Bits w))

pub returns-in-BvOr-clause-value : goal.returns-in-BvOr-clause-value
unfolding op_value
returns-in-BvOr-clause-value c = if_both c.bitwise-in-BvOr.result _ _ _ c.bitwise-in-BvOr.ensures.width c.bitwise-in-BvOr.ensures.value (λ r w n v f. rw c.in-BvOr.is (vector-is _ _ _ _ w (n v f)))

pub bitwise-requires-in-BvXor : goal.bitwise-requires-in-BvXor
bitwise-requires-in-BvXor c = record {
  same = c.requires.same;
  left = c.requires.left;
  right = c.requires.right;
  room = rw c.in-BvXor.is at c.requires.room;
}

pub returns-in-BvXor-clause-grown : goal.returns-in-BvXor-clause-grown
returns-in-BvXor-clause-grown c = c.bitwise-in-BvXor.ensures.grown

pub returns-in-BvXor-clause-cost : goal.returns-in-BvXor-clause-cost
returns-in-BvXor-clause-cost c = rw c.in-BvXor.is c.bitwise-in-BvXor.ensures.cost

pub returns-in-BvXor-clause-inside : goal.returns-in-BvXor-clause-inside
returns-in-BvXor-clause-inside c = c.bitwise-in-BvXor.ensures.inside

pub returns-in-BvXor-clause-sort : goal.returns-in-BvXor-clause-sort
unfolding op_value
returns-in-BvXor-clause-sort c = if_ok c.bitwise-in-BvXor.result _ _ c.bitwise-in-BvXor.ensures.width (λ r w v. rw c.in-BvXor.is (ap sorts.Bits w))

pub returns-in-BvXor-clause-value : goal.returns-in-BvXor-clause-value
unfolding op_value
returns-in-BvXor-clause-value c = if_both c.bitwise-in-BvXor.result _ _ _ c.bitwise-in-BvXor.ensures.width c.bitwise-in-BvXor.ensures.value (λ r w n v f. rw c.in-BvXor.is (vector-is _ _ _ _ w (n v f)))

pub bitwise_inverted-requires : goal.bitwise_inverted-requires
bitwise_inverted-requires c = record {
  same = c.requires.same;
  left = c.requires.left;
  right = c.requires.right;
  room = rw c.in-BvNand.is at c.requires.room;
}

pub returns-in-BvNand-clause-grown : goal.returns-in-BvNand-clause-grown
returns-in-BvNand-clause-grown c = c.bitwise_inverted.ensures.grown

pub returns-in-BvNand-clause-cost : goal.returns-in-BvNand-clause-cost
returns-in-BvNand-clause-cost c = rw c.in-BvNand.is c.bitwise_inverted.ensures.cost

pub returns-in-BvNand-clause-inside : goal.returns-in-BvNand-clause-inside
returns-in-BvNand-clause-inside c = c.bitwise_inverted.ensures.inside

pub returns-in-BvNand-clause-sort : goal.returns-in-BvNand-clause-sort
unfolding op_value
returns-in-BvNand-clause-sort c = if_ok c.bitwise_inverted.result _ _ c.bitwise_inverted.ensures.width (λ r w v. rw c.in-BvNand.is (ap sorts.Bits w))

pub returns-in-BvNand-clause-value : goal.returns-in-BvNand-clause-value
unfolding op_value
returns-in-BvNand-clause-value c = if_both c.bitwise_inverted.result _ _ _ c.bitwise_inverted.ensures.width c.bitwise_inverted.ensures.value (λ r w n v f. rw c.in-BvNand.is (vector-is _ _ _ _ w (n v f)))

pub bitwise_inverted-requires-in-BvNor : goal.bitwise_inverted-requires-in-BvNor
bitwise_inverted-requires-in-BvNor c = record {
  same = c.requires.same;
  left = c.requires.left;
  right = c.requires.right;
  room = rw c.in-BvNor.is at c.requires.room;
}

pub returns-in-BvNor-clause-grown : goal.returns-in-BvNor-clause-grown
returns-in-BvNor-clause-grown c = c.bitwise_inverted-in-BvNor.ensures.grown

pub returns-in-BvNor-clause-cost : goal.returns-in-BvNor-clause-cost
returns-in-BvNor-clause-cost c = rw c.in-BvNor.is c.bitwise_inverted-in-BvNor.ensures.cost

pub returns-in-BvNor-clause-inside : goal.returns-in-BvNor-clause-inside
returns-in-BvNor-clause-inside c = c.bitwise_inverted-in-BvNor.ensures.inside

pub returns-in-BvNor-clause-sort : goal.returns-in-BvNor-clause-sort
unfolding op_value
returns-in-BvNor-clause-sort c = if_ok c.bitwise_inverted-in-BvNor.result _ _ c.bitwise_inverted-in-BvNor.ensures.width (λ r w v. rw c.in-BvNor.is (ap sorts.Bits w))

pub returns-in-BvNor-clause-value : goal.returns-in-BvNor-clause-value
unfolding op_value
returns-in-BvNor-clause-value c = if_both c.bitwise_inverted-in-BvNor.result _ _ _ c.bitwise_inverted-in-BvNor.ensures.width c.bitwise_inverted-in-BvNor.ensures.value (λ r w n v f. rw c.in-BvNor.is (vector-is _ _ _ _ w (n v f)))

pub bitwise_inverted-requires-in-BvXnor : goal.bitwise_inverted-requires-in-BvXnor
bitwise_inverted-requires-in-BvXnor c = record {
  same = c.requires.same;
  left = c.requires.left;
  right = c.requires.right;
  room = rw c.in-BvXnor.is at c.requires.room;
}

pub returns-in-BvXnor-clause-grown : goal.returns-in-BvXnor-clause-grown
returns-in-BvXnor-clause-grown c = c.bitwise_inverted-in-BvXnor.ensures.grown

pub returns-in-BvXnor-clause-cost : goal.returns-in-BvXnor-clause-cost
returns-in-BvXnor-clause-cost c = rw c.in-BvXnor.is c.bitwise_inverted-in-BvXnor.ensures.cost

pub returns-in-BvXnor-clause-inside : goal.returns-in-BvXnor-clause-inside
returns-in-BvXnor-clause-inside c = c.bitwise_inverted-in-BvXnor.ensures.inside

pub returns-in-BvXnor-clause-sort : goal.returns-in-BvXnor-clause-sort
unfolding op_value
returns-in-BvXnor-clause-sort c = if_ok c.bitwise_inverted-in-BvXnor.result _ _ c.bitwise_inverted-in-BvXnor.ensures.width (λ r w v. rw c.in-BvXnor.is (ap sorts.Bits w))

pub returns-in-BvXnor-clause-value : goal.returns-in-BvXnor-clause-value
unfolding op_value
returns-in-BvXnor-clause-value c = if_both c.bitwise_inverted-in-BvXnor.result _ _ _ c.bitwise_inverted-in-BvXnor.ensures.width c.bitwise_inverted-in-BvXnor.ensures.value (λ r w n v f. rw c.in-BvXnor.is (vector-is _ _ _ _ w (n v f)))
