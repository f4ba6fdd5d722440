use Rattle.sy_query_normal.proofs.Pairs.{equal_turned, distinct_turned, same_bit_turned, add_turned, mul_turned, nand_turned, nor_turned, xnor_turned, greater_turned, at_least_turned, signed_greater_turned, signed_at_least_turned}
use Rattle.sy_query_normal.proofs.sides.exchanged.Goals as goal

pub returns-in-Equal : goal.returns-in-Equal
returns-in-Equal c = rw c.in-Equal.is (λ x y e. equal_turned x y)

pub returns-in-Distinct : goal.returns-in-Distinct
returns-in-Distinct c = rw c.in-Distinct.is (λ x y e. distinct_turned x y)

pub returns-in-BvUgt : goal.returns-in-BvUgt
returns-in-BvUgt c = rw c.in-BvUgt.is (λ x y e. greater_turned x y)

pub returns-in-BvUge : goal.returns-in-BvUge
returns-in-BvUge c = rw c.in-BvUge.is (λ x y e. at_least_turned x y)

pub returns-in-BvSgt : goal.returns-in-BvSgt
returns-in-BvSgt c = rw c.in-BvSgt.is signed_greater_turned

pub returns-in-BvSge : goal.returns-in-BvSge
returns-in-BvSge c = rw c.in-BvSge.is signed_at_least_turned

pub returns-in-BvComp : goal.returns-in-BvComp
returns-in-BvComp c = rw c.in-BvComp.is (λ x y e. same_bit_turned x y)

pub returns-in-BvAdd : goal.returns-in-BvAdd
returns-in-BvAdd c = rw c.in-BvAdd.is add_turned

pub returns-in-BvMul : goal.returns-in-BvMul
returns-in-BvMul c = rw c.in-BvMul.is mul_turned

pub returns-in-BvNand : goal.returns-in-BvNand
returns-in-BvNand c = rw c.in-BvNand.is nand_turned

pub returns-in-BvNor : goal.returns-in-BvNor
returns-in-BvNor c = rw c.in-BvNor.is nor_turned

pub returns-in-BvXnor : goal.returns-in-BvXnor
returns-in-BvXnor c = rw c.in-BvXnor.is xnor_turned
