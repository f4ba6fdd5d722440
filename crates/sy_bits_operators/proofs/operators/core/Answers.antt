use Rattle.std.proofs.Common.{arith, ap, not, ◌∙◌}
use Rattle.sy_terms.specs.Operators.{op_value}
use Rattle.sy_terms.specs.Values.{Truth}
use Rattle.sy_terms.specs.Theories.{sort_of_value}
use Rattle.sy_bits_operators.proofs.Rows.{joined-Xor}
use Rattle.sy_bits_operators.proofs.Shapes.{alike-Equal, alike-Distinct}
use Rattle.sy_bits_operators.proofs.operators.core.Goals as goal

pub all_same-requires-clause-sorts : goal.all_same-requires-clause-sorts
all_same-requires-clause-sorts c = alike-Equal _ (rw c.in-Equal.is at c.requires.takes)

pub all_distinct-requires-clause-sorts : goal.all_distinct-requires-clause-sorts
all_distinct-requires-clause-sorts c = alike-Distinct _ (rw c.in-Distinct.is at c.requires.takes)

pub returns-in_ok-exclusive-in-Xor-clause-sort : goal.returns-in_ok-exclusive-in-Xor-clause-sort
returns-in_ok-exclusive-in-Xor-clause-sort c = λ v.
    let takes = rw c.in-Xor.is at c.requires.takes in
    rw c.in-Xor.is (ap sort_of_value (joined-Xor v c.args.args.now takes))

pub returns-in_ok-chosen-in-Ite-clause-sort : goal.returns-in_ok-chosen-in-Ite-clause-sort
returns-in_ok-chosen-in-Ite-clause-sort c = λ v. rw c.in-Ite.is (c.in_ok-chosen-in-Ite.ensures.sort v)

pub returns-in_ok-all_true-in-Not-clause-cost : goal.returns-in_ok-all_true-in-Not-clause-cost
returns-in_ok-all_true-in-Not-clause-cost c = rw c.in-Not.is c.in_ok-all_true-in-Not.ensures.cost

pub returns-in_ok-all_true-in-Not-clause-inside : goal.returns-in_ok-all_true-in-Not-clause-inside
returns-in_ok-all_true-in-Not-clause-inside c = omega (arith, c.negated.ensures.bound, c.in_ok-all_true-in-Not.ensures.inside)

pub returns-in_ok-all_true-in-Not-clause-sort : goal.returns-in_ok-all_true-in-Not-clause-sort
unfolding op_value
returns-in_ok-all_true-in-Not-clause-sort c = λ v. rw c.in-Not.is

pub returns-in_ok-all_true-in-Not-clause-value : goal.returns-in_ok-all_true-in-Not-clause-value
unfolding op_value
returns-in_ok-all_true-in-Not-clause-value c = λ v f. rw c.in-Not.is (ap Truth (c.negated.ensures.value v ∙ ap not (c.in_ok-all_true-in-Not.ensures.value v f)))

pub returns-in_ok-all_true-in-And-clause-cost : goal.returns-in_ok-all_true-in-And-clause-cost
returns-in_ok-all_true-in-And-clause-cost c = rw c.in-And.is c.in_ok-all_true-in-And.ensures.cost

pub returns-in_ok-all_true-in-And-clause-inside : goal.returns-in_ok-all_true-in-And-clause-inside
returns-in_ok-all_true-in-And-clause-inside c = c.in_ok-all_true-in-And.ensures.inside

pub returns-in_ok-all_true-in-And-clause-sort : goal.returns-in_ok-all_true-in-And-clause-sort
unfolding op_value
returns-in_ok-all_true-in-And-clause-sort c = λ v. rw c.in-And.is

pub returns-in_ok-all_true-in-And-clause-value : goal.returns-in_ok-all_true-in-And-clause-value
unfolding op_value
returns-in_ok-all_true-in-And-clause-value c = λ v f. rw c.in-And.is (ap Truth (c.in_ok-all_true-in-And.ensures.value v f))

pub returns-in_ok-any_true-in-Or-clause-cost : goal.returns-in_ok-any_true-in-Or-clause-cost
returns-in_ok-any_true-in-Or-clause-cost c = rw c.in-Or.is c.in_ok-any_true-in-Or.ensures.cost

pub returns-in_ok-any_true-in-Or-clause-inside : goal.returns-in_ok-any_true-in-Or-clause-inside
returns-in_ok-any_true-in-Or-clause-inside c = c.in_ok-any_true-in-Or.ensures.inside

pub returns-in_ok-any_true-in-Or-clause-sort : goal.returns-in_ok-any_true-in-Or-clause-sort
unfolding op_value
returns-in_ok-any_true-in-Or-clause-sort c = λ v. rw c.in-Or.is

pub returns-in_ok-any_true-in-Or-clause-value : goal.returns-in_ok-any_true-in-Or-clause-value
unfolding op_value
returns-in_ok-any_true-in-Or-clause-value c = λ v f. rw c.in-Or.is (ap Truth (c.in_ok-any_true-in-Or.ensures.value v f))

pub returns-in_ok-exclusive-in-Xor-clause-cost : goal.returns-in_ok-exclusive-in-Xor-clause-cost
returns-in_ok-exclusive-in-Xor-clause-cost c = rw c.in-Xor.is c.in_ok-exclusive-in-Xor.ensures.cost

pub returns-in_ok-exclusive-in-Xor-clause-inside : goal.returns-in_ok-exclusive-in-Xor-clause-inside
returns-in_ok-exclusive-in-Xor-clause-inside c = c.in_ok-exclusive-in-Xor.ensures.inside

pub returns-in_ok-exclusive-in-Xor-clause-value : goal.returns-in_ok-exclusive-in-Xor-clause-value
returns-in_ok-exclusive-in-Xor-clause-value c = λ v f. rw c.in-Xor.is (c.in_ok-exclusive-in-Xor.ensures.value v f)

pub returns-in_ok-implied-in-Implies-clause-cost : goal.returns-in_ok-implied-in-Implies-clause-cost
returns-in_ok-implied-in-Implies-clause-cost c = rw c.in-Implies.is c.in_ok-implied-in-Implies.ensures.cost

pub returns-in_ok-implied-in-Implies-clause-inside : goal.returns-in_ok-implied-in-Implies-clause-inside
returns-in_ok-implied-in-Implies-clause-inside c = c.in_ok-implied-in-Implies.ensures.inside

pub returns-in_ok-implied-in-Implies-clause-sort : goal.returns-in_ok-implied-in-Implies-clause-sort
unfolding op_value
returns-in_ok-implied-in-Implies-clause-sort c = λ v. rw c.in-Implies.is

pub returns-in_ok-implied-in-Implies-clause-value : goal.returns-in_ok-implied-in-Implies-clause-value
unfolding op_value
returns-in_ok-implied-in-Implies-clause-value c = λ v f. rw c.in-Implies.is (ap Truth (c.in_ok-implied-in-Implies.ensures.value v f))

pub returns-in_ok-all_same-in-Equal-clause-cost : goal.returns-in_ok-all_same-in-Equal-clause-cost
returns-in_ok-all_same-in-Equal-clause-cost c = rw c.in-Equal.is c.in_ok-all_same-in-Equal.ensures.cost

pub returns-in_ok-all_same-in-Equal-clause-inside : goal.returns-in_ok-all_same-in-Equal-clause-inside
returns-in_ok-all_same-in-Equal-clause-inside c = c.in_ok-all_same-in-Equal.ensures.inside

pub returns-in_ok-all_same-in-Equal-clause-sort : goal.returns-in_ok-all_same-in-Equal-clause-sort
unfolding op_value
returns-in_ok-all_same-in-Equal-clause-sort c = λ v. rw c.in-Equal.is

pub returns-in_ok-all_same-in-Equal-clause-value : goal.returns-in_ok-all_same-in-Equal-clause-value
unfolding op_value
returns-in_ok-all_same-in-Equal-clause-value c = λ v f. rw c.in-Equal.is (ap Truth (c.in_ok-all_same-in-Equal.ensures.value v f))

pub returns-in_ok-all_distinct-in-Distinct-clause-cost : goal.returns-in_ok-all_distinct-in-Distinct-clause-cost
returns-in_ok-all_distinct-in-Distinct-clause-cost c = rw c.in-Distinct.is c.in_ok-all_distinct-in-Distinct.ensures.cost

pub returns-in_ok-all_distinct-in-Distinct-clause-inside : goal.returns-in_ok-all_distinct-in-Distinct-clause-inside
returns-in_ok-all_distinct-in-Distinct-clause-inside c = c.in_ok-all_distinct-in-Distinct.ensures.inside

pub returns-in_ok-all_distinct-in-Distinct-clause-sort : goal.returns-in_ok-all_distinct-in-Distinct-clause-sort
unfolding op_value
returns-in_ok-all_distinct-in-Distinct-clause-sort c = λ v. rw c.in-Distinct.is

pub returns-in_ok-all_distinct-in-Distinct-clause-value : goal.returns-in_ok-all_distinct-in-Distinct-clause-value
unfolding op_value
returns-in_ok-all_distinct-in-Distinct-clause-value c = λ v f. rw c.in-Distinct.is (ap Truth (c.in_ok-all_distinct-in-Distinct.ensures.value v f))

pub returns-in_ok-chosen-in-Ite-clause-cost : goal.returns-in_ok-chosen-in-Ite-clause-cost
returns-in_ok-chosen-in-Ite-clause-cost c = rw c.in-Ite.is c.in_ok-chosen-in-Ite.ensures.cost

pub returns-in_ok-chosen-in-Ite-clause-inside : goal.returns-in_ok-chosen-in-Ite-clause-inside
returns-in_ok-chosen-in-Ite-clause-inside c = c.in_ok-chosen-in-Ite.ensures.inside

pub returns-in_ok-chosen-in-Ite-clause-value : goal.returns-in_ok-chosen-in-Ite-clause-value
returns-in_ok-chosen-in-Ite-clause-value c = λ v f. rw c.in-Ite.is (c.in_ok-chosen-in-Ite.ensures.value v f)

pub any_true-requires-clause-room : goal.any_true-requires-clause-room
any_true-requires-clause-room c = rw c.in-Or.is at c.requires.room

pub exclusive-requires-clause-takes : goal.exclusive-requires-clause-takes
exclusive-requires-clause-takes c = rw c.in-Xor.is at c.requires.takes

pub exclusive-requires-clause-room : goal.exclusive-requires-clause-room
exclusive-requires-clause-room c = rw c.in-Xor.is at c.requires.room

pub implied-requires-clause-room : goal.implied-requires-clause-room
implied-requires-clause-room c = rw c.in-Implies.is at c.requires.room

pub all_same-requires-clause-room : goal.all_same-requires-clause-room
all_same-requires-clause-room c = rw c.in-Equal.is at c.requires.room

pub all_distinct-requires-clause-room : goal.all_distinct-requires-clause-room
all_distinct-requires-clause-room c = rw c.in-Distinct.is at c.requires.room

pub chosen-requires-clause-takes : goal.chosen-requires-clause-takes
chosen-requires-clause-takes c = rw c.in-Ite.is at c.requires.takes

pub chosen-requires-clause-room : goal.chosen-requires-clause-room
chosen-requires-clause-room c = rw c.in-Ite.is at c.requires.room
