use Rattle.std.proofs.Common.{arith, true, false, ◌<◌, length}
use Rattle.sy_unify.proofs.Trees.{class_from, uncovered_from, serves_from, true_facts, false_facts, test_join, test_leaves, has_value}
use Rattle.sy_unify.proofs.join_tree.+join.Goals as goal

pub returns-in-Stop-clause-joined : goal.returns-in-Stop-clause-joined
returns-in-Stop-clause-joined t c =
    class_from c.args.goods.now c.args.conditions.now c.args.points c.as_slice-2.result.now c.as_slice-2.result.now c.as_slice-2.ensures c.as_slice-2.ensures
    c.requires.some c.requires.ordered c.in-Stop.ensures.1 c.in-Stop.ensures.0

pub join-requires : goal.join-requires
join-requires t c =
    let f = true_facts c.args.conditions.now c.in-Split.test c.args.points c.as_slice-2.result.now c.as_slice-3.result.now c.in_ok-there.there
    c.as_slice-2.ensures c.as_slice-3.ensures c.requires.ordered c.in_ok-there.ensures c.in-Split.ensures.0 c.in-Split.ensures.1 in
    let falls : length c.in_ok-there.there < t = omega (arith, f.0, c.decreases) in
    (falls, (f.1, (f.2, (c.requires.few_leaves, c.requires.few_conditions))))

pub returns-in-Uncovered-clause-joined : goal.returns-in-Uncovered-clause-joined
returns-in-Uncovered-clause-joined t c =
    uncovered_from c.args.goods.now c.args.conditions.now c.in-Split.test true c.args.points c.as_slice-3.result.now c.in_ok-there.there c.in-Uncovered.class _
    c.as_slice-3.ensures c.in_ok-there.ensures c.in-Uncovered.is c.in_ok-tree.ensures.joined

pub join-requires-2 : goal.join-requires-2
join-requires-2 t c =
    let f = false_facts c.args.conditions.now c.in-Split.test c.args.points c.as_slice-2.result.now c.as_slice-4.result.now c.in_ok-here.here
    c.as_slice-2.ensures c.as_slice-4.ensures c.requires.ordered c.in_ok-here.ensures c.in-Split.ensures.0 c.in-Split.ensures.1 in
    let falls : length c.in_ok-here.here < t = omega (arith, f.0, c.decreases) in
    (falls, (f.1, (f.2, (c.requires.few_leaves, c.requires.few_conditions))))

pub returns-in-Uncovered-2-clause-joined : goal.returns-in-Uncovered-2-clause-joined
returns-in-Uncovered-2-clause-joined t c =
    uncovered_from c.args.goods.now c.args.conditions.now c.in-Split.test false c.args.points c.as_slice-4.result.now c.in_ok-here.here c.in-Uncovered-2.class _
    c.as_slice-4.ensures c.in_ok-here.ensures c.in-Uncovered-2.is c.in_ok-tree-2.ensures.joined

pub returns-clause-joined : goal.returns-clause-joined
returns-clause-joined t c =
    let there = serves_from c.args.goods.now c.args.conditions.now c.in-Split.test true c.args.points c.as_slice-3.result.now c.in_ok-there.there
    c.in-Tree.tree c.in_ok-new.field-0.value _ c.as_slice-3.ensures c.in_ok-there.ensures c.in-Tree.is c.in_ok-new.ensures.ok c.in_ok-tree.ensures.joined in
    let here = serves_from c.args.goods.now c.args.conditions.now c.in-Split.test false c.args.points c.as_slice-4.result.now c.in_ok-here.here
    c.in-Tree-2.tree c.in_ok-new-2.field-0.value _ c.as_slice-4.ensures c.in_ok-here.ensures c.in-Tree-2.is c.in_ok-new-2.ensures.ok c.in_ok-tree-2.ensures.joined in
    test_join c.args.goods.now c.args.conditions.now c.args.points c.in-Split.test _ _
    c.in_ok-new.field-0.value c.in_ok-new-2.field-0.value
    (has_value c.args.conditions.now c.in-Split.test true c.args.points c.as_slice-2.result.now c.as_slice-2.ensures c.in-Split.ensures.0)
    (has_value c.args.conditions.now c.in-Split.test false c.args.points c.as_slice-2.result.now c.as_slice-2.ensures c.in-Split.ensures.1)
    there here

pub returns-clause-leaves : goal.returns-clause-leaves
returns-clause-leaves t c =
    test_leaves c.args.conditions.now c.in-Split.test c.args.points c.as_slice-3.result.now c.as_slice-4.result.now c.in_ok-there.there c.in_ok-here.here
    c.in-Tree.tree c.in_ok-new.field-0.value c.in-Tree-2.tree c.in_ok-new-2.field-0.value _ _
    c.as_slice-3.ensures c.as_slice-4.ensures c.in_ok-there.ensures c.in_ok-here.ensures
    c.in-Tree.is c.in_ok-new.ensures.ok c.in_ok-tree.ensures.leaves c.in-Tree-2.is c.in_ok-new-2.ensures.ok c.in_ok-tree-2.ensures.leaves
