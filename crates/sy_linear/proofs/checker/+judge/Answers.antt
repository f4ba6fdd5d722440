use Rattle.std.specs.Prelude.{Ok, Err}
use Rattle.std.proofs.Common.{arith}
use Rattle.sy_linear_known.specs.Stored.{linear_query_of, tree_shape_of}
use Rattle.sy_linear.proofs.Judged as node
use Rattle.sy_linear.proofs.checker.+judge.Goals as goal

-- ---- numbers of nodes
pub judge-overflow_add-next : goal.judge-overflow_add-next
judge-overflow_add-next t c = omega (arith, node.positive (tree_shape_of c.args.tree.now), c.requires.room)

pub judge-returns-in-Split-clause-next : goal.judge-returns-in-Split-clause-next
judge-returns-in-Split-clause-next t c h =
    let all = node.split_size c.args.tree.now c.in-Split.field-0 c.in-Split.field-1 c.in-Split.left c.in-Split.right
    c.deref.result.now c.deref-in-Split.result.now c.in-Split.is c.deref.ensures c.deref-in-Split.ensures in
    omega (arith, all, c.judge_both.ensures.next h)

pub judge-returns-in-Branch-clause-next : goal.judge-returns-in-Branch-clause-next
judge-returns-in-Branch-clause-next t c h =
    let all = node.branch_size c.args.tree.now c.in-Branch.field-0 c.in-Branch.field-1 c.in-Branch.field-2 c.in-Branch.left
    c.in-Branch.right c.deref-in-Branch.result.now c.deref-in-Branch-2.result.now c.in-Branch.is
    c.deref-in-Branch.ensures c.deref-in-Branch-2.ensures in
    omega (arith, all, c.judge_both-in-Branch.ensures.next h)

pub judge-returns-in-Cut-clause-next : goal.judge-returns-in-Cut-clause-next
judge-returns-in-Cut-clause-next t c h =
    let all = node.cut_size c.args.tree.now c.in-Cut.field-0 c.in-Cut.field-1 c.in-Cut.field-2 c.in-Cut.inner
    c.deref-in-Cut.result.now c.in-Cut.is c.deref-in-Cut.ensures in
    omega (arith, all, c.judge_side.ensures.next h)

pub judge-returns-in-Farkas-clause-next : goal.judge-returns-in-Farkas-clause-next
judge-returns-in-Farkas-clause-next t c h =
    omega (arith, node.farkas_size c.args.tree.now c.in-Farkas.multipliers c.in-Farkas.is)

pub judge-returns-in-Shown-clause-next : goal.judge-returns-in-Shown-clause-next
judge-returns-in-Shown-clause-next t c h = omega (arith, node.shown_size c.args.tree.now c.in-Shown.is)

-- ---- calls
pub judge-judge_both-requires : goal.judge-judge_both-requires
judge-judge_both-requires t c =
    let all = node.split_size c.args.tree.now c.in-Split.field-0 c.in-Split.field-1 c.in-Split.left c.in-Split.right
    c.deref.result.now c.deref-in-Split.result.now c.in-Split.is c.deref.ensures c.deref-in-Split.ensures in
    (omega (arith, all, c.decreases), (c.requires.nodes, (c.requires.vars, omega (arith, all, c.requires.room))))

pub judge-judge_both-requires-in-Branch : goal.judge-judge_both-requires-in-Branch
judge-judge_both-requires-in-Branch t c =
    let all = node.branch_size c.args.tree.now c.in-Branch.field-0 c.in-Branch.field-1 c.in-Branch.field-2 c.in-Branch.left
    c.in-Branch.right c.deref-in-Branch.result.now c.deref-in-Branch-2.result.now c.in-Branch.is
    c.deref-in-Branch.ensures c.deref-in-Branch-2.ensures in
    (omega (arith, all, c.decreases), (c.requires.nodes, (c.requires.vars, omega (arith, all, c.requires.room))))

pub judge-judge_side-requires : goal.judge-judge_side-requires
judge-judge_side-requires t c =
    let all = node.cut_size c.args.tree.now c.in-Cut.field-0 c.in-Cut.field-1 c.in-Cut.field-2 c.in-Cut.inner
    c.deref-in-Cut.result.now c.in-Cut.is c.deref-in-Cut.ensures in
    (omega (arith, all, c.decreases), (c.requires.nodes, (c.requires.vars, omega (arith, all, c.requires.room))))

-- ---- judgements
pub judge-returns-in-Split-clause-judged : goal.judge-returns-in-Split-clause-judged
judge-returns-in-Split-clause-judged t c =
    node.tells c.judge_both.result _ _ c.judge_both.ensures.judged
    (node.split_judged (linear_query_of c.args.query.now) c.args.facts.now.items c.args.next.now c.args.tree.now
    c.in-Split.field-0 c.in-Split.field-1 c.in-Split.left c.in-Split.right c.deref.result.now c.deref-in-Split.result.now
    c.in-Split.is c.deref.ensures c.deref-in-Split.ensures)

pub judge-returns-in-Branch-clause-judged : goal.judge-returns-in-Branch-clause-judged
judge-returns-in-Branch-clause-judged t c =
    node.tells c.judge_both-in-Branch.result _ _ c.judge_both-in-Branch.ensures.judged
    (node.branch_judged (linear_query_of c.args.query.now) c.args.facts.now.items c.args.next.now c.args.tree.now
    c.in-Branch.field-0 c.in-Branch.field-1 c.in-Branch.field-2 c.in-Branch.left c.in-Branch.right
    c.deref-in-Branch.result.now c.deref-in-Branch-2.result.now c.in-Branch.is c.deref-in-Branch.ensures
    c.deref-in-Branch-2.ensures)

pub judge-returns-in-Cut-clause-judged : goal.judge-returns-in-Cut-clause-judged
judge-returns-in-Cut-clause-judged t c =
    node.tells c.judge_side.result _ _ c.judge_side.ensures.judged
    (node.cut_judged (linear_query_of c.args.query.now) c.args.facts.now.items c.args.next.now c.args.tree.now
    c.in-Cut.field-0 c.in-Cut.field-1 c.in-Cut.field-2 c.in-Cut.inner c.deref-in-Cut.result.now c.in-Cut.is
    c.deref-in-Cut.ensures)

pub judge-returns-in-Farkas-clause-judged : goal.judge-returns-in-Farkas-clause-judged
judge-returns-in-Farkas-clause-judged t c =
    node.tells c.contradicts.result _ _ c.contradicts.ensures
    (node.farkas_judged (linear_query_of c.args.query.now) c.args.facts.now.items c.as_slice.result.now c.args.next.now
    c.args.tree.now c.in-Farkas.multipliers c.as_slice-in-Farkas.result.now c.in-Farkas.is c.as_slice.ensures.value
    c.as_slice-in-Farkas.ensures)

pub judge-returns-in-Shown-clause-judged : goal.judge-returns-in-Shown-clause-judged
judge-returns-in-Shown-clause-judged t c =
    node.tells c.shows.result _ _ c.shows.ensures
    (node.shown-is_judged (linear_query_of c.args.query.now) c.args.facts.now.items c.as_slice-in-Shown.result.now
    c.args.next.now c.args.tree.now c.in-Shown.is c.as_slice-in-Shown.ensures.value)

pub judge-returns-in-Unfinished-clause-judged : goal.judge-returns-in-Unfinished-clause-judged
judge-returns-in-Unfinished-clause-judged t c =
    node.unfinished_judged (linear_query_of c.args.query.now) c.args.facts.now.items c.args.next.now c.args.tree.now
    c.in-Unfinished.is

pub judge_side-returns-in-Ok-false-clause-judged : goal.judge_side-returns-in-Ok-false-clause-judged
judge_side-returns-in-Ok-false-clause-judged t c =
    node.tells-broken (linear_query_of c.args.query.now) c.as_slice.result.now c.args.facts.now.items c.args.node
    c.args.next.now c.args.on_left (tree_shape_of c.args.above.now) (tree_shape_of c.args.tree.now) c.as_slice.ensures
    (node.fails c.args.node c.in-Ok-false.field-0 _ _ c.in-Ok-false.field-0-test c.in-Ok-false.ensures.entered)

pub judge_side-returns-in-Err-clause-judged : goal.judge_side-returns-in-Err-clause-judged
judge_side-returns-in-Err-clause-judged t c =
    node.tells-end (linear_query_of c.args.query.now) c.as_slice.result.now c.args.facts.now.items _ c.args.node
    c.args.next.now c.args.on_left (tree_shape_of c.args.above.now) (tree_shape_of c.args.tree.now) c.in-Err.end
    c.as_slice.ensures c.in-Err.ensures.entered

pub judge_side-returns-in-Err-judge-clause-judged : goal.judge_side-returns-in-Err-judge-clause-judged
judge_side-returns-in-Err-judge-clause-judged t c =
    node.tells-entered (linear_query_of c.args.query.now) c.as_slice.result.now c.args.facts.now.items _ c.args.node
    c.args.next.now c.args.on_left (tree_shape_of c.args.above.now) (tree_shape_of c.args.tree.now)
    (Err c.in-Err-judge.end) c.as_slice.ensures
    (node.enters c.args.node c.in-Ok-true.field-0 _ _ c.in-Ok-true.field-0-test c.in-Ok-true.ensures.entered)
    c.in-Err-judge.ensures.judged

pub judge_side-returns-clause-judged : goal.judge_side-returns-clause-judged
judge_side-returns-clause-judged t c =
    node.tells-entered (linear_query_of c.args.query.now) c.as_slice.result.now c.args.facts.now.items _ c.args.node
    c.args.next.now c.args.on_left (tree_shape_of c.args.above.now) (tree_shape_of c.args.tree.now)
    (Ok c.in-Ok.accepted) c.as_slice.ensures
    (node.enters c.args.node c.in-Ok-true.field-0 _ _ c.in-Ok-true.field-0-test c.in-Ok-true.ensures.entered)
    c.in-Ok.ensures.judged
