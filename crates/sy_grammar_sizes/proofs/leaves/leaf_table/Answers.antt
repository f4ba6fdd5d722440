use Rattle.std.proofs.Common.{map, take}
use Rattle.std.proofs.lemmas.List.{take_more, take_all}
use Rattle.std.proofs.lemmas.Result.{IfOk-from_err}
use Rattle.sy_terms.specs.Denoted.{val_of}
use Rattle.sy_grammar_sizes.proofs.LeafTables.{leaf_table_none, leaf_table_more, leaf_table_done}
use Rattle.sy_grammar_sizes.proofs.leaves.leaf_table.Goals as goal

pub loop-item-init : goal.loop-item-init
loop-item-init g c = leaf_table_none g.T.Theory.denotes c.args.g.now.args (map (val_of g.T.Theory.denotes) c.args.pool.now) c.args.limit c.new-table.result.items c.new-table.ensures.items

pub loop-item-preserved : goal.loop-item-preserved
loop-item-preserved g c =
    let number = g.T.Theory.denotes in
    let items = c.as_slice-item-items.result.now in
    let more = take_more items c.loop-item.item-index c.item-item.result c.loop-item-test.true in
    let best = rw (c.as_slice.ensures, c.args-in-loop-item.ensures, c.as_slice-in-loop-item.ensures) at c.in_ok-best.ensures in
    rw (more, ← c.item-item.is, c.in_ok-push.ensures.items)
    (leaf_table_more number c.args.g.now.args (map (val_of number) c.args.pool.now) c.args.limit (take c.loop-item.item-index items) c.item-item.result c.loop-item.table.items c.in_ok-best.best c.loop-item.invariant best)

pub returns : goal.returns
returns g c =
    let number = g.T.Theory.denotes in
    let whole = take_all c.loop-item.item-index c.as_slice-item-items.result.now c.loop-item-test.false in
    leaf_table_done number c.args.g.now (map (val_of number) c.args.pool.now) c.args.limit c.loop-item.table.items (rw (whole, c.as_slice-item-items.ensures, c.nons.ensures) at c.loop-item.invariant)

pub returns-in_err-best : goal.returns-in_err-best
returns-in_err-best g c = IfOk-from_err c.from_residual.result _ c.from_residual.ensures.0

pub returns-in_err-push : goal.returns-in_err-push
returns-in_err-push g c = IfOk-from_err c.from_residual-in_err-push.result _ c.from_residual-in_err-push.ensures.0
