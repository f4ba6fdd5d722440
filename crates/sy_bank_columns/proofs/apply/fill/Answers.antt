use Rattle.std.proofs.Common.{◌∙◌, ap, arith, length, get_or}
use Rattle.sy_terms.specs.Denoted.{vals_of}
use Rattle.sy_bank_columns.specs.Lent.{row_values}
use Rattle.sy_bank_columns.proofs.ByPoint.{row-length, fill-next}
use Rattle.sy_bank_columns.proofs.apply.fill.Goals as goal

pub offset_bounds-as_slice-number : goal.offset_bounds-as_slice-number
offset_bounds-as_slice-number g c =
    omega (arith, c.requires.within, ap length c.as_slice.ensures, row-length g.T.Theory.denotes row_values c.args.rows.now c.loop-row.row-index c.row-item.result c.args.count c.requires.sized c.loop-row-test.true c.row-item.is)

pub bounds-as_slice-number : goal.bounds-as_slice-number
bounds-as_slice-number g c =
    omega (arith, c.requires.within, ap length c.as_slice.ensures, row-length g.T.Theory.denotes row_values c.args.rows.now c.loop-row.row-index c.row-item.result c.args.count c.requires.sized c.loop-row-test.true c.row-item.is)

pub loop-row-preserved : goal.loop-row-preserved
loop-row-preserved g c =
    let long = row-length g.T.Theory.denotes row_values c.args.rows.now c.loop-row.row-index c.row-item.result c.args.count c.requires.sized c.loop-row-test.true c.row-item.is in
    let value = c.index-as_slice-number.is ∙ ap (λ values. get_or values c.args.number c.index-as_slice-number.result) c.as_slice.ensures in
    ap (vals_of g.T.Theory.denotes) c.in_ok-push.ensures.items
    ∙ fill-next g.T.Theory.denotes row_values c.args.rows.now c.loop-row.row-index c.row-item.result c.args.number c.loop-row.values.items c.index-as_slice-number.result c.loop-row-test.true c.row-item.is (omega (arith, c.requires.within, long)) value c.loop-row.invariant
