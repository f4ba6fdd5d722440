use Rattle.std.proofs.Common.{◌∙◌, refl, ap, arith, length, get_or}
use Rattle.sy_terms.specs.Denoted.{vals_of, expr_of-Const, expr_of-Call, exprs_of-append}
use Rattle.std.proofs.lemmas.List.{take_all}
use Rattle.sy_bank_columns.specs.Lent.{row_values}
use Rattle.sy_bank_columns.proofs.ByPoint.{row-length, column-next, at-number, constants-last}
use Rattle.sy_bank_columns.proofs.call.call_at.Goals as goal

pub offset_bounds-as_slice-number : goal.offset_bounds-as_slice-number
offset_bounds-as_slice-number g c =
    omega (arith, c.requires.within, ap length c.as_slice.ensures, row-length g.T.Theory.denotes row_values c.args.rows.now c.loop-row.row-index c.row-item.result c.args.count c.requires.sized c.loop-row-test.true c.row-item.is)

pub bounds-as_slice-number : goal.bounds-as_slice-number
bounds-as_slice-number g c =
    omega (arith, c.requires.within, ap length c.as_slice.ensures, row-length g.T.Theory.denotes row_values c.args.rows.now c.loop-row.row-index c.row-item.result c.args.count c.requires.sized c.loop-row-test.true c.row-item.is)

pub loop-row-preserved : goal.loop-row-preserved
loop-row-preserved g c =
    let number = g.T.Theory.denotes in
    let long = row-length number row_values c.args.rows.now c.loop-row.row-index c.row-item.result c.args.count c.requires.sized c.loop-row-test.true c.row-item.is in
    let same = c.index-as_slice-number.is ∙ ap (λ values. get_or values c.args.number c.index-as_slice-number.result) c.as_slice.ensures in
    let value = at-number number (row_values c.row-item.result) c.args.number c.index-as_slice-number.result (omega (arith, c.requires.within, long)) same in
    rw (c.in_ok-push.ensures.ok, exprs_of-append, c.loop-row.invariant, column-next (λ row. vals_of number (row_values row)) c.args.rows.now c.loop-row.row-index c.row-item.result c.args.number c.loop-row-test.true c.row-item.is, constants-last, value, expr_of-Const) refl

pub returns : goal.returns
returns g c =
    let all = take_all c.loop-row.row-index c.args.rows.now c.loop-row-test.false in
    rw (expr_of-Call, c.loop-row.invariant, all) refl
