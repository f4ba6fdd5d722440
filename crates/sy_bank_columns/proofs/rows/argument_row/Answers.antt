use Rattle.std.proofs.Common.{◌<◌, ◌∙◌, ap, arith, length, map, refl, List}
use Rattle.std.proofs.lemmas.List.{take_all}
use Rattle.std.proofs.lemmas.Option.{slice_get_read}
use Rattle.sy_terms.specs.Denoted.{vals_of}
use Rattle.sy_terms.specs.Meaning.{value_at_position}
use Rattle.sy_terms.specs.declared.sort.Value.{Value}
use Rattle.sy_bank_columns.proofs.ByPoint.{argument-next}
use Rattle.sy_bank_columns.proofs.rows.argument_row.Goals as goal

pub offset_bounds-as_slice-position : goal.offset_bounds-as_slice-position
offset_bounds-as_slice-position g c =
    let long : c.args.position < length c.point-item.result = c.requires c.loop-point.point-index c.point-item.result (slice_get_read _ _ _ _ refl c.loop-point-test.true c.point-item.is) in
    omega (arith, long, ap length c.as_slice.ensures)

pub bounds-as_slice-position : goal.bounds-as_slice-position
bounds-as_slice-position g c =
    let long : c.args.position < length c.point-item.result = c.requires c.loop-point.point-index c.point-item.result (slice_get_read _ _ _ _ refl c.loop-point-test.true c.point-item.is) in
    omega (arith, long, ap length c.as_slice.ensures)

pub loop-point-preserved : goal.loop-point-preserved
loop-point-preserved g c =
    ap (vals_of g.T.Theory.denotes) c.in_ok-push.ensures.items
    ∙ argument-next g.T.Theory.denotes c.args.points.now c.loop-point.point-index c.point-item.result c.args.position c.loop-point.row.items c.as_slice.result.now c.index-as_slice-position.result c.loop-point-test.true c.point-item.is c.as_slice.ensures c.index-as_slice-position.is c.requires c.loop-point.invariant

pub returns : goal.returns
returns g c =
    let number = g.T.Theory.denotes in
    let all = take_all c.loop-point.point-index c.args.points.now (omega arith) in
    c.loop-point.invariant ∙ ap (λ (points : List (List (Value _))). map (λ point. value_at_position (vals_of number point) c.args.position) points) all
