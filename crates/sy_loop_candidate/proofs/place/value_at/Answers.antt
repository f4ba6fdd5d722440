use Rattle.std.proofs.Common.{length}
use Rattle.sy_terms.specs.Denoted.{val_of, vals_of}
use Rattle.sy_points.specs.Asked.{tuples_of}
use Rattle.sy_loop_truth.proofs.Points.{image_at}
use Rattle.sy_loop_candidate.proofs.Rows.{missing, place_within, value_there}
use Rattle.sy_loop_candidate.proofs.place.value_at.Goals as goal

pub returns-in_err-place : goal.returns-in_err-place
returns-in_err-place g c =
    let number = g.T.Theory.denotes in
    rw c.from_residual.ensures (missing c.args.points.now c.args.function (tuples_of number c.of-tuples.result.now) c.of-tuples.ensures.list (vals_of number c.args.tuple.now) (rw c.as_slice.ensures at c.in_err-place.ensures))

pub returns : goal.returns
returns g c =
    let number = g.T.Theory.denotes in
    let tuples = tuples_of number c.of-tuples.result.now in
    let tuple = vals_of number c.args.tuple.now in
    let place = c.in_ok-place.place in
    let there = rw c.as_slice.ensures at c.in_ok-place.ensures in
    let within = place_within c.args.points.now c.args.function tuples c.of-tuples.ensures.list tuple place (length c.args.kept.now.row) there c.requires.sized in
    value_there c.args.points.now c.args.function tuples c.of-tuples.ensures.list tuple place (vals_of number c.args.kept.now.row) (val_of number c.index-row-place.result) there
    (image_at (val_of number) c.args.kept.now.row place c.index-row-place.result within (rw c.as_slice-row.ensures at c.index-row-place.is))
