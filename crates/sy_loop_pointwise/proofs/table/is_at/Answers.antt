use Rattle.std.proofs.Common.{◌∙◌, ap, refl}
use Rattle.std.specs.Option.{option_map}
use Rattle.std.proofs.lemmas.Option.{slice_get-map, slice_get_read, slice_get_past}
use Rattle.sy_loop_pointwise.specs.Denoted.{shape_of}
use Rattle.sy_loop_pointwise.proofs.Tables.{there-alike, nowhere}
use Rattle.sy_loop_pointwise.proofs.table.is_at.Goals as goal

pub returns-in-Some : goal.returns-in-Some
returns-in-Some g c =
    let found = slice_get_read _ _ _ _ refl c.in-Some.ensures.lookup.3.0 c.in-Some.ensures.lookup.1 in
    let one = shape_of g.T.Theory.denotes in
    there-alike _ (one c.in-Some.other.now) (one c.args.shape.now) c.equals.result (slice_get-map one c.args.shapes.now c.args.number ∙ ap (option_map one) found) c.equals.ensures

pub returns-in-None : goal.returns-in-None
returns-in-None g c =
    let one = shape_of g.T.Theory.denotes in
    nowhere _ (one c.args.shape.now) (slice_get-map one c.args.shapes.now c.args.number ∙ ap (option_map one) (slice_get_past c.args.shapes.now c.args.number c.in-None.ensures.lookup.3))
