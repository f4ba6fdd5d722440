use Rattle.std.proofs.Common.{ap}
use Rattle.sy_loop_pointwise.specs.Denoted.{shape_of, shapes_of}
use Rattle.sy_loop_pointwise.specs.Places.{key_places}
use Rattle.sy_loop_pointwise.proofs.Tables.{find-all}
use Rattle.sy_loop_pointwise.proofs.table.Table.find.Goals as goal

pub returns : goal.returns
returns g c =
    let number = g.T.Theory.denotes in
    rw (← c.self.view_is) (find-all (shapes_of number c.self.inside.shapes.items) (shapes_of number c.as_slice.result.now) (key_places c.self.inside.places) (shape_of number c.args.shape.now) c.key.result c.of-places.result.now c.place_of.result
    c.self.invariant (ap (shapes_of number) c.as_slice.ensures.value) c.key.ensures c.of-places.ensures c.place_of.ensures)
