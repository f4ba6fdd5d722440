use Rattle.sy_loop_pointwise.specs.Denoted.{shape_of, shapes_of}
use Rattle.sy_loop_pointwise.proofs.Tables.{none-first, none-next, none-last}
use Rattle.sy_loop_pointwise.proofs.table.place_of.Goals as goal

pub loop-number-init : goal.loop-number-init
loop-number-init g c = none-first (shapes_of g.T.Theory.denotes c.args.shapes.now) (shape_of g.T.Theory.denotes c.args.shape.now)

pub loop-number-preserved : goal.loop-number-preserved
loop-number-preserved g c =
    let number = g.T.Theory.denotes in
    none-next (shapes_of number c.args.shapes.now) (shape_of number c.args.shape.now) c.args.numbers.now c.loop-number.number-index c.is_at.result c.loop-number-test.true c.loop-number.invariant c.is_at.ensures.1 c.if-is_at.false

pub returns : goal.returns
returns g c = none-last (shapes_of g.T.Theory.denotes c.args.shapes.now) (shape_of g.T.Theory.denotes c.args.shape.now) c.args.numbers.now c.loop-number.number-index c.loop-number-test.false c.loop-number.invariant
