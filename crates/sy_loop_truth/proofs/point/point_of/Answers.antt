use Rattle.std.proofs.Common.{◌∙◌, Some, ap, arith, sym}
use Rattle.std.proofs.lemmas.Bool.{true≢false}
use Rattle.std.proofs.lemmas.List.{take_all}
use Rattle.sy_terms.specs.Denoted.{vals_of}
use Rattle.sy_loop_truth.proofs.Traced.{no_element}
use Rattle.sy_loop_truth.proofs.Points.{image_at, none_yet}
use Rattle.sy_loop_truth.proofs.point.point_of.Goals as goal

pub loop-point-init : goal.loop-point-init
loop-point-init g c = no_element (vals_of g.T.Theory.denotes c.args.tuple.now)

pub loop-point-preserved : goal.loop-point-preserved
loop-point-preserved g c =
    none_yet (vals_of g.T.Theory.denotes) c.args.tuples.now c.loop-point.point c.index-tuples-point.result (vals_of g.T.Theory.denotes c.args.tuple.now) (omega (arith, c.loop-point-test.true)) c.index-tuples-point.is c.loop-point.invariant
    (λ same. true≢false (sym (c.same_values.ensures.1 (rw c.as_slice.ensures same)) ∙ c.if-same_values.false))

pub returns-then-same_values : goal.returns-then-same_values
returns-then-same_values g c =
    let same = c.same_values.ensures.0 c.if-same_values.true in
    image_at (vals_of g.T.Theory.denotes) c.args.tuples.now c.loop-point.point c.index-tuples-point.result (omega (arith, c.loop-point-test.true)) c.index-tuples-point.is ∙ ap Some (rw c.as_slice.ensures at same)

pub returns : goal.returns
returns g c = rw (take_all c.loop-point.point c.args.tuples.now (omega (arith, c.loop-point-test.false))) at c.loop-point.invariant
