use Rattle.std.proofs.Common.{refl, sym, ◌∙◌, ◌≡◌, to_z, of_z, rules}
use Rattle.std.specs.Int.{w128}
use Rattle.std.proofs.lemmas.Int.{to_z-of_z}
use Rattle.sy_meaning_integers.proofs.Ordered.{order-true, order-false, order-done}
use Rattle.sy_meaning_integers.proofs.order.follow.Goals as goal

pub loop-value-init : goal.loop-value-init
loop-value-init g c = record { is = refl }

pub loop-value-preserved : goal.loop-value-preserved
loop-value-preserved g c =
    let first : to_z w128 (of_z w128 c.args.first) ≡ c.args.first = to_z-of_z w128 c.args.first c.ranges.first in
    let next : to_z w128 (of_z w128 c.whole-next.result) ≡ c.whole-next.result = to_z-of_z w128 c.whole-next.result (search rules) in
    rw (first, next)
    (order-true g.R.Relation.related c.args.first c.args.rest.now (to_z w128 c.loop-value.last-bits) c.loop-value.value-index _ _ _ (rw first at c.loop-value.invariant)
    (record { less = c.loop-value-test.true; left_is = refl; right_is = next ∙ c.whole-next.ensures }) (sym c.holds.ensures ∙ c.if-not-holds.false) (sym next))

pub returns-then-not-holds : goal.returns-then-not-holds
returns-then-not-holds g c =
    let first : to_z w128 (of_z w128 c.args.first) ≡ c.args.first = to_z-of_z w128 c.args.first c.ranges.first in
    let next : to_z w128 (of_z w128 c.whole-next.result) ≡ c.whole-next.result = to_z-of_z w128 c.whole-next.result (search rules) in
    order-false g.R.Relation.related c.args.first c.args.rest.now (to_z w128 c.loop-value.last-bits) c.loop-value.value-index _ _ (rw first at c.loop-value.invariant)
    (record { less = c.loop-value-test.true; left_is = refl; right_is = next ∙ c.whole-next.ensures }) (sym c.holds.ensures ∙ c.if-not-holds.true)

pub returns : goal.returns
returns g c =
    let first : to_z w128 (of_z w128 c.args.first) ≡ c.args.first = to_z-of_z w128 c.args.first c.ranges.first in
    order-done g.R.Relation.related c.args.first c.args.rest.now (to_z w128 c.loop-value.last-bits) c.loop-value.value-index (rw first at c.loop-value.invariant) c.loop-value-test.false
