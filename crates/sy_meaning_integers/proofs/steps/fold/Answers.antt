use Rattle.std.proofs.Common.{refl, ◌∙◌, ◌≡◌, to_z, of_z, rules}
use Rattle.std.specs.Int.{w128}
use Rattle.std.proofs.lemmas.Int.{to_z-of_z}
use Rattle.sy_meaning_integers.proofs.Folds.{step-some, step-none, fold-done}
use Rattle.sy_meaning_integers.proofs.steps.fold.Goals as goal

pub loop-value-init : goal.loop-value-init
loop-value-init g c = record { fits = refl; value = refl }

pub loop-value-preserved : goal.loop-value-preserved
loop-value-preserved g c =
    let first : to_z w128 (of_z w128 c.args.first) ≡ c.args.first = to_z-of_z w128 c.args.first c.ranges.first in
    let other : to_z w128 (of_z w128 c.whole.result) ≡ c.whole.result = to_z-of_z w128 c.whole.result (search rules) in
    let next : to_z w128 (of_z w128 c.in_ok-total.total) ≡ c.in_ok-total.total = to_z-of_z w128 c.in_ok-total.total (search rules) in
    rw (first, next)
    (step-some g.S.Step.exact c.args.first c.args.rest.now (to_z w128 c.loop-value.total-bits) c.loop-value.value-index _ _ c.in_ok-total.total (rw first at c.loop-value.invariant)
    (record { less = c.loop-value-test.true; left_is = refl; right_is = other ∙ c.whole.ensures }) c.in_ok-total.ensures)

pub returns-in_err-total : goal.returns-in_err-total
returns-in_err-total g c =
    let first : to_z w128 (of_z w128 c.args.first) ≡ c.args.first = to_z-of_z w128 c.args.first c.ranges.first in
    let other : to_z w128 (of_z w128 c.whole.result) ≡ c.whole.result = to_z-of_z w128 c.whole.result (search rules) in
    rw c.from_residual.ensures
    (step-none g.S.Step.exact c.args.first c.args.rest.now (to_z w128 c.loop-value.total-bits) c.loop-value.value-index _ _ (rw first at c.loop-value.invariant)
    (record { less = c.loop-value-test.true; left_is = refl; right_is = other ∙ c.whole.ensures }) c.in_err-total.ensures)

pub returns : goal.returns
returns g c =
    let first : to_z w128 (of_z w128 c.args.first) ≡ c.args.first = to_z-of_z w128 c.args.first c.ranges.first in
    fold-done g.S.Step.exact c.args.first c.args.rest.now (to_z w128 c.loop-value.total-bits) c.loop-value.value-index (rw first at c.loop-value.invariant) c.loop-value-test.false
