use Rattle.std.proofs.Common.{refl, arith, sym, ◌∙◌, ◌≡◌, to_z, of_z}
use Rattle.std.specs.Int.{w128}
use Rattle.std.proofs.lemmas.Int.{to_z-of_z}
use Rattle.sy_terms.specs.Values.{Whole}
use Rattle.sy_terms.specs.Denoted.{expr_of}
use Rattle.sy_lower.proofs.Found as step
use Rattle.sy_lower.proofs.pairs.found_in.Goals as goal

pub loop-place-init : goal.loop-place-init
loop-place-init c = refl

pub bounds-all-place : goal.bounds-all-place
bounds-all-place c = omega (arith, step.as_long c.args.keys.now c.args.all.now c.requires)

pub is_of-requires-clause-own : goal.is_of-requires-clause-own
is_of-requires-clause-own c =
    step.key_at c.args.keys.now c.args.all.now c.loop-place.place c.index-all-place.result c.requires (omega (arith, step.as_long c.args.keys.now c.args.all.now c.requires)) c.index-all-place.is

pub returns-then-is_of : goal.returns-then-is_of
returns-then-is_of c =
    let e : to_z w128 (of_z w128 c.args.divisor) ≡ c.args.divisor = to_z-of_z w128 c.args.divisor c.ranges.divisor in
    step.found_here c.args.all.now c.loop-place.place c.index-all-place.result (expr_of Whole c.args.dividend.now) c.args.divisor _ (omega (arith, step.as_long c.args.keys.now c.args.all.now c.requires)) c.index-all-place.is (rw e at (sym c.is_of.ensures ∙ c.if-is_of.true)) (rw e at c.loop-place.invariant)

pub loop-place-preserved : goal.loop-place-preserved
loop-place-preserved c =
    let e : to_z w128 (of_z w128 c.args.divisor) ≡ c.args.divisor = to_z-of_z w128 c.args.divisor c.ranges.divisor in
    rw e
    (step.found_later c.args.all.now c.loop-place.place c.index-all-place.result (expr_of Whole c.args.dividend.now) c.args.divisor _ (omega (arith, step.as_long c.args.keys.now c.args.all.now c.requires)) c.index-all-place.is (rw e at (sym c.is_of.ensures ∙ c.if-is_of.false)) (rw e at c.loop-place.invariant))

pub returns : goal.returns
returns c =
    let e : to_z w128 (of_z w128 c.args.divisor) ≡ c.args.divisor = to_z-of_z w128 c.args.divisor c.ranges.divisor in
    step.not_found c.args.all.now c.loop-place.place (expr_of Whole c.args.dividend.now) c.args.divisor _ (omega (arith, step.as_long c.args.keys.now c.args.all.now c.requires)) (rw e at c.loop-place.invariant)
