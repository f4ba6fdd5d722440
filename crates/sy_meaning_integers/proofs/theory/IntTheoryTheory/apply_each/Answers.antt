use Rattle.std.proofs.Common.{◌<◌, length, arith, slice_index_or, false}
use Rattle.std.proofs.lemmas.List.{get_or_default}
use Rattle.sy_terms.specs.Values.{Whole}
use Rattle.sy_terms.specs.declared.sort.Value.TheVariants.{Truth}
use Rattle.sy_terms.proofs.PairsApplied.{sorted-here, next-put, unfit-here}
use Rattle.sy_meaning_integers.proofs.theory.IntTheoryTheory.apply_each.Goals as goal

pub apply-requires-clause-sorted : goal.apply-requires-clause-sorted
apply-requires-clause-sorted c =
    let now = c.loop-place.values in
    let others = c.args.others.now in
    let place = c.loop-place.place in
    let within : place < length now = omega arith in
    let among : place < length others = omega arith in
    sorted-here (λ n. Whole n) c.args.op.now c.args.values.now others now place (slice_index_or now place (Truth false)) (slice_index_or others place (Truth false)) c.loop-place.invariant within (get_or_default now place _ _ within) among (get_or_default others place _ _ among) c.requires.sorted

pub returns-in-OutOfRange : goal.returns-in-OutOfRange
returns-in-OutOfRange c =
    let now = c.loop-place.values in
    let others = c.args.others.now in
    let place = c.loop-place.place in
    let within : place < length now = omega arith in
    let among : place < length others = omega arith in
    unfit-here (λ n. Whole n) c.args.op.now c.args.values.now others now place (slice_index_or now place (Truth false)) (slice_index_or others place (Truth false)) c.loop-place.invariant within (get_or_default now place _ _ within) among (get_or_default others place _ _ among) c.in-OutOfRange.ensures

pub loop-place-preserved : goal.loop-place-preserved
loop-place-preserved c =
    let now = c.loop-place.values in
    let others = c.args.others.now in
    let place = c.loop-place.place in
    let within : place < length now = omega arith in
    let among : place < length others = omega arith in
    next-put (λ n. Whole n) c.args.op.now c.args.values.now others now place (slice_index_or now place (Truth false)) (slice_index_or others place (Truth false)) c.in-Is.found c.loop-place.invariant within (get_or_default now place _ _ within) among (get_or_default others place _ _ among) c.in-Is.ensures
