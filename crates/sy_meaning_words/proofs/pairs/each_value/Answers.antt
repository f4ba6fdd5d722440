use Rattle.std.proofs.Common.{◌∷◌, [], arith}
use Rattle.sy_terms.specs.Denoted.{val_of}
use Rattle.sy_terms.proofs.PairsApplied.{sorted-here, next-put}
use Rattle.sy_meaning_words.specs.Vectors.{vector}
use Rattle.sy_meaning_words.proofs.Ranges.{fits_always, valid_always, not_ints}
use Rattle.sy_meaning_words.proofs.pairs.each_value.Goals as goal

pub operator_value-requires-clause-sorted : goal.operator_value-requires-clause-sorted
operator_value-requires-clause-sorted c =
    sorted-here vector c.args.op.now c.args.values.now c.args.others.now c.loop-place.values c.loop-place.place c.index-values-place.result c.index-others-place.result c.loop-place.invariant (omega arith) c.index-values-place.is (omega arith) c.index-others-place.is c.requires.sorted

pub loop-place-preserved : goal.loop-place-preserved
loop-place-preserved c =
    let a = c.index-values-place.result in
    let b = c.index-others-place.result in
    next-put vector c.args.op.now c.args.values.now c.args.others.now c.loop-place.values c.loop-place.place a b c.operator_value.result c.loop-place.invariant (omega arith) c.index-values-place.is (omega arith) c.index-others-place.is
    (valid_always c.operator_value.result, fits_always c.args.op.now (val_of vector a ∷ val_of vector b ∷ []) (not_ints c.args.op.now (c.requires.owned c.loop-place.place (omega arith))), c.operator_value.ensures)
