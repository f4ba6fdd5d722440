use Rattle.std.proofs.Common.{arith}
use Rattle.sy_terms.specs.declared.sort.Value.TheVariants.{Num}
use Rattle.sy_terms.proofs.PairsApplied.{sorted-here, next-put}
use Rattle.sy_meaning_words.specs.Vectors.{vector}
use Rattle.sy_meaning_words.proofs.Paired.{both-bits, one-width, word-found}
use Rattle.sy_meaning_words.proofs.pairs.each_word.Goals as goal

pub word_of-requires : goal.word_of-requires
word_of-requires g c =
    let sorted = sorted-here vector c.args.op.now c.args.values.now c.args.others.now c.loop-place.values c.loop-place.place c.index-values-place.result c.index-others-place.result c.loop-place.invariant (omega arith) c.index-values-place.is (omega arith) c.index-others-place.is c.requires.sorted in
    (both-bits c.args.op.now c.index-values-place.result c.index-others-place.result c.requires.ours sorted).0

pub word_of-requires-in-loop-place : goal.word_of-requires-in-loop-place
word_of-requires-in-loop-place g c =
    let sorted = sorted-here vector c.args.op.now c.args.values.now c.args.others.now c.loop-place.values c.loop-place.place c.index-values-place.result c.index-others-place.result c.loop-place.invariant (omega arith) c.index-values-place.is (omega arith) c.index-others-place.is c.requires.sorted in
    (both-bits c.args.op.now c.index-values-place.result c.index-others-place.result c.requires.ours sorted).1

pub apply-word-requires : goal.apply-word-requires
apply-word-requires g c =
    let sorted = sorted-here vector c.args.op.now c.args.values.now c.args.others.now c.loop-place.values c.loop-place.place c.index-values-place.result c.index-others-place.result c.loop-place.invariant (omega arith) c.index-values-place.is (omega arith) c.index-others-place.is c.requires.sorted in
    c.requires.callable c.word_of.result c.word_of-in-loop-place.result
    (one-width c.args.op.now c.word_of.result c.word_of-in-loop-place.result c.index-values-place.result c.index-others-place.result c.requires.ours c.requires.apart c.word_of.ensures c.word_of-in-loop-place.ensures sorted)

pub loop-place-preserved : goal.loop-place-preserved
loop-place-preserved g c =
    let a = c.index-values-place.result in
    let b = c.index-others-place.result in
    let s = c.word_of.result in
    let t = c.word_of-in-loop-place.result in
    let sorted = sorted-here vector c.args.op.now c.args.values.now c.args.others.now c.loop-place.values c.loop-place.place a b c.loop-place.invariant (omega arith) c.index-values-place.is (omega arith) c.index-others-place.is c.requires.sorted in
    let width = one-width c.args.op.now s t a b c.requires.ours c.requires.apart c.word_of.ensures c.word_of-in-loop-place.ensures sorted in
    next-put vector c.args.op.now c.args.values.now c.args.others.now c.loop-place.values c.loop-place.place a b (Num c.apply-word.result) c.loop-place.invariant (omega arith) c.index-values-place.is (omega arith) c.index-others-place.is
    (word-found c.args.op.now s t c.apply-word.result a b c.requires.ours c.word_of.ensures c.word_of-in-loop-place.ensures (c.requires.gives s t c.apply-word.result width c.apply-word.ensures))
