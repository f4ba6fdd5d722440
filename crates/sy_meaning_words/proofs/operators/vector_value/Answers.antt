use Rattle.std.proofs.Common.{arith, subst}
use Rattle.sy_terms.specs.Denoted.{sorts_of}
use Rattle.sy_meaning_words.specs.Vectors.{vector, TakesMany}
use Rattle.sy_meaning_words.proofs.Lists.{no_items, one_item, two_items, split_first}
use Rattle.sy_meaning_words.proofs.Shapes.{none_taken, pair_bits, single_bits}
use Rattle.sy_meaning_words.proofs.Folds.{many_values, many_first}
use Rattle.sy_meaning_words.proofs.operators.vector_value.Goals as goal

pub unreachable-requires : goal.unreachable-requires
unreachable-requires c = none_taken c.args.op.now c.requires.ours (rw (no_items c.args.args.now c.in-empty.len_below) at c.requires.takes)

pub word_of-requires : goal.word_of-requires
word_of-requires c =
    let e = one_item c.args.args.now c.s-item.result c.in-len1.len_at_least c.in-len1.len_below c.s-item.is in
    single_bits _ _ c.requires.ours (rw e at c.requires.takes)

pub word_of-requires-in-len2 : goal.word_of-requires-in-len2
word_of-requires-in-len2 c =
    let e = two_items c.args.args.now c.s-item-then-args-lt3.result c.t-item.result c.in-len2.len_at_least c.in-len2.len_below c.s-item-then-args-lt3.is c.t-item.is in
    (pair_bits _ _ _ c.requires.ours (rw e at c.requires.takes)).0

pub word_of-requires-in-len2-2 : goal.word_of-requires-in-len2-2
word_of-requires-in-len2-2 c =
    let e = two_items c.args.args.now c.s-item-then-args-lt3.result c.t-item.result c.in-len2.len_at_least c.in-len2.len_below c.s-item-then-args-lt3.is c.t-item.is in
    (pair_bits _ _ _ c.requires.ours (rw e at c.requires.takes)).1

pub word_of-requires-in-len1-up : goal.word_of-requires-in-len1-up
word_of-requires-in-len1-up c =
    let e = split_first c.args.args.now c.first-item.result (omega arith) c.first-item.is in
    let takes = many_values c.args.op.now c.args.args.now c.in-len1-up.len_at_least c.requires.ours c.requires.takes in
    many_first c.args.op.now _ _ (subst (λ vs. TakesMany c.args.op.now (sorts_of vector vs)) e takes)

pub folded_value-requires-clause-takes : goal.folded_value-requires-clause-takes
folded_value-requires-clause-takes c =
    let e = split_first c.args.args.now c.first-item.result (omega arith) c.first-item.is in
    let takes = many_values c.args.op.now c.args.args.now c.in-len1-up.len_at_least c.requires.ours c.requires.takes in
    let split = subst (λ vs. TakesMany c.args.op.now (sorts_of vector vs)) e takes in
    rw (← c.word_of-in-len1-up.ensures) at split
