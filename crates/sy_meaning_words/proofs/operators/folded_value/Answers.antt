use Rattle.std.proofs.Common.{arith, ◌∷◌, ap, ◌∙◌, refl}
use Rattle.std.proofs.lemmas.List.{at_drop_all}
use Rattle.sy_terms.specs.Theories.{sort_of_value}
use Rattle.sy_terms.specs.Denoted.{val_of, vals_of}
use Rattle.sy_terms.specs.Operators.{op_value}
use Rattle.sy_meaning_words.specs.Vectors.{vector}
use Rattle.sy_meaning_words.proofs.Folds.{rest_sort, widths_of, takes_two, fold_next, fold_end, folded_sort}
use Rattle.sy_meaning_words.proofs.operators.folded_value.Goals as goal

pub word_of-requires-in-loop-next : goal.word_of-requires-in-loop-next
word_of-requires-in-loop-next c =
    let sort = rest_sort c.args.op.now c.args.first.width c.args.rest.now c.loop-next.next-index c.next-item.result c.requires.takes (omega arith) c.next-item.is in
    rw sort refl

pub same_width_value-total-requires-clause-same : goal.same_width_value-total-requires-clause-same
same_width_value-total-requires-clause-same c =
    let sort = rest_sort c.args.op.now c.args.first.width c.args.rest.now c.loop-next.next-index c.next-item.result c.requires.takes (omega arith) c.next-item.is in
    widths_of c.word_of.result c.word_of-in-loop-next.result c.loop-next.total c.next-item.result c.args.first.width c.word_of.ensures c.word_of-in-loop-next.ensures c.loop-next.invariant.sort sort

pub same_width_value-total-requires-clause-takes : goal.same_width_value-total-requires-clause-takes
same_width_value-total-requires-clause-takes c =
    let sort = rest_sort c.args.op.now c.args.first.width c.args.rest.now c.loop-next.next-index c.next-item.result c.requires.takes (omega arith) c.next-item.is in
    takes_two c.args.op.now _ _ c.requires.takes.folded (widths_of c.word_of.result c.word_of-in-loop-next.result c.loop-next.total c.next-item.result c.args.first.width c.word_of.ensures c.word_of-in-loop-next.ensures c.loop-next.invariant.sort sort)

pub loop-next-preserved : goal.loop-next-preserved
loop-next-preserved c = record {
  sort = ap sort_of_value c.same_width_value-total.ensures ∙ folded_sort c.args.op.now c.word_of.result c.word_of-in-loop-next.result c.requires.takes.folded ∙ ap sort_of_value c.word_of.ensures ∙ c.loop-next.invariant.sort;
  left = fold_next c.args.op.now c.loop-next.total c.next-item.result c.same_width_value-total.result c.word_of.result c.word_of-in-loop-next.result c.args.rest.now c.loop-next.next-index _ c.requires.takes.folded c.word_of.ensures c.word_of-in-loop-next.ensures c.next-item.is (omega arith) c.same_width_value-total.ensures c.loop-next.invariant.left;
}

pub returns : goal.returns
returns c =
    let rest = at_drop_all (λ r. op_value c.args.op.now (val_of vector c.loop-next.total ∷ vals_of vector r)) c.args.rest.now c.loop-next.next-index (omega arith) in
    let end = fold_end c.args.op.now (val_of vector c.loop-next.total) c.requires.takes.folded in
    rw (rest, end) at c.loop-next.invariant.left
