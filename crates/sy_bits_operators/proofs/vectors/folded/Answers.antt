use Rattle.std.proofs.Common.{arith, sym, ◌∙◌, length, false}
use Rattle.sy_gates.proofs.Gates.{grown-trans}
use Rattle.sy_bits_operators.proofs.Taken.{takes_two}
use Rattle.sy_bits_operators.proofs.Folds.{word-length, word-bound, next-sort, bits-sort, fold-next, fold-last, fold-cost, pair-value-sort}
use Rattle.sy_bits_operators.proofs.Rows.{bound-of}
use Rattle.sy_bits_operators.proofs.vectors.folded.Goals as goal

pub word-requires-in-loop-i : goal.word-requires-in-loop-i
word-requires-in-loop-i c =
    bits-sort _ (length c.args.first.now) (next-sort c.args.op.now (length c.args.first.now) c.args.rest.now c.loop-i.i c.index-rest-i.result c.requires.takes (omega arith) c.index-rest-i.is)

pub same_width-requires-clause-same : goal.same_width-requires-clause-same
same_width-requires-clause-same c =
    let next = next-sort c.args.op.now (length c.args.first.now) c.args.rest.now c.loop-i.i c.index-rest-i.result c.requires.takes (omega arith) c.index-rest-i.is in
    word-length c.word-in-loop-i.result.now c.index-rest-i.result (length c.args.first.now) c.word-in-loop-i.ensures next
    ∙ sym (word-length c.word.result.now c.loop-i.total (length c.args.first.now) c.word.ensures c.loop-i.invariant.sort)

pub same_width-requires-clause-takes : goal.same_width-requires-clause-takes
same_width-requires-clause-takes c =
    let next = next-sort c.args.op.now (length c.args.first.now) c.args.rest.now c.loop-i.i c.index-rest-i.result c.requires.takes (omega arith) c.index-rest-i.is in
    takes_two c.args.op.now (length c.word.result.now) (length c.word-in-loop-i.result.now) c.requires.takes.folded
    (word-length c.word.result.now c.loop-i.total (length c.args.first.now) c.word.ensures c.loop-i.invariant.sort
    ∙ sym (word-length c.word-in-loop-i.result.now c.index-rest-i.result (length c.args.first.now) c.word-in-loop-i.ensures next))

pub same_width-requires-clause-right : goal.same_width-requires-clause-right
same_width-requires-clause-right c =
    let own = word-bound c.word-in-loop-i.result.now c.index-rest-i.result c.word-in-loop-i.ensures in
    let inside = bound-of c.args.rest.now c.loop-i.i c.index-rest-i.result (omega arith) c.index-rest-i.is in
    omega (arith, own, inside, c.requires.right, c.loop-i.invariant.grown.more)

pub loop-i-preserved : goal.loop-i-preserved
loop-i-preserved c =
    let width = word-length c.word.result.now c.loop-i.total (length c.args.first.now) c.word.ensures c.loop-i.invariant.sort in
    record {
      grown = grown-trans _ _ _ c.loop-i.invariant.grown c.same_width.ensures.grown;
      cost = fold-cost c.args.op.now c.loop-i.i (length c.args.first.now) (length c.word.result.now) _ _ _ width c.loop-i.invariant.cost c.in_ok-total.ensures.cost;
      inside = c.in_ok-total.ensures.inside;
      sort = c.in_ok-total.ensures.sort (λ n. false) ∙ pair-value-sort c.args.op.now (length c.word.result.now) (length c.args.first.now) _ _ _ c.requires.takes.folded width;
      value = λ v f. fold-next c.args.op.now v c.args.rest.now c.loop-i.i c.loop-i.total c.index-rest-i.result c.in_ok-total.total c.word.result.now c.word-in-loop-i.result.now _ c.requires.takes.folded (omega arith) c.index-rest-i.is
          c.word.ensures c.word-in-loop-i.ensures (c.in_ok-total.ensures.value v f) (c.loop-i.invariant.value v (c.same_width.ensures.grown.keeps v f));
    }

pub returns-clause-value : goal.returns-clause-value
returns-clause-value c = λ v f. fold-last c.args.op.now v c.args.rest.now c.loop-i.i c.loop-i.total _ c.requires.takes.folded (omega arith) (c.loop-i.invariant.value v f)
