use Rattle.std.proofs.Common.{arith, ap, sym, ◌∙◌, ◌≡◌, not, length}
use Rattle.sy_terms.specs.Values.{same}
use Rattle.sy_gates.specs.Circuits.{bit_value}
use Rattle.sy_gates.proofs.Gates.{grown-trans}
use Rattle.sy_bits_operators.specs.Signals.{signal_value, signal_values, signal_sort, sort_width}
use Rattle.sy_bits_operators.proofs.Rows.{bound-of, sort-of, row-room, all-more, all-end, to_all-is}
use Rattle.sy_bits_operators.proofs.equality.differs.Goals as goal

pub same-requires-clause-sort : goal.same-requires-clause-sort
same-requires-clause-sort c = sort-of _ c.args.others.now c.loop-i.i c.index-others-i.result c.requires.sorts (omega arith) c.index-others-i.is

pub same-requires-clause-right : goal.same-requires-clause-right
same-requires-clause-right c =
    let inside = bound-of c.args.others.now c.loop-i.i c.index-others-i.result (omega arith) c.index-others-i.is in
    omega (arith, inside, c.requires.right, c.loop-i.invariant.grown.more)

pub returns-clause-value : goal.returns-clause-value
returns-clause-value c = λ v f.
    all-end (λ y. not (same (signal_value v c.args.signal.now) y)) v c.args.others.now c.loop-i.i _ (omega arith) (c.loop-i.invariant.value v f)
    ∙ sym (to_all-is (λ x y. not (same x y)) (signal_value v c.args.signal.now) (signal_values v c.args.others.now))

pub same-requires-clause-left : goal.same-requires-clause-left
same-requires-clause-left c = omega (arith, c.requires.left, c.loop-i.invariant.grown.more)

pub same-requires-clause-room : goal.same-requires-clause-room
same-requires-clause-room c =
    let room = row-room (length c.args.others.now) c.loop-i.i (sort_width (signal_sort c.args.signal.now)) _ _ _ (omega arith) c.loop-i.invariant.cost c.requires.room in
    omega (arith, room)

pub and-requires-clause-left : goal.and-requires-clause-left
and-requires-clause-left c = omega (arith, c.loop-i.invariant.inside, c.same.ensures.grown.more)

pub and-requires-clause-right : goal.and-requires-clause-right
and-requires-clause-right c = omega (arith, c.negated.ensures.bound, c.in_ok-same.ensures.inside)

pub and-requires-clause-room : goal.and-requires-clause-room
and-requires-clause-room c =
    let room = row-room (length c.args.others.now) c.loop-i.i (sort_width (signal_sort c.args.signal.now)) _ _ _ (omega arith) c.loop-i.invariant.cost c.requires.room in
    omega (arith, room, c.in_ok-same.ensures.cost)

pub loop-i-preserved : goal.loop-i-preserved
loop-i-preserved c = record {
  grown = grown-trans _ _ _ (grown-trans _ _ _ c.loop-i.invariant.grown c.same.ensures.grown) c.and.ensures.grown;
  cost = omega (arith, c.loop-i.invariant.cost, c.in_ok-same.ensures.cost, c.in_ok-all.ensures.cost);
  inside = c.in_ok-all.ensures.inside;
  value = λ v f.
      let then = c.and.ensures.grown.keeps v f in
      let one = c.in_ok-same.ensures.value v then ∙ ap (λ s. same (signal_value v c.args.signal.now) (signal_value v s)) c.index-others-i.is in
      all-more (λ y. not (same (signal_value v c.args.signal.now) y)) v c.args.others.now c.loop-i.i c.index-others-i.result (bit_value v c.loop-i.all)
      (bit_value v c.in_ok-all.all) (bit_value v c.negated.result) (omega arith) (c.negated.ensures.value v ∙ ap not one) (c.in_ok-all.ensures.value v f)
      (c.loop-i.invariant.value v (c.same.ensures.grown.keeps v then));
}

pub returns-in_err-same-clause-grown : goal.returns-in_err-same-clause-grown
returns-in_err-same-clause-grown c = grown-trans _ _ _ c.loop-i.invariant.grown c.same.ensures.grown

pub returns-in_err-all-clause-grown : goal.returns-in_err-all-clause-grown
returns-in_err-all-clause-grown c = grown-trans _ _ _ (grown-trans _ _ _ c.loop-i.invariant.grown c.same.ensures.grown) c.and.ensures.grown

pub returns-clause-cost : goal.returns-clause-cost
returns-clause-cost c =
    let e : c.loop-i.i ≡ length c.args.others.now = omega arith in
    rw e at c.loop-i.invariant.cost
