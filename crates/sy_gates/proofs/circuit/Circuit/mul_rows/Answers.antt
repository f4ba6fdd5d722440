use Rattle.std.proofs.Common.{arith, false, ◌≡◌, length, ap, ◌∙◌}
use Rattle.std.proofs.lemmas.List.{take_all}
use Rattle.sy_gates.specs.declared.gate.Bit.TheVariants.{Fixed}
use Rattle.sy_gates.specs.Circuits.{variables, word_bound}
use Rattle.sy_gates.proofs.Gates.{grown-trans, grown-refl}
use Rattle.sy_gates.proofs.Words.{word_bound-get}
use Rattle.sy_gates.proofs.Rooms.{product_room}
use Rattle.sy_gates.proofs.Products.{mul_start, mul_value}
use Rattle.sy_gates.proofs.circuit.Circuit.mul_rows.Goals as goal

pub loop-i-preserved : goal.loop-i-preserved
loop-i-preserved c = record {
  grown = grown-trans _ _ _ c.loop-i.invariant.grown c.add_row.ensures.grown;
  cost = omega (arith, c.in_ok-sum-2.ensures.cost);
  width = c.in_ok-sum-2.ensures.width;
  inside = c.in_ok-sum-2.ensures.inside;
  value = λ v f. mul_value v c.args.b.now c.loop-i.i _ _ _ _ _ (omega arith)
      (c.loop-i.invariant.value v (c.add_row.ensures.grown.keeps v f))
      (rw c.as_slice.ensures at c.in_ok-sum-2.ensures.value v f);
}

pub returns-clause-value : goal.returns-clause-value
returns-clause-value c = λ v f. rw (take_all c.loop-i.i c.args.b.now (omega arith)) at c.loop-i.invariant.value v f

pub loop-i-init : goal.loop-i-init
loop-i-init c = record {
  grown = grown-refl _;
  cost = omega arith;
  width = c.in_ok-sum.ensures.width;
  inside = omega (arith, c.in_ok-sum.ensures.bound);
  value = λ v f. mul_start _ _ _ (c.in_ok-sum.ensures.value v);
}

pub add_row-requires-clause-same : goal.add_row-requires-clause-same
add_row-requires-clause-same c = ap length c.as_slice.ensures ∙ c.loop-i.invariant.width

pub add_row-requires-clause-left : goal.add_row-requires-clause-left
add_row-requires-clause-left c = rw c.as_slice.ensures c.loop-i.invariant.inside

pub add_row-requires-clause-right : goal.add_row-requires-clause-right
add_row-requires-clause-right c = omega (arith, c.requires.left, c.loop-i.invariant.grown.more)

pub add_row-requires-clause-bit : goal.add_row-requires-clause-bit
add_row-requires-clause-bit c = omega (arith, word_bound-get c.args.b.now c.loop-i.i (Fixed false) (omega arith), c.requires.right, c.loop-i.invariant.grown.more)

pub add_row-requires-clause-room : goal.add_row-requires-clause-room
add_row-requires-clause-room c = product_room (variables c.loop-i.self) (variables c.args.self.now) c.loop-i.i (length c.args.a.now) (omega arith) c.loop-i.invariant.cost c.requires.room

pub returns-in_err-sum-2-clause-grown : goal.returns-in_err-sum-2-clause-grown
returns-in_err-sum-2-clause-grown c = grown-trans _ _ _ c.loop-i.invariant.grown c.add_row.ensures.grown

pub returns-clause-cost : goal.returns-clause-cost
returns-clause-cost c =
    let e : c.loop-i.i ≡ length c.args.a.now = omega arith in
    rw e at c.loop-i.invariant.cost
