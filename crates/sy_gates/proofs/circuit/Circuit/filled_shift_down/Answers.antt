use Rattle.std.proofs.Common.{arith, false, ◌≡◌, length, ap, sym, ◌∙◌}
use Rattle.std.proofs.lemmas.List.{take_all}
use Rattle.std.proofs.lemmas.Grind.{common_steps}
use Rattle.sy_gates.specs.declared.gate.Bit.TheVariants.{Fixed}
use Rattle.sy_gates.specs.Circuits.{variables, bit_value, word_bound, word_number}
use Rattle.sy_gates.proofs.Gates.{grown-trans, grown-refl}
use Rattle.sy_gates.proofs.Words.{below_at, word_number-below, word_bound-get}
use Rattle.sy_gates.proofs.Rooms.{step_fits, shift_room}
use Rattle.sy_gates.proofs.Shifts.{filled_start, filled_value, next_step}
use Rattle.sy_gates.proofs.circuit.Circuit.filled_shift_down.Goals as goal

pub loop-i-preserved : goal.loop-i-preserved
loop-i-preserved c =
    let w : length c.as_slice-in-loop-i.result.now ≡ length c.args.a.now =
    ap length c.as_slice-in-loop-i.ensures ∙ c.in_ok-moved.ensures.width ∙ ap length c.as_slice.ensures ∙ c.loop-i.invariant.width in
    record {
      grown = grown-trans _ _ _ c.loop-i.invariant.grown c.choose_word.ensures.grown;
      cost = omega (arith, c.in_ok-word-2.ensures.cost, w);
      width = c.in_ok-word-2.ensures.width ∙ w;
      step = rw c.min-step-in-loop-i.ensures (next_step c.loop-i.step c.loop-i.i (length c.args.a.now) c.loop-i.invariant.step);
      inside = c.in_ok-word-2.ensures.inside;
      value = λ v f. filled_value v (bit_value v c.args.fill) c.args.by.now c.loop-i.i c.loop-i.step (length c.args.a.now) _ (word_number v c.args.a.now) (word_number v c.loop-i.word) _ _
          (omega arith) c.loop-i.invariant.step (c.loop-i.invariant.value v (c.choose_word.ensures.grown.keeps v f)) (below_at v c.loop-i.word _ c.loop-i.invariant.width)
          (word_number-below v c.args.a.now)
          (rw (c.as_slice.ensures, c.loop-i.invariant.width) at c.in_ok-moved.ensures.value v)
          (rw (c.as_slice-in-loop-i.ensures, c.as_slice-in-loop-i-2.ensures) at c.in_ok-word-2.ensures.value v f);
    }

pub loop-i-init : goal.loop-i-init
loop-i-init c = record {
  grown = grown-refl _;
  cost = omega arith;
  width = grind (arith, common_steps, c.in_ok-word.ensures.items);
  step = c.min-step.ensures;
  inside = omega (arith, c.in_ok-word.ensures.bound);
  value = λ v f. filled_start (bit_value v c.args.fill) (length c.args.a.now) (word_number v c.args.a.now) _ (word_number-below v c.args.a.now) (omega (arith, c.in_ok-word.ensures.value v));
}

pub returns-clause-value : goal.returns-clause-value
returns-clause-value c = λ v f. rw (take_all c.loop-i.i c.args.by.now (omega arith)) at c.loop-i.invariant.value v f

pub moved_down-requires : goal.moved_down-requires
moved_down-requires c = step_fits _ _ _ _ c.loop-i.invariant.step (ap length c.as_slice.ensures ∙ c.loop-i.invariant.width)

pub choose_word-requires-clause-test : goal.choose_word-requires-clause-test
choose_word-requires-clause-test c = omega (arith, word_bound-get c.args.by.now c.loop-i.i (Fixed false) (omega arith), c.requires.right, c.loop-i.invariant.grown.more)

pub choose_word-requires-clause-same : goal.choose_word-requires-clause-same
choose_word-requires-clause-same c = ap length c.as_slice-in-loop-i-2.ensures ∙ sym (ap length c.as_slice.ensures) ∙ sym c.in_ok-moved.ensures.width ∙ sym (ap length c.as_slice-in-loop-i.ensures)

pub choose_word-requires-clause-left : goal.choose_word-requires-clause-left
choose_word-requires-clause-left c = omega (arith, ap word_bound c.as_slice-in-loop-i.ensures, c.in_ok-moved.ensures.bound, ap word_bound c.as_slice.ensures, c.loop-i.invariant.inside, c.requires.fill, c.loop-i.invariant.grown.more)

pub choose_word-requires-clause-right : goal.choose_word-requires-clause-right
choose_word-requires-clause-right c = rw c.as_slice-in-loop-i-2.ensures c.loop-i.invariant.inside

pub choose_word-requires-clause-room : goal.choose_word-requires-clause-room
choose_word-requires-clause-room c =
    shift_room (variables c.loop-i.self) (variables c.args.self.now) c.loop-i.i (length c.args.by.now) (length c.args.a.now) _ (omega arith)
    (ap length c.as_slice-in-loop-i.ensures ∙ c.in_ok-moved.ensures.width ∙ ap length c.as_slice.ensures ∙ c.loop-i.invariant.width)
    c.loop-i.invariant.cost c.requires.room

pub returns-in_err-word-2-clause-grown : goal.returns-in_err-word-2-clause-grown
returns-in_err-word-2-clause-grown c = grown-trans _ _ _ c.loop-i.invariant.grown c.choose_word.ensures.grown

pub returns-clause-cost : goal.returns-clause-cost
returns-clause-cost c =
    let e : c.loop-i.i ≡ length c.args.by.now = omega arith in
    rw e at c.loop-i.invariant.cost
