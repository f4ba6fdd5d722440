use Rattle.std.proofs.Common.{◌≡◌, ◌*◌, length, ap, arith, ◌∙◌}
use Rattle.sy_gates.specs.Circuits.{word_bound, word_number}
use Rattle.sy_gates.proofs.Copies.{copies_width, copies_bound, copies_value}
use Rattle.sy_gates.proofs.wires.repeated.Goals as goal

pub loop-i-preserved : goal.loop-i-preserved
loop-i-preserved c =
    let w : length c.as_slice.result.now ≡ c.loop-i.i * length c.args.a.now = ap length c.as_slice.ensures ∙ c.loop-i.invariant.width in
    record {
      width = copies_width c.in_ok-word.word c.as_slice.result.now c.args.a.now c.loop-i.i c.in_ok-word.ensures.items w;
      bound = copies_bound _ (word_bound c.as_slice.result.now) _ c.in_ok-word.ensures.bound (rw c.as_slice.ensures c.loop-i.invariant.bound);
      value = λ v. copies_value v c.in_ok-word.word c.as_slice.result.now c.args.a.now c.loop-i.i (c.in_ok-word.ensures.value v) w
          (ap (word_number v) c.as_slice.ensures ∙ c.loop-i.invariant.value v);
    }

pub returns-clause-width : goal.returns-clause-width
returns-clause-width c =
    let e : c.loop-i.i ≡ c.args.times = omega arith in
    rw e at c.loop-i.invariant.width

pub returns-clause-bound : goal.returns-clause-bound
returns-clause-bound c = c.loop-i.invariant.bound

pub returns-clause-value : goal.returns-clause-value
returns-clause-value c = λ v.
    let e : c.loop-i.i ≡ c.args.times = omega arith in
    rw e at c.loop-i.invariant.value v
