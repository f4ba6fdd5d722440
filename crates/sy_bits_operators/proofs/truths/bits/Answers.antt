use Rattle.std.proofs.Common.{arith, ap, ◌∙◌, ◌∷◌, [], length-append}
use Rattle.sy_terms.specs.Values.{truth}
use Rattle.sy_gates.proofs.Words.{word_bound-push}
use Rattle.sy_bits_operators.specs.Signals.{signal_value}
use Rattle.sy_bits_operators.proofs.Rows.{bits-more, bound-of}
use Rattle.sy_bits_operators.proofs.truths.bits.Goals as goal

pub loop-i-preserved : goal.loop-i-preserved
loop-i-preserved c =
    let inside = bound-of c.args.signals.now c.loop-i.i c.index-signals-i.result (omega arith) c.index-signals-i.is in
    record {
      length = rw c.in_ok-push.ensures.ok (omega (arith, length-append c.loop-i.all (c.bit.result ∷ []), c.loop-i.invariant.length));
      bound = rw (c.in_ok-push.ensures.ok, word_bound-push) (omega (arith, inside, c.bit.ensures.bound, c.loop-i.invariant.bound));
      value = λ v. bits-more v c.args.signals.now c.loop-i.i c.index-signals-i.result c.loop-i.all _ c.bit.result (omega arith) c.in_ok-push.ensures.ok
          (c.bit.ensures.value v ∙ ap (λ s. truth (signal_value v s)) c.index-signals-i.is) (c.loop-i.invariant.value v);
    }
