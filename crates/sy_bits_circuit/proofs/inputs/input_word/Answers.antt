use Rattle.sy_bits_circuit.proofs.Entering.{long-more, bound-more, number-more}
use Rattle.sy_bits_circuit.proofs.inputs.input_word.Goals as goal

pub loop-i-preserved : goal.loop-i-preserved
loop-i-preserved c = record {
  long = long-more c.loop-i.word c.push.new.self c.input_bit.result c.loop-i.i c.in_ok-push.ensures.ok c.loop-i.invariant.long;
  inside = bound-more c.loop-i.word c.push.new.self c.input_bit.result c.args.first c.loop-i.i c.in_ok-push.ensures.ok c.input_bit.ensures c.loop-i.invariant.inside;
  value = λ m. number-more c.loop-i.word c.push.new.self c.input_bit.result c.args.first c.loop-i.i m
      c.in_ok-push.ensures.ok c.input_bit.ensures c.loop-i.invariant.long (c.loop-i.invariant.value m);
}
