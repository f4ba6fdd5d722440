use Rattle.std.proofs.Common.{◌≡◌, ◌≤◌, ◌+◌, ◌*◌, ◌∷◌, ℕ, Bool, drop, length}
use Rattle.sy_terms.specs.Operators.{op_value}
use Rattle.sy_terms.specs.declared.sort.Sort.TheVariants as sorts
use Rattle.sy_gates.specs.Circuits.{variables, FollowsPlan, GrownCircuit}
use Rattle.sy_bits_operators.specs.Signals.{signal_value, signal_values, signal_sort, signal_bound}
use Rattle.sy_bits_operators.specs.Costs.{pair_gates}
use Rattle.sy_bits_operators.proofs.Pairs.{word_value}
use Rattle.sy_bits_operators.proofs.vectors.folded.Given as goal

abbrev pub invariant-loop-i : goal.invariant-loop-i
invariant-loop-i l = record {
  grown : GrownCircuit l.initial.circuit l.circuit;
  cost : variables l.circuit ≤ variables l.initial.circuit + l.i * pair_gates l.op (length l.first);
  inside : signal_bound l.total ≤ variables l.circuit;
  sort : signal_sort l.total ≡ sorts.Bits (length l.first);
  value : (v : ℕ → Bool) → FollowsPlan v l.circuit → op_value l.op (signal_value v l.total ∷ signal_values v (drop l.i l.rest)) ≡ op_value l.op (word_value v l.first ∷ signal_values v l.rest);
}
