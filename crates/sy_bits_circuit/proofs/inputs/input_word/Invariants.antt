use Rattle.std.proofs.Common.{◌≡◌, ◌≤◌, ◌+◌, Bool, List, length, take, drop}
use Rattle.sy_gates.specs.Circuits.{word_number, word_bound}
use Rattle.sy_gates.specs.Models.{values_of}
use Rattle.sy_bits_circuit.specs.Assignments.{number_of_bits}
use Rattle.sy_bits_circuit.proofs.inputs.input_word.Given as goal

abbrev pub invariant-loop-i : goal.invariant-loop-i
invariant-loop-i l = record {
  long : length l.word ≡ l.i;
  inside : word_bound l.word ≤ l.first + l.i;
  value : (m : List Bool) → word_number (values_of m) l.word ≡ number_of_bits (take l.i (drop l.first m));
}
