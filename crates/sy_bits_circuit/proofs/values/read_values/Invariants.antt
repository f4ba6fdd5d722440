use Rattle.std.proofs.Common.{◌≡◌, ◌≤◌, ◌++◌, length, drop}
use Rattle.sy_terms.specs.Denoted.{vals_of}
use Rattle.sy_meaning_words.specs.Vectors.{vector}
use Rattle.sy_bits_operators.specs.Signals.{total_width, AllHaveSignals}
use Rattle.sy_bits_circuit.specs.Assignments.{assignment}
use Rattle.sy_bits_circuit.proofs.values.read_values.Given as goal

abbrev pub invariant-loop-sort : goal.invariant-loop-sort
invariant-loop-sort l = record {
  have : AllHaveSignals (drop l.sort-index l.sorts);
  long : total_width (drop l.sort-index l.sorts) ≤ length l.rest;
  values : vals_of vector l.values ++ assignment (drop l.sort-index l.sorts) l.rest ≡ assignment l.sorts l.bits;
}
