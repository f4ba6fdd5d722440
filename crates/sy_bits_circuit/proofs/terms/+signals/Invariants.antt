use Rattle.std.proofs.Common.{◌≡◌, ◌+◌, ◌*◌, take}
use Rattle.sy_terms.specs.Expr.{nodes, nodes_of}
use Rattle.sy_terms.specs.Denoted.{expr_of, exprs_of}
use Rattle.sy_meaning_words.specs.Vectors.{vector}
use Rattle.sy_bits_words.specs.Standing.{AllStand}
use Rattle.sy_bits_circuit.proofs.Encoded.{AllEncoded}
use Rattle.sy_bits_circuit.proofs.terms.+signals.Given as goal

abbrev pub decreases-signal_of : goal.decreases-signal_of
decreases-signal_of l = 2 * (nodes (expr_of vector l.term.now) + 0)

abbrev pub decreases-signals_of : goal.decreases-signals_of
decreases-signals_of l = 2 * (nodes_of (exprs_of vector l.terms.now.items.items) + 0) + 1

abbrev pub invariant-signals_of-loop-term : goal.invariant-signals_of-loop-term
invariant-signals_of-loop-term l = record {
  stand : AllStand l.circuit l.words;
  kept : l.signals.items ≡ l.fn.signals.items;
  encoded : AllEncoded l.fn.circuit l.circuit l.fn.signals.items (exprs_of vector (take l.term-index l.term-items)) l.found.items;
}
