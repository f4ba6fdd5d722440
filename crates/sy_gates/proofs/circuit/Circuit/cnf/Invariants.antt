use Rattle.std.proofs.Common.{◌≡◌, ℕ, Bool, ◌+◌, ◌*◌, ◌≤◌, length, take}
use Rattle.sy_gates.specs.Circuits.{clauses_bound}
use Rattle.sy_gates.specs.Models.{clauses_value}
use Rattle.sy_gates.proofs.Ways.{obeys_test}
use Rattle.sy_gates.proofs.circuit.Circuit.cnf.Given as goal

abbrev pub invariant-loop-i : goal.invariant-loop-i
invariant-loop-i l = record {
  values : (v : ℕ → Bool) → clauses_value v l.clauses ≡ obeys_test v l.self-inside.inputs (take l.i l.gates);
  count : length l.clauses ≤ 4 * l.i;
  bound : clauses_bound l.clauses ≤ l.self-inside.inputs + l.i;
}
