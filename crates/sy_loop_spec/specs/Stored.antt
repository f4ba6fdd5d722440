-- The histories that kept pairs stand for: each pair has a candidate and the assignment that refuted it.
use Rattle.std.specs.Prelude.{List, map}
use Rattle.sy_terms.specs.Values.{Val}
use Rattle.sy_terms.specs.Denoted.{vals_of, expr_of}
use Rattle.sy_terms.specs.declared.sort.Value.{Value}
use Rattle.sy_terms.specs.declared.term.Term.{Term}
use Rattle.sy_points.specs.declared.stored.Stored.{Stored}
use Rattle.sy_loop_spec.specs.Histories.{Counterexample}

abbrev pub counterexample_of : {T N : Type 0} → (N → Val) → List (Value N) × List (Term T N) → Counterexample
counterexample_of number pair = record { assignment = vals_of number pair.0; bodies = map (expr_of number) pair.1 }

abbrev pub history_of : {T N : Type 0} → (N → Val) → Stored T N → List Counterexample
history_of number stored = map (counterexample_of number) stored.items
