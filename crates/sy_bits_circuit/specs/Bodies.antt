-- Circuits of a query's body.
use Rattle.std.specs.Prelude.{◌+◌, ◌≤◌, ◌≡◌, Bool, List, []}
use Rattle.sy_terms.specs.Meaning.{meaning}
use Rattle.sy_terms.specs.declared.sort.Sort.TheVariants as sorts
use Rattle.sy_gates.specs.Circuits.{Plan, variables, FollowsPlan}
use Rattle.sy_gates.specs.Models.{values_of}
use Rattle.sy_query_base.specs.Asked.{Query}
use Rattle.sy_bits_operators.specs.declared.signal.Signal.{Signal}
use Rattle.sy_bits_operators.specs.Signals.{signal_value, signal_sort, signal_bound, total_width}
use Rattle.sy_bits_circuit.specs.Assignments.{assignment}
use Rattle.sy_bits_circuit.specs.Fitting.{most_gates}

-- The circuit's inputs are the bits of the query's variables. Wherever its gates are followed, the signal is the
-- truth value that the body has at the assignment of these bits. There are few gates.
pub record IsBodyOf (query : Query) (circuit : Plan) (signal : Signal) : Type 0 where
  pub inputs : circuit.inputs ≡ total_width query.variables
  pub inside : signal_bound signal ≤ variables circuit
  pub sort : signal_sort signal ≡ sorts.Bool
  pub value : (m : List Bool) → FollowsPlan (values_of m) circuit →
      signal_value (values_of m) signal ≡ meaning [] [] (assignment query.variables m) query.body
  pub few : variables circuit + 5 ≤ total_width query.variables + most_gates query.variables query.body
