use Rattle.std.proofs.Common.{◌≡◌, ◌<◌, ℕ, List, [], length, map, slice_get, Some}
use Rattle.sy_terms.specs.Values.{Val}
use Rattle.sy_terms.specs.Denoted.{vals_of, expr_of}
use Rattle.sy_terms.specs.Meaning.{functions, value_at_position}
use Rattle.sy_terms.specs.Definitions.{scope_of, bodies}
use Rattle.sy_terms_operators.specs.Evaluation.{HasValue}
use Rattle.sy_bank_columns.proofs.evaluated.term_row.Given as goal

abbrev pub invariant-loop-number : goal.invariant-loop-number
invariant-loop-number g l = record {
  sized : length l.row.items ≡ l.number;
  each : (k : ℕ) → k < l.number → (point : List Val) → slice_get (map (vals_of g.T.Theory.denotes) l.points) k ≡ Some point → HasValue (scope_of g.T.Theory.owned l.defs) (functions (bodies g.T.Theory.denotes l.defs)) [] point (expr_of g.T.Theory.denotes l.term) (value_at_position (vals_of g.T.Theory.denotes l.row.items) k);
}
