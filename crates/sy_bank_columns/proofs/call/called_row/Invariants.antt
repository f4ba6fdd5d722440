use Rattle.std.proofs.Common.{◌≡◌, ◌<◌, ℕ, [], length, map}
use Rattle.sy_terms.specs.Denoted.{vals_of}
use Rattle.sy_terms.specs.Expr.{Invoke}
use Rattle.sy_terms.specs.Meaning.{value_at_position}
use Rattle.sy_terms.specs.declared.term.Fun.TheVariants.{Defined}
use Rattle.sy_terms_operators.specs.Evaluation.{GivesValue}
use Rattle.sy_bank_level.specs.Columns.{column, constants}
use Rattle.sy_bank_columns.specs.Lent.{row_values}
use Rattle.sy_bank_columns.proofs.call.called_row.Given as goal

abbrev pub invariant-loop-number : goal.invariant-loop-number
invariant-loop-number g l = record {
  sized : length l.found.items ≡ l.number;
  each : (k : ℕ) → k < l.number → GivesValue g.T.Theory.owned g.T.Theory.denotes l.defs [] [] (Invoke (Defined l.definition) (constants (column (map (λ row. vals_of g.T.Theory.denotes (row_values row)) l.rows) k))) (value_at_position (vals_of g.T.Theory.denotes l.found.items) k);
}
