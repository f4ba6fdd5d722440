use Rattle.std.proofs.Common.{◌≡◌, ◌+◌, ◌*◌, [], ◌∷◌, length, take, map}
use Rattle.sy_terms.specs.Denoted.{vals_of}
use Rattle.sy_terms.specs.Meaning.{functions}
use Rattle.sy_terms.specs.Definitions.{scope_of, bodies}
use Rattle.sy_grammar_base.specs.Patterns.{all_occurring, all_filled}
use Rattle.sy_grammar_base.specs.Written.{patterns_of}
use Rattle.sy_bank_level.specs.Covering.{terms}
use Rattle.sy_bank_level.specs.Columns.{HaveRows}
use Rattle.sy_bank_columns.specs.Lent.{row_values}
use Rattle.sy_bank_level.specs.Stored.{chosen_of}
use Rattle.sy_bank_columns.proofs.Weights.{weight, all_weight}
use Rattle.sy_grammar_base.specs.Written.{pattern_of}
use Rattle.sy_bank_columns.proofs.rows.+row.Given as goal

abbrev pub decreases-part_row : goal.decreases-part_row
decreases-part_row g l = 2 * weight (pattern_of g.T.Theory.denotes l.part.now)

abbrev pub decreases-part_rows : goal.decreases-part_rows
decreases-part_rows g l = 2 * all_weight (patterns_of g.T.Theory.denotes l.parts.now.items.items) + 1

abbrev pub decreases-part_pair : goal.decreases-part_pair
decreases-part_pair g l = 2 * all_weight (patterns_of g.T.Theory.denotes (l.first.now ∷ l.second.now ∷ [])) + 1

abbrev pub invariant-part_rows-loop-part : goal.invariant-part_rows-loop-part
invariant-part_rows-loop-part g l = record {
  used_is : l.used ≡ length (all_occurring (patterns_of g.T.Theory.denotes (take l.part-index l.part-items)));
  rows : HaveRows (scope_of g.T.Theory.owned l.defs) (functions (bodies g.T.Theory.denotes l.defs)) (map (vals_of g.T.Theory.denotes) l.points) (all_filled (patterns_of g.T.Theory.denotes (take l.part-index l.part-items)) (terms (chosen_of g.T.Theory.denotes l.chosen))) (map (λ row. vals_of g.T.Theory.denotes (row_values row)) l.rows.items);
}
