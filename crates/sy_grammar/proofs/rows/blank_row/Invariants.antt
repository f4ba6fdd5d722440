use Rattle.std.proofs.Common.{◌≤◌, ◌-◌, length}
use Rattle.sy_grammar.specs.Rows.{IsBlank}
use Rattle.sy_grammar.proofs.rows.blank_row.Given as goal

abbrev pub invariant-loop-row : goal.invariant-loop-row
invariant-loop-row l = (length l.row.items ≤ l.nonterminals) × IsBlank l.row.items

abbrev pub decreases-loop-row : goal.decreases-loop-row
decreases-loop-row l = l.nonterminals - length l.row.items
