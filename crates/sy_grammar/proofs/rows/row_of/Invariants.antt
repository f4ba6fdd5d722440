use Rattle.sy_terms.specs.Denoted.{expr_of}
use Rattle.sy_grammar_base.specs.Grown.{syntax_from}
use Rattle.sy_grammar.specs.Rows.{IsFilling, missing_steps}
use Rattle.sy_grammar.proofs.rows.row_of.Given as goal

abbrev pub invariant-loop-row : goal.invariant-loop-row
invariant-loop-row g l = IsFilling g.T.Theory.denotes (syntax_from g.T.Theory.denotes l.grammar) (expr_of g.T.Theory.denotes l.term) l.row.items l.initial.steps.items l.steps.items

abbrev pub decreases-loop-row : goal.decreases-loop-row
decreases-loop-row g l = missing_steps l.row.items
