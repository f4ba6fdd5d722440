use Rattle.std.proofs.Common.{◌≡◌, ◌<◌, ℕ, Some, None, slice_get}
use Rattle.sy_terms.specs.Denoted.{expr_of}
use Rattle.sy_grammar_base.specs.Trees.{Production, rule_at}
use Rattle.sy_grammar_base.specs.Grown.{syntax_from}
use Rattle.sy_grammar.specs.Noted.{notes_of}
use Rattle.sy_grammar.specs.Rows.{MakesNone}
use Rattle.sy_grammar.proofs.rows.next_step.Given as goal

abbrev pub invariant-loop-nonterminal : goal.invariant-loop-nonterminal
invariant-loop-nonterminal g l =
    (n rule : ℕ) → (production : Production) → n < l.nonterminal → slice_get l.row n ≡ Some None → rule_at (syntax_from g.T.Theory.denotes l.grammar) n rule ≡ Some production →
    MakesNone l.grammar.args (expr_of g.T.Theory.denotes l.term) l.row (notes_of l.below) production
