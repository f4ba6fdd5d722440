use Rattle.std.proofs.Common.{◌<◌, ℕ}
use Rattle.sy_grammar_base.specs.Grown.{syntax_from}
use Rattle.sy_grammar_sizes.specs.Tables.{IsImproved}
use Rattle.sy_grammar_sizes.proofs.table.next_larger.Given as goal

abbrev pub invariant-loop-nonterminal : goal.invariant-loop-nonterminal
invariant-loop-nonterminal g l = (nonterminal size : ℕ) → nonterminal < l.nonterminal → IsImproved (syntax_from g.T.Theory.denotes l.g) l.limit l.table nonterminal size → ⊥
