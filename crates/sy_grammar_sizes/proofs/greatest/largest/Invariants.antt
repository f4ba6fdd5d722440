use Rattle.std.proofs.Common.{map}
use Rattle.sy_terms.specs.Denoted.{val_of}
use Rattle.sy_grammar_base.specs.Grown.{syntax_from}
use Rattle.sy_grammar_sizes.specs.Tables.{IsTable, slack}
use Rattle.sy_grammar_sizes.proofs.greatest.largest.Given as goal

abbrev pub invariant-loop-nonterminal : goal.invariant-loop-nonterminal
invariant-loop-nonterminal g l = IsTable (syntax_from g.T.Theory.denotes l.g) (map (val_of g.T.Theory.denotes) l.pool) l.limit l.table.items

abbrev pub decreases-loop-nonterminal : goal.decreases-loop-nonterminal
decreases-loop-nonterminal g l = slack l.limit l.table.items
