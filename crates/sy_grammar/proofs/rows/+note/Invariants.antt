use Rattle.std.proofs.Common.{take}
use Rattle.sy_terms.specs.Denoted.{exprs_of}
use Rattle.sy_grammar_base.specs.Grown.{syntax_from}
use Rattle.sy_grammar.specs.Noted.{notes_of}
use Rattle.sy_grammar.specs.Rows.{AreNoted}
use Rattle.sy_grammar.proofs.rows.+note.Given as goal

abbrev pub invariant-notes-loop-term : goal.invariant-notes-loop-term
invariant-notes-loop-term g l = AreNoted g.T.Theory.denotes (syntax_from g.T.Theory.denotes l.grammar) (exprs_of g.T.Theory.denotes (take l.term-index l.term-items)) (notes_of l.notes.items) l.initial.steps.items l.steps.items
