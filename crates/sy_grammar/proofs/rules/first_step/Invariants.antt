use Rattle.std.proofs.Common.{◌≡◌, ◌<◌, ℕ, map, Some, slice_get}
use Rattle.sy_terms.specs.Denoted.{expr_of}
use Rattle.sy_grammar_base.specs.Trees.{Production}
use Rattle.sy_grammar_base.specs.Grown.{production_of}
use Rattle.sy_grammar.specs.Noted.{notes_of}
use Rattle.sy_grammar.specs.Rows.{MakesNone}
use Rattle.sy_grammar.proofs.rules.first_step.Given as goal

abbrev pub invariant-loop-place : goal.invariant-loop-place
invariant-loop-place g l =
    (k : ℕ) → (production : Production) → k < l.place → slice_get (map (production_of g.T.Theory.denotes) l.rules) k ≡ Some production →
    MakesNone l.arguments (expr_of g.T.Theory.denotes l.term) l.row (notes_of l.below) production
