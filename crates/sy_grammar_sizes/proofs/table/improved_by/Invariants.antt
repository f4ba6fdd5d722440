use Rattle.std.proofs.Common.{◌≡◌, ◌<◌, ℕ, Some, slice_get, map}
use Rattle.sy_grammar_base.specs.Patterns.{Pattern}
use Rattle.sy_grammar_base.specs.Trees.{Template}
use Rattle.sy_grammar_base.specs.Grown.{production_of}
use Rattle.sy_grammar_sizes.specs.Tables.{pattern_size, Exceeds}
use Rattle.sy_grammar_sizes.proofs.table.improved_by.Given as goal

abbrev pub invariant-loop-rule : goal.invariant-loop-rule
invariant-loop-rule g l = (rule : ℕ) (pattern : Pattern) (size : ℕ) → rule < l.rule-index → slice_get (map (production_of g.T.Theory.denotes) l.rules) rule ≡ Some (Template pattern) →
    pattern_size l.limit l.table pattern ≡ Some size → Exceeds l.known size → ⊥
