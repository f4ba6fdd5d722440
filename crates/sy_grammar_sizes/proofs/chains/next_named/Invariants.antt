use Rattle.std.proofs.Common.{◌≡◌, ◌<◌, ℕ, Some, false, slice_get, map}
use Rattle.sy_grammar_base.specs.Patterns.{Occurrence}
use Rattle.sy_grammar_base.specs.Trees.{Template}
use Rattle.sy_grammar_base.specs.Grown.{production_of}
use Rattle.sy_grammar_sizes.proofs.chains.next_named.Given as goal

abbrev pub invariant-loop-rule : goal.invariant-loop-rule
invariant-loop-rule g l = (rule to : ℕ) → rule < l.rule-index → slice_get (map (production_of g.T.Theory.denotes) l.rules) rule ≡ Some (Template (Occurrence to)) → slice_get l.marks to ≡ Some false → ⊥
