use Rattle.std.proofs.Common.{◌≡◌, ◌<◌, ℕ, slice_get, true}
use Rattle.sy_grammar_base.specs.Trees.{is_sort}
use Rattle.sy_grammar_sizes.proofs.leaves.has_argument.Given as goal

abbrev pub invariant-loop-argument : goal.invariant-loop-argument
invariant-loop-argument l = (position : ℕ) → position < l.argument-index → is_sort l.sort (slice_get l.arguments position) ≡ true → ⊥
