use Rattle.std.proofs.Common.{◌≡◌, ◌<◌, ℕ, Some, true, false, slice_get}
use Rattle.sy_grammar_base.specs.Grown.{syntax_from}
use Rattle.sy_grammar_sizes.specs.Chains.{IsChain}
use Rattle.sy_grammar_sizes.proofs.chains.next_mark.Given as goal

abbrev pub invariant-loop-from : goal.invariant-loop-from
invariant-loop-from g l = (from to : ℕ) → from < l.from → slice_get l.marks from ≡ Some true → IsChain (syntax_from g.T.Theory.denotes l.g) from to → slice_get l.marks to ≡ Some false → ⊥
