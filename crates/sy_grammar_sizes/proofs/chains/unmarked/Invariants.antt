use Rattle.std.proofs.Common.{◌≡◌, ◌≤◌, ◌-◌, ℕ, length, slice_get, Some, true}
use Rattle.sy_grammar_sizes.proofs.chains.unmarked.Given as goal

abbrev pub invariant-loop-marks : goal.invariant-loop-marks
invariant-loop-marks l = (length l.marks.items ≤ l.count) × ((i : ℕ) → slice_get l.marks.items i ≡ Some true → ⊥)

abbrev pub decreases-loop-marks : goal.decreases-loop-marks
decreases-loop-marks l = l.count - length l.marks.items
