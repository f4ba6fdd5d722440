-- Terms that banks dropped.
use Rattle.std.specs.Prelude.{ℕ, ◌≡◌, ◌<◌, length, List, slice_get, All, None, Some, IfSome}
use Rattle.sy_terms.specs.Values.{Val}
use Rattle.sy_terms.specs.Denoted.{expr_of, vals_of}
use Rattle.sy_bank_level.specs.Banks.{Lost, Merged}
use Rattle.sy_loop_spec.specs.declared.outcome.LoopRange.{LoopRange}
use Rattle.sy_loop_spec.specs.declared.outcome.LoopRange.TheVariants.{Member, Checked}

-- a term that was dropped was so at one of the points
abbrev pub IsPlaced : Merged → Type 0
IsPlaced bank = IfSome bank.dropped (λ (lost : Lost). lost.point < length bank.points)

-- the bank of this function dropped the term at the tuple
abbrev pub IsDroppedBy : {T N : Type 0} → (N → Val) → ℕ → Merged → LoopRange T N → Type 0
IsDroppedBy number function bank (Member other term tuple) =
    (lost : Lost) × (bank.dropped ≡ Some lost) × (other ≡ function) × (expr_of number term ≡ lost.term) × (slice_get bank.points lost.point ≡ Some (vals_of number tuple))
IsDroppedBy number function bank (Checked bodies assignment) = ⊥

-- banks that dropped nothing
abbrev pub DroppedNothing : List Merged → Type 0
DroppedNothing banks = All (λ (bank : Merged). bank.dropped ≡ None) banks
