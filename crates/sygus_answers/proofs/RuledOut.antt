-- What the status of an end rules out.
use Rattle.std.proofs.Common.{◌≡◌, ◌≤◌, ℕ, arith}

-- 0 and 1 are neither 5 nor 6
pub not_five : {A : Type 0} (status : ℕ) → status ≤ 1 → status ≡ 5 → A
not_five status small is = absurd (omega arith)

pub not_six : {A : Type 0} (status : ℕ) → status ≤ 1 → status ≡ 6 → A
not_six status small is = absurd (omega arith)

-- 5 is none of the others
pub five_not_small : {A : Type 0} → 5 ≤ 1 → A
five_not_small small = absurd (omega arith)

pub five_not_none : {A : Type 0} → ◌≡◌ {A = ℕ} 5 0 → A
five_not_none is = absurd (omega arith)

pub five_not_one : {A : Type 0} → ◌≡◌ {A = ℕ} 5 1 → A
five_not_one is = absurd (omega arith)

pub five_not_six : {A : Type 0} → ◌≡◌ {A = ℕ} 5 6 → A
five_not_six is = absurd (omega arith)

-- what is 6 unless it is 5 is neither 0 nor 1
pub six_not_small : {A X : Type 0} (status : ℕ) → ((status ≡ 5 → ⊥) → (status ≡ 6) × X) → status ≤ 1 → A
six_not_small status six small =
    let other : status ≡ 5 → ⊥ = λ is. not_five status small is in
    let last = six other in
    not_six status small last.0

pub six_not_none : {A X : Type 0} (status : ℕ) → ((status ≡ 5 → ⊥) → (status ≡ 6) × X) → status ≡ 0 → A
six_not_none status six is = six_not_small status six (omega arith)

pub six_not_one : {A X : Type 0} (status : ℕ) → ((status ≡ 5 → ⊥) → (status ≡ 6) × X) → status ≡ 1 → A
six_not_one status six is = six_not_small status six (omega arith)
