-- Greatest numbers of a kind, cut off at a limit.
use Rattle.std.proofs.Common.{◌≡◌, ℕ, ◌≤◌, arith, sym, Option, Some, None, min, ◌⊎◌, inl, inr}
use Rattle.sy_grammar_sizes.specs.Constants.{IsGreatest}
use Rattle.sy_grammar_sizes.specs.Tables.{IsBest, larger}

pub best_cut : (limit : ℕ) (Kind : ℕ → Type 0) (greatest best : ℕ) → IsGreatest Kind (Some greatest) → best ≡ min limit greatest → IsBest limit Kind (Some best)
best_cut limit Kind greatest best is e = (
  (greatest, is.0, sym e),
  λ size of. let bound = is.1 size of in omega (arith, bound, e),
)

pub best_more : (limit : ℕ) (P Q R : ℕ → Type 0) (p q : Option ℕ) → IsBest limit P p → IsBest limit Q q →
    ((size : ℕ) → R size → P size ⊎ Q size) → ((size : ℕ) → P size → R size) → ((size : ℕ) → Q size → R size) → IsBest limit R (larger p q)
best_more limit P Q R None None no_p no_q split left right = λ size of. elim (split size of) [ inl h ↦ no_p size h | inr h ↦ no_q size h ]
best_more limit P Q R None (Some n) no_p best_q split left right = (
  (best_q.0.0, right best_q.0.0 best_q.0.1, best_q.0.2),
  λ size of. elim (split size of) [ inl h ↦ absurd (no_p size h) | inr h ↦ best_q.1 size h ],
)
best_more limit P Q R (Some m) None best_p no_q split left right = (
  (best_p.0.0, left best_p.0.0 best_p.0.1, best_p.0.2),
  λ size of. elim (split size of) [ inl h ↦ best_p.1 size h | inr h ↦ absurd (no_q size h) ],
)
best_more limit P Q R (Some m) (Some n) best_p best_q split left right = (
  elim (order m n) [
    | inl le ↦ (best_q.0.0, right best_q.0.0 best_q.0.1, omega (arith, le, best_q.0.2))
    | inr le ↦ (best_p.0.0, left best_p.0.0 best_p.0.1, omega (arith, le, best_p.0.2))
  ],
  λ size of. elim (split size of) [
    | inl h ↦ let bound = best_p.1 size h in omega (arith, bound)
    | inr h ↦ let bound = best_q.1 size h in omega (arith, bound)
  ],
)
  where
    order : (a b : ℕ) → (a ≤ b) ⊎ (b ≤ a)
    order a b = grind arith

pub best_none : (limit : ℕ) (Kind : ℕ → Type 0) → ((size : ℕ) → Kind size → ⊥) → IsBest limit Kind None
best_none limit Kind none = none

-- the same kind by another name
pub best_same : (limit : ℕ) (P Q : ℕ → Type 0) (found : Option ℕ) → ((size : ℕ) → P size → Q size) → ((size : ℕ) → Q size → P size) → IsBest limit P found → IsBest limit Q found
best_same limit P Q None to from best = λ size of. best size (from size of)
best_same limit P Q (Some m) to from best = ((best.0.0, to best.0.0 best.0.1, best.0.2), λ size of. best.1 size (from size of))
