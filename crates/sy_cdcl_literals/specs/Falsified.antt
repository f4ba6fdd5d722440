-- Entries that make a literal of a clause false.
use Rattle.std.specs.Prelude.{◌≡◌, ℕ, ◌≤◌, ◌<◌, true, false, not, Some, List, slice_get}
use Rattle.sy_clauses.specs.Clauses.{Clause}
use Rattle.sy_cdcl_literals.specs.declared.entries.Entry.{Entry}

-- an entry between the two places makes a literal of the clause false
pub record SomeFalsified (entries : List Entry) (start end : ℕ) (c : Clause) : Type 0 where
  pub place : ℕ
  pub entry : Entry
  pub from : start ≤ place
  pub to : place < end
  pub at : slice_get entries place ≡ Some entry
  pub hit : c entry.literal.var (not entry.literal.positive) ≡ true

-- no entry between the two places does
abbrev pub NoneFalsified : List Entry → ℕ → ℕ → Clause → Type 0
NoneFalsified entries start end c =
    (p : ℕ) (e : Entry) → start ≤ p → p < end → slice_get entries p ≡ Some e →
    c e.literal.var (not e.literal.positive) ≡ false
