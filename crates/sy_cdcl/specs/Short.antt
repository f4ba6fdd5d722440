-- Clauses without literals that their others imply by one clause.
use Rattle.std.specs.Prelude.{◌≡◌, ℕ, Bool, true, false, not, Some, List, slice_get, ◌≤◌, ◌<◌}
use Rattle.sy_clauses.specs.declared.Lit.{Lit}
use Rattle.sy_clauses.specs.Clauses.{Clause, same_literal}
use Rattle.sy_cdcl_literals.specs.declared.entries.Entry.{Entry}

-- each literal of the first clause is in the second
abbrev pub IsWithin : Clause → Clause → Type 0
IsWithin c d = (v : ℕ) (s : Bool) → c v s ≡ true → d v s ≡ true

-- each literal of the first clause but this one is in the second
abbrev pub IsCovered : Clause → Lit → Clause → Type 0
IsCovered c l d = (v : ℕ) (s : Bool) → c v s ≡ true → same_literal l.var l.positive v s ≡ false → d v s ≡ true

-- another literal of the first clause isn't in the second
pub record HasMore (c : Clause) (l : Lit) (d : Clause) : Type 0 where
  pub var : ℕ
  pub positive : Bool
  pub has : c var positive ≡ true
  pub different : same_literal l.var l.positive var positive ≡ false
  pub missing : d var positive ≡ false

-- no literal of `c` that an entry between the two places made false is implied by the others through
-- the entry's reason
abbrev pub IsShort : List Clause → List Entry → ℕ → ℕ → Clause → Type 0
IsShort clauses entries start end c =
    (p : ℕ) (e : Entry) (n : ℕ) (d : Clause) → start ≤ p → p < end → slice_get entries p ≡ Some e →
    e.reason ≡ Some n → slice_get clauses n ≡ Some d → c e.literal.var (not e.literal.positive) ≡ true → HasMore d e.literal c
