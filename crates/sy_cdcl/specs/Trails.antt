-- The solver's assignment: a list of literals in the order in which they were made true.
use Rattle.std.specs.Prelude.{◌≡◌, ◌≢◌, ℕ, ◌≤◌, ◌<◌, Bool, true, ◌==◌, if◌then◌else◌, Option, Some, None, List, [], ◌∷◌, length, take, slice_get, slice_index_or, ◌+◌, ◌-◌, count_by, is_none, vec_len}
use Rattle.sy_clauses.specs.Clauses.{Clause}
use Rattle.sy_clauses.specs.New.{Partial, IsUnit, AllSettled}
use Rattle.sy_cdcl_literals.specs.declared.entries.Entry.{Entry}
use Rattle.sy_cdcl.specs.declared.trail.Trail.{Trail}

-- the values that a list of entries gives
abbrev pub entries_values : List Entry → Partial
entries_values [] v = None
entries_values (e ∷ es) v = (if e.literal.var == v then Some e.literal.positive else entries_values es v)

-- the values that are kept by variable
abbrev pub kept_values : List (Option Bool) → Partial
kept_values values v = slice_index_or values v None

-- the clause of this number is unit, and its last literal is this one
pub record IsForced (clauses : List Clause) (before : List Entry) (e : Entry) (number : ℕ) : Type 0 where
  pub clause : Clause
  pub at : slice_get clauses number ≡ Some clause
  pub unit : IsUnit (entries_values before) clause e.literal.var e.literal.positive

-- how many variables have no value
abbrev pub unvalued_count : Trail → ℕ
unvalued_count t = count_by is_none t.values.items

-- the values by variable are those of the entries
abbrev pub ValuesAgree : Trail → Type 0
ValuesAgree t = (v : ℕ) → kept_values t.values.items v ≡ entries_values t.entries.items v

-- no entry's variable has a value before it
abbrev pub EachOnce : List Entry → Type 0
EachOnce entries = (p : ℕ) (e : Entry) → slice_get entries p ≡ Some e → entries_values (take p entries) e.literal.var ≡ None

-- where the last of these levels begins
abbrev pub level_start : List ℕ → ℕ
level_start starts = slice_index_or starts (length starts - 1) 0

-- each variable has one value at most, and the levels begin in order among the entries
pub record IsTrail (t : Trail) : Type 0 where
  pub agrees : ValuesAgree t
  pub once : EachOnce t.entries.items
  pub rising : (j k m n : ℕ) → j ≤ k → slice_get t.starts.items j ≡ Some m → slice_get t.starts.items k ≡ Some n → m ≤ n
  pub within : (k n : ℕ) → slice_get t.starts.items k ≡ Some n → n ≤ length t.entries.items

-- each literal was decided where a level begins, or a clause forced it
pub record IsJustified (clauses : List Clause) (t : Trail) : Type 0 where
  pub forced : (p : ℕ) (e : Entry) (r : ℕ) → slice_get t.entries.items p ≡ Some e → e.reason ≡ Some r →
      IsForced clauses (take p t.entries.items) e r
  pub decided : (p : ℕ) (e : Entry) → slice_get t.entries.items p ≡ Some e → e.reason ≡ None →
      (k : ℕ) × (slice_get t.starts.items k ≡ Some p)

-- nothing was left to propagate when a level began
abbrev pub LevelsSettled : List Clause → Trail → Type 0
LevelsSettled clauses t = (k n : ℕ) → slice_get t.starts.items k ≡ Some n → AllSettled (entries_values (take n t.entries.items)) clauses

-- the assignment is one, and each part of it has its reason
pub record TrailIsReady (clauses : List Clause) (t : Trail) : Type 0 where
  pub assignment : IsTrail t
  pub justified : IsJustified clauses t

-- more may be true at the same level, and nothing else has changed
pub record TrailExtends (old new : Trail) : Type 0 where
  pub starts : new.starts.items ≡ old.starts.items
  pub longer : length old.entries.items ≤ length new.entries.items
  pub front : take (length old.entries.items) new.entries.items ≡ old.entries.items
  pub vars : vec_len new.values ≡ vec_len old.values
  pub fewer : unvalued_count new ≤ unvalued_count old
  pub count : unvalued_count new + length new.entries.items ≡ unvalued_count old + length old.entries.items

-- each variable of the clauses is below the number
abbrev pub VarsBelow : ℕ → List Clause → Type 0
VarsBelow vars clauses =
    (n : ℕ) (c : Clause) (v : ℕ) (s : Bool) → slice_get clauses n ≡ Some c → c v s ≡ true → v < vars

-- each variable below the number has a value
abbrev pub AllValued : ℕ → Trail → Type 0
AllValued vars t = (v : ℕ) → v < vars → kept_values t.values.items v ≢ None
