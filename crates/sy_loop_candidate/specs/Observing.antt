-- What rows of kept terms tell of a term's value.
use Rattle.std.specs.Prelude.{ℕ, Bool, false, ◌≡◌, ◌⊎◌, List, slice_get, Some, Contains}
use denote.Ref.{Bor}
use Rattle.sy_terms.specs.Values.{Val}
use Rattle.sy_terms.specs.Expr.{Expr, Exprs}
use Rattle.sy_terms.specs.Definitions.{scope_of, bodies}
use Rattle.sy_terms.specs.Meaning.{functions}
use Rattle.sy_terms.specs.declared.op.Op.{Op}
use Rattle.sy_terms.specs.declared.term.Def.{Def}
use Rattle.sy_points.specs.Asked.{Asked, of_function}
use Rattle.sy_bank_level.specs.Columns.{HasRow}
use Rattle.sy_bank_level.specs.Stored.{entry_of}
use Rattle.sy_bank_level.specs.declared.kept.Kept.{Kept}
use Rattle.sy_loop_spec.specs.Adding.{IsAsked, AreAsked}
use Rattle.sy_loop_candidate.specs.Bodies.{GivesUnder, AllGiveUnder, can_compute_under, can_compute_all_under, asks_under, all_asks_under}

-- each of the kept terms has its row of values at its function's tuples
abbrev pub KeptHaveRows : {T N : Type 0} → (Op → Bool) → (N → Val) → List (Def T N) → Asked → List (Bor (Kept T N)) → Type 0
KeptHaveRows {T} {N} owned number defs asked chosen = (function : ℕ) (kept : Bor (Kept T N)) → slice_get chosen function ≡ Some kept →
    HasRow (scope_of owned defs) (functions (bodies number defs)) (of_function asked function) (entry_of number kept.now).term (entry_of number kept.now).row

-- the row has the value at the place of the tuple
pub record HasValueAt (tuples : List (List Val)) (row tuple : List Val) (value : Val) : Type 0 where
  pub place : ℕ
  pub tuple_is : slice_get tuples place ≡ Some tuple
  pub value_is : slice_get row place ≡ Some value

-- one of the calls isn't among the tuples
pub record IsMissing (calls : List (ℕ × List Val)) (asked : Asked) : Type 0 where
  pub function : ℕ
  pub tuple : List Val
  pub of : Contains calls (function, tuple)
  pub new : IsAsked asked function tuple → ⊥

-- under the bodies the term has the value, and each call that it asks for is among the tuples
pub record IsTold {T N : Type 0} (owned : Op → Bool) (number : N → Val) (defs : List (Def T N)) (all : List Expr) (asked : Asked) (values : List Val) (term : Expr) (value : Val) : Type 0 where
  pub gives : GivesUnder owned number defs all values term value
  pub there : AreAsked (asks_under number defs all values term) asked

pub record AllAreTold {T N : Type 0} (owned : Op → Bool) (number : N → Val) (defs : List (Def T N)) (all : List Expr) (asked : Asked) (values : List Val) (terms : Exprs) (found : List Val) : Type 0 where
  pub give : AllGiveUnder owned number defs all values terms found
  pub there : AreAsked (all_asks_under number defs all values terms) asked

-- a value on the way to the term doesn't fit, or a call that it asks for isn't among the tuples
abbrev pub IsUntold : {T N : Type 0} → (N → Val) → List (Def T N) → List Expr → Asked → List Val → Expr → Type 0
IsUntold number defs all asked values term = (can_compute_under number defs all values term ≡ false) ⊎ IsMissing (asks_under number defs all values term) asked

abbrev pub AllUntold : {T N : Type 0} → (N → Val) → List (Def T N) → List Expr → Asked → List Val → Exprs → Type 0
AllUntold number defs all asked values terms = (can_compute_all_under number defs all values terms ≡ false) ⊎ IsMissing (all_asks_under number defs all values terms) asked
