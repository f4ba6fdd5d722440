-- What becomes of a clause where a literal that it watches has become false.
use Rattle.std.specs.Prelude.{◌≡◌, ℕ, Bool, true, false, Option, Some, List, slice_get, ◌⊎◌}
use Rattle.sy_clauses.specs.declared.Lit.{Lit}
use Rattle.sy_clauses.specs.Clauses.{Clause, same_literal}
use Rattle.sy_clauses.specs.New.{Partial, IsUnit, HasTrue}
use Rattle.sy_cdcl_literals.specs.declared.outcomes.Pair.{Pair}
use Rattle.sy_cdcl_literals.specs.declared.outcomes.Outcome.{Outcome}
use Rattle.sy_cdcl_literals.specs.declared.outcomes.Outcome.TheVariants.{Stay, Move, Force, Conflict}
use Rattle.sy_cdcl_literals.specs.Suiting.{IsOther}
use Rattle.sy_cdcl.specs.Status.{IsConflict}
use Rattle.sy_cdcl.specs.Watching.{pair_of}

-- the literal is neither of the pair
pub record IsApart (pair : Pair) (l : Lit) : Type 0 where
  pub first : same_literal pair.first.var pair.first.positive l.var l.positive ≡ false
  pub second : same_literal pair.second.var pair.second.positive l.var l.positive ≡ false

-- one of the pair, and not this literal
pub record StaysWatched (pair : Pair) (l other : Lit) : Type 0 where
  pub one : (other ≡ pair.first) ⊎ (other ≡ pair.second)
  pub apart : same_literal other.var other.positive l.var l.positive ≡ false

-- the clause is true, or doesn't watch the literal
abbrev pub MayStay : List Clause → Partial → List (Option Pair) → Lit → ℕ → Type 0
MayStay clauses values pairs l n = (c : Clause) (pair : Pair) → slice_get clauses n ≡ Some c → pair_of pairs n ≡ Some pair →
    IsApart pair l ⊎ HasTrue values c

-- one of the pair's literals is replaced by one that isn't false
pub record MayMove (clauses : List Clause) (values : Partial) (pairs : List (Option Pair)) (l : Lit) (n : ℕ) (new : Pair) : Type 0 where
  pub clause : Clause
  pub at : slice_get clauses n ≡ Some clause
  pub old : Pair
  pub had : pair_of pairs n ≡ Some old
  pub stays : StaysWatched old l new.first
  pub other : IsOther values clause new.first new.second

-- all literals but this one are false
pub record MayForce (clauses : List Clause) (values : Partial) (n : ℕ) (l : Lit) : Type 0 where
  pub clause : Clause
  pub at : slice_get clauses n ≡ Some clause
  pub unit : IsUnit values clause l.var l.positive

-- what suits by the clause's number, where this literal has become false
abbrev pub SuitsAt : List Clause → Partial → List (Option Pair) → Lit → ℕ → Outcome → Type 0
SuitsAt clauses values pairs l n Stay = MayStay clauses values pairs l n
SuitsAt clauses values pairs l n (Move pair place) = MayMove clauses values pairs l n pair
SuitsAt clauses values pairs l n (Force forced) = MayForce clauses values n forced
SuitsAt clauses values pairs l n Conflict = IsConflict clauses values n

-- the clause has no other literal
abbrev pub IsOnly : Clause → Lit → Type 0
IsOnly c l = (v : ℕ) (s : Bool) → c v s ≡ true → same_literal l.var l.positive v s ≡ true

-- another literal of the clause
pub record IsAnother (c : Clause) (l other : Lit) : Type 0 where
  pub has : c other.var other.positive ≡ true
  pub different : same_literal l.var l.positive other.var other.positive ≡ false
