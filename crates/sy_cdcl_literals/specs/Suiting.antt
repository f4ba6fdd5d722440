-- What becomes of a clause, by the values of its literals.
use Rattle.std.specs.Prelude.{◌≡◌, ◌≢◌, ℕ, Bool, true, false, not, Some, None}
use Rattle.sy_clauses.specs.declared.Lit.{Lit}
use Rattle.sy_clauses.specs.Clauses.{Clause, same_literal}
use Rattle.sy_clauses.specs.New.{Partial, IsFalse, IsUnit}
use Rattle.sy_cdcl_literals.specs.declared.outcomes.Truth.{Truth}
use Rattle.sy_cdcl_literals.specs.declared.outcomes.Truth.TheVariants.{True, False, Open}
use Rattle.sy_cdcl_literals.specs.declared.outcomes.Outcome.{Outcome}
use Rattle.sy_cdcl_literals.specs.declared.outcomes.Outcome.TheVariants.{Stay, Move, Force, Conflict}

-- the value of a literal
abbrev pub IsTruthOf : Partial → Lit → Truth → Type 0
IsTruthOf values l True = values l.var ≡ Some l.positive
IsTruthOf values l False = values l.var ≡ Some (not l.positive)
IsTruthOf values l Open = values l.var ≡ None

-- all literals are false but, perhaps, this one
abbrev pub IsFalseBut : Partial → Clause → Lit → Type 0
IsFalseBut values c l = (v : ℕ) (s : Bool) → c v s ≡ true → same_literal l.var l.positive v s ≡ false → values v ≡ Some (not s)

-- a literal of the clause that isn't false, other than this one
pub record IsOther (values : Partial) (c : Clause) (l other : Lit) : Type 0 where
  pub has : c other.var other.positive ≡ true
  pub different : same_literal l.var l.positive other.var other.positive ≡ false
  pub not_false : values other.var ≢ Some (not other.positive)

-- by the clause's literals and the other one that it watches
abbrev pub Suits : Partial → Clause → Lit → Outcome → Type 0
Suits values c other Stay = values other.var ≡ Some other.positive
Suits values c other (Move pair place) = (pair.first ≡ other) × IsOther values c other pair.second
Suits values c other (Force l) = IsUnit values c l.var l.positive
Suits values c other Conflict = IsFalse values c
