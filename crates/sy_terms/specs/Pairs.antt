-- An operator on two lists of values, place by place.
use Rattle.std.specs.Prelude.{ℕ, ◌≡◌, ◌<◌, true, false, List, [], ◌∷◌, length}
use Rattle.sy_terms.specs.Values.{Val}
use Rattle.sy_terms.specs.Operators.{op_value}
use Rattle.sy_terms.specs.Theories.{fits, valid}
use Rattle.sy_terms.specs.Meaning.{value_at_position}
use Rattle.sy_terms.specs.Denoted.{IsSorted}
use Rattle.sy_terms.specs.declared.op.Op.{Op}

-- what the two lists have at the place of this number
abbrev pub pair_at : List Val → List Val → ℕ → List Val
pair_at values others place = value_at_position values place ∷ value_at_position others place ∷ []

-- the operator has a value at each pair
abbrev pub ArePairsSorted : Op → List Val → List Val → Type 0
ArePairsSorted operator values others = (place : ℕ) → place < length values → IsSorted operator (pair_at values others place)

-- the operator's value at each pair, where all of them fit
pub record ArePairsApplied (operator : Op) (values others found : List Val) : Type 0 where
  pub sized : length found ≡ length values
  pub each : (place : ℕ) → place < length values →
      (valid (value_at_position found place) ≡ true) × (fits operator (pair_at values others place) ≡ true) × (value_at_position found place ≡ op_value operator (pair_at values others place))

-- the first place at whose pair the operator doesn't fit
pub record IsFirstUnfit (operator : Op) (values others : List Val) (place : ℕ) : Type 0 where
  pub within : place < length values
  pub unfit : fits operator (pair_at values others place) ≡ false
  pub before : (earlier : ℕ) → earlier < place → fits operator (pair_at values others earlier) ≡ true
