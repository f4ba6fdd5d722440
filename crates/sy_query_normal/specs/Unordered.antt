-- Operators whose arguments may stand in any order.
use Rattle.std.specs.Prelude.{◌≡◌, Bool, true, false, cond, List, [], ◌∷◌}
use Rattle.sy_terms.specs.Values.{Val}
use Rattle.sy_terms.specs.Operators.{op_value}
use Rattle.sy_terms.specs.Theories.{sort_of_value}
use Rattle.sy_terms.specs.declared.op.Op.{Op}
use Rattle.sy_terms.specs.declared.op.Op.TheVariants as ops
use Rattle.sy_terms.specs.declared.sort.Sort.{Sort}

-- two equal arguments cancel each other; of the other operators they stand for one
abbrev pub cancels : Op → Bool
cancels ops.BvXor = true
cancels _ = false

-- behind any first value of the sort, the operator gives the same at the two lists
abbrev pub GiveTheSame : Sort → Op → List Val → List Val → Type 0
GiveTheSame sort operator found values = (first : Val) → sort_of_value first ≡ sort → op_value operator (first ∷ found) ≡ op_value operator (first ∷ values)

-- an operator on values of the sort that takes its arguments one by one, in any order
pub record IsUnordered (sort : Sort) (operator : Op) : Type 0 where
  pub both : Val → Val → Val
  pub steps : (x y : Val) (rest : List Val) → op_value operator (x ∷ y ∷ rest) ≡ op_value operator (both x y ∷ rest)
  pub first_alone : (x : Val) (rest : List Val) → op_value operator (op_value operator (x ∷ []) ∷ rest) ≡ op_value operator (x ∷ rest)
  pub second_alone : (x y : Val) (rest : List Val) → op_value operator (x ∷ op_value operator (y ∷ []) ∷ rest) ≡ op_value operator (x ∷ y ∷ rest)
  pub turned : (x y z : Val) → both (both x y) z ≡ both (both x z) y
  pub grouped : (x y z : Val) → both (both x y) z ≡ both x (both y z)
  pub keeps : (x y : Val) → sort_of_value x ≡ sort → sort_of_value y ≡ sort → sort_of_value (both x y) ≡ sort
  pub doubled : (x y : Val) (rest : List Val) → sort_of_value x ≡ sort → sort_of_value y ≡ sort → op_value operator (x ∷ y ∷ y ∷ rest) ≡ op_value operator (x ∷ cond (cancels operator) rest (y ∷ rest))
  pub told : (x y : Val) → sort_of_value x ≡ sort → sort_of_value y ≡ sort → GiveTheSame sort operator (x ∷ []) (y ∷ []) → x ≡ y
