use Rattle.std.specs.Prelude.{◌≡◌, ℕ, Bool, true, false, ◌-◌, ◌&&◌, ◌||◌, List, [], ◌∷◌, length, take, get_or}
use Rattle.sy_clauses.specs.declared.Lit.{Lit}
use Rattle.sy_clauses.specs.Clauses.{IsModel}
use Rattle.sy_gates.specs.Circuits.{lit_value}

-- The truth value of a clause: whether one of its literals is true.
abbrev pub clause_value : (ℕ → Bool) → List Lit → Bool
clause_value v [] = false
clause_value v (l ∷ c) = lit_value v l || clause_value v c

-- Whether all clauses are true.
abbrev pub clauses_value : (ℕ → Bool) → List (List Lit) → Bool
clauses_value v [] = true
clauses_value v (c ∷ cs) = clause_value v c && clauses_value v cs

-- The truth value of each variable, from a list of them.
abbrev pub values_of : List Bool → ℕ → Bool
values_of m k = get_or m k false

-- All clauses but the last.
abbrev pub but_last : List (List Lit) → List (List Lit)
but_last cs = take (length cs - 1) cs

-- For each choice of truth values of the inputs, which are the first variables, there is one choice for the
-- others, and no second one, at which all clauses are true.
pub record ExtendsInOneWay (inputs vars : ℕ) (cs : List (List Lit)) : Type 0 where
  pub some : (bits : List Bool) → length bits ≡ inputs →
      (m : List Bool) × ((length m ≡ vars) × (take inputs m ≡ bits) × IsModel (values_of m) cs)
  pub one : (m n : List Bool) → length m ≡ vars → length n ≡ vars → take inputs m ≡ take inputs n →
      IsModel (values_of m) cs → IsModel (values_of n) cs → m ≡ n
