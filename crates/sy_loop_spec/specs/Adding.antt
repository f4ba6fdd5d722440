-- What becomes of the tuples that a candidate asks for.
use Rattle.std.specs.Prelude.{ℕ, ◌+◌, ◌-◌, ◌≡◌, ◌<◌, ◌≤◌, ◌⊎◌, List, [], ◌∷◌, length, Contains}
use Rattle.sy_terms.specs.Values.{Val}
use Rattle.sy_points.specs.Asked.{Asked, of_function, IsBounded}
use Rattle.sy_loop_spec.specs.Histories.{Counterexample}

-- the tuple is one of the function's
abbrev pub IsAsked : Asked → ℕ → List Val → Type 0
IsAsked asked function tuple = Contains (of_function asked function) tuple

-- how many tuples more there may be
abbrev pub room_in : ℕ → List (List (List Val)) → ℕ
room_in limit [] = 0
room_in limit (tuples ∷ lists) = (limit - length tuples) + room_in limit lists

abbrev pub room : Asked → ℕ
room asked = room_in asked.limit asked.tuples

-- each function has the tuples that it had, and others of these calls alone
pub record GainsTuples (calls : List (ℕ × List Val)) (before after : Asked) : Type 0 where
  pub limit : after.limit ≡ before.limit
  pub functions : length after.tuples ≡ length before.tuples
  pub keeps : (function : ℕ) (tuple : List Val) → IsAsked before function tuple → IsAsked after function tuple
  pub only : (function : ℕ) (tuple : List Val) → IsAsked after function tuple → IsAsked before function tuple ⊎ Contains calls (function, tuple)
  pub less : room after ≤ room before
  pub bounded : IsBounded before → IsBounded after

-- each of the calls is there
abbrev pub AreAsked : List (ℕ × List Val) → Asked → Type 0
AreAsked calls asked = (function : ℕ) (tuple : List Val) → Contains calls (function, tuple) → IsAsked asked function tuple

-- the function has as many tuples as it may, and one of these calls isn't among them
pub record FunctionIsFull (calls : List (ℕ × List Val)) (asked : Asked) (function : ℕ) : Type 0 where
  pub tuple : List Val
  pub of : Contains calls (function, tuple)
  pub within : function < length asked.tuples
  pub new : IsAsked asked function tuple → ⊥
  pub full : asked.limit ≤ length (of_function asked function)

-- the history has what it had, and each function the tuples that it had
pub record KnownGrows (history : List Counterexample) (asked : Asked) (history' : List Counterexample) (asked' : Asked) : Type 0 where
  pub stored : (counterexample : Counterexample) → Contains history counterexample → Contains history' counterexample
  pub tuples : (function : ℕ) (tuple : List Val) → IsAsked asked function tuple → IsAsked asked' function tuple
