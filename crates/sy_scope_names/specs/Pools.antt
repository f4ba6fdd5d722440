-- Values without repeats, in the order in which they came.
use Rattle.std.specs.Prelude.{List, [], ◌∷◌, ◌++◌, if◌then◌else◌}
use Rattle.std.specs.List.{list_any}
use Rattle.sy_terms.specs.Values.{Val, same}

-- with the value, where it is new
abbrev pub with_value : List Val → Val → List Val
with_value pool value = if list_any (same value) pool then pool else pool ++ value ∷ []

-- the pool with the values that are new to it, in order
abbrev pub pooled : List Val → List Val → List Val
pooled pool [] = pool
pooled pool (value ∷ values) = pooled (with_value pool value) values
