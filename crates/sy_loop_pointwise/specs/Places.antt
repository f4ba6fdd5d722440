-- What kept places stand for.
use Rattle.std.specs.Prelude.{ℕ, ◌≡◌, List, [], ◌∷◌, ◌++◌, Option, Some, None, nat_eq, if◌then◌else◌}
use Rattle.std.specs.Global.{Vec}
use Rattle.std.specs.HashMap.{get}
use Rattle.sy_loop_pointwise.specs.declared.places.Places.{Places}

abbrev pub numbers_listed : Option (Vec ℕ) → List ℕ
numbers_listed (Some places) = places.items
numbers_listed None = []

-- the places for each key
abbrev pub key_places : Places → ℕ → List ℕ
key_places places key = numbers_listed (get nat_eq places.map key)

-- the place is added for the key, after the others; nothing else changes
abbrev pub KeyIsAdded : (ℕ → List ℕ) → ℕ → ℕ → (ℕ → List ℕ) → Type 0
KeyIsAdded before key place after = (other : ℕ) → after other ≡ (if nat_eq key other then before other ++ place ∷ [] else before other)
