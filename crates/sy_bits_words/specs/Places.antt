-- What a table stands for: the places for each key.
use Rattle.std.specs.Prelude.{ℕ, ◌≡◌, List, [], ◌∷◌, ◌++◌, Option, Some, None, slice_get, nat_eq, if◌then◌else◌}
use Rattle.std.specs.Global.{Vec}
use Rattle.std.specs.HashMap.{get}
use Rattle.sy_bits_words.specs.declared.table.Table.{Table}

-- the first place and the others, if they are there
abbrev pub places_listed : Option ℕ → Option (Vec ℕ) → List ℕ
places_listed (Some first) (Some others) = first ∷ others.items
places_listed (Some first) None = first ∷ []
places_listed None others = []

-- the places for each key
abbrev pub places_of : Table → ℕ → List ℕ
places_of table key = places_listed (get nat_eq table.firsts key) (get nat_eq table.others key)

-- the place is one of those for the key
abbrev pub HasPlace : (ℕ → List ℕ) → ℕ → ℕ → Type 0
HasPlace table key place = (i : ℕ) × (slice_get (table key) i ≡ Some place)

-- the place is added for the key, after the others; nothing else changes
abbrev pub PlaceIsAdded : (ℕ → List ℕ) → ℕ → ℕ → (ℕ → List ℕ) → Type 0
PlaceIsAdded before key place after = (other : ℕ) → after other ≡ (if nat_eq key other then before other ++ place ∷ [] else before other)
