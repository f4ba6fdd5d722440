-- What a table stands for.
use Rattle.std.specs.Prelude.{ℕ, List, [], ◌∷◌, Option, Some, None, nat_eq}
use Rattle.std.specs.Global.{Vec}
use Rattle.std.specs.HashMap.{get}
use Rattle.sy_bank_level.specs.declared.table.Place.{Place}
use Rattle.sy_bank_level.specs.declared.table.Table.{Table}

-- the first place and the others, if they are there
abbrev pub places_listed : Option Place → Option (Vec Place) → List Place
places_listed (Some first) (Some others) = first ∷ others.items
places_listed (Some first) None = first ∷ []
places_listed None others = []

-- the places for each number
abbrev pub places_of : Table → ℕ → List Place
places_of table number = places_listed (get nat_eq table.firsts number) (get nat_eq table.others number)
