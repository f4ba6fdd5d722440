-- Lists of things, each of which is an item of text.
use Rattle.std.specs.Prelude.{ℕ, ◌≡◌, List, [], ◌∷◌, ◌++◌, Option, Some, None, nat_lt, if◌then◌else◌}
use Rattle.sy_text_items.specs.Items.{Item, leaf, group, Items, none, more}
use Rattle.sy_text_items.specs.declared.atom.Atom.TheVariants.{Symbol, Numeral}
use Rattle.sy_text_items.specs.declared.atom.Place.{Place}
use Rattle.sy_text.specs.Spelling.{item_text}
use Rattle.sy_forms_items.specs.Parts.{is_symbol}

-- items that are written take no places
abbrev pub nowhere : Place
nowhere = record { at = 0 }

abbrev pub word_item : List ℕ → Item
word_item word = leaf (Symbol word) nowhere

abbrev pub number_item : ℕ → Item
number_item n = leaf (Numeral n) nowhere

-- the item of each thing
abbrev pub each_item : {A : Type 0} → (A → Item) → List A → Items
each_item item [] = none
each_item item (x ∷ xs) = more (item x) (each_item item xs)

abbrev pub with_first : {A : Type 0} → Option A → Option (List A) → Option (List A)
with_first None rest = None
with_first (Some x) None = None
with_first (Some x) (Some rest) = Some (x ∷ rest)

-- the thing of each item; None where one is none
abbrev pub each_in : {A : Type 0} → (Item → Option A) → Items → Option (List A)
each_in read none = Some []
each_in read (more x xs) = with_first (read x) (each_in read xs)

-- the items' text, each behind one space
abbrev pub spaced : Items → List ℕ
spaced none = []
spaced (more x xs) = (32 ∷ item_text x) ++ spaced xs

-- a number below the limit
abbrev pub below : ℕ → Option ℕ → Option ℕ
below limit None = None
below limit (Some n) = if nat_lt n limit then Some n else None

-- the items behind this word, with which a list begins
abbrev pub behind_word : List ℕ → Item → Option Items
behind_word word (leaf atom place) = None
behind_word word (group none place) = None
behind_word word (group (more head rest) place) = if is_symbol word head then Some rest else None

-- what is found is what is read, where that is good; nothing is found where nothing is read, or nothing good
abbrev pub Finds : {A : Type 0} → (A → Type 0) → Option A → Option A → Type 0
Finds {A} Good read None = (x : A) → read ≡ Some x → Good x → ⊥
Finds Good read (Some x) = (read ≡ Some x) × Good x

-- there are fewer than two items or more
abbrev pub AreNotTwo : Items → Type 0
AreNotTwo (more first (more second none)) = ⊥
AreNotTwo _ = Unit {0}
