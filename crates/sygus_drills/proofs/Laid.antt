-- Items with what stands between them, as text that is read again.
use Rattle.std.proofs.Common.{◌≡◌, ℕ, ◌+◌, ◌-◌, ◌≤◌, true, false, List, [], ◌∷◌, ◌++◌, length, Some, Ok, refl, sym, arith}
use Rattle.sy_text_items.specs.declared.atom.Atom.{Atom}
use Rattle.sy_text_items.specs.declared.atom.Atom.TheVariants.{Symbol}
use Rattle.sy_text_items.specs.declared.atom.Place.{Place}
use Rattle.sy_text_items.specs.Items.{Item, leaf, group, Items, none, more}
use Rattle.sy_text.specs.Grammar.{is_layout, IsItem, AreItems, Alike, AllAlike}
use Rattle.sy_text.specs.Reading.{command_at}
use Rattle.sy_text.specs.Spelling.{atom_text, AtomFits, parted}
use Rattle.sy_text.proofs.Digits.{atom_spelled}
use Rattle.sy_text.proofs.Nests.{command_again}
use Rattle.sy_forms_items.specs.Parts.{place_of}

-- an atom, or a list: gaps and items, and a last gap before the bracket
mutual
  pub data Laid : Type 0 where
    word : (atom : Atom) → Laid
    list : (inside : Inside) → Laid

  pub data Inside : Type 0 where
    close : (gap : List ℕ) → Inside
    next : (gap : List ℕ) → (first : Laid) → (rest : Inside) → Inside

abbrev pub origin : Place
origin = record { at = 0 }

abbrev mutual
  pub item_in : Laid → Item
  item_in (word atom) = leaf atom origin
  item_in (list inside) = group (items_in inside) origin

  pub items_in : Inside → Items
  items_in (close gap) = none
  items_in (next gap first rest) = more (item_in first) (items_in rest)

abbrev mutual
  pub text_in : Laid → List ℕ
  text_in (word atom) = atom_text atom
  text_in (list inside) = 40 ∷ texts_in inside

  pub texts_in : Inside → List ℕ
  texts_in (close gap) = gap ++ 41 ∷ []
  texts_in (next gap first rest) = gap ++ (text_in first ++ texts_in rest)

-- how many lists there are
abbrev mutual
  pub lists : Laid → ℕ
  lists (word atom) = 0
  lists (list inside) = lists_inside inside + 1

  pub lists_inside : Inside → ℕ
  lists_inside (close gap) = 0
  lists_inside (next gap first rest) = lists first + lists_inside rest

-- it can be read
abbrev mutual
  pub Stands : Laid → Type 0
  Stands (word atom) = AtomFits atom
  Stands (list inside) = AllStand inside

  pub AllStand : Inside → Type 0
  AllStand (close gap) = is_layout false gap ≡ true
  AllStand (next gap first rest) = (is_layout false gap ≡ true) × Stands first × ((after : List ℕ) → parted (texts_in rest ++ after) ≡ true) × AllStand rest

mutual
  pub item_laid : (x : Laid) (depth : ℕ) (after : List ℕ) → Stands x → depth + lists x ≤ 1200 → parted after ≡ true → IsItem depth (item_in x) (text_in x) after
  item_laid (word atom) depth after h e p = atom_spelled atom after h p
  item_laid (list inside) depth after h e p = (texts_in inside, refl, omega (arith, e), items_laid inside (depth + 1) after h (omega (arith, e)))

  items_laid : (xs : Inside) (depth : ℕ) (after : List ℕ) → AllStand xs → depth + lists_inside xs ≤ 1200 → AreItems depth (items_in xs) (texts_in xs) after
  items_laid (close gap) depth after h e = (gap, h, refl)
  items_laid (next gap first rest) depth after h e =
      (gap, text_in first, texts_in rest, h.0, item_laid first depth (texts_in rest ++ after) h.1 (omega (arith, e)) (h.2 after), items_laid rest depth after h.3 (omega (arith, e)), refl)

-- an item with the places of another
abbrev pub parts_of : Item → Items
parts_of (leaf atom place) = none
parts_of (group parts place) = parts

abbrev pub first_of : Items → Item
first_of none = leaf (Symbol []) origin
first_of (more first rest) = first

abbrev pub rest_of : Items → Items
rest_of none = none
rest_of (more first rest) = rest

abbrev mutual
  pub placed : Item → Item → Item
  placed (leaf atom place) other = leaf atom (place_of other)
  placed (group parts place) other = group (all_placed parts (parts_of other)) (place_of other)

  pub all_placed : Items → Items → Items
  all_placed none others = none
  all_placed (more first rest) others = more (placed first (first_of others)) (all_placed rest (rest_of others))

-- items that are alike differ in their places
mutual
  alike_placed : (x y : Item) → Alike x y → y ≡ placed x y
  alike_placed (leaf a p) (leaf b q) h = λ i. leaf (sym h i) q
  alike_placed (group xs p) (group ys q) h = λ i. group (all_alike xs ys h i) q
  alike_placed (leaf a p) (group ys q) h = absurd h
  alike_placed (group xs p) (leaf b q) h = absurd h

  all_alike : (xs ys : Items) → AllAlike xs ys → ys ≡ all_placed xs ys
  all_alike none none h = refl
  all_alike (more x xs) (more y ys) h = λ i. more (alike_placed x y h.0 i) (all_alike xs ys h.1 i)
  all_alike none (more y ys) h = absurd h
  all_alike (more x xs) none h = absurd h

-- what is read where such an item stands: it, with some places
pub record Found (x : Laid) (total behind : ℕ) (bytes : List ℕ) : Type 0 where
  pub item : Item
  pub same : item ≡ placed (item_in x) item
  pub reads : command_at total bytes ≡ Ok (Some (item, behind))

pub command_laid : (x : Laid) (total : ℕ) (gap after bytes : List ℕ) → is_layout false gap ≡ true → Stands x → lists x ≤ 1200 → parted after ≡ true → bytes ≡ gap ++ (text_in x ++ after)
    → Found x total (total - length after) bytes
command_laid x total gap after bytes g h few p e =
    let r = command_again (item_in x) total bytes gap (text_in x) after g (item_laid x 0 after h (omega (arith, few)) p) e in
    record { item = r.0; same = alike_placed (item_in x) r.0 r.1; reads = r.2 }
