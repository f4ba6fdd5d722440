-- Items of text as contracts see them.
use Rattle.std.specs.Prelude.{◌≡◌, ℕ, ◌+◌, ◌<◌, List, [], ◌∷◌}
use Rattle.std.specs.Coded.{Coded}
use Rattle.std.proofs.Common.{refl}
use base.Stored.{Gv, gnil, gnum, gcons}
use Rattle.sy_text_items.specs.declared.atom.Atom.{Atom}
use Rattle.sy_text_items.specs.declared.atom.Place.{Place}
use Rattle.sy_text_items.specs.contracts.atom.Atom as atoms

mutual
  -- an atom or a list of items, with its place
  pub data Item : Type 0 where
    leaf : Atom → Place → Item
    group : Items → Place → Item

  pub data Items : Type 0 where
    none : Items
    more : Item → Items → Items

abbrev mutual
  -- how many items there are at all depths
  pub item_size : Item → ℕ
  item_size (leaf a p) = 1
  item_size (group xs p) = items_size xs + 1

  pub items_size : Items → ℕ
  items_size none = 0
  items_size (more x xs) = item_size x + items_size xs

-- items are stored as trees of numbers, each of which gives its item back
abbrev mutual
  pub item_code : Item → Gv
  item_code (leaf a p) = gcons (gnum 0) (gcons (atoms.the_row.coded.code a) (gnum p.at))
  item_code (group xs p) = gcons (gnum 1) (gcons (items_code xs) (gnum p.at))

  pub items_code : Items → Gv
  items_code none = gnil
  items_code (more x xs) = gcons (item_code x) (items_code xs)

mutual
  pub item_inj : (x y : Item) → item_code x ≡ item_code y → x ≡ y
  item_inj (leaf a p) (leaf b q) h =
      let same : atoms.the_row.coded.code a ≡ atoms.the_row.coded.code b = cc in
      let at : p.at ≡ q.at = cc in
      λ i. leaf (atoms.the_row.coded.inj a b same i) (record { at = at i })
  item_inj (group xs p) (group ys q) h =
      let same : items_code xs ≡ items_code ys = cc in
      let at : p.at ≡ q.at = cc in
      λ i. group (items_inj xs ys same i) (record { at = at i })
  item_inj (leaf a p) (group ys q) h = cc
  item_inj (group xs p) (leaf b q) h = cc

  pub items_inj : (xs ys : Items) → items_code xs ≡ items_code ys → xs ≡ ys
  items_inj none none h = refl
  items_inj (more x xs) (more y ys) h =
      let first : item_code x ≡ item_code y = cc in
      let others : items_code xs ≡ items_code ys = cc in
      λ i. more (item_inj x y first i) (items_inj xs ys others i)
  items_inj none (more y ys) h = cc
  items_inj (more x xs) none h = cc

abbrev pub items_coded : Coded Items
items_coded = record { code = items_code; inj = items_inj }

-- the items as a list
abbrev pub listed : Items → List Item
listed none = []
listed (more x xs) = x ∷ listed xs

-- each place, at all depths, is below a number
abbrev mutual
  pub Placed : ℕ → Item → Type 0
  Placed total (leaf a p) = p.at < total
  Placed total (group xs p) = (p.at < total) × AllPlaced total xs

  pub AllPlaced : ℕ → Items → Type 0
  AllPlaced total none = Unit {0}
  AllPlaced total (more x xs) = Placed total x × AllPlaced total xs
