-- The items of a list from a place on.
use Rattle.std.proofs.Common.{◌≡◌, ◌≤◌, ◌+◌, ℕ, zero, suc, refl, arith, length, Some}
use Rattle.std.specs.Prelude.{slice_get}
use Rattle.sy_text_items.specs.Items.{Item, Items, none, more, listed}
use Rattle.sy_forms_items.specs.Parts.{items_from}

pub items_at : (i : ℕ) (xs : Items) (x : Item) → slice_get (listed xs) i ≡ Some x → items_from i xs ≡ more x (items_from (i + 1) xs)
items_at zero none x e = absurd (cc)
items_at zero (more y ys) x e = let same : y ≡ x = cc in rw same refl
items_at (suc i) none x e = absurd (cc)
items_at (suc i) (more y ys) x e =
    let next : suc i + 1 ≡ suc (i + 1) = omega arith in
    rw next (items_at i ys x e)

pub items_end : (i : ℕ) (xs : Items) → length (listed xs) ≤ i → items_from i xs ≡ none
items_end zero none le = refl
items_end zero (more x xs) le = absurd (omega arith)
items_end (suc i) none le = refl
items_end (suc i) (more x xs) le = items_end i xs (omega arith)
