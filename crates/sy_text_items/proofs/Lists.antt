-- The items of a list type of its own, as a list.
use Rattle.std.proofs.Common.{◌<◌, ◌≤◌, get_or, MatchOption, Bor, ◌≡◌, ℕ, List, [], ◌∷◌, ◌++◌, length, map, Option, Some, None, slice_get, refl, sym, ap, ◌∙◌}
use Rattle.std.proofs.lemmas.Option.{slice_get-map, slice_get-get_or}
use Rattle.std.specs.Prelude.{IfSome}
use Rattle.std.specs.Option.{option_map}
use Rattle.std.proofs.lemmas.List.{map_push, length-map}
use Rattle.sy_text_items.specs.Items.{Item, Items, none, more, listed}
use Rattle.sy_text_items.specs.Views.{item_of, items_of}
use Rattle.sy_text_items.specs.declared.sexp.Sexp.{Sexp}

pub listed-is : (xs : List Sexp) → listed (items_of xs) ≡ map item_of xs
listed-is [] = refl
listed-is (x ∷ xs) = ap (λ (ys : List Item). item_of x ∷ ys) (listed-is xs)

pub listed-length : (xs : List Sexp) → length (listed (items_of xs)) ≡ length xs
listed-length xs = rw listed-is (length-map xs item_of)

pub listed-push : (xs : List Sexp) (x : Sexp) → listed (items_of (xs ++ x ∷ [])) ≡ listed (items_of xs) ++ item_of x ∷ []
listed-push xs x = rw (listed-is (xs ++ x ∷ []), listed-is xs) (map_push item_of xs x)

pub listed-get : (r : Option (Bor Sexp)) (xs : List Sexp) (i : ℕ) → MatchOption r (length xs ≤ i) (λ x. i < length xs) → IfSome r (λ x. x.now ≡ get_or xs i x.now)
    → MatchOption r (length (listed (items_of xs)) ≤ i) (λ x. slice_get (listed (items_of xs)) i ≡ Some (item_of x.now))
listed-get None xs i past same = rw listed-length past
listed-get (Some x) xs i within same =
    ap (λ (ys : List Item). slice_get ys i) (listed-is xs) ∙ slice_get-map item_of xs i
    ∙ ap (λ (o : Option Sexp). option_map item_of o) (slice_get-get_or xs i x.now within)
    ∙ ap (λ (y : Sexp). Some (item_of y)) (sym same)

pub within-from : (r : Option (Bor Sexp)) (n i : ℕ) (Q : Bor Sexp → Type 0) → MatchOption r (n ≤ i) (λ x. (i < n) × Q x) → MatchOption r (n ≤ i) (λ x. i < n)
within-from None n i Q h = h
within-from (Some x) n i Q h = h.0

-- the items of both, one after the other
abbrev pub followed : Items → Items → Items
followed none ys = ys
followed (more x xs) ys = more x (followed xs ys)

pub followed-none : (xs : Items) → followed xs none ≡ xs
followed-none none = refl
followed-none (more x xs) = ap (more x) (followed-none xs)

pub listed-followed : (xs ys : Items) → listed (followed xs ys) ≡ listed xs ++ listed ys
listed-followed none ys = refl
listed-followed (more x xs) ys = ap (λ (zs : List Item). x ∷ zs) (listed-followed xs ys)

pub listed_inj : (xs ys : Items) → listed xs ≡ listed ys → xs ≡ ys
listed_inj none none e = refl
listed_inj none (more y ys) e = cc
listed_inj (more x xs) none e = cc
listed_inj (more x xs) (more y ys) e =
    let first : x ≡ y = cc in
    let others : listed xs ≡ listed ys = cc in
    λ i. more (first i) (listed_inj xs ys others i)

pub pushed : (new old : Items) (x : Item) → listed new ≡ listed old ++ x ∷ [] → new ≡ followed old (more x none)
pushed new old x e = listed_inj new (followed old (more x none)) (e ∙ sym (listed-followed old (more x none)))
