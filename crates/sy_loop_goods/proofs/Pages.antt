-- What stands on pages.
use Rattle.std.proofs.Common.{◌≡◌, ◌<◌, ◌++◌, ⊎_elim, inl, inr, refl, ap, sym, subst, ◌∙◌, ℕ, Bool, List, [], ◌∷◌, Some, length, map, slice_get, slice_index_or, slice_set, arith}
use Rattle.std.specs.Prelude.{◌⊎◌}
use Rattle.std.specs.List.{All, Contains}
use Rattle.std.specs.Option.{option_map}
use Rattle.std.proofs.lemmas.List.{map_push}
use Rattle.std.proofs.lemmas.List.Elements.{All-contains, All-contains_itself, All-set, All-weaker, Contains-push_cases}
use Rattle.std.proofs.lemmas.Option.{get_or_from_slice_get, slice_get-map, slice_get_within}
use Rattle.sy_terms.specs.Values.{Val}
use Rattle.sy_terms.specs.Denoted.{val_of, vals_of}
use Rattle.sy_terms.specs.declared.sort.Value.{Value}
use Rattle.sy_loop_goods.specs.Tellings.{GainsTelling, HasTelling, Telling, telling_of, tellings_of}
use Rattle.sy_loop_goods.specs.declared.memo.Memo.{Memo}
use Rattle.sy_loop_goods.specs.declared.page.Page.{Page}

-- what a list with one item set has
contains_set : {X : Type 0} (xs : List X) (i : ℕ) (y x : X) → Contains (slice_set xs i y) x → Contains xs x ⊎ (y ≡ x)
contains_set {X} xs i y x of =
    All-contains (λ (z : X). Contains xs z ⊎ (y ≡ z)) (slice_set xs i y) x
    (All-set (λ (z : X). Contains xs z ⊎ (y ≡ z)) xs i y (inr refl) (All-weaker (Contains xs) (λ (z : X). Contains xs z ⊎ (y ≡ z)) (λ z has. inl has) xs (All-contains_itself xs))) of

module _ {N : Type 0} (number : N → Val) (constraint other : ℕ) (same : constraint ≡ other) (assignment : List (Value N)) (values : List Val) (same_values : vals_of number assignment ≡ values) (truths : List (Value N × Bool)) where
  -- one truth more
  pub truth_more : (value : Value N) (truth : Bool) →
      GainsTelling (map (telling_of number constraint assignment) truths) (record { constraint = other; values = values; value = val_of number value; truth = truth })
      (map (telling_of number constraint assignment) (truths ++ (value, truth) ∷ []))
  truth_more value truth telling of =
      let f = λ (pair : Value N × Bool). telling_of number constraint assignment pair in
      let last : f (value, truth) ≡ record { constraint = other; values = values; value = val_of number value; truth = truth } = λ i. record { constraint = same i; values = same_values i; value = val_of number value; truth = truth } in
      ⊎_elim
      (λ (before : Contains (map f truths) telling). inl before)
      (λ (is : f (value, truth) ≡ telling). inr (sym is ∙ last))
      (Contains-push_cases (map f truths) (f (value, truth)) telling (subst (λ (all : List Telling). Contains all telling) (map_push f truths (value, truth)) of))

  -- one that is found
  pub truth_found : (place : ℕ) (known : Value N × Bool) (value : Val) → slice_get truths place ≡ Some known → val_of number known.0 ≡ value →
      Contains (map (telling_of number constraint assignment) truths) (record { constraint = other; values = values; value = value; truth = known.1 })
  truth_found place known value at is =
      let f = λ (pair : Value N × Bool). telling_of number constraint assignment pair in
      let telling : Telling = record { constraint = other; values = values; value = value; truth = known.1 } in
      let same_telling : f known ≡ telling = λ i. record { constraint = same i; values = same_values i; value = is i; truth = known.1 } in
      let there : slice_get (map f truths) place ≡ Some telling = slice_get-map f truths place ∙ ap (option_map f) at ∙ ap Some same_telling in
      (place, slice_get_within (map f truths) place telling there, get_or_from_slice_get (map f truths) place telling telling there)

-- what stands on a page that the memo has
pub told_on : {T N : Type 0} (number : N → Val) (memo : Memo T N) (place : ℕ) (page : Page T N) → place < length memo.pages.items → page ≡ slice_index_or memo.pages.items place page → (telling : Telling) → Contains (tellings_of number page) telling → HasTelling number memo telling
told_on number memo place page within at telling stands = record { page = page; of = (place, within, sym at); stands = stands }

module _ {T N : Type 0} (number : N → Val) (memo after : Memo T N) where
  -- one page has one truth more
  pub memo_gains : (place : ℕ) (page new : Page T N) → place < length memo.pages.items → page ≡ slice_index_or memo.pages.items place page → after.pages.items ≡ slice_set memo.pages.items place new → (telling : Telling) →
      GainsTelling (tellings_of number page) telling (tellings_of number new) → (other : Telling) → HasTelling number after other → HasTelling number memo other ⊎ (other ≡ telling)
  memo_gains place page new within at set telling gains other told =
      ⊎_elim
      (λ (old : Contains memo.pages.items told.page). inl (record { page = told.page; of = old; stands = told.stands }))
      (λ (is : new ≡ told.page). ⊎_elim
      (λ (before : Contains (tellings_of number page) other). inl (told_on number memo place page within at other before))
      (λ (this : other ≡ telling). inr this)
      (gains other (subst (λ (p : Page T N). Contains (tellings_of number p) other) (sym is) told.stands)))
      (contains_set memo.pages.items place new told.page (subst (λ (pages : List (Page T N)). Contains pages told.page) set told.of))

  -- one page more, on which nothing stands
  pub memo_opens : (page : Page T N) → after.pages.items ≡ memo.pages.items ++ page ∷ [] → page.truths.items ≡ [] → (other : Telling) → HasTelling number after other → HasTelling number memo other
  memo_opens page more empty other told =
      ⊎_elim
      (λ (old : Contains memo.pages.items told.page). record { page = told.page; of = old; stands = told.stands })
      (λ (is : page ≡ told.page). absurd (nothing (subst (λ (truths : List (Value N × Bool)). Contains (map (telling_of number page.constraint page.assignment) truths) other) empty (subst (λ (p : Page T N). Contains (tellings_of number p) other) (sym is) told.stands))))
      (Contains-push_cases memo.pages.items page told.page (subst (λ (pages : List (Page T N)). Contains pages told.page) more told.of))
    where
      nothing : Contains [] other → ⊥
      nothing of = let within = of.1 in omega (arith, within)

  -- the same pages
  pub memo_stays : after.pages.items ≡ memo.pages.items → (other : Telling) → HasTelling number after other → HasTelling number memo other
  memo_stays same other told = record { page = told.page; of = subst (λ (pages : List (Page T N)). Contains pages told.page) same told.of; stands = told.stands }
