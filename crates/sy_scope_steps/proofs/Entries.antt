-- Names that are added in turn.
use Rattle.std.proofs.Common.{◌≡◌, ◌+◌, ◌<◌, ◌≤◌, ◌∙◌, refl, sym, ap, ℕ, List, [], ◌∷◌, length, map, get_or, drop}
use Rattle.std.proofs.lemmas.List.{drop_more, drop_all}
use Rattle.sy_terms.specs.Definitions.{signature}
use Rattle.sy_terms.specs.declared.term.Def.{Def}
use Rattle.sy_scope_causes.specs.declared.titles.Title.{Title}
use Rattle.sy_forms_items.specs.declared.names.Entity.{Entity}
use Rattle.sy_scope_steps.specs.Around.{definition_at, sought_at, defined_from, wanted_from, with_entry, with_entries}

-- what is left from an item on
left_at : {A : Type 0} (xs : List A) (i : ℕ) (x : A) → i < length xs → x ≡ get_or xs i x → drop i xs ≡ x ∷ drop (i + 1) xs
left_at xs i x within is = drop_more xs i x within ∙ ap (λ y. y ∷ drop (i + 1) xs) (sym is)

module _ {T N : Type 0} (names : List (List ℕ)) (defs : List (Def T N)) (all : List (List ℕ × Entity)) where
  -- the definitions that are left lead to all entries
  abbrev pub Lead : List (List ℕ × Entity) → ℕ → Type 0
  Lead entries i = with_entries entries (defined_from i (drop i names) (map signature (drop i defs))) ≡ all

  -- after one definition more
  pub definitions_more : (before now : List (List ℕ × Entity)) (i : ℕ) (name : List ℕ) (def : Def T N) → i < length names → name ≡ get_or names i name → i < length defs → def ≡ get_or defs i def →
      now ≡ with_entry before (name, definition_at i (signature def)) → Lead before i → Lead now (i + 1)
  unfolding defined_from with_entries
  definitions_more before now i name def named name_is within def_is same left =
      ap (λ entries. with_entries entries (defined_from (i + 1) (drop (i + 1) names) (map signature (drop (i + 1) defs)))) same
      ∙ sym (λ k. with_entries before (defined_from i (left_at names i name named name_is k) (map signature (left_at defs i def within def_is k)))) ∙ left

  -- where no name is left
  pub definitions_unnamed : (now : List (List ℕ × Entity)) (i : ℕ) → length names ≤ i → Lead now i → now ≡ all
  unfolding defined_from with_entries
  definitions_unnamed now i past left = sym (ap (λ ns. with_entries now (defined_from i ns (map signature (drop i defs)))) (drop_all i names past)) ∙ left

no_definitions : (number : ℕ) (names : List (List ℕ)) → defined_from number names [] ≡ []
unfolding defined_from
no_definitions number [] = refl
no_definitions number (name ∷ names) = refl

-- where no definition is left
pub definitions_all : {T N : Type 0} (names : List (List ℕ)) (defs : List (Def T N)) (all now : List (List ℕ × Entity)) (i : ℕ) → length defs ≤ i → Lead names defs all now i → now ≡ all
unfolding with_entries
definitions_all names defs all now i past left =
    sym (ap (λ (ds : List (Def _ _)). with_entries now (defined_from i (drop i names) (map signature ds))) (drop_all i defs past) ∙ ap (with_entries now) (no_definitions i (drop i names))) ∙ left

module _ (titles : List Title) (all : List (List ℕ × Entity)) where
  -- the functions to be found that are left lead to all entries
  abbrev pub LeadOn : List (List ℕ × Entity) → ℕ → Type 0
  LeadOn entries i = with_entries entries (wanted_from i (drop i titles)) ≡ all

  pub sought_more : (before now : List (List ℕ × Entity)) (i : ℕ) (title : Title) → i < length titles → title ≡ get_or titles i title → now ≡ with_entry before (title.name, sought_at i) → LeadOn before i → LeadOn now (i + 1)
  unfolding wanted_from with_entries
  sought_more before now i title within is same left =
      ap (λ entries. with_entries entries (wanted_from (i + 1) (drop (i + 1) titles))) same
      ∙ sym (ap (λ ts. with_entries before (wanted_from i ts)) (left_at titles i title within is)) ∙ left

  pub sought_all : (now : List (List ℕ × Entity)) (i : ℕ) → length titles ≤ i → LeadOn now i → now ≡ all
  unfolding wanted_from with_entries
  sought_all now i past left = sym (ap (λ ts. with_entries now (wanted_from i ts)) (drop_all i titles past)) ∙ left
