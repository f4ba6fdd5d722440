-- A sort that is read is one of the logic.
use Rattle.std.proofs.Common.{◌≡◌, refl, subst, ℕ, List, [], ◌∷◌, Bool, true, false, Some, None, All}
use Rattle.std.specs.Prelude.{Ok, Option, bytes_eq, codes, ◌&&◌, if◌then◌else◌, IfOk}
use Rattle.std.proofs.lemmas.List.Elements.{All-head, All-tail}
use Rattle.sy_text_items.specs.Items.{Item, leaf, group, Items, none, more}
use Rattle.sy_text_items.specs.declared.atom.Place.{Place}
use Rattle.sy_terms.specs.declared.op.Op.{Op}
use Rattle.sy_terms.specs.declared.sort.Logic.{Logic}
use Rattle.sy_terms.specs.declared.sort.Logic.TheVariants.{Lia, Bv}
use Rattle.sy_terms.specs.declared.sort.Sort.{Sort}
use Rattle.sy_terms.specs.declared.sort.Sort.TheVariants as sorts
use Rattle.sy_scope_causes.specs.declared.cause.Cause.TheVariants as cause
use Rattle.sy_grammar_base.specs.Formed.{is_known}
use Rattle.sy_terms.specs.Logics.{IsTheoryOf}
use Rattle.sy_forms_items.specs.Environments.{entry_under}
use Rattle.sy_forms_items.specs.Parts.{symbol_in, is_symbol, indexed_name}
use Rattle.sy_forms_items.specs.Sorts.{int_in, sort_named, is_width, vector_sort, indexed_sort, sort_by_name, read_sort}
use Rattle.sy_forms_items.specs.declared.parts.Indices.{Indices}
use Rattle.sy_forms_items.specs.declared.parts.Indices.TheVariants.{One, Two, More}
use Rattle.sy_forms.proofs.Readings.{unless_refused, where_found}

abbrev pub Known : (Sort → Bool) → Sort → Type 0
Known numeric sort = is_known numeric sort ≡ true

abbrev KnownEntry : (Sort → Bool) → List ℕ × Sort → Type 0
KnownEntry numeric x = is_known numeric x.1 ≡ true

found_has : {A : Type 0} (P : A → Type 0) (b : Bool) (first x : A) (other : Option A) → P first → (other ≡ Some x → P x) → (if b then Some first else other) ≡ Some x → P x
found_has P true first x other here later e = let same : first ≡ x = cc in subst P same here
found_has P false first x other here later e = later e

-- what stands under a name has what all entries have
pub entry_has : {A : Type 0} (P : A → Type 0) (name : List ℕ) (entries : List (List ℕ × A)) (x : A) → All (λ (e : List ℕ × A). P e.1) entries → entry_under name entries ≡ Some x → P x
entry_has P name [] x all e = absurd cc
entry_has {A} P name (y ∷ entries) x all e =
    found_has P (bytes_eq name y.0) y.1 x (entry_under name entries) (All-head (λ (e : List ℕ × A). P e.1) y entries all) (λ f. entry_has P name entries x (All-tail (λ (e : List ℕ × A). P e.1) y entries all) f) e

int_known : (owned : Op → Bool) (numeric : Sort → Bool) (logic : Logic) (found : Sort) → IsTheoryOf logic owned numeric → int_in logic ≡ Some found → Known numeric found
int_known owned numeric Lia found of e = let same : sorts.Int ≡ found = cc in subst (Known numeric) same (of.sorts sorts.Int)
int_known owned numeric Bv found of e = absurd cc

int_by : (numeric : Sort → Bool) (b : Bool) (int other : Option Sort) (found : Sort) → (int ≡ Some found → Known numeric found) → (other ≡ Some found → Known numeric found) → (if b then int else other) ≡ Some found → Known numeric found
int_by numeric true int other found here later e = here e
int_by numeric false int other found here later e = later e

named_known : (owned : Op → Bool) (numeric : Sort → Bool) (logic : Logic) (abbreviations : List (List ℕ × Sort)) (name : List ℕ) (found : Sort) → IsTheoryOf logic owned numeric → All (KnownEntry numeric) abbreviations
    → sort_named logic abbreviations name ≡ Some found → Known numeric found
named_known owned numeric logic abbreviations name found of all e =
    found_has (Known numeric) (bytes_eq name (codes "Bool")) sorts.Bool found _ refl
    (λ f. int_by numeric (bytes_eq name (codes "Int")) (int_in logic) (entry_under name abbreviations) found (int_known owned numeric logic found of) (entry_has (Known numeric) name abbreviations found all) f) e

by_name_known : (owned : Op → Bool) (numeric : Sort → Bool) (logic : Logic) (abbreviations : List (List ℕ × Sort)) (place : Place) (name : Option (List ℕ)) → IsTheoryOf logic owned numeric → All (KnownEntry numeric) abbreviations
    → IfOk (sort_by_name logic abbreviations place name) (Known numeric)
by_name_known owned numeric logic abbreviations place None of all = tt
by_name_known owned numeric logic abbreviations place (Some name) of all =
    where_found (Known numeric) place cause.UnknownSort (sort_named logic abbreviations name) (λ found e. named_known owned numeric logic abbreviations name found of all e)

both : (a b : Bool) → a ≡ true → b ≡ true → (a && b) ≡ true
both true true e f = refl
both true false e f = f
both false b e f = e

vector_known : (owned : Op → Bool) (numeric : Sort → Bool) (place : Place) (parts : Option (List ℕ × Indices)) → IsTheoryOf Bv owned numeric → IfOk (vector_sort place parts) (Known numeric)
vector_known owned numeric place None of = tt
vector_known owned numeric place (Some (name, One w)) of =
    unless_refused (Known numeric) (bytes_eq name (codes "BitVec")) place cause.UnknownSort _ (λ e.
    unless_refused (Known numeric) (is_width w) place cause.Width (Ok (sorts.Bits w)) (λ fits. both (numeric (sorts.Bits w)) (is_width w) (of.sorts (sorts.Bits w)) fits))
vector_known owned numeric place (Some (name, Two i j)) of = tt
vector_known owned numeric place (Some (name, More)) of = tt

indexed_known : (owned : Op → Bool) (numeric : Sort → Bool) (logic : Logic) (place : Place) (parts : Items) → IsTheoryOf logic owned numeric → IfOk (indexed_sort logic place parts) (Known numeric)
indexed_known owned numeric Lia place parts of = tt
indexed_known owned numeric Bv place none of = tt
indexed_known owned numeric Bv place (more head rest) of =
    unless_refused (Known numeric) (is_symbol (codes "_") head) place cause.UnknownSort (vector_sort place (indexed_name rest)) (λ e. vector_known owned numeric place (indexed_name rest) of)

pub sort_known : (owned : Op → Bool) (numeric : Sort → Bool) (logic : Logic) (abbreviations : List (List ℕ × Sort)) (item : Item) → IsTheoryOf logic owned numeric → All (λ (x : List ℕ × Sort). is_known numeric x.1 ≡ true) abbreviations
    → IfOk (read_sort logic abbreviations item) (λ sort. is_known numeric sort ≡ true)
unfolding read_sort
sort_known owned numeric logic abbreviations (leaf atom place) of all = by_name_known owned numeric logic abbreviations place (symbol_in atom) of all
sort_known owned numeric logic abbreviations (group parts place) of all = indexed_known owned numeric logic place parts of
