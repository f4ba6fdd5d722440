-- Finding shapes, and tables with one shape more.
use Rattle.std.proofs.Common.{◌≡◌, ℕ, ◌+◌, ◌<◌, ◌≤◌, List, [], ◌∷◌, ◌++◌, length, refl, ap, sym, ◌∙◌, subst, Option, Some, None, slice_get, get_or, take, inl, inr, Bool, true, false}
use Rattle.std.specs.Prelude.{◌↔◌, Contains, MatchOption, nat_eq, if◌then◌else◌}
use Rattle.std.proofs.lemmas.Bool.{true≢false, eq-eqb}
use Rattle.std.proofs.lemmas.Option.{none-some, same_Some}
use Rattle.std.proofs.lemmas.List.{take_all}
use Rattle.std.proofs.lemmas.List.Elements.{Contains-append_left, Contains-push}
use Rattle.sy_loop_pointwise.specs.Shapes.{Shape, AreBelow, numbers_of}
use Rattle.sy_loop_pointwise.specs.Keys.{key_of}
use Rattle.sy_loop_pointwise.specs.Places.{KeyIsAdded}
use Rattle.sy_loop_pointwise.specs.Tables.{TableIsWhole}
use Rattle.sy_loop_pointwise.proofs.Lists.{in_nothing, in_more, at_more}

-- what stands at a place is the shape where the two are alike, and nowhere beyond all places
pub there-alike : (found : Option Shape) (other shape : Shape) (b : Bool) → found ≡ Some other → (b ≡ true ↔ other ≡ shape) → (b ≡ true ↔ found ≡ Some shape)
there-alike found other shape b at alike = ((λ e. at ∙ ap Some (alike.0 e)), (λ e. alike.1 (same_Some other shape (sym at ∙ e))))

pub nowhere : (found : Option Shape) (shape : Shape) → found ≡ None → (false ≡ true ↔ found ≡ Some shape)
nowhere found shape past = ((λ e. absurd (true≢false (sym e))), (λ e. absurd (none-some shape (sym past ∙ e))))

-- the shape is at none of these numbers
abbrev pub IsAtNone : List Shape → Shape → List ℕ → Type 0
IsAtNone shapes shape numbers = (number : ℕ) → Contains numbers number → slice_get shapes number ≡ Some shape → ⊥

pub none-first : (shapes : List Shape) (shape : Shape) → IsAtNone shapes shape []
none-first shapes shape number found at = in_nothing number found

pub none-next : (shapes : List Shape) (shape : Shape) (numbers : List ℕ) (i : ℕ) (b : Bool) → i < length numbers → IsAtNone shapes shape (take i numbers) →
    (slice_get shapes (get_or numbers i 0) ≡ Some shape → b ≡ true) → b ≡ false → IsAtNone shapes shape (take (i + 1) numbers)
none-next shapes shape numbers i b within before here other number found at = elim (in_more numbers i number within found) [
  | inl earlier ↦ before number earlier at
  | inr same ↦ true≢false (sym (here (ap (slice_get shapes) same ∙ at)) ∙ other)
]

pub none-last : (shapes : List Shape) (shape : Shape) (numbers : List ℕ) (i : ℕ) → length numbers ≤ i → IsAtNone shapes shape (take i numbers) → IsAtNone shapes shape numbers
none-last shapes shape numbers i beyond none = subst (IsAtNone shapes shape) (take_all i numbers beyond) none

-- what is at none of the numbers of its key is nowhere
pub find-all : (shapes kept : List Shape) (places : ℕ → List ℕ) (shape : Shape) (key : ℕ) (numbers : List ℕ) (found : Option ℕ) → TableIsWhole shapes places → kept ≡ shapes → key ≡ key_of shape → numbers ≡ places key →
    MatchOption found (IsAtNone kept shape numbers) (λ number. slice_get kept number ≡ Some shape) →
    MatchOption found ((number : ℕ) → slice_get shapes number ≡ Some shape → ⊥) (λ number. slice_get shapes number ≡ Some shape)
find-all shapes kept places shape key numbers (Some number) whole same is all at = ap (λ (all : List Shape). slice_get all number) (sym same) ∙ at
find-all shapes kept places shape key numbers None whole same is all none =
    λ number at. none number (subst (λ items. Contains items number) (ap places (sym is) ∙ sym all) (whole.found number shape at)) (ap (λ (all : List Shape). slice_get all number) same ∙ at)

-- a table stays whole where keys have the same places, or more
pub whole-same : (shapes : List Shape) (before after : ℕ → List ℕ) → ((key : ℕ) → after key ≡ before key) → TableIsWhole shapes before → TableIsWhole shapes after
whole-same shapes before after same whole = record {
  are = whole.are;
  found = λ place shape at. subst (λ items. Contains items place) (sym (same (key_of shape))) (whole.found place shape at);
}

stays : (b : Bool) (items : List ℕ) (item place : ℕ) → Contains items place → Contains (if b then items ++ item ∷ [] else items) place
stays true items item place found = Contains-append_left items (item ∷ []) place found
stays false items item place found = found

comes : (b : Bool) (items : List ℕ) (item : ℕ) → b ≡ true → Contains (if b then items ++ item ∷ [] else items) item
comes true items item e = Contains-push items item
comes false items item e = absurd (true≢false (sym e))

pub whole-added : (shapes : List Shape) (before after : ℕ → List ℕ) (key place : ℕ) → KeyIsAdded before key place after → TableIsWhole shapes before → TableIsWhole shapes after
whole-added shapes before after key place added whole = record {
  are = whole.are;
  found = λ other shape at. subst (λ items. Contains items other) (sym (added (key_of shape))) (stays (nat_eq key (key_of shape)) (before (key_of shape)) place other (whole.found other shape at));
}

-- one shape more, which isn't there yet
pub whole-more : (shapes : List Shape) (shape : Shape) (before after : ℕ → List ℕ) (key place : ℕ) → TableIsWhole shapes before → key ≡ key_of shape → place ≡ length shapes → KeyIsAdded before key place after →
    AreBelow (length shapes) (numbers_of shape) → ((number : ℕ) → slice_get shapes number ≡ Some shape → ⊥) → TableIsWhole (shapes ++ shape ∷ []) after
whole-more shapes shape before after key place whole is end added below new = record {
  are = record {
    ordered = λ at item here. elim (at_more shapes shape at item here) [
      | inl earlier ↦ whole.are.ordered at item earlier
      | inr last ↦ subst (λ (s : Shape). AreBelow at (numbers_of s)) last.1 (subst (λ n. AreBelow n (numbers_of shape)) (sym last.0) below)
    ];
    distinct = λ at other item here there. elim (at_more shapes shape at item here) [
      | inl earlier ↦ elim (at_more shapes shape other item there) [
        | inl early ↦ whole.are.distinct at other item earlier early
        | inr last ↦ absurd (new at (earlier ∙ ap Some (sym last.1)))
      ]
      | inr last ↦ elim (at_more shapes shape other item there) [
        | inl early ↦ absurd (new other (early ∙ ap Some (sym last.1)))
        | inr late ↦ last.0 ∙ sym late.0
      ]
    ];
  };
  found = λ at item here. elim (at_more shapes shape at item here) [
    | inl earlier ↦ (whole-added shapes before after key place added whole).found at item earlier
    | inr last ↦
        let keyed : nat_eq key (key_of shape) ≡ true = subst (λ k. nat_eq key k ≡ true) is (eq-eqb key key refl) in
        let there = subst (λ items. Contains items place) (sym (added (key_of shape))) (comes (nat_eq key (key_of shape)) (before (key_of shape)) place keyed) in
        subst (λ (s : Shape). Contains (after (key_of s)) at) last.1 (subst (λ n. Contains (after (key_of shape)) n) (end ∙ sym last.0) there)
  ];
}
