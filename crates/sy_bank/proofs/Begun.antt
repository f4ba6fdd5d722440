-- From one choice to the next.
use Rattle.std.proofs.Common.{◌≡◌, ℕ, ◌+◌, ◌-◌, ◌≤◌, ◌<◌, zero, suc, List, [], ◌∷◌, ◌++◌, length, map, Some, slice_get, arith, ap, refl, sym, subst, ◌∙◌, append_assoc, append-nil, ◌⊎◌, inl, inr}
use Rattle.std.specs.Prelude.{All}
use Rattle.std.proofs.lemmas.Option.{none-some}
use Rattle.std.proofs.lemmas.List.Elements.{All-nil, All-cons, All-head, All-tail}
use Rattle.sy_grammar_base.specs.Patterns.{Pattern, occurring, filled, own_size}
use Rattle.sy_bank_level.specs.Banks.{Entry, kept_at, IsKept}
use Rattle.sy_bank_level.specs.Covering.{AreKept, sizes, terms}
use Rattle.sy_bank_level.specs.Filling.{World, LevelState, IsSteady, LevelGrows, TermIsDone}
use Rattle.sy_bank_level.proofs.Keeping.{done-on}
use Rattle.sy_bank.specs.Choosing.{AreDone, PatternIsBegun, AreDoneFrom}
use Rattle.sy_bank.proofs.Least.{right-at, size-least, sizes-least}

-- what is done stays done
pub from-on : (w : World) (s t : LevelState) (n : ℕ) (pattern : Pattern) (chosen : List Entry) (places : List ℕ) (left : ℕ) → LevelGrows w s t →
    AreDoneFrom w s n pattern chosen places left → AreDoneFrom w t n pattern chosen places left
from-on w s t n pattern chosen places left grows done =
    record { each = λ others kept sized. done-on w s t n (length w.levels) (filled pattern (terms (chosen ++ others))) grows (done.each others kept sized) }

-- before any choice
pub begun-first : (w : World) (pattern : Pattern) (left : ℕ) → own_size pattern + left ≡ length w.levels → PatternIsBegun w pattern [] (occurring pattern) left
begun-first w pattern left sized = record { before = []; whole = refl; kept = tt; sized = omega arith }

pub all-done : (w : World) (s : LevelState) (n : ℕ) (pattern : Pattern) (left : ℕ) → own_size pattern + left ≡ length w.levels → AreDoneFrom w s n pattern [] (occurring pattern) left → AreDone w s n (length w.levels) pattern
all-done w s n pattern left sized done chosen kept whole = done.each chosen kept (omega arith)

-- where the pattern itself is larger, it gives nothing
pub none-done : (w : World) (s : LevelState) (n size : ℕ) (pattern : Pattern) → size < own_size pattern → AreDone w s n size pattern
none-done w s n size pattern larger chosen kept whole = absurd (omega arith)

kept-append : (levels : List (List (List Entry))) (ns : List ℕ) (entries : List Entry) (n : ℕ) (entry : Entry) → AreKept levels ns entries → IsKept levels n entry → AreKept levels (ns ++ n ∷ []) (entries ++ entry ∷ [])
kept-append levels [] [] n entry kept last = (last, tt)
kept-append levels [] (first ∷ entries) n entry kept last = absurd kept
kept-append levels (m ∷ ns) [] n entry kept last = absurd kept
kept-append levels (m ∷ ns) (first ∷ entries) n entry kept last = (kept.0, kept-append levels ns entries n entry kept.1 last)

sizes-append : (entries : List Entry) (entry : Entry) → sizes (entries ++ entry ∷ []) ≡ sizes entries + entry.size
sizes-append [] entry = omega arith
sizes-append (first ∷ entries) entry = omega (arith, sizes-append entries entry)

-- one more term is chosen
pub begun-next : (w : World) (s : LevelState) (pattern : Pattern) (chosen : List Entry) (n : ℕ) (places : List ℕ) (left size place : ℕ) (entry : Entry) → IsSteady w s →
    PatternIsBegun w pattern chosen (n ∷ places) left → slice_get (kept_at w.levels n size) place ≡ Some entry → size ≤ left → PatternIsBegun w pattern (chosen ++ entry ∷ []) places (left - size)
begun-next w s pattern chosen n places left size place entry steady begun at small =
    let right = right-at w s n size place entry steady at in
    record {
      before = begun.before ++ n ∷ [];
      whole = append_assoc begun.before (n ∷ []) places ∙ begun.whole;
      kept = kept-append w.levels begun.before chosen n entry begun.kept (record { size = size; place = place; at = at });
      sized = omega (arith, begun.sized, sizes-append chosen entry, right.sized);
    }

-- all terms are chosen
pub chosen-kept : (w : World) (pattern : Pattern) (chosen : List Entry) (left : ℕ) → PatternIsBegun w pattern chosen [] left → AreKept w.levels (occurring pattern) chosen
chosen-kept w pattern chosen left begun = subst (λ (ns : List ℕ). AreKept w.levels ns chosen) (sym (append-nil begun.before) ∙ begun.whole) begun.kept

none-other : (levels : List (List (List Entry))) (others : List Entry) → AreKept levels [] others → others ≡ []
none-other levels [] kept = refl
none-other levels (entry ∷ others) kept = absurd kept

none-left : (places : List ℕ) → length places ≡ 0 → places ≡ []
none-left [] none = refl
none-left (place ∷ places) none = absurd (omega (arith, none))

pub chosen-done : (w : World) (s : LevelState) (n size : ℕ) (pattern : Pattern) (chosen given : List Entry) (places : List ℕ) (left : ℕ) → length places ≡ 0 → left ≡ 0 → size ≡ length w.levels → given ≡ chosen →
    TermIsDone w s n size (filled pattern (terms given)) → AreDoneFrom w s n pattern chosen places left
chosen-done w s n size pattern chosen given places left none all sized same done = record {
  each = λ others kept whole.
      let nothing = none-other w.levels others (subst (λ ns. AreKept w.levels ns others) (none-left places none) kept) in
      rw (nothing, append-nil, ← sized, ← same) done;
}

-- where too much or too little of the size is left, nothing is given
pub left-over : (w : World) (s : LevelState) (n : ℕ) (pattern : Pattern) (chosen : List Entry) (places : List ℕ) (left : ℕ) → length places ≡ 0 → (left ≡ 0 → ⊥) → AreDoneFrom w s n pattern chosen places left
left-over w s n pattern chosen places left none over = record {
  each = λ others kept whole.
      let nothing = none-other w.levels others (subst (λ ns. AreKept w.levels ns others) (none-left places none) kept) in
      absurd (over (sym whole ∙ ap sizes nothing));
}

pub left-short : (w : World) (s t : LevelState) (n : ℕ) (pattern : Pattern) (chosen : List Entry) (places : List ℕ) (left : ℕ) → IsSteady w s → left < length places → AreDoneFrom w t n pattern chosen places left
left-short w s t n pattern chosen places left steady short = record { each = λ others kept sized. absurd (omega (arith, sized, sizes-least w s places others steady kept)) }

-- each term that the pattern gives of the chosen terms, of a kept one whose size is below the bound, and of others, is done
pub record AreDoneBelow (w : World) (s : LevelState) (n : ℕ) (pattern : Pattern) (chosen : List Entry) (first : ℕ) (places : List ℕ) (left least bound : ℕ) : Type 0 where
  pub each : (size place : ℕ) (entry : Entry) → slice_get (kept_at w.levels first size) place ≡ Some entry → least ≤ size → size < bound →
      AreDoneFrom w s n pattern (chosen ++ entry ∷ []) places (left - size)

pub below-on : (w : World) (s t : LevelState) (n : ℕ) (pattern : Pattern) (chosen : List Entry) (first : ℕ) (places : List ℕ) (left least bound : ℕ) → LevelGrows w s t →
    AreDoneBelow w s n pattern chosen first places left least bound → AreDoneBelow w t n pattern chosen first places left least bound
below-on w s t n pattern chosen first places left least bound grows done = record {
  each = λ size place entry at above below. from-on w s t n pattern (chosen ++ entry ∷ []) places (left - size) grows (done.each size place entry at above below);
}

pub below-first : (w : World) (s : LevelState) (n : ℕ) (pattern : Pattern) (chosen : List Entry) (first : ℕ) (places : List ℕ) (left least : ℕ) → AreDoneBelow w s n pattern chosen first places left least least
below-first w s n pattern chosen first places left least = record { each = λ size place entry at above below. absurd (omega arith) }

or-last : (m n : ℕ) → m < n + 1 → (m < n) ⊎ (m ≡ n)
or-last zero zero less = inr refl
or-last zero (suc n) less = inl (omega arith)
or-last (suc m) zero less = absurd (omega arith)
or-last (suc m) (suc n) less = elim (or-last m n (omega arith)) [ inl h ↦ inl (omega arith) | inr h ↦ inr (ap suc h) ]

at-all : {X : Type 0} (f : X → Entry) (P : Entry → Type 0) (xs : List X) (entries : List Entry) (i : ℕ) (entry : Entry) → map f xs ≡ entries → All (λ x. P (f x)) xs → slice_get entries i ≡ Some entry → P entry
at-all f P [] [] i entry same all at = absurd (none-some entry at)
at-all f P [] (e ∷ entries) i entry same all at = cc
at-all f P (x ∷ xs) [] i entry same all at = cc
at-all f P (x ∷ xs) (e ∷ entries) zero entry same all at =
    let equal : f x ≡ entry = cc in
    subst P equal (All-head (λ y. P (f y)) x xs all)
at-all f P (x ∷ xs) (e ∷ entries) (suc i) entry same all at =
    let rest : map f xs ≡ entries = cc in
    at-all f P xs entries i entry rest (All-tail (λ y. P (f y)) x xs all) at

pub all-at : {X : Type 0} (f : X → Entry) (P : Entry → Type 0) (xs : List X) (entries : List Entry) → map f xs ≡ entries → ((i : ℕ) (entry : Entry) → slice_get entries i ≡ Some entry → P entry) → All (λ x. P (f x)) xs
all-at f P [] entries same each = All-nil (λ x. P (f x))
all-at f P (x ∷ xs) [] same each = cc
all-at f P (x ∷ xs) (e ∷ entries) same each =
    let equal : e ≡ f x = cc in
    let rest : map f xs ≡ entries = cc in
    All-cons (λ y. P (f y)) x xs (subst P equal (each 0 e refl)) (all-at f P xs entries rest (λ i entry at. each (suc i) entry at))

-- one size more, of which nothing is kept
pub below-none : (w : World) (s : LevelState) (n : ℕ) (pattern : Pattern) (chosen : List Entry) (first : ℕ) (places : List ℕ) (left least bound : ℕ) → AreDoneBelow w s n pattern chosen first places left least bound →
    kept_at w.levels first bound ≡ [] → AreDoneBelow w s n pattern chosen first places left least (bound + 1)
below-none w s n pattern chosen first places left least bound done none = record {
  each = λ size place entry at above below. elim (or-last size bound below) [
    | inl less ↦ done.each size place entry at above less
    | inr same ↦ absurd (none-some entry (ap (λ (list : List Entry). slice_get list place) (sym (ap (kept_at w.levels first) same ∙ none)) ∙ at))
  ];
}

-- one size more, of which each kept term was the first of the others
pub below-some : {X : Type 0} (f : X → Entry) (xs : List X) (w : World) (s t : LevelState) (n : ℕ) (pattern : Pattern) (chosen : List Entry) (first : ℕ) (places : List ℕ) (left least bound : ℕ) →
    LevelGrows w s t → AreDoneBelow w s n pattern chosen first places left least bound → map f xs ≡ kept_at w.levels first bound →
    All (λ x. AreDoneFrom w t n pattern (chosen ++ f x ∷ []) places (left - bound)) xs → AreDoneBelow w t n pattern chosen first places left least (bound + 1)
below-some f xs w s t n pattern chosen first places left least bound grows done same all = record {
  each = λ size place entry at above below. elim (or-last size bound below) [
    | inl less ↦ from-on w s t n pattern (chosen ++ entry ∷ []) places (left - size) grows (done.each size place entry at above less)
    | inr equal ↦ rw equal (at-all f (λ e. AreDoneFrom w t n pattern (chosen ++ e ∷ []) places (left - bound)) xs (kept_at w.levels first bound) place entry same all (rw equal at at))
  ];
}

sizes-none : (levels : List (List (List Entry))) (ns : List ℕ) (entries : List Entry) → length ns ≡ 0 → AreKept levels ns entries → sizes entries ≡ 0
sizes-none levels [] [] none kept = refl
sizes-none levels [] (entry ∷ entries) none kept = absurd kept
sizes-none levels (n ∷ ns) entries none kept = absurd (omega (arith, none))

-- no other size is left for the first of the others
pub below-whole : (w : World) (s t : LevelState) (n : ℕ) (pattern : Pattern) (chosen : List Entry) (all : List ℕ) (first : ℕ) (places : List ℕ) (left least bound : ℕ) → IsSteady w s →
    all ≡ first ∷ places → length places + bound ≡ left + 1 → (least ≤ 1) ⊎ ((length places ≡ 0) × (least ≡ left)) →
    AreDoneBelow w t n pattern chosen first places left least bound → AreDoneFrom w t n pattern chosen all left
below-whole w s t n pattern chosen all first places left least bound steady split whole from done = rw split (record { each = each })
  where
    each : (others : List Entry) → AreKept w.levels (first ∷ places) others → sizes others ≡ left → TermIsDone w t n (length w.levels) (filled pattern (terms (chosen ++ others)))
    each [] kept sized = absurd kept
    each (entry ∷ others) kept sized =
        let size = kept.0.size in
        let right = right-at w s first size kept.0.place entry steady kept.0.at in
        let positive = size-least w first size entry right in
        let more = sizes-least w s places others steady kept.1 in
        let above : least ≤ size = elim from [ inl small ↦ omega (arith, positive) | inr last ↦ omega (arith, sizes-none w.levels places others last.0 kept.1, last.1, right.sized) ] in
        let given = done.each size kept.0.place entry kept.0.at above (omega (arith, more, right.sized)) in
        rw (← append_assoc chosen (entry ∷ []) others) (given.each others kept.1 (omega (arith, right.sized)))
