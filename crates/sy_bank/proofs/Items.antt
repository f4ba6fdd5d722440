-- The chosen terms as the code holds them.
use Rattle.std.proofs.Common.{◌≡◌, ℕ, ◌+◌, ◌-◌, ◌<◌, ◌≤◌, List, [], ◌∷◌, ◌++◌, length, take, get_or, arith, ap, sym, subst, ◌∙◌, All, length-append}
use Rattle.std.proofs.lemmas.List.{map-append, take_all}
use Rattle.std.proofs.lemmas.List.Elements.{All-get_or, All-more, All-weaker, All-same}
use Rattle.std.proofs.Math.Seq.{take-append_seam}
use denote.Ref.{Bor}
use Rattle.sy_terms.specs.Values.{Val}
use Rattle.sy_grammar_base.specs.Patterns.{Pattern}
use Rattle.sy_bank_level.specs.Banks.{Entry, kept_at}
use Rattle.sy_bank_level.specs.Stored.{entry_of, entries_of, chosen_of}
use Rattle.sy_bank_level.specs.declared.kept.Kept.{Kept}
use Rattle.sy_bank_level.specs.Filling.{World, LevelState, IsSteady, LevelGrows}
use Rattle.sy_bank.specs.Choosing.{PatternIsBegun, AreDoneFrom}
use Rattle.sy_bank.proofs.Begun.{AreDoneBelow, from-on, all-at, begun-next, below-some}

-- one term is chosen after the others
chosen-pushed : {T N : Type 0} (number : N → Val) (initial before after : List (Bor (Kept T N))) (term : Bor (Kept T N)) → before ≡ initial → after ≡ before ++ term ∷ [] →
    chosen_of number after ≡ chosen_of number initial ++ entry_of number term.now ∷ []
chosen-pushed number initial before after term same pushed =
    ap (chosen_of number) (pushed ∙ ap (λ chosen. chosen ++ term ∷ []) same) ∙ map-append (λ (kept : Bor (Kept _ _)). entry_of number kept.now) initial (term ∷ [])

-- and taken back
pub chosen-popped : {X : Type 0} (initial before after popped : List X) (term : X) (n : ℕ) → before ≡ initial → after ≡ before ++ term ∷ [] → n ≡ length after → popped ≡ take (n - 1) after → popped ≡ initial
chosen-popped initial before after popped term n same pushed sized is =
    let count : n - 1 ≡ length before = omega (arith, sized, ap length pushed, length-append before (term ∷ [])) in
    is ∙ ap (λ k. take k after) count ∙ ap (take (length before)) pushed ∙ take-append_seam before (term ∷ []) ∙ same

-- the choice of the term at this place may go on
pub begun-item : {T N : Type 0} (number : N → Val) (w : World) (pattern : Pattern) (initial before after : List (Bor (Kept T N))) (term : Bor (Kept T N)) (terms : List (Kept T N)) (i : ℕ) (places : List ℕ) (left : ℕ) →
    before ≡ initial → after ≡ before ++ term ∷ [] → i < length terms → term.now ≡ get_or terms i term.now →
    All (λ first. PatternIsBegun w pattern (chosen_of number initial ++ entry_of number first ∷ []) places left) terms → PatternIsBegun w pattern (chosen_of number after) places left
begun-item number w pattern initial before after term terms i places left same pushed within at all =
    let P : Kept _ _ → Type 0 = λ first. PatternIsBegun w pattern (chosen_of number initial ++ entry_of number first ∷ []) places left in
    rw (chosen-pushed number initial before after term same pushed) (subst P (sym at) (All-get_or P terms i term.now within all))

-- one term more is done
pub done-items : {T N : Type 0} (number : N → Val) (w : World) (s t : LevelState) (n : ℕ) (pattern : Pattern) (initial before after : List (Bor (Kept T N))) (term : Bor (Kept T N)) (terms : List (Kept T N)) (i : ℕ) (places : List ℕ) (left : ℕ) →
    before ≡ initial → after ≡ before ++ term ∷ [] → i < length terms → term.now ≡ get_or terms i term.now → LevelGrows w s t →
    All (λ first. AreDoneFrom w s n pattern (chosen_of number initial ++ entry_of number first ∷ []) places left) (take i terms) → AreDoneFrom w t n pattern (chosen_of number after) places left →
    All (λ first. AreDoneFrom w t n pattern (chosen_of number initial ++ entry_of number first ∷ []) places left) (take (i + 1) terms)
done-items number w s t n pattern initial before after term terms i places left same pushed within at grows all done =
    let P : Kept _ _ → Type 0 = λ first. AreDoneFrom w s n pattern (chosen_of number initial ++ entry_of number first ∷ []) places left in
    let Q : Kept _ _ → Type 0 = λ first. AreDoneFrom w t n pattern (chosen_of number initial ++ entry_of number first ∷ []) places left in
    let last : Q term.now = rw (chosen-pushed number initial before after term same pushed) at done in
    All-more Q terms i term.now within (All-weaker P Q (λ first before. from-on w s t n pattern (chosen_of number initial ++ entry_of number first ∷ []) places left grows before) (take i terms) all) (subst Q at last)

-- all are done
pub done-all : {T N : Type 0} (number : N → Val) (w : World) (s : LevelState) (n : ℕ) (pattern : Pattern) (chosen : List Entry) (terms : List (Kept T N)) (i : ℕ) (places : List ℕ) (left : ℕ) → length terms ≤ i →
    All (λ first. AreDoneFrom w s n pattern (chosen ++ entry_of number first ∷ []) places left) (take i terms) → All (λ first. AreDoneFrom w s n pattern (chosen ++ entry_of number first ∷ []) places left) terms
done-all number w s n pattern chosen terms i places left whole all =
    All-same (λ first. AreDoneFrom w s n pattern (chosen ++ entry_of number first ∷ []) places left) terms (take i terms) (sym (take_all i terms whole)) all

-- each kept term of a size may be chosen next
pub begun-terms : {T N : Type 0} (number : N → Val) (w : World) (s : LevelState) (pattern : Pattern) (initial before : List (Bor (Kept T N))) (terms : List (Kept T N)) (all places : List ℕ) (n left size : ℕ) →
    before ≡ initial → all ≡ n ∷ places → entries_of number terms ≡ kept_at w.levels n size → size ≤ left → IsSteady w s → PatternIsBegun w pattern (chosen_of number initial) all left →
    All (λ first. PatternIsBegun w pattern (chosen_of number before ++ entry_of number first ∷ []) places (left - size)) terms
begun-terms number w s pattern initial before terms all places n left size same split here small steady begun =
    let first : PatternIsBegun w pattern (chosen_of number before) (n ∷ places) left = rw (same, ← split) begun in
    all-at (entry_of number) (λ entry. PatternIsBegun w pattern (chosen_of number before ++ entry ∷ []) places (left - size)) terms (kept_at w.levels n size) here
    (λ place entry at. begun-next w s pattern (chosen_of number before) n places left size place entry steady first at small)

-- one size more is done
pub done-terms : {T N : Type 0} (number : N → Val) (w : World) (s t : LevelState) (n : ℕ) (pattern : Pattern) (initial before : List (Bor (Kept T N))) (terms : List (Kept T N)) (first : ℕ) (places : List ℕ) (left least size : ℕ) →
    before ≡ initial → entries_of number terms ≡ kept_at w.levels first size → LevelGrows w s t → AreDoneBelow w s n pattern (chosen_of number initial) first places left least size →
    All (λ term. AreDoneFrom w t n pattern (chosen_of number before ++ entry_of number term ∷ []) places (left - size)) terms →
    AreDoneBelow w t n pattern (chosen_of number initial) first places left least (size + 1)
done-terms number w s t n pattern initial before terms first places left least size same here grows done all =
    below-some (entry_of number) terms w s t n pattern (chosen_of number initial) first places left least size grows done here (rw same at all)
