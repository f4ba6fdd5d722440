-- Terms, and lists of them, one term after the other.
use Rattle.std.specs.Prelude.{ℕ, zero, suc, ◌+◌, ◌<◌, ◌≤◌, false, List, [], ◌∷◌, ◌++◌, ℤ, length, ◌≡◌, refl}
use Rattle.std.proofs.Common.{ap, ap₂, sym, ◌∙◌, arith, get_or, take, drop}
use Rattle.std.proofs.Math.Seq.{take-append_seam}
use Rattle.std.proofs.lemmas.List.{take_more, drop_more}
use Rattle.sy_terms.specs.Values.{Truth, Whole}
use Rattle.sy_terms.specs.Expr.{Constant, none, more, append}
use Rattle.sy_terms.specs.Denoted.{expr_of, exprs_of, exprs_of-append}
use Rattle.sy_terms.specs.declared.term.Term.{Term}
use Rattle.sy_lower_laws.specs.Lowering.{name_at}

-- the terms from the one at a place on
pub dropped : {T : Type 0} (terms : List (Term T ℤ)) (i : ℕ) (term : Term T ℤ) → i < length terms → term ≡ get_or terms i term → exprs_of Whole (drop i terms) ≡ more (expr_of Whole term) (exprs_of Whole (drop (i + 1) terms))
dropped {T} terms i term within is =
    ap (exprs_of Whole) (drop_more terms i term within) ∙ ap (λ (t : Term T ℤ). more (expr_of Whole t) (exprs_of Whole (drop (i + 1) terms))) (sym is)

-- the terms up to the one at a place
pub taken : {T : Type 0} (terms : List (Term T ℤ)) (i : ℕ) (term : Term T ℤ) → i < length terms → term ≡ get_or terms i term → exprs_of Whole (take (i + 1) terms) ≡ append (exprs_of Whole (take i terms)) (more (expr_of Whole term) none)
taken {T} terms i term within is =
    ap (exprs_of Whole) (take_more terms i term within ∙ ap (λ (t : Term T ℤ). take i terms ++ t ∷ []) (sym is)) ∙ exprs_of-append Whole (take i terms) (term ∷ [])

-- a list with one term more
pub pushed : {T : Type 0} (before after : List (Term T ℤ)) (term : Term T ℤ) → after ≡ before ++ term ∷ [] → exprs_of Whole after ≡ append (exprs_of Whole before) (more (expr_of Whole term) none)
pushed before after term is = ap (exprs_of Whole) is ∙ exprs_of-append Whole before (term ∷ [])

-- lists of one, two and three terms
pub one_pushed : {T : Type 0} (empty one : List (Term T ℤ)) (a : Term T ℤ) → empty ≡ [] → one ≡ empty ++ a ∷ [] → exprs_of Whole one ≡ more (expr_of Whole a) none
one_pushed {T} empty one a e is = ap (exprs_of Whole) (is ∙ ap (λ (ts : List (Term T ℤ)). ts ++ a ∷ []) e)

pub two_pushed : {T : Type 0} (empty one two : List (Term T ℤ)) (a b : Term T ℤ) → empty ≡ [] → one ≡ empty ++ a ∷ [] → two ≡ one ++ b ∷ [] → exprs_of Whole two ≡ more (expr_of Whole a) (more (expr_of Whole b) none)
two_pushed {T} empty one two a b e first second =
    ap (exprs_of Whole) (second ∙ ap (λ (ts : List (Term T ℤ)). ts ++ b ∷ []) (first ∙ ap (λ (ts : List (Term T ℤ)). ts ++ a ∷ []) e))

pub three_pushed : {T : Type 0} (empty one two three : List (Term T ℤ)) (a b c : Term T ℤ) → empty ≡ [] → one ≡ empty ++ a ∷ [] → two ≡ one ++ b ∷ [] → three ≡ two ++ c ∷ [] →
    exprs_of Whole three ≡ more (expr_of Whole a) (more (expr_of Whole b) (more (expr_of Whole c) none))
three_pushed {T} empty one two three a b c e first second third =
    ap (exprs_of Whole) (third ∙ ap (λ (ts : List (Term T ℤ)). ts ++ c ∷ []) (second ∙ ap (λ (ts : List (Term T ℤ)). ts ++ b ∷ []) (first ∙ ap (λ (ts : List (Term T ℤ)). ts ++ a ∷ []) e)))

-- what the name at a position stands for
pub beyond : {T : Type 0} (names : List (Term T ℤ)) (position : ℕ) → length names ≤ position → Constant (Truth false) ≡ name_at (exprs_of Whole names) position
beyond [] position h = refl
beyond (name ∷ names) zero h = absurd (omega (arith, h))
beyond (name ∷ names) (suc i) h = beyond names i (omega (arith, h))

pub named_at : {T : Type 0} (names : List (Term T ℤ)) (position : ℕ) (term found : Term T ℤ) → position < length names → term ≡ get_or names position term → expr_of Whole found ≡ expr_of Whole term → expr_of Whole found ≡ name_at (exprs_of Whole names) position
named_at [] position term found within is same = absurd (omega (arith, within))
named_at {T} (name ∷ names) zero term found within is same = same ∙ ap (λ (t : Term T ℤ). expr_of Whole t) is
named_at (name ∷ names) (suc i) term found within is same = named_at names i term found (omega (arith, within)) is same

-- names that were added, and are taken off again
pub longer_names : {T : Type 0} (old before longer inside : List (Term T ℤ)) → before ≡ old → longer ≡ before ++ inside → exprs_of Whole longer ≡ append (exprs_of Whole old) (exprs_of Whole inside)
longer_names {T} old before longer inside kept added =
    ap (exprs_of Whole) added ∙ exprs_of-append Whole before inside ∙ ap (λ (ns : List (Term T ℤ)). append (exprs_of Whole ns) (exprs_of Whole inside)) kept

pub cut_off : {X : Type 0} (old before longer after last inside : List X) (n : ℕ) → before ≡ old → longer ≡ before ++ inside → after ≡ longer → n ≡ length old → last ≡ take n after → last ≡ old
cut_off old before longer after last inside n kept added same count cut =
    cut ∙ ap₂ take (count ∙ ap length (sym kept)) (same ∙ added) ∙ take-append_seam before inside ∙ kept
