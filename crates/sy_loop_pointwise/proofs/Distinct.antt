-- Equal subterms have equal numbers.
use Rattle.std.proofs.Common.{◌≡◌, ℕ, zero, suc, ◌<◌, ◌≤◌, List, [], ◌∷◌, length, refl, ap, sym, ◌∙◌, Some, slice_get, arith}
use Rattle.std.proofs.lemmas.List.Elements.{All-head, All-tail}
use Rattle.sy_terms.specs.Expr.{Expr}
use Rattle.sy_loop_pointwise.specs.Shapes.{Shape, Fixed, Argument, Applied, Called, AreBelow, AreSubterms, numbers_of, subterms, shaped, term_of, terms_of}
use Rattle.sy_loop_pointwise.proofs.Shaped.{shape_is}

-- numbers below these bounds are the same where their terms are
abbrev AreTold : List Expr → ℕ → ℕ → Type 0
AreTold terms first second = (one other : ℕ) → one < first → other < second → term_of terms one ≡ term_of terms other → one ≡ other

told_all : (terms : List Expr) (first second : ℕ) (ones others : List ℕ) → AreTold terms first second → AreBelow first ones → AreBelow second others → terms_of terms ones ≡ terms_of terms others → ones ≡ others
told_all terms first second [] [] told below within same = refl
told_all terms first second [] (other ∷ others) told below within same = absurd cc
told_all terms first second (one ∷ ones) [] told below within same = absurd cc
told_all terms first second (one ∷ ones) (other ∷ others) told below within same =
    let head : term_of terms one ≡ term_of terms other = cc in
    let tail : terms_of terms ones ≡ terms_of terms others = cc in
    let here = told one other (All-head (λ n. n < first) one ones below) (All-head (λ n. n < second) other others within) head in
    let rest = told_all terms first second ones others told (All-tail (λ n. n < first) one ones below) (All-tail (λ n. n < second) other others within) tail in
    λ i. here i ∷ rest i

told_shape : (terms : List Expr) (first second : ℕ) (shape other : Shape) → AreTold terms first second → AreBelow first (numbers_of shape) → AreBelow second (numbers_of other) → shaped terms shape ≡ shaped terms other → shape ≡ other
told_shape terms first second (Fixed v) (Fixed w) told below within same = let inside : v ≡ w = cc in ap Fixed inside
told_shape terms first second (Argument p) (Argument q) told below within same = let inside : p ≡ q = cc in ap Argument inside
told_shape terms first second (Applied f ms) (Applied g ns) told below within same =
    let operators : f ≡ g = cc in
    let arguments : terms_of terms ms ≡ terms_of terms ns = cc in
    let numbers = told_all terms first second ms ns told below within arguments in
    λ i. Applied (operators i) (numbers i)
told_shape terms first second (Called f ms) (Called g ns) told below within same =
    let functions : f ≡ g = cc in
    let arguments : terms_of terms ms ≡ terms_of terms ns = cc in
    let numbers = told_all terms first second ms ns told below within arguments in
    λ i. Called (functions i) (numbers i)
told_shape terms first second (Fixed v) (Argument q) told below within same = absurd cc
told_shape terms first second (Fixed v) (Applied g ns) told below within same = absurd cc
told_shape terms first second (Fixed v) (Called g ns) told below within same = absurd cc
told_shape terms first second (Argument p) (Fixed w) told below within same = absurd cc
told_shape terms first second (Argument p) (Applied g ns) told below within same = absurd cc
told_shape terms first second (Argument p) (Called g ns) told below within same = absurd cc
told_shape terms first second (Applied f ms) (Fixed w) told below within same = absurd cc
told_shape terms first second (Applied f ms) (Argument q) told below within same = absurd cc
told_shape terms first second (Applied f ms) (Called g ns) told below within same = absurd cc
told_shape terms first second (Called f ms) (Fixed w) told below within same = absurd cc
told_shape terms first second (Called f ms) (Argument q) told below within same = absurd cc
told_shape terms first second (Called f ms) (Applied g ns) told below within same = absurd cc

pub shape_there : (shapes : List Shape) (number : ℕ) → number < length shapes → (shape : Shape) × (slice_get shapes number ≡ Some shape)
shape_there [] number within = absurd (omega (arith, within))
shape_there (shape ∷ shapes) zero within = (shape, refl)
shape_there (shape ∷ shapes) (suc number) within = shape_there shapes number (omega (arith, within))

below_up : (count more_count : ℕ) (numbers : List ℕ) → count ≤ more_count → AreBelow count numbers → AreBelow more_count numbers
below_up count more_count numbers le below = λ k d within. let here = below k d within in omega (arith, here, le)

told_upto : (shapes : List Shape) → AreSubterms shapes → (bound : ℕ) → bound ≤ length shapes → AreTold (subterms shapes) bound (length shapes)
told_upto shapes are zero inside one other within there same = absurd (omega (arith, within))
told_upto shapes are (suc bound) inside one other within there same =
    let first = shape_there shapes one (omega (arith, within, inside)) in
    let second = shape_there shapes other there in
    let alike : shaped (subterms shapes) first.0 ≡ shaped (subterms shapes) second.0 = sym (shape_is shapes one first.0 are first.1) ∙ same ∙ shape_is shapes other second.0 are second.1 in
    let shape = told_shape (subterms shapes) bound (length shapes) first.0 second.0 (told_upto shapes are bound (omega (arith, inside)))
    (below_up one bound (numbers_of first.0) (omega (arith, within)) (are.ordered one first.0 first.1)) (below_up other (length shapes) (numbers_of second.0) (omega (arith, there)) (are.ordered other second.0 second.1)) alike in
    are.distinct one other second.0 (first.1 ∙ ap Some shape) second.1

-- equal subterms have equal numbers, and equal lists of subterms equal lists of numbers
pub same_number : (shapes : List Shape) → AreSubterms shapes → (one other : ℕ) → one < length shapes → other < length shapes → term_of (subterms shapes) one ≡ term_of (subterms shapes) other → one ≡ other
same_number shapes are one other within there same = told_upto shapes are (length shapes) (omega arith) one other within there same

pub same_numbers : (shapes : List Shape) → AreSubterms shapes → (ones others : List ℕ) → AreBelow (length shapes) ones → AreBelow (length shapes) others → terms_of (subterms shapes) ones ≡ terms_of (subterms shapes) others → ones ≡ others
same_numbers shapes are ones others below within same = told_all (subterms shapes) (length shapes) (length shapes) ones others (told_upto shapes are (length shapes) (omega arith)) below within same
