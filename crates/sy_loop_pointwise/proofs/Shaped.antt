-- Subterms where there are more shapes.
use Rattle.std.proofs.Common.{◌≡◌, ℕ, zero, suc, ◌+◌, ◌<◌, ◌≤◌, List, [], ◌∷◌, ◌++◌, length, refl, ap, sym, ◌∙◌, subst, Some, slice_get, arith, append_assoc}
use Rattle.std.specs.Prelude.{false}
use Rattle.std.proofs.lemmas.Option.{none-some, slice_get_within}
use Rattle.std.proofs.lemmas.List.{get_or_append_left, append-nil}
use Rattle.std.proofs.lemmas.List.Elements.{All-head, All-tail, All-weaker}
use Rattle.sy_terms.specs.Values.{Truth}
use Rattle.sy_terms.specs.Expr.{Expr, Constant, Apply, Invoke, more}
use Rattle.sy_loop_pointwise.specs.Shapes.{Shape, Fixed, Argument, Applied, Called, AreBelow, AreSubterms, ShapesExtend, numbers_of, subterms, subterms_after, shaped, term_of, terms_of}
use Rattle.sy_loop_pointwise.proofs.Lists.{at_end}

-- there are as many subterms as shapes
pub many_after : (terms : List Expr) (shapes : List Shape) → length (subterms_after terms shapes) ≡ length terms + length shapes
unfolding subterms_after
many_after terms [] = omega arith
many_after terms (shape ∷ shapes) = many_after (terms ++ shaped terms shape ∷ []) shapes ∙ omega (arith, one_longer terms (shaped terms shape))
  where
    one_longer : {A : Type 0} (items : List A) (item : A) → length (items ++ item ∷ []) ≡ length items + 1
    one_longer [] item = refl
    one_longer (first ∷ items) item = omega (arith, one_longer items item)

pub many : (shapes : List Shape) → length (subterms shapes) ≡ length shapes
many shapes = many_after [] shapes ∙ omega arith

-- the subterms of shapes in a row
pub after_both : (terms : List Expr) (before added : List Shape) → subterms_after terms (before ++ added) ≡ subterms_after (subterms_after terms before) added
unfolding subterms_after
after_both terms [] added = refl
after_both terms (shape ∷ before) added = after_both (terms ++ shaped terms shape ∷ []) before added

pub with_last : (shapes : List Shape) (shape : Shape) → subterms (shapes ++ shape ∷ []) ≡ subterms shapes ++ shaped (subterms shapes) shape ∷ []
unfolding subterms_after
with_last shapes shape = after_both [] shapes (shape ∷ [])

-- a term stays where it was
term_stays : (terms : List Expr) (shapes : List Shape) (number : ℕ) → number < length terms → term_of (subterms_after terms shapes) number ≡ term_of terms number
unfolding subterms_after
term_stays terms [] number within = refl
term_stays terms (shape ∷ shapes) number within =
    term_stays (terms ++ shaped terms shape ∷ []) shapes number (longer terms (shaped terms shape) number within) ∙ get_or_append_left terms (shaped terms shape ∷ []) (Constant (Truth false)) number within
  where
    longer : (terms : List Expr) (last : Expr) (number : ℕ) → number < length terms → number < length (terms ++ last ∷ [])
    longer [] last number within = absurd (omega (arith, within))
    longer (first ∷ terms) last zero within = omega arith
    longer (first ∷ terms) last (suc number) within = omega (arith, longer terms last number (omega (arith, within)))

pub stays : (before after : List Shape) (number : ℕ) → ShapesExtend before after → number < length before → term_of (subterms after) number ≡ term_of (subterms before) number
stays before after number extends within =
    ap (λ shapes. term_of (subterms shapes) number) extends.is ∙ ap (λ terms. term_of terms number) (after_both [] before extends.added) ∙
    term_stays (subterms before) extends.added number (omega (arith, many before, within))

pub all_stay : (before after : List Shape) (numbers : List ℕ) → ShapesExtend before after → AreBelow (length before) numbers → terms_of (subterms after) numbers ≡ terms_of (subterms before) numbers
all_stay before after [] extends below = refl
all_stay before after (number ∷ numbers) extends below =
    λ i. more (stays before after number extends (All-head (λ n. n < length before) number numbers below) i) (all_stay before after numbers extends (All-tail (λ n. n < length before) number numbers below) i)

-- one extension after another
pub unchanged : (shapes : List Shape) → ShapesExtend shapes shapes
unchanged shapes = record { added = []; is = sym (append-nil shapes) }

pub extends_both : (before mid after : List Shape) → ShapesExtend before mid → ShapesExtend mid after → ShapesExtend before after
extends_both before mid after one two = record { added = one.added ++ two.added; is = two.is ∙ ap (λ shapes. shapes ++ two.added) one.is ∙ append_assoc before one.added two.added }

pub not_fewer : (before after : List Shape) → ShapesExtend before after → length before ≤ length after
not_fewer before after extends = subst (λ shapes. length before ≤ length shapes) (sym extends.is) (front before extends.added)
  where
    front : (before added : List Shape) → length before ≤ length (before ++ added)
    front [] added = omega arith
    front (shape ∷ before) added = omega (arith, front before added)

pub below_more : (before after : List Shape) (numbers : List ℕ) → ShapesExtend before after → AreBelow (length before) numbers → AreBelow (length after) numbers
below_more before after numbers extends below = All-weaker (λ n. n < length before) (λ n. n < length after) (λ n within. omega (arith, within, not_fewer before after extends)) numbers below

-- the shapes before one, and those after it
record Around (shapes : List Shape) (number : ℕ) (shape : Shape) : Type 0 where
  before : List Shape
  after : List Shape
  is : shapes ≡ (before ++ shape ∷ []) ++ after
  many_before : length before ≡ number

around : (shapes : List Shape) (number : ℕ) (shape : Shape) → slice_get shapes number ≡ Some shape → Around shapes number shape
around [] number shape at = absurd (none-some shape at)
around (first ∷ shapes) zero shape at = record { before = []; after = shapes; is = let same : first ≡ shape = cc in ap (λ (s : Shape). s ∷ shapes) same; many_before = refl }
around (first ∷ shapes) (suc number) shape at =
    let rest = around shapes number shape at in
    record { before = first ∷ rest.before; after = rest.after; is = ap (λ (all : List Shape). first ∷ all) rest.is; many_before = ap suc rest.many_before }

last_is : (terms : List Expr) (last : Expr) → term_of (terms ++ last ∷ []) (length terms) ≡ last
last_is [] last = refl
last_is (first ∷ terms) last = last_is terms last

-- a shape over numbers that stay is the same term
pub shape_stays : (before after : List Shape) (shape : Shape) → ShapesExtend before after → AreBelow (length before) (numbers_of shape) → shaped (subterms after) shape ≡ shaped (subterms before) shape
shape_stays before after (Fixed value) extends below = refl
shape_stays before after (Argument position) extends below = refl
shape_stays before after (Applied operator numbers) extends below = ap (Apply operator) (all_stay before after numbers extends below)
shape_stays before after (Called function numbers) extends below = ap (Invoke function) (all_stay before after numbers extends below)

-- the term at a shape's place is what the shape is
pub shape_is : (shapes : List Shape) (number : ℕ) (shape : Shape) → AreSubterms shapes → slice_get shapes number ≡ Some shape → term_of (subterms shapes) number ≡ shaped (subterms shapes) shape
shape_is shapes number shape are at =
    let split = around shapes number shape at in
    let upto = split.before ++ shape ∷ [] in
    let more_after : ShapesExtend upto shapes = record { added = split.after; is = split.is } in
    let more_before : ShapesExtend split.before shapes = extends_both split.before upto shapes (record { added = shape ∷ []; is = refl }) more_after in
    let within : number < length upto = subst (λ n. n < length upto) split.many_before (slice_get_within upto (length split.before) shape (at_end split.before shape)) in
    let place : number ≡ length (subterms split.before) = sym (many split.before ∙ split.many_before) in
    stays upto shapes number more_after within ∙
    ap (λ terms. term_of terms number) (with_last split.before shape) ∙
    ap (term_of (subterms split.before ++ shaped (subterms split.before) shape ∷ [])) place ∙
    last_is (subterms split.before) (shaped (subterms split.before) shape) ∙
    sym (shape_stays split.before shapes shape more_before (subst (λ n. AreBelow n (numbers_of shape)) (sym split.many_before) (are.ordered number shape at)))
