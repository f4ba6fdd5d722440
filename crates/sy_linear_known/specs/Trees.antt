-- Refutation trees of a query.
use Rattle.std.specs.Prelude.{◌≡◌, ℕ, ◌<◌, ◌≤ℤ◌, true, false, cond, List, [], ◌∷◌, ◌++◌, map, ℤ, pos, ◌+ℤ◌, ◌*ℤ◌, neg_ℤ, nat_lt, slice_get, Some}
use Rattle.sy_frac.specs.Fraction.{Fraction}
use Rattle.sy_frac.specs.Rational.{ℚ, 0ℚ, ◌+ℚ◌, ◌*ℚ◌, over, is_negative_rational, value}
use Rattle.sy_terms.specs.declared.sort.Sort.{Sort}
use Rattle.sy_terms.specs.declared.sort.Sort.TheVariants as sorts
use Rattle.sy_linear_known.specs.declared.form.Form.{Form}
use Rattle.sy_linear_known.specs.Forms.{Coefficient, before, constant_form, variable_form, form_minus, form_negation}
use Rattle.sy_linear_known.specs.declared.path.Fact.{Fact}
use Rattle.sy_linear_known.specs.declared.path.Fact.TheVariants.{AtLeast, Is}
use Rattle.sy_linear_known.specs.declared.path.Test.{Test}
use Rattle.sy_linear_known.specs.declared.path.Test.TheVariants as test
use Rattle.sy_linear_known.specs.declared.answer.Known.TheVariants as known
use Rattle.sy_linear_known.specs.Seen.{LinearQuery, query_known}

-- a tree without its points; the multipliers are those of the path's forms, in order
pub data TreeShape : Type 0 where
  Split : (test : Test) → (left right : TreeShape) → TreeShape
  Branch : (variable : ℕ) → (bound : ℤ) → (left right : TreeShape) → TreeShape
  Cut : (multipliers : List Fraction) → (divisor : ℤ) → (inner : TreeShape) → TreeShape
  Farkas : (multipliers : List Fraction) → TreeShape
  Shown : TreeShape
  Unfinished : TreeShape

-- ---- facts that nodes add
abbrev pub added_fact : Test → Fact
added_fact (test.AtLeast f) = AtLeast f
added_fact (test.Holds u) = Is u true

abbrev pub opposite_fact : Test → Fact
opposite_fact (test.AtLeast f) = AtLeast (form_negation f)
opposite_fact (test.Holds u) = Is u false

-- bound - x, which is at least 0 exactly where x is at most the bound
abbrev pub at_or_below : ℕ → ℤ → Form
at_or_below i bound = form_minus (constant_form bound) (variable_form i)

-- the forms of the path, in order
abbrev pub forms : List Fact → List Form
forms [] = []
forms (AtLeast f ∷ facts) = f ∷ forms facts
forms (Is u b ∷ facts) = forms facts

-- ---- combinations
abbrev pub whole_ℚ : ℤ → ℚ
whole_ℚ z = over z 1

-- a variable's number and its rational coefficient
abbrev pub Weight : Type 0
Weight = ℕ × ℚ

-- m times the coefficients, and the weights
unfoldable pub plus_multiple : ℚ → List Coefficient → List Weight → List Weight
plus_multiple m [] qs = qs
plus_multiple m (c ∷ cs) [] = (c.0, m *ℚ whole_ℚ c.1) ∷ plus_multiple m cs []
plus_multiple m (c ∷ cs) (q ∷ qs) =
    cond (nat_lt c.0 q.0) ((c.0, m *ℚ whole_ℚ c.1) ∷ plus_multiple m cs (q ∷ qs))
    (cond (nat_lt q.0 c.0) (q ∷ plus_multiple m (c ∷ cs) qs)
    ((c.0, m *ℚ whole_ℚ c.1 +ℚ q.1) ∷ plus_multiple m cs qs))

-- a form over the rational numbers
pub record Combination : Type 0 where
  pub weights : List Weight
  pub constant : ℚ

-- a combination and m times a form
abbrev pub plus_form : Combination → ℚ → Form → Combination
plus_form c m f = record { weights = plus_multiple m f.coefs c.weights; constant = m *ℚ whole_ℚ f.constant +ℚ c.constant }

-- with each form times its multiplier, in order
unfoldable pub combined_with : Combination → List ℚ → List Form → Combination
combined_with c [] fs = c
combined_with c (m ∷ ms) [] = c
combined_with c (m ∷ ms) (f ∷ fs) = combined_with (plus_form c m f) ms fs

-- the sum of each form times its multiplier
abbrev pub combination : List ℚ → List Form → Combination
combination ms fs = combined_with (record { weights = []; constant = 0ℚ }) ms fs

abbrev pub rationals : List Fraction → List ℚ
rationals fractions = map value fractions

-- one multiplier for each form: a fraction over a positive number, not negative
abbrev pub AreMultipliers : List Fraction → List Form → Type 0
AreMultipliers [] [] = Unit {0}
AreMultipliers (m ∷ ms) (f ∷ fs) = (0 < m.den) × (is_negative_rational (value m) ≡ false) × AreMultipliers ms fs
AreMultipliers _ _ = ⊥

abbrev pub AllZero : List Weight → Type 0
AllZero [] = Unit {0}
AllZero (q ∷ qs) = (q.1 ≡ 0ℚ) × AllZero qs

-- each weight is the divisor times a whole number, and these are the coefficients
abbrev pub AreMultiples : ℤ → List Weight → List Coefficient → Type 0
AreMultiples d [] es = es ≡ []
AreMultiples d (q ∷ qs) es =
    (k : ℤ) × ((rest : List Coefficient) × ((q.1 ≡ whole_ℚ (d *ℤ k)) × (es ≡ before q.0 k rest) × AreMultiples d qs rest))

-- the added form e + floor (c / d) of a combination d * e + c
pub record IsCut (ms : List Fraction) (d : ℤ) (fs : List Form) (added : Form) : Type 0 where
  pub multipliers : AreMultipliers ms fs
  pub positive : pos 1 ≤ℤ d
  pub multiples : AreMultiples d (combination (rationals ms) fs).weights added.coefs
  pub below : is_negative_rational ((combination (rationals ms) fs).constant +ℚ whole_ℚ (neg_ℤ (d *ℤ added.constant))) ≡ false
  pub next : is_negative_rational ((combination (rationals ms) fs).constant +ℚ whole_ℚ (neg_ℤ (d *ℤ (added.constant +ℤ pos 1)))) ≡ true

-- the combination is a negative constant
pub record IsContradiction (ms : List Fraction) (fs : List Form) : Type 0 where
  pub multipliers : AreMultipliers ms fs
  pub zero : AllZero (combination (rationals ms) fs).weights
  pub negative : is_negative_rational (combination (rationals ms) fs).constant ≡ true

-- ---- what is asked of variables
abbrev pub IsOf : Sort → List Sort → ℕ → Type 0
IsOf sort vars i = slice_get vars i ≡ Some sort

abbrev pub OverIntegers : List Sort → List Coefficient → Type 0
OverIntegers vars [] = Unit {0}
OverIntegers vars (c ∷ cs) = IsOf sorts.Int vars c.0 × OverIntegers vars cs

abbrev pub TestSuits : List Sort → Test → Type 0
TestSuits vars (test.AtLeast f) = OverIntegers vars f.coefs
TestSuits vars (test.Holds u) = IsOf sorts.Bool vars u

-- the tree refutes the query under the path
abbrev pub TreeRefutes : LinearQuery → List Fact → TreeShape → Type 0
TreeRefutes q path (Split t left right) = TestSuits q.vars t × TreeRefutes q (path ++ added_fact t ∷ []) left × TreeRefutes q (path ++ opposite_fact t ∷ []) right
TreeRefutes q path (Branch i bound left right) = IsOf sorts.Int q.vars i × TreeRefutes q (path ++ AtLeast (at_or_below i bound) ∷ []) left × TreeRefutes q (path ++ AtLeast (form_negation (at_or_below i bound)) ∷ []) right
TreeRefutes q path (Cut ms d inner) = (e : Form) × (IsCut ms d (forms path) e × TreeRefutes q (path ++ AtLeast e ∷ []) inner)
TreeRefutes q path (Farkas ms) = IsContradiction ms (forms path)
TreeRefutes q path Shown = query_known q path ≡ known.False
TreeRefutes q path Unfinished = ⊥
