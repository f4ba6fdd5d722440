-- The value of a form at a point, term by term.
use Rattle.std.specs.Prelude.{◌≡◌, ℕ, ◌<◌, ◌≤◌, ◌+◌, Bool, true, false, not, List, length, get_or, drop, int_lt, ℤ, pos, ◌*ℤ◌, Option, Some, None, IfSome}
use Rattle.std.proofs.Common.{refl, sym, ◌∙◌, ap, ap₂, subst}
use Rattle.std.proofs.lemmas.List.{drop_more, drop_all}
use Rattle.sy_frac.specs.Fraction.{Fraction, QuotientIff, sum_over}
use Rattle.sy_frac.specs.Rational.{ℚ, ◌+ℚ◌, ◌*ℚ◌, value, is_negative_rational, value_sum, value_product, over_negative, zero-+ℚ, +ℚ_assoc, +ℚ_comm, +ℚ_left_comm}
use Rattle.sy_linear_known.specs.declared.form.Form.{Form}
use Rattle.sy_linear_known.specs.Forms.{Coefficient}
use Rattle.sy_linear_known.specs.declared.path.Fact.{Fact}
use Rattle.sy_linear_known.specs.declared.path.Fact.TheVariants.{AtLeast}
use Rattle.sy_linear_known.specs.Points.{combined_at, form_value_at}
use Rattle.sy_linear_known.specs.Trees.{whole_ℚ}
use Rattle.sy_simplex.specs.Problems.{numbers}
use Rattle.sy_simplex.specs.Rows.{at}
use Rattle.sy_intsolve_cuts.specs.Points.{IsMetBy}

-- what an operation gives stands for the sum, and for the product
pub sum-value : (r : Option Fraction) (f g : Fraction) (P : Type 0) → 0 < f.den → 0 < g.den → QuotientIff r P (sum_over f g) (pos f.den *ℤ pos g.den) → IfSome r (λ n. (value n ≡ value f +ℚ value g) × (0 < n.den))
sum-value None f g P p q h = tt
sum-value (Some r) f g P p q h = (value_sum f g r p q h.1, h.1.lowest.positive)

pub term-value : (r : Option Fraction) (f g : Fraction) (k : ℤ) (point : List Fraction) (v : ℕ) (P : Type 0) → 0 < f.den → 0 < g.den → value f ≡ whole_ℚ k → g ≡ at point v → QuotientIff r P (f.num *ℤ g.num) (pos f.den *ℤ pos g.den) → IfSome r (λ n. (value n ≡ whole_ℚ k *ℚ numbers point v) × (0 < n.den))
unfolding numbers
term-value None f g k point v P p q e h l = tt
term-value (Some r) f g k point v P p q e h l = (value_product f g r p q l.1 ∙ ap₂ (λ s t. s *ℚ t) e (ap (λ t. value t) h), l.1.lowest.positive)

pub value-begun : (f : Form) (cs : List Coefficient) (x : ℕ → ℚ) (n : Fraction) → cs ≡ f.coefs → value n ≡ whole_ℚ f.constant → combined_at cs x +ℚ value n ≡ form_value_at f x
unfolding form_value_at
value-begun f cs x n e h = ap₂ (λ ds t. combined_at ds x +ℚ t) e h

pub value-more : (cs : List Coefficient) (i : ℕ) (x : ℕ → ℚ) (n term next : Fraction) (v : ℚ) → i < length cs → value term ≡ whole_ℚ (get_or cs i (0, pos 0)).1 *ℚ x (get_or cs i (0, pos 0)).0 → value next ≡ value term +ℚ value n → combined_at (drop i cs) x +ℚ value n ≡ v → combined_at (drop (i + 1) cs) x +ℚ value next ≡ v
unfolding combined_at
value-more cs i x n term next v l h k e =
    let c : Coefficient = get_or cs i (0, pos 0) in
    ap (λ t. combined_at (drop (i + 1) cs) x +ℚ t) (k ∙ ap (λ t. t +ℚ value n) h)
    ∙ regroup (combined_at (drop (i + 1) cs) x) (whole_ℚ c.1 *ℚ x c.0) (value n)
    ∙ sym (ap (λ ds. combined_at ds x +ℚ value n) (drop_more cs i (0, pos 0) l))
    ∙ e
  where
    regroup : (a b d : ℚ) → a +ℚ (b +ℚ d) ≡ (b +ℚ a) +ℚ d
    regroup a b d = simp (+ℚ_assoc, +ℚ_left_comm, +ℚ_comm)

pub value-ended : (cs : List Coefficient) (i : ℕ) (x : ℕ → ℚ) (n : Fraction) (v : ℚ) → length cs ≤ i → combined_at (drop i cs) x +ℚ value n ≡ v → value n ≡ v
unfolding combined_at
value-ended cs i x n v l e = sym (ap (λ ds. combined_at ds x +ℚ value n) (drop_all i cs l) ∙ zero-+ℚ (value n)) ∙ e

pub met-by : (fact : Fact) (f : Form) (point : List Fraction) (n : Fraction) → fact ≡ AtLeast f → value n ≡ form_value_at f (numbers point) → not (int_lt n.num (pos 0)) ≡ true → IsMetBy point fact
met-by fact f point n is e h = subst (IsMetBy point) (sym is) (sym (ap is_negative_rational e) ∙ over_negative n.num n.den ∙ turned (int_lt n.num (pos 0)) h)
  where
    turned : (b : Bool) → not b ≡ true → b ≡ false
    turned true e = absurd cc
    turned false e = refl
