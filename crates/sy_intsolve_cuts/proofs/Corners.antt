-- What the simplex method answers is so of the path.
use Rattle.std.specs.Prelude.{◌≡◌, ◌≢◌, ℕ, zero, suc, ◌<◌, ◌+◌, Bool, true, false, List, [], ◌∷◌, length, get_or, All, pos, negsuc, Some, slice_get}
use Rattle.std.proofs.Common.{refl, sym, ◌∙◌, ap, ap₂, arith}
use Rattle.std.proofs.lemmas.List.Elements.{All-nil, All-cons, All-head, All-tail, All-get_or}
use Rattle.sy_frac.specs.Fraction.{Fraction}
use Rattle.sy_frac.specs.Rational.{ℚ, 0ℚ, 1ℚ, ◌+ℚ◌, ◌*ℚ◌, over, value, is_negative_rational, +ℚ_cancel, +ℚ_comm, zero-+ℚ, *ℚ_zero, *ℚ_one, over_negative, zero_not_negative}
use Rattle.sy_terms.specs.declared.sort.Sort.{Sort}
use Rattle.sy_terms.specs.declared.sort.Sort.TheVariants as sorts
use Rattle.sy_linear_known.specs.declared.form.Form.{Form}
use Rattle.sy_linear_known.specs.Forms.{Coefficient, constant_form}
use Rattle.sy_linear_known.specs.Systems.{form_at_point, MeetsSystem, IsCorner}
use Rattle.sy_linear_known.specs.Total.{replaced, replaced_same, replaced_other}
use Rattle.sy_linear_known.specs.declared.path.Fact.{Fact}
use Rattle.sy_linear_known.specs.declared.path.Fact.TheVariants.{AtLeast, Is}
use Rattle.sy_linear_known.specs.Points.{combined_at, form_value_at}
use Rattle.sy_linear_known.specs.Trees.{forms, whole_ℚ, IsOf, OverIntegers}
use Rattle.sy_simplex.specs.Problems.{form, system_of, numbers}
use Rattle.sy_simplex.specs.Rows.{at}
use Rattle.sy_intsolve_paths_laws.specs.Paths.{Suit, IsPath}
use Rattle.sy_intsolve_cuts.specs.Points.{IsCornerOf}
use Rattle.sy_intsolve_cuts.proofs.Dense.{form_at-value_at, met-system, path-forms}

disagree : true ≡ false → ⊥
disagree e = cc

-- ---- variables of truth values are 0 at a corner
one_nonzero : 1ℚ ≡ 0ℚ → ⊥
one_nonzero e =
    let minus : ℚ = over (negsuc 0) 1 in
    disagree (sym (over_negative (negsuc 0) 1) ∙ ap is_negative_rational (sym (*ℚ_one minus) ∙ ap (λ t. minus *ℚ t) e ∙ *ℚ_zero minus) ∙ zero_not_negative)

raised : (x : ℚ) → x +ℚ 1ℚ ≡ x → ⊥
raised x e = one_nonzero (+ℚ_cancel 1ℚ 0ℚ x (+ℚ_comm 1ℚ x ∙ e ∙ sym (zero-+ℚ x)))

int_or_bool : (vars : List Sort) (i j : ℕ) → IsOf sorts.Int vars i → IsOf sorts.Bool vars j → i ≢ j
int_or_bool vars i j h k e = clash (sym h ∙ ap (slice_get vars) e ∙ k)
  where
    clash : Some sorts.Int ≡ Some sorts.Bool → ⊥
    clash e = cc

-- a form on integer variables has the same value where another variable is changed
combined-replaced : (vars : List Sort) (i : ℕ) (y : ℚ) (cs : List Coefficient) (x : ℕ → ℚ) → IsOf sorts.Bool vars i → OverIntegers vars cs → combined_at cs (replaced i y x) ≡ combined_at cs x
unfolding combined_at
combined-replaced vars i y [] x h k = refl
combined-replaced vars i y (c ∷ cs) x h k = ap₂ (λ s t. whole_ℚ c.1 *ℚ s +ℚ t) (replaced_other i c.0 y x (int_or_bool vars c.0 i k.0 h)) (combined-replaced vars i y cs x h k.1)

value-replaced : (vars : List Sort) (i : ℕ) (y : ℚ) (f : Form) (x : ℕ → ℚ) → IsOf sorts.Bool vars i → OverIntegers vars f.coefs → form_value_at f (replaced i y x) ≡ form_value_at f x
unfolding form_value_at
value-replaced vars i y f x h k = ap (λ t. t +ℚ whole_ℚ f.constant) (combined-replaced vars i y f.coefs x h k)

all-over : (vars : List Sort) (path : List Fact) → All (Suit vars) path → All (λ f. OverIntegers vars f.coefs) (forms path)
all-over vars [] h = All-nil (λ f. OverIntegers vars f.coefs)
all-over vars (AtLeast f ∷ path) h = All-cons (λ f. OverIntegers vars f.coefs) f (forms path) (All-head (Suit vars) (AtLeast f) path h).1 (all-over vars path (All-tail (Suit vars) (AtLeast f) path h))
all-over vars (Is u b ∷ path) h = all-over vars path (All-tail (Suit vars) (Is u b) path h)

over-form : (vars : List Sort) (path : List Fact) → All (Suit vars) path → (i : ℕ) → i < length (forms path) → OverIntegers vars (form (forms path) i).coefs
over-form vars path h i l = All-get_or (λ f. OverIntegers vars f.coefs) (forms path) i (constant_form (pos 0)) l (all-over vars path h)

get_below : (vars : List Sort) (i : ℕ) (s : Sort) → slice_get vars i ≡ Some s → i < length vars
get_below [] i s e = absurd cc
get_below (v ∷ vars) zero s e = omega arith
get_below (v ∷ vars) (suc i) s e = omega (arith, get_below vars i s e)

corner_truth : (vars : List Sort) (path : List Fact) (x : ℕ → ℚ) → IsPath vars path → IsCorner (system_of (length vars) (forms path)) x → (i : ℕ) → IsOf sorts.Bool vars i → x i ≡ 0ℚ
unfolding system_of
corner_truth vars path x p c i o = by (c.variables i) refl
  where
    n : ℕ
    n = length vars

    fs : List Form
    fs = forms path

    below : i < n
    below = get_below vars i sorts.Bool o

    y : ℕ → ℚ
    y = replaced i (x i +ℚ 1ℚ) x

    other_zero : c.variables i ≡ false → (j : ℕ) → j < n → c.variables j ≡ true → y j ≡ 0ℚ
    other_zero e j l k = replaced_other i j (x i +ℚ 1ℚ) x (λ s. disagree (sym k ∙ ap c.variables s ∙ e)) ∙ c.variables_zero j l k

    form_zero : (k : ℕ) → k < length fs → c.forms k ≡ true → form_at_point (system_of n fs) k y ≡ 0ℚ
    form_zero k l h =
        form_at-value_at n fs y k (path-forms vars path p) l
        ∙ value-replaced vars i (x i +ℚ 1ℚ) (form fs k) x o (over-form vars path p.each k l)
        ∙ sym (form_at-value_at n fs x k (path-forms vars path p) l)
        ∙ c.forms_zero k l h

    by : (b : Bool) → c.variables i ≡ b → x i ≡ 0ℚ
    by true e = c.variables_zero i below e
    by false e = absurd (raised (x i) (sym (replaced_same i (x i +ℚ 1ℚ) x) ∙ c.only y form_zero (other_zero e) i below))

-- the point at which a run ends is a corner of the path
pub point-corner : (vars : List Sort) (path : List Fact) (point : List Fraction) → IsPath vars path → (length point ≡ length vars) × MeetsSystem (system_of (length vars) (forms path)) (numbers point) × IsCorner (system_of (length vars) (forms path)) (numbers point) → IsCornerOf vars path point
point-corner vars path point p h = record {
  at = record {
    len = h.0;
    met = met-system (length vars) (forms path) (numbers point) (path-forms vars path p) h.1;
    truths = corner_truth vars path (numbers point) p h.2;
  };
  corner = h.2;
}
