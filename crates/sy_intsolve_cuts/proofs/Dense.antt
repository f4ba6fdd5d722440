-- The forms of a path as the simplex method sees them, with a coefficient for each variable, have the values that they have.
use Rattle.std.specs.Prelude.{◌≡◌, ◌≢◌, ℕ, zero, suc, ◌<◌, ◌≤◌, ◌+◌, true, false, cond, List, [], ◌∷◌, length, get_or, All, pos}
use Rattle.std.proofs.Common.{refl, sym, ◌∙◌, ap, ap₂, subst, arith, inl, inr, ◌⊎◌, ◌==◌}
use Rattle.std.proofs.Math.Dec.{eqb}
use Rattle.std.proofs.lemmas.Bool.Decides.{eqb_tells}
use Rattle.std.proofs.lemmas.List.Elements.{All-nil, All-cons, All-head, All-tail, All-get_or, All-from_get_or}
use Rattle.sy_frac.specs.Rational.{ℚ, 0ℚ, ◌+ℚ◌, ◌*ℚ◌, over, is_negative_rational, zero-*ℚ, zero-+ℚ}
use Rattle.sy_terms.specs.declared.sort.Sort.{Sort}
use Rattle.sy_linear_known.specs.declared.form.Form.{Form}
use Rattle.sy_linear_known.specs.Forms.{Coefficient, constant_form}
use Rattle.sy_linear_known.specs.Systems.{form_at_point, MeetsSystem}
use Rattle.sy_linear_known.specs.Total.{total, total_zero, total-same, total_split, zero_at, rest_same, combined_total}
use Rattle.sy_linear_known.specs.declared.path.Fact.{Fact}
use Rattle.sy_linear_known.specs.declared.path.Fact.TheVariants.{AtLeast, Is}
use Rattle.sy_linear_known.specs.Points.{combined_at, form_value_at}
use Rattle.sy_linear_known.specs.Trees.{forms, whole_ℚ}
use Rattle.sy_linear_known.proofs.Refutation.{whole_zero}
use Rattle.sy_simplex.specs.Problems.{coefficient, form, variable_at, IsForm, AreForms, system_of}
use Rattle.sy_intsolve_paths_laws.specs.Paths.{Suit, IsPath}
use Rattle.sy_intsolve_cuts.specs.Points.{AreMet}

-- ---- coefficients in ascending order
-- variables from a least one, below a count
abbrev pub From : ℕ → ℕ → List Coefficient → Type 0
From n least [] = Unit {0}
From n least (c ∷ cs) = (least ≤ c.0) × (c.0 < n) × From n (suc c.0) cs

next : (c : Coefficient) (cs : List Coefficient) (k : ℕ) → variable_at (c ∷ cs) (suc k) < variable_at (c ∷ cs) (suc k + 1) → variable_at cs k < variable_at cs (k + 1)
next c cs k h = let same : suc k + 1 ≡ suc (k + 1) = omega arith in subst (λ m. variable_at (c ∷ cs) (suc k) < variable_at (c ∷ cs) m) same h

from_at : (n : ℕ) (least : ℕ) (cs : List Coefficient) → (0 < length cs → least ≤ variable_at cs 0) → ((k : ℕ) → k < length cs → variable_at cs k < n) → ((k : ℕ) → k + 1 < length cs → variable_at cs k < variable_at cs (k + 1)) → From n least cs
from_at n least [] f b a = tt
from_at n least (c ∷ cs) f b a = (
  f (omega arith),
  b 0 (omega arith),
  from_at n (suc c.0) cs (λ l. omega (arith, a 0 (omega (arith, l)))) (λ k l. b (suc k) (omega (arith, l))) (λ k l. next c cs k (a (suc k) (omega (arith, l)))),
)

pub from-is_form : (n : ℕ) (f : Form) → IsForm n f → From n 0 f.coefs
from-is_form n f h = from_at n 0 f.coefs (λ l. omega arith) h.below h.ascending

same_number : (v : ℕ) → (v == v) ≡ true
same_number v = by (eqb_tells v v)
  where
    by : ((eqb v v ≡ true) × (v ≡ v)) ⊎ ((eqb v v ≡ false) × (v ≢ v)) → (v == v) ≡ true
    by (inl h) = h.0
    by (inr h) = absurd (h.1 refl)

other_number : (u v : ℕ) → u ≢ v → (u == v) ≡ false
other_number u v n = by (eqb_tells u v)
  where
    by : ((eqb u v ≡ true) × (u ≡ v)) ⊎ ((eqb u v ≡ false) × (u ≢ v)) → (u == v) ≡ false
    by (inl h) = absurd (n h.1)
    by (inr h) = h.0

-- a variable below the least has the coefficient 0
pub coefficient-below : (n least : ℕ) (cs : List Coefficient) (v : ℕ) → From n least cs → v < least → coefficient cs v ≡ pos 0
coefficient-below n least [] v h l = refl
coefficient-below n least (c ∷ cs) v h l =
    let first = h.0 in
    ap (λ b. cond b (c.1) (coefficient cs v)) (other_number c.0 v (λ e. omega (arith, l, first, e))) ∙ coefficient-below n (suc c.0) cs v h.2 (omega (arith, l, first))

coefficient-first : (c : Coefficient) (cs : List Coefficient) → coefficient (c ∷ cs) c.0 ≡ c.1
coefficient-first c cs = ap (λ b. cond b (c.1) (coefficient cs c.0)) (same_number c.0)

coefficient-other : (c : Coefficient) (cs : List Coefficient) (v : ℕ) → v ≢ c.0 → coefficient (c ∷ cs) v ≡ coefficient cs v
coefficient-other c cs v n = ap (λ b. cond b (c.1) (coefficient cs v)) (other_number c.0 v (λ e. n (sym e)))

-- ---- values
pub dense : List Coefficient → (ℕ → ℚ) → ℕ → ℚ
dense cs x j = over (coefficient cs j) 1 *ℚ x j

none : (n : ℕ) (x : ℕ → ℚ) → total n (dense [] x) ≡ 0ℚ
unfolding dense
none n x = total-same n (λ j. over (pos 0) 1 *ℚ x j) (λ j. 0ℚ) (λ j l. ap (λ t. t *ℚ x j) whole_zero ∙ zero-*ℚ (x j)) ∙ total_zero n

pub total-dense : (n least : ℕ) (cs : List Coefficient) (x : ℕ → ℚ) → From n least cs → total n (dense cs x) ≡ combined_at cs x
unfolding combined_at dense
total-dense n least [] x h = none n x
total-dense n least (c ∷ cs) x h =
    total_split n c.0 (dense (c ∷ cs) x) h.1
    ∙ ap₂ (λ s t. s +ℚ t) here (rest_same n c.0 (dense (c ∷ cs) x) (dense cs x) elsewhere ∙ sym left)
    ∙ ap (λ t. whole_ℚ c.1 *ℚ x c.0 +ℚ t) (total-dense n (suc c.0) cs x h.2)
  where
    here : dense (c ∷ cs) x c.0 ≡ whole_ℚ c.1 *ℚ x c.0
    here = ap (λ k. whole_ℚ k *ℚ x c.0) (coefficient-first c cs)

    elsewhere : (j : ℕ) → j < n → j ≢ c.0 → dense (c ∷ cs) x j ≡ dense cs x j
    elsewhere j l k = ap (λ t. whole_ℚ t *ℚ x j) (coefficient-other c cs j k)

    nothing : dense cs x c.0 ≡ 0ℚ
    nothing = ap (λ t. whole_ℚ t *ℚ x c.0) (coefficient-below n (suc c.0) cs c.0 h.2 (omega arith)) ∙ ap (λ t. t *ℚ x c.0) whole_zero ∙ zero-*ℚ (x c.0)

    left : total n (dense cs x) ≡ total n (zero_at c.0 (dense cs x))
    left = total_split n c.0 (dense cs x) h.1 ∙ ap (λ t. t +ℚ total n (zero_at c.0 (dense cs x))) nothing ∙ zero-+ℚ (total n (zero_at c.0 (dense cs x)))

pub combined-coefficients : (n : ℕ) (f : Form) (x : ℕ → ℚ) → IsForm n f → combined_total n (λ j. over (coefficient f.coefs j) 1) x ≡ combined_at f.coefs x
unfolding combined_total dense
combined-coefficients n f x h = total-dense n 0 f.coefs x (from-is_form n f h)

-- ---- forms of a path
pub form_at-value_at : (n : ℕ) (fs : List Form) (x : ℕ → ℚ) (i : ℕ) → AreForms n fs → i < length fs → form_at_point (system_of n fs) i x ≡ form_value_at (form fs i) x
unfolding form_at_point system_of form_value_at
form_at-value_at n fs x i h l = ap (λ t. t +ℚ whole_ℚ (form fs i).constant) (combined-coefficients n (form fs i) x (h i l))

pub met-system : (n : ℕ) (fs : List Form) (x : ℕ → ℚ) → AreForms n fs → MeetsSystem (system_of n fs) x → AreMet fs x
unfolding MeetsSystem system_of
met-system n fs x h m = All-from_get_or (λ f. is_negative_rational (form_value_at f x) ≡ false) fs (constant_form (pos 0)) (λ i l. sym (ap is_negative_rational (form_at-value_at n fs x i h l)) ∙ m i l)

all-forms : (vars : List Sort) (path : List Fact) → All (Suit vars) path → All (IsForm (length vars)) (forms path)
all-forms vars [] h = All-nil (IsForm (length vars))
all-forms vars (AtLeast f ∷ path) h = All-cons (IsForm (length vars)) f (forms path) (All-head (Suit vars) (AtLeast f) path h).0 (all-forms vars path (All-tail (Suit vars) (AtLeast f) path h))
all-forms vars (Is u b ∷ path) h = all-forms vars path (All-tail (Suit vars) (Is u b) path h)

-- the forms of a path are as the simplex method asks for
pub path-forms : (vars : List Sort) (path : List Fact) → IsPath vars path → AreForms (length vars) (forms path)
path-forms vars path p i l = All-get_or (IsForm (length vars)) (forms path) i (constant_form (pos 0)) l (all-forms vars path p.each)
