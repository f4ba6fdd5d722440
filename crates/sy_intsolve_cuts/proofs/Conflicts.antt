-- Multipliers by which the simplex method refutes the forms of a path combine them to a negative constant.
use Rattle.std.specs.Prelude.{◌≡◌, ℕ, zero, suc, ◌<◌, ◌≤◌, ◌+◌, Bool, true, false, cond, List, [], ◌∷◌, length, nat_lt}
use Rattle.std.proofs.Common.{refl, sym, ◌∙◌, ap, ap₂, arith, ltb-true, ltb-false}
use Rattle.sy_frac.specs.Fraction.{Fraction, IsLowest}
use Rattle.sy_frac.specs.Rational.{ℚ, 0ℚ, 1ℚ, ◌+ℚ◌, ◌*ℚ◌, value, is_negative_rational, +ℚ_cancel, +ℚ_comm, +ℚ_assoc, +ℚ_left_comm, +ℚ_zero, zero-+ℚ, *ℚ_zero, zero-*ℚ, *ℚ_one}
use Rattle.sy_linear_known.specs.declared.form.Form.{Form}
use Rattle.sy_linear_known.specs.Forms.{Coefficient}
use Rattle.sy_linear_known.specs.Systems.{form_at_point, IsRefutation}
use Rattle.sy_linear_known.specs.Total.{total, total-same, replaced, replaced_same, replaced_other}
use Rattle.sy_linear_known.specs.Points.{form_value_at}
use Rattle.sy_linear_known.specs.Trees.{whole_ℚ, Weight, plus_multiple, Combination, plus_form, combined_with, combination, rationals, AreMultipliers, AllZero, IsContradiction}
use Rattle.sy_linear_known.proofs.Refutation.{weights_at, combination_at, combination-plus_form}
use Rattle.sy_simplex.specs.Problems.{form, AreForms, system_of, numbers}
use Rattle.sy_simplex.specs.Rows.{AreLowest}
use Rattle.sy_intsolve_cuts.proofs.Dense.{From, from-is_form, form_at-value_at}

-- ---- the value of a combination
-- each form's value times its multiplier
pub sum_of : List ℚ → List Form → (ℕ → ℚ) → ℚ
sum_of [] fs x = 0ℚ
sum_of (m ∷ ms) [] x = 0ℚ
sum_of (m ∷ ms) (f ∷ fs) x = m *ℚ form_value_at f x +ℚ sum_of ms fs x

with_value : (c : Combination) (ms : List ℚ) (fs : List Form) (x : ℕ → ℚ) → combination_at (combined_with c ms fs) x ≡ sum_of ms fs x +ℚ combination_at c x
unfolding combined_with sum_of
with_value c [] fs x = sym (zero-+ℚ (combination_at c x))
with_value c (m ∷ ms) [] x = sym (zero-+ℚ (combination_at c x))
with_value c (m ∷ ms) (f ∷ fs) x =
    with_value (plus_form c m f) ms fs x
    ∙ ap (λ t. sum_of ms fs x +ℚ t) (combination-plus_form c m f x)
    ∙ regroup (sum_of ms fs x) (m *ℚ form_value_at f x) (combination_at c x)
  where
    regroup : (s a b : ℚ) → s +ℚ (a +ℚ b) ≡ (a +ℚ s) +ℚ b
    regroup s a b = simp (+ℚ_assoc, +ℚ_left_comm, +ℚ_comm)

pub combination_value : (ms : List ℚ) (fs : List Form) (x : ℕ → ℚ) → combination_at (combination ms fs) x ≡ sum_of ms fs x
unfolding combination_at weights_at
combination_value ms fs x = with_value (record { weights = []; constant = 0ℚ }) ms fs x ∙ ap (λ t. sum_of ms fs x +ℚ t) (+ℚ_zero 0ℚ) ∙ +ℚ_zero (sum_of ms fs x)

-- a sum by numbers of places, its first part apart
total-first : (n : ℕ) (f : ℕ → ℚ) → total (suc n) f ≡ f 0 +ℚ total n (λ i. f (suc i))
unfolding total
total-first zero f = +ℚ_comm 0ℚ (f 0)
total-first (suc n) f = ap (λ t. t +ℚ f (suc n)) (total-first n f) ∙ +ℚ_assoc (f 0) (total n (λ i. f (suc i))) (f (suc n))

sum-total : (ms : List Fraction) (fs : List Form) (x : ℕ → ℚ) → length ms ≡ length fs → total (length fs) (λ i. numbers ms i *ℚ form_value_at (form fs i) x) ≡ sum_of (rationals ms) fs x
unfolding sum_of total numbers
sum-total [] [] x e = refl
sum-total [] (f ∷ fs) x e = absurd (omega (arith, e))
sum-total (m ∷ ms) [] x e = absurd (omega (arith, e))
sum-total (m ∷ ms) (f ∷ fs) x e = total-first (length fs) (λ i. numbers (m ∷ ms) i *ℚ form_value_at (form (f ∷ fs) i) x) ∙ ap (λ t. value m *ℚ form_value_at f x +ℚ t) (sum-total ms fs x (omega (arith, e)))

-- ---- weights in ascending order
Rising : ℕ → List Weight → Type 0
Rising least [] = Unit {0}
Rising least (q ∷ qs) = (least ≤ q.0) × Rising (suc q.0) qs

rising-weaken : (m n : ℕ) (qs : List Weight) → m ≤ n → Rising n qs → Rising m qs
unfolding Rising
rising-weaken m n [] l h = tt
rising-weaken m n (q ∷ qs) l h = (omega (arith, l, h.0), h.1)

rising-plus_multiple : (n least : ℕ) (m : ℚ) (cs : List Coefficient) (qs : List Weight) → From n least cs → Rising least qs → Rising least (plus_multiple m cs qs)
unfolding Rising plus_multiple
rising-plus_multiple n least m [] qs h k = k
rising-plus_multiple n least m (c ∷ cs) [] h k = (h.0, rising-plus_multiple n (suc c.0) m cs [] h.2 tt)
rising-plus_multiple n least m (c ∷ cs) (q ∷ qs) h k = by (rising-plus_multiple n (suc c.0) m cs (q ∷ qs) h.2) (rising-plus_multiple n (suc q.0) m (c ∷ cs) qs) (rising-plus_multiple n (suc c.0) m cs qs h.2) (nat_lt c.0 q.0) (nat_lt q.0 c.0) refl refl
  where
    by : (Rising (suc c.0) (q ∷ qs) → Rising (suc c.0) (plus_multiple m cs (q ∷ qs))) → (From n (suc q.0) (c ∷ cs) → Rising (suc q.0) qs → Rising (suc q.0) (plus_multiple m (c ∷ cs) qs)) → (Rising (suc c.0) qs → Rising (suc c.0) (plus_multiple m cs qs)) → (a b : Bool) → nat_lt c.0 q.0 ≡ a → nat_lt q.0 c.0 ≡ b → Rising least (cond a ((c.0, m *ℚ whole_ℚ c.1) ∷ plus_multiple m cs (q ∷ qs)) (cond b (q ∷ plus_multiple m (c ∷ cs) qs) ((c.0, m *ℚ whole_ℚ c.1 +ℚ q.1) ∷ plus_multiple m cs qs)))
    by one two three true b e f = (h.0, one (omega (arith, ltb-true _ _ e), k.1))
    by one two three false true e f = (k.0, two (omega (arith, ltb-true _ _ f), h.1, h.2) k.1)
    by one two three false false e f = (h.0, three (rising-weaken (suc c.0) (suc q.0) qs (omega (arith, ltb-false _ _ e, ltb-false _ _ f)) k.1))

AllFrom : ℕ → List Form → Type 0
AllFrom n [] = Unit {0}
AllFrom n (f ∷ fs) = From n 0 f.coefs × AllFrom n fs

rising-with : (n : ℕ) (c : Combination) (ms : List ℚ) (fs : List Form) → AllFrom n fs → Rising 0 c.weights → Rising 0 (combined_with c ms fs).weights
unfolding combined_with AllFrom
rising-with n c [] fs h k = k
rising-with n c (m ∷ ms) [] h k = k
rising-with n c (m ∷ ms) (f ∷ fs) h k = rising-with n (plus_form c m f) ms fs h.1 (rising-plus_multiple n 0 m f.coefs c.weights h.0 k)

all-from : (n : ℕ) (fs : List Form) → AreForms n fs → AllFrom n fs
unfolding AllFrom
all-from n [] h = tt
all-from n (f ∷ fs) h = (from-is_form n f (h 0 (omega arith)), all-from n fs (λ i l. h (suc i) (omega (arith, l))))

-- ---- a combination that is one number at every point has no weight
-- 1 at one variable, 0 at all others
unit : ℕ → ℕ → ℚ
unit j = replaced j 1ℚ (λ i. 0ℚ)

zero_term : (w : ℚ) (x : ℚ) (r : ℚ) → x ≡ 0ℚ → r ≡ 0ℚ → w *ℚ x +ℚ r ≡ 0ℚ
zero_term w x r e f = ap₂ (λ s t. w *ℚ s +ℚ t) e f ∙ +ℚ_zero (w *ℚ 0ℚ) ∙ *ℚ_zero w

weights_at-zero : (qs : List Weight) → weights_at qs (λ i. 0ℚ) ≡ 0ℚ
unfolding weights_at
weights_at-zero [] = refl
weights_at-zero (q ∷ qs) = zero_term q.1 0ℚ (weights_at qs (λ i. 0ℚ)) refl (weights_at-zero qs)

weights_at-above : (least j : ℕ) (qs : List Weight) → Rising least qs → j < least → weights_at qs (unit j) ≡ 0ℚ
unfolding weights_at Rising unit
weights_at-above least j [] h l = refl
weights_at-above least j (q ∷ qs) h l =
    let first = h.0 in
    zero_term q.1 (unit j q.0) (weights_at qs (unit j)) (replaced_other j q.0 1ℚ (λ i. 0ℚ) (λ e. omega (arith, l, first, e))) (weights_at-above (suc q.0) j qs h.1 (omega (arith, l, first)))

zero-weights : (least : ℕ) (qs : List Weight) → Rising least qs → ((x : ℕ → ℚ) → weights_at qs x ≡ 0ℚ) → AllZero qs
unfolding weights_at Rising unit
zero-weights least [] h k = tt
zero-weights least (q ∷ qs) h k = (first, zero-weights (suc q.0) qs h.1 rest)
  where
    first : q.1 ≡ 0ℚ
    first =
        sym (ap₂ (λ s t. q.1 *ℚ s +ℚ t) (replaced_same q.0 1ℚ (λ i. 0ℚ)) (weights_at-above (suc q.0) q.0 qs h.1 (omega arith)) ∙ +ℚ_zero (q.1 *ℚ 1ℚ) ∙ *ℚ_one q.1)
        ∙ k (unit q.0)

    rest : (x : ℕ → ℚ) → weights_at qs x ≡ 0ℚ
    rest x = sym (ap (λ t. t *ℚ x q.0 +ℚ weights_at qs x) first ∙ ap (λ t. t +ℚ weights_at qs x) (zero-*ℚ (x q.0)) ∙ zero-+ℚ (weights_at qs x)) ∙ k x

-- ---- what refutes a path's forms
multipliers : (ms : List Fraction) (fs : List Form) → length ms ≡ length fs → AreLowest ms → ((i : ℕ) → i < length fs → is_negative_rational (numbers ms i) ≡ false) → AreMultipliers ms fs
unfolding numbers
multipliers [] [] e l n = tt
multipliers [] (f ∷ fs) e l n = absurd (omega (arith, e))
multipliers (m ∷ ms) [] e l n = absurd (omega (arith, e))
multipliers (m ∷ ms) (f ∷ fs) e l n =
    let first : IsLowest m = l 0 (omega arith) in
    (first.positive, n 0 (omega arith), multipliers ms fs (omega (arith, e)) (λ i k. l (suc i) (omega (arith, k))) (λ i k. n (suc i) (omega (arith, k))))

pub refutation-contradiction : (n : ℕ) (fs : List Form) (ms : List Fraction) → AreForms n fs → length ms ≡ length fs → AreLowest ms → IsRefutation (system_of n fs) (numbers ms) → IsContradiction ms fs
unfolding system_of combination_at Rising
refutation-contradiction n fs ms h e l r = record {
  multipliers = multipliers ms fs e l r.not_negative;
  zero = zero-weights 0 whole.weights (rising-with n (record { weights = []; constant = 0ℚ }) (rationals ms) fs (all-from n fs h) nothing_rises) none;
  negative = ap is_negative_rational constant ∙ r.negative;
}
  where
    whole : Combination
    whole = combination (rationals ms) fs

    nothing_rises : Rising 0 []
    nothing_rises = tt

    value_is : (x : ℕ → ℚ) → weights_at whole.weights x +ℚ whole.constant ≡ r.constant
    value_is x =
        combination_value (rationals ms) fs x
        ∙ sym (sum-total ms fs x e)
        ∙ sym (total-same (length fs) (λ i. numbers ms i *ℚ form_at_point (system_of n fs) i x) (λ i. numbers ms i *ℚ form_value_at (form fs i) x) (λ i k. ap (λ t. numbers ms i *ℚ t) (form_at-value_at n fs x i h k)))
        ∙ r.combines x

    constant : whole.constant ≡ r.constant
    constant = sym (ap (λ t. t +ℚ whole.constant) (weights_at-zero whole.weights) ∙ zero-+ℚ whole.constant) ∙ value_is (λ i. 0ℚ)

    none : (x : ℕ → ℚ) → weights_at whole.weights x ≡ 0ℚ
    none x = +ℚ_cancel (weights_at whole.weights x) 0ℚ whole.constant (value_is x ∙ sym constant ∙ sym (zero-+ℚ whole.constant))
