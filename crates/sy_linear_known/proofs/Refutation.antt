-- A query that a tree refutes is satisfied by no assignment.
use Rattle.std.specs.Prelude.{◌≡◌, ℕ, zero, suc, ◌≤ℤ◌, ◌*◌, Bool, true, false, cond, List, [], ◌∷◌, ◌++◌, nat_lt, ℤ, pos, negsuc, ◌+ℤ◌, ◌-ℤ◌, ◌*ℤ◌, neg_ℤ, slice_get, Some}
use Rattle.std.specs.Ordering.{int_eq}
use Rattle.std.specs.Cmp.{signed_Decides}
use Rattle.std.proofs.Common.{refl, sym, ◌∙◌, ap, ap₂, subst, arith, inl, inr, ◌⊎◌}
use Rattle.std.proofs.lemmas.Bool.{ltb-false}
use Rattle.std.proofs.Math.IntN.{*ℤ-zero, zero-*ℤ, +ℤ_idl}
use borrow.Author.Differences.{ints, same_in, product_is, neg_is, at_most_in}
use Rattle.sy_frac.specs.Fraction.{Fraction}
use Rattle.sy_frac.specs.Rational.{ℚ, value, 0ℚ, ◌+ℚ◌, ◌*ℚ◌, over, is_negative_rational, not_negative_plus, not_negative_times, zero_not_negative, zero-*ℚ, *ℚ_zero, +ℚ_zero, zero-+ℚ, +ℚ_cancel, whole_not_negative, *ℚ-+ℚ, +ℚ-*ℚ, *ℚ_assoc, +ℚ_assoc, +ℚ_comm, +ℚ_left_comm, sum_over_is, product_over_is}
use Rattle.sy_terms.specs.Values.{Val, Truth, Whole, Bits, truth}
use Rattle.sy_terms.specs.Meaning.{value_at_position, meaning}
use Rattle.sy_terms.specs.declared.sort.Sort.{Sort}
use Rattle.sy_terms.specs.declared.sort.Sort.TheVariants as sorts
use Rattle.sy_linear_known.specs.declared.form.Form.{Form}
use Rattle.sy_linear_known.specs.Forms.{Coefficient, combined, form_value, before, form_negation}
use Rattle.sy_linear_known.specs.Laws.{distributes_left, times_assoc, value-negation, either}
use Rattle.sy_linear_known.specs.declared.path.Fact.{Fact}
use Rattle.sy_linear_known.specs.declared.path.Fact.TheVariants.{AtLeast, Is}
use Rattle.sy_linear_known.specs.declared.path.Test.TheVariants as test
use Rattle.sy_linear_known.specs.declared.answer.Known.TheVariants as known
use Rattle.sy_linear_known.specs.Paths.{number_in, form_at, FactHolds, MeetsPath}
use Rattle.sy_linear_known.specs.Seen.{LinearQuery}
use Rattle.sy_linear_known.specs.Right.{Assigns, KnownIsRight}
use Rattle.sy_linear_known.specs.Points.{combined_at, form_value_at}
use Rattle.sy_linear_known.specs.Trees.{TreeShape, Split, Branch, Cut, Farkas, Shown, Unfinished, at_or_below, forms, whole_ℚ, Weight, plus_multiple, Combination, plus_form, combined_with, combination, rationals, AreMultipliers, AllZero, AreMultiples, IsCut, IsContradiction, TreeRefutes}
use Rattle.sy_linear_known.proofs.Agreement.{known_right}

-- ---- paths
pub meets_last : (values : List Val) (path : List Fact) (fact : Fact) → MeetsPath values path → FactHolds values fact → MeetsPath values (path ++ fact ∷ [])
meets_last values [] fact m h = (h, tt)
meets_last values (first ∷ path) fact m h = (m.0, meets_last values path fact m.1 h)

in_case : {A B C : Type 0} → (A → C) → (B → C) → A ⊎ B → C
in_case f g (inl a) = f a
in_case f g (inr b) = g b

truth_at : (vars : List Sort) (values : List Val) (i : ℕ) → Assigns vars values → slice_get vars i ≡ Some sorts.Bool → (value_at_position values i ≡ Truth true) ⊎ (value_at_position values i ≡ Truth false)
truth_at [] values i h e = absurd cc
truth_at (sorts.Bool ∷ vars) [] i h e = absurd h
truth_at (sorts.Bool ∷ vars) (Whole z ∷ values) i h e = absurd h
truth_at (sorts.Bool ∷ vars) (Bits w n ∷ values) i h e = absurd h
truth_at (sorts.Int ∷ vars) [] i h e = absurd h
truth_at (sorts.Int ∷ vars) (Truth b ∷ values) i h e = absurd h
truth_at (sorts.Int ∷ vars) (Bits w n ∷ values) i h e = absurd h
truth_at (sorts.Bits w ∷ vars) values i h e = absurd h
truth_at (sorts.Bool ∷ vars) (Truth true ∷ values) zero h e = inl refl
truth_at (sorts.Bool ∷ vars) (Truth false ∷ values) zero h e = inr refl
truth_at (sorts.Int ∷ vars) (Whole z ∷ values) zero h e = absurd cc
truth_at (sorts.Bool ∷ vars) (Truth b ∷ values) (suc i) h e = truth_at vars values i h e
truth_at (sorts.Int ∷ vars) (Whole z ∷ values) (suc i) h e = truth_at vars values i h e

AllAtLeast : List Val → List Form → Type 0
AllAtLeast values [] = Unit {0}
AllAtLeast values (f ∷ fs) = (pos 0 ≤ℤ form_at values f) × AllAtLeast values fs

forms_met : (values : List Val) (path : List Fact) → MeetsPath values path → AllAtLeast values (forms path)
unfolding AllAtLeast
forms_met values [] m = tt
forms_met values (AtLeast f ∷ path) m = (m.0, forms_met values path m.1)
forms_met values (Is u b ∷ path) m = forms_met values path m.1

-- ---- combinations at whole numbers
times_one : (m : ℤ) → m *ℤ pos 1 ≡ m
times_one m = let k : _ = product_is m (pos 1) in same_in (m *ℤ pos 1) m (omega (arith, k.0, k.1))

pub whole_plus : (a b : ℤ) → whole_ℚ (a +ℤ b) ≡ whole_ℚ a +ℚ whole_ℚ b
whole_plus a b = sym (sum_over_is a b 1 1 (omega arith) (omega arith) ∙ ap₂ (λ x y. over (x +ℤ y) 1) (times_one a) (times_one b))

pub whole_times : (a b : ℤ) → whole_ℚ (a *ℤ b) ≡ whole_ℚ a *ℚ whole_ℚ b
whole_times a b = sym (product_over_is a b 1 1 (omega arith) (omega arith))

-- a combination's value without its constant
unfoldable pub weights_at : List Weight → (ℕ → ℚ) → ℚ
weights_at [] x = 0ℚ
weights_at (q ∷ qs) x = q.1 *ℚ x q.0 +ℚ weights_at qs x

all_zero : (qs : List Weight) (x : ℕ → ℚ) → AllZero qs → weights_at qs x ≡ 0ℚ
unfolding weights_at
all_zero [] x h = refl
all_zero (q ∷ qs) x h = ap₂ (λ p r. p *ℚ x q.0 +ℚ r) h.0 (all_zero qs x h.1) ∙ ap (λ p. p +ℚ 0ℚ) (zero-*ℚ (x q.0)) ∙ +ℚ_zero 0ℚ

pub whole_zero : whole_ℚ (pos 0) ≡ 0ℚ
whole_zero = +ℚ_cancel (whole_ℚ (pos 0)) 0ℚ (whole_ℚ (pos 0)) (sym (whole_plus (pos 0) (pos 0)) ∙ sym (zero-+ℚ (whole_ℚ (pos 0))))

nothing : (m x : ℚ) → x ≡ m *ℚ 0ℚ +ℚ x
nothing m x = sym (ap (λ t. t +ℚ x) (*ℚ_zero m) ∙ zero-+ℚ x)

-- a product's place in a sum
first_left : (m c x s r : ℚ) → (m *ℚ c) *ℚ x +ℚ (m *ℚ s +ℚ r) ≡ m *ℚ (c *ℚ x +ℚ s) +ℚ r
first_left m c x s r = ap₂ (λ p q. p +ℚ q) (*ℚ_assoc m c x) refl ∙ sym (+ℚ_assoc (m *ℚ (c *ℚ x)) (m *ℚ s) r) ∙ ap (λ p. p +ℚ r) (sym (*ℚ-+ℚ m (c *ℚ x) s))

first_right : (m s p r : ℚ) → p +ℚ (m *ℚ s +ℚ r) ≡ m *ℚ s +ℚ (p +ℚ r)
first_right m s p r = +ℚ_left_comm p (m *ℚ s) r

step : (m c q x s r : ℚ) → (m *ℚ c +ℚ q) *ℚ x +ℚ (m *ℚ s +ℚ r) ≡ m *ℚ (c *ℚ x +ℚ s) +ℚ (q *ℚ x +ℚ r)
step m c q x s r = rw (+ℚ-*ℚ (m *ℚ c) q x, *ℚ-+ℚ m (c *ℚ x) s, *ℚ_assoc m c x) (simp (+ℚ_assoc, +ℚ_left_comm, +ℚ_comm))

-- a multiple of coefficients more
pub weights-plus_multiple : (m : ℚ) (cs : List Coefficient) (qs : List Weight) (x : ℕ → ℚ) → weights_at (plus_multiple m cs qs) x ≡ m *ℚ combined_at cs x +ℚ weights_at qs x
unfolding combined_at weights_at plus_multiple
weights-plus_multiple m [] qs x = nothing m (weights_at qs x)
weights-plus_multiple m (c ∷ cs) [] x =
    ap (λ t. (m *ℚ whole_ℚ c.1) *ℚ x c.0 +ℚ t) (weights-plus_multiple m cs [] x)
    ∙ first_left m (whole_ℚ c.1) (x c.0) (combined_at cs x) 0ℚ
weights-plus_multiple m (c ∷ cs) (q ∷ qs) x = by (weights-plus_multiple m cs (q ∷ qs) x) (weights-plus_multiple m (c ∷ cs) qs x) (weights-plus_multiple m cs qs x) (nat_lt c.0 q.0) (nat_lt q.0 c.0) refl refl
  where
    by : weights_at (plus_multiple m cs (q ∷ qs)) x ≡ m *ℚ combined_at cs x +ℚ weights_at (q ∷ qs) x → weights_at (plus_multiple m (c ∷ cs) qs) x ≡ m *ℚ combined_at (c ∷ cs) x +ℚ weights_at qs x → weights_at (plus_multiple m cs qs) x ≡ m *ℚ combined_at cs x +ℚ weights_at qs x → (a b : Bool) → nat_lt c.0 q.0 ≡ a → nat_lt q.0 c.0 ≡ b → weights_at (cond a ((c.0, m *ℚ whole_ℚ c.1) ∷ plus_multiple m cs (q ∷ qs)) (cond b (q ∷ plus_multiple m (c ∷ cs) qs) ((c.0, m *ℚ whole_ℚ c.1 +ℚ q.1) ∷ plus_multiple m cs qs))) x ≡ m *ℚ combined_at (c ∷ cs) x +ℚ weights_at (q ∷ qs) x
    by one two three true b e f =
        ap (λ t. (m *ℚ whole_ℚ c.1) *ℚ x c.0 +ℚ t) one
        ∙ first_left m (whole_ℚ c.1) (x c.0) (combined_at cs x) (weights_at (q ∷ qs) x)
    by one two three false true e f =
        ap (λ t. q.1 *ℚ x q.0 +ℚ t) two
        ∙ first_right m (combined_at (c ∷ cs) x) (q.1 *ℚ x q.0) (weights_at qs x)
    by one two three false false e f =
        let same : c.0 ≡ q.0 = omega (arith, ltb-false _ _ e, ltb-false _ _ f) in
        ap (λ t. (m *ℚ whole_ℚ c.1 +ℚ q.1) *ℚ x c.0 +ℚ t) three
        ∙ step m (whole_ℚ c.1) q.1 (x c.0) (combined_at cs x) (weights_at qs x)
        ∙ ap (λ t. m *ℚ combined_at (c ∷ cs) x +ℚ (q.1 *ℚ x t +ℚ weights_at qs x)) same

regroup : (m a s k c : ℚ) → (m *ℚ a +ℚ s) +ℚ (m *ℚ k +ℚ c) ≡ m *ℚ (a +ℚ k) +ℚ (s +ℚ c)
regroup m a s k c = rw (*ℚ-+ℚ m a k) (simp (+ℚ_assoc, +ℚ_left_comm, +ℚ_comm))

-- a combination's value
unfoldable pub combination_at : Combination → (ℕ → ℚ) → ℚ
combination_at c x = weights_at c.weights x +ℚ c.constant

pub combination-plus_form : (c : Combination) (m : ℚ) (f : Form) (x : ℕ → ℚ) → combination_at (plus_form c m f) x ≡ m *ℚ form_value_at f x +ℚ combination_at c x
unfolding combination_at form_value_at
combination-plus_form c m f x =
    ap (λ t. t +ℚ (m *ℚ whole_ℚ f.constant +ℚ c.constant)) (weights-plus_multiple m f.coefs c.weights x)
    ∙ regroup m (combined_at f.coefs x) (weights_at c.weights x) (whole_ℚ f.constant) c.constant

-- at whole numbers a form's value is that of the whole numbers
pub whole-combined_at : (cs : List Coefficient) (x : ℕ → ℤ) → combined_at cs (λ i. whole_ℚ (x i)) ≡ whole_ℚ (combined cs x)
unfolding combined combined_at
whole-combined_at [] x = sym whole_zero
whole-combined_at (c ∷ cs) x = ap₂ (λ s t. s +ℚ t) (sym (whole_times c.1 (x c.0))) (whole-combined_at cs x) ∙ sym (whole_plus (c.1 *ℤ x c.0) (combined cs x))

pub whole-value_at : (f : Form) (x : ℕ → ℤ) → form_value_at f (λ i. whole_ℚ (x i)) ≡ whole_ℚ (form_value f x)
unfolding form_value_at form_value
whole-value_at f x = ap (λ t. t +ℚ whole_ℚ f.constant) (whole-combined_at f.coefs x) ∙ sym (whole_plus (combined f.coefs x) f.constant)

-- the numbers of an assignment
abbrev wholes : List Val → ℕ → ℚ
wholes values i = whole_ℚ (number_in values i)

-- a combination that is at least 0 stays so with a multiple of a form that is
form_met : (values : List Val) (c : Combination) (m : ℚ) (f : Form) → is_negative_rational m ≡ false → pos 0 ≤ℤ form_at values f → is_negative_rational (combination_at c (wholes values)) ≡ false → is_negative_rational (combination_at (plus_form c m f) (wholes values)) ≡ false
form_met values c m f h k rest =
    ap is_negative_rational (combination-plus_form c m f (wholes values) ∙ ap (λ t. m *ℚ t +ℚ combination_at c (wholes values)) (whole-value_at f (number_in values)))
    ∙ not_negative_plus (m *ℚ whole_ℚ (form_at values f)) _ (not_negative_times m (whole_ℚ (form_at values f)) h (whole_not_negative (form_at values f) k)) rest

all_met : (values : List Val) (c : Combination) (ms : List Fraction) (fs : List Form) → AreMultipliers ms fs → AllAtLeast values fs → is_negative_rational (combination_at c (wholes values)) ≡ false → is_negative_rational (combination_at (combined_with c (rationals ms) fs) (wholes values)) ≡ false
unfolding AllAtLeast combined_with
all_met values c [] [] h m k = k
all_met values c [] (f ∷ fs) h m k = absurd h
all_met values c (q ∷ ms) [] h m k = absurd h
all_met values c (q ∷ ms) (f ∷ fs) h m k = all_met values (plus_form c (value q) f) ms fs h.2 m.1 (form_met values c (value q) f h.1 m.0 k)

-- where the forms are at least 0, so is their combination
combination_met : (values : List Val) (ms : List Fraction) (fs : List Form) → AreMultipliers ms fs → AllAtLeast values fs → is_negative_rational (weights_at (combination (rationals ms) fs).weights (wholes values) +ℚ (combination (rationals ms) fs).constant) ≡ false
unfolding combination_at weights_at
combination_met values ms fs h m = all_met values (record { weights = []; constant = 0ℚ }) ms fs h m (ap is_negative_rational (+ℚ_zero 0ℚ) ∙ zero_not_negative)

pub product_not_negative : (d x : ℤ) → pos 1 ≤ℤ d → pos 0 ≤ℤ x → pos 0 ≤ℤ (d *ℤ x)
product_not_negative (pos d) (pos x) h k = at_most_in (pos 0) (pos (d * x)) (omega arith)
product_not_negative (pos d) (negsuc x) h k = absurd (omega (arith, ints, k))
product_not_negative (negsuc d) x h k = absurd (omega (arith, ints, h))

disagree : true ≡ false → ⊥
disagree e = cc

contradicts : (values : List Val) (ms : List Fraction) (fs : List Form) → IsContradiction ms fs → AllAtLeast values fs → ⊥
contradicts values ms fs c m =
    let whole : Combination = combination (rationals ms) fs in
    disagree (sym c.negative ∙ ap is_negative_rational (sym (ap (λ t. t +ℚ whole.constant) (all_zero whole.weights (wholes values) c.zero) ∙ zero-+ℚ whole.constant)) ∙ combination_met values ms fs c.multipliers m)

-- ---- rounding cuts
combined-before : (i : ℕ) (c : ℤ) (cs : List Coefficient) (x : ℕ → ℤ) → combined (before i c cs) x ≡ c *ℤ x i +ℤ combined cs x
unfolding combined
combined-before i c cs x = by (int_eq c (pos 0)) refl
  where
    by : (b : Bool) → int_eq c (pos 0) ≡ b → combined (cond b cs ((i, c) ∷ cs)) x ≡ c *ℤ x i +ℤ combined cs x
    by true e = sym (ap (λ k. k *ℤ x i +ℤ combined cs x) ((signed_Decides c (pos 0)).0 e) ∙ ap (λ k. k +ℤ combined cs x) (zero-*ℤ (x i)) ∙ +ℤ_idl (combined cs x))
    by false e = refl

multiples_value : (d : ℤ) (qs : List Weight) (es : List Coefficient) (x : ℕ → ℤ) → AreMultiples d qs es → weights_at qs (λ i. whole_ℚ (x i)) ≡ whole_ℚ (d *ℤ combined es x)
unfolding combined weights_at
multiples_value d [] es x h = sym (ap (λ cs. whole_ℚ (d *ℤ combined cs x)) h ∙ ap whole_ℚ (*ℤ-zero d) ∙ whole_zero)
multiples_value d (q ∷ qs) es x h =
    let k : ℤ = h.0 in
    let rest : List Coefficient = h.1.0 in
    ap₂ (λ p r. p *ℚ whole_ℚ (x q.0) +ℚ r) h.1.1.0 (multiples_value d qs rest x h.1.1.2)
    ∙ ap (λ t. t +ℚ whole_ℚ (d *ℤ combined rest x)) (sym (whole_times (d *ℤ k) (x q.0)) ∙ ap whole_ℚ (times_assoc d k (x q.0)))
    ∙ sym (whole_plus (d *ℤ (k *ℤ x q.0)) (d *ℤ combined rest x))
    ∙ ap whole_ℚ (sym (distributes_left d (k *ℤ x q.0) (combined rest x)))
    ∙ ap (λ t. whole_ℚ (d *ℤ t)) (sym (ap (λ cs. combined cs x) h.1.1.1 ∙ combined-before q.0 k rest x))

times_neg : (d y : ℤ) → d *ℤ neg_ℤ y ≡ neg_ℤ (d *ℤ y)
times_neg d y =
    let a : _ = product_is d (neg_ℤ y) in
    let b : _ = product_is d y in
    let n : _ = neg_is y in
    let o : _ = neg_is (d *ℤ y) in
    same_in (d *ℤ neg_ℤ y) (neg_ℤ (d *ℤ y)) (rw (a.0, a.1, n.0, n.1, o.0, o.1, b.0, b.1) (omega arith))

apart : (d x k : ℤ) → neg_ℤ (d *ℤ (k +ℤ pos 1)) ≡ d *ℤ x +ℤ d *ℤ (neg_ℤ (x +ℤ k) -ℤ pos 1)
apart d x k = sym (times_neg d (k +ℤ pos 1)) ∙ ap (λ t. d *ℤ t) (same_in (neg_ℤ (k +ℤ pos 1)) (x +ℤ (neg_ℤ (x +ℤ k) -ℤ pos 1)) (omega (arith, ints))) ∙ distributes_left d x (neg_ℤ (x +ℤ k) -ℤ pos 1)

cut_holds : (values : List Val) (ms : List Fraction) (d : ℤ) (fs : List Form) (e : Form) → IsCut ms d fs e → AllAtLeast values fs → pos 0 ≤ℤ form_at values e
unfolding form_value
cut_holds values ms d fs e c m = in_case (λ h. h) (λ h. absurd (disagree (sym c.next ∙ ap is_negative_rational (below_one h) ∙ not_negative_plus (weights_at qs (wholes values) +ℚ k) _ (combination_met values ms fs c.multipliers m) (whole_not_negative (d *ℤ gap) (product_not_negative d gap c.positive h))))) (either (x +ℤ e.constant))
  where
    qs : List Weight
    qs = (combination (rationals ms) fs).weights

    k : ℚ
    k = (combination (rationals ms) fs).constant

    x : ℤ
    x = combined e.coefs (number_in values)

    gap : ℤ
    gap = neg_ℤ (x +ℤ e.constant) -ℤ pos 1

    below_one : pos 0 ≤ℤ gap → k +ℚ whole_ℚ (neg_ℤ (d *ℤ (e.constant +ℤ pos 1))) ≡ (weights_at qs (wholes values) +ℚ k) +ℚ whole_ℚ (d *ℤ gap)
    below_one h =
        ap (λ t. k +ℚ t) (ap whole_ℚ (apart d x e.constant) ∙ whole_plus (d *ℤ x) (d *ℤ gap))
        ∙ sym (+ℚ_assoc k (whole_ℚ (d *ℤ x)) (whole_ℚ (d *ℤ gap)))
        ∙ ap (λ t. t +ℚ whole_ℚ (d *ℤ gap)) (+ℚ_comm k (whole_ℚ (d *ℤ x)) ∙ ap (λ t. t +ℚ k) (sym (multiples_value d qs e.coefs (number_in values) c.multiples)))

-- ---- trees
-- a query that a tree refutes under a path is false at every assignment that meets it
pub refuted : (q : LinearQuery) (path : List Fact) (t : TreeShape) → TreeRefutes q path t → (values : List Val) → Assigns q.vars values → MeetsPath values path → truth (meaning [] [] values q.body) ≡ false
refuted q path (Split (test.AtLeast f) left right) r values a m =
    in_case (λ h. refuted q (path ++ AtLeast f ∷ []) left r.1 values a (meets_last values path (AtLeast f) m h))
    (λ h. refuted q (path ++ AtLeast (form_negation f) ∷ []) right r.2 values a (meets_last values path (AtLeast (form_negation f)) m (subst (λ x. pos 0 ≤ℤ x) (sym (value-negation f (number_in values))) h)))
    (either (form_at values f))
refuted q path (Split (test.Holds u) left right) r values a m =
    in_case (λ h. refuted q (path ++ Is u true ∷ []) left r.1 values a (meets_last values path (Is u true) m h))
    (λ h. refuted q (path ++ Is u false ∷ []) right r.2 values a (meets_last values path (Is u false) m h))
    (truth_at q.vars values u a r.0)
refuted q path (Branch i bound left right) r values a m =
    let f : Form = at_or_below i bound in
    in_case (λ h. refuted q (path ++ AtLeast f ∷ []) left r.1 values a (meets_last values path (AtLeast f) m h))
    (λ h. refuted q (path ++ AtLeast (form_negation f) ∷ []) right r.2 values a (meets_last values path (AtLeast (form_negation f)) m (subst (λ x. pos 0 ≤ℤ x) (sym (value-negation f (number_in values))) h)))
    (either (form_at values f))
refuted q path (Cut ms d inner) r values a m =
    refuted q (path ++ AtLeast r.0 ∷ []) inner r.1.1 values a (meets_last values path (AtLeast r.0) m (cut_holds values ms d (forms path) r.0 r.1.0 (forms_met values path m)))
refuted q path (Farkas ms) r values a m = absurd (contradicts values ms (forms path) r (forms_met values path m))
refuted q path Shown r values a m =
    let right : KnownIsRight q path known.False = subst (λ k. KnownIsRight q path k) r (known_right q path) in
    ap truth (right values a m)
refuted q path Unfinished r values a m = absurd r

-- a query that a tree refutes is satisfied by no assignment
pub never_satisfied : (q : LinearQuery) (t : TreeShape) → TreeRefutes q [] t → (values : List Val) → Assigns q.vars values → truth (meaning [] [] values q.body) ≡ false
never_satisfied q t r values a = refuted q [] t r values a tt
