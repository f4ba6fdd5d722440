-- A tree that is rejected doesn't refute the query.
use Rattle.std.specs.Prelude.{◌≡◌, ◌≢◌, ℕ, zero, suc, ◌<◌, ◌+◌, ◌*◌, ◌≤ℤ◌, Bool, true, false, cond, not, ◌&&◌, List, [], ◌∷◌, ◌++◌, length, ℤ, pos, negsuc, ◌+ℤ◌, ◌-ℤ◌, ◌*ℤ◌, neg_ℤ, unsigned_abs, int_le, int_lt, nat_eq, nat_lt, slice_get, Option, Some, None}
use Rattle.std.specs.List.{list_all}
use Rattle.std.specs.Ordering.{int_eq}
use Rattle.std.specs.Cmp.{signed_Decides, unsigned_Decides}
use Rattle.std.proofs.Common.{refl, sym, ◌∙◌, ap, ap₂, subst, arith, inl, inr, ◌⊎◌}
use Rattle.std.specs.Int.{◌∣◌}
use Rattle.std.proofs.lemmas.Bool.{lt-ltb, le-leb}
use Rattle.std.proofs.lemmas.Nat.Gcd.{dvd_refl}
use Rattle.std.proofs.Math.Nat.{dvd-mul_right, eq-one_of_dvd-one}
use Rattle.std.proofs.Math.IntN.{*ℤ-zero, *ℤ_comm}
use borrow.Author.Differences.{ints, same_in, at_most_in}
use Rattle.sy_frac.specs.Fraction.{Fraction, IsLowest}
use Rattle.sy_frac.specs.Rational.{ℚ, 0ℚ, ◌+ℚ◌, ◌*ℚ◌, over, value, is_negative_rational, over_negative, sum_over_is, product_over_is, zero_not_negative, not_negative_plus, whole_not_negative, +ℚ_assoc, zero-*ℚ, one-*ℚ, *ℚ_assoc, over_same, one_over}
use Rattle.sy_frac.proofs.Quotients.{product_nonzero, abs-product}
use Rattle.sy_frac.specs.Kinds.{is_multiplier}
use Rattle.sy_terms.specs.declared.sort.Sort.{Sort}
use Rattle.sy_linear_known.specs.declared.form.Form.{Form}
use Rattle.sy_linear_known.specs.Forms.{Coefficient, before, form_negation}
use Rattle.sy_linear_known.specs.Laws.{distributes_left, either}
use Rattle.sy_linear_known.specs.declared.path.Fact.{Fact}
use Rattle.sy_linear_known.specs.declared.path.Fact.TheVariants.{AtLeast}
use Rattle.sy_linear_known.specs.declared.path.Test.{Test}
use Rattle.sy_linear_known.specs.declared.path.Test.TheVariants as test
use Rattle.sy_linear_known.specs.declared.answer.Known.{Known}
use Rattle.sy_linear_known.specs.declared.answer.Known.TheVariants as known
use Rattle.sy_linear_known.specs.Seen.{LinearQuery, query_known}
use Rattle.sy_linear_known.specs.Trees as tree
use Rattle.sy_linear_known.specs.Trees.{TreeShape, Split, Branch, Cut, Farkas, Shown, Unfinished, added_fact, opposite_fact, at_or_below, forms, whole_ℚ, Weight, rationals, AreMultipliers, AllZero, AreMultiples, OverIntegers, TestSuits, TreeRefutes, IsCut, IsContradiction}
use Rattle.sy_linear_known.proofs.Refutation.{whole_plus, whole_zero, product_not_negative}
use Rattle.sy_linear.specs.declared.combination.Share.{Share}
use Rattle.sy_linear.specs.declared.combination.Combination.{Combination}
use Rattle.sy_linear.specs.Exact.{over_whole, is_whole, floor}
use Rattle.sy_linear.specs.Combining.{are_multipliers, share_before, checked_combination, is_zero, is_negative_constant, of_parts, divided_shares, divided, has_whole_weight, numerators, rounded}
use Rattle.sy_linear.specs.Judging.{Judgement, Accepted, Broken, Unfit, Adds, Fails, Leaves, judged_in_turn, after_node, size, is_int, is_bool, has_int, suits, opposite_fits, rounded_outcome, added_form, divided_combination, of_combination, shown_judged, judged}
use Rattle.sy_linear.proofs.Accepting.{Means, MeansIf, combination_means, weights_of, AllPositive, Divides, over_whole_divides, some_same, whole_times, negative_times, times_neg, cut}

disagree : true ≡ false → ⊥
disagree e = cc

and_true : (a b : Bool) → a ≡ true → b ≡ true → (a && b) ≡ true
and_true true b e f = f
and_true false b e f = absurd cc

-- ---- numbers
-- a fraction of value 0 has the numerator 0
zero_over : (n : ℤ) (d : ℕ) → 0 < d → over n d ≡ 0ℚ → n ≡ pos 0
zero_over (pos zero) d p e = refl
zero_over (pos (suc k)) d p e =
    let h : int_lt (pos (suc k) *ℤ negsuc 0) (pos 0) ≡ true = negative_times (pos (suc k)) (negsuc 0) (at_most_in (pos 1) (pos (suc k)) (omega arith)) (omega arith) in
    absurd (disagree (sym h ∙ sym (over_negative (pos (suc k) *ℤ negsuc 0) (d * 1)) ∙ sym (ap is_negative_rational (product_over_is (pos (suc k)) (negsuc 0) d 1 p (omega arith))) ∙ ap (λ x. is_negative_rational (x *ℚ over (negsuc 0) 1)) e ∙ ap is_negative_rational (zero-*ℚ (over (negsuc 0) 1)) ∙ zero_not_negative))
zero_over (negsuc k) d p e = absurd (disagree (sym (over_negative (negsuc k) d) ∙ ap is_negative_rational e ∙ zero_not_negative))

gone : (a : ℤ) → a +ℤ neg_ℤ a ≡ pos 0
gone a = same_in _ _ (omega (arith, ints))

equal_by : (a b : ℤ) → a +ℤ neg_ℤ b ≡ pos 0 → a ≡ b
equal_by a b e = same_in a b (omega (arith, ints, e))

-- whole numbers of one value are equal
whole_same : (a b : ℤ) → whole_ℚ a ≡ whole_ℚ b → a ≡ b
whole_same a b e = equal_by a b (zero_over (a +ℤ neg_ℤ b) 1 (omega arith) (whole_plus a (neg_ℤ b) ∙ ap (λ x. x +ℚ whole_ℚ (neg_ℤ b)) e ∙ sym (whole_plus b (neg_ℤ b)) ∙ ap whole_ℚ (gone b) ∙ whole_zero))

nonzero_divisor : (d : ℤ) → pos 1 ≤ℤ d → d ≢ pos 0
nonzero_divisor d l e = omega (arith, ints, l, e)

not_zero : (z : ℤ) → int_eq z (pos 0) ≡ false → z ≢ pos 0
not_zero z e f = disagree (sym ((signed_Decides z (pos 0)).1 f) ∙ e)

zero_factor : (d z : ℤ) → pos 1 ≤ℤ d → d *ℤ z ≡ pos 0 → z ≡ pos 0
zero_factor d z l e = by (int_eq z (pos 0)) refl
  where
    by : (b : Bool) → int_eq z (pos 0) ≡ b → z ≡ pos 0
    by true f = (signed_Decides z (pos 0)).0 f
    by false f = absurd (product_nonzero d z (nonzero_divisor d l) (not_zero z f) e)

same_factor : (d a b : ℤ) → pos 1 ≤ℤ d → d *ℤ a ≡ d *ℤ b → a ≡ b
same_factor d a b l e = equal_by a b (zero_factor d (a +ℤ neg_ℤ b) l (distributes_left d a (neg_ℤ b) ∙ ap (λ t. t +ℤ d *ℤ neg_ℤ b) e ∙ sym (distributes_left d b (neg_ℤ b)) ∙ ap (λ t. d *ℤ t) (gone b) ∙ *ℤ-zero d))

-- ---- what a cut adds is determined
multiples_same : (d : ℤ) (ws : List Weight) (es fs : List Coefficient) → pos 1 ≤ℤ d → AreMultiples d ws es → AreMultiples d ws fs → es ≡ fs
multiples_same d [] es fs l h k = h ∙ sym k
multiples_same d (w ∷ ws) es fs l h k =
    let same : h.0 ≡ k.0 = same_factor d h.0 k.0 l (whole_same (d *ℤ h.0) (d *ℤ k.0) (sym h.1.1.0 ∙ k.1.1.0)) in
    h.1.1.1 ∙ ap₂ (λ n rest. before w.0 n rest) same (multiples_same d ws h.1.0 k.1.0 l h.1.1.2 k.1.1.2) ∙ sym k.1.1.1

-- the multiple of the next number, by one of a greater one
past : (d a b : ℤ) → neg_ℤ (d *ℤ (a +ℤ pos 1)) ≡ neg_ℤ (d *ℤ b) +ℤ d *ℤ (b -ℤ (a +ℤ pos 1))
past d a b =
    let gap : ℤ = b -ℤ (a +ℤ pos 1) in
    let sum : d *ℤ b ≡ d *ℤ (a +ℤ pos 1) +ℤ d *ℤ gap = ap (λ t. d *ℤ t) (same_in b ((a +ℤ pos 1) +ℤ gap) (omega (arith, ints))) ∙ distributes_left d (a +ℤ pos 1) gap in
    left (d *ℤ (a +ℤ pos 1)) (d *ℤ b) (d *ℤ gap) sum
  where
    left : (p q r : ℤ) → q ≡ p +ℤ r → neg_ℤ p ≡ neg_ℤ q +ℤ r
    left p q r e = same_in _ _ (omega (arith, ints, e))

-- two numbers of which neither multiple is above the constant, and the next one is
rounded_past : (d : ℤ) (K : ℚ) (a b : ℤ) → pos 1 ≤ℤ d → is_negative_rational (K +ℚ whole_ℚ (neg_ℤ (d *ℤ (a +ℤ pos 1)))) ≡ true → is_negative_rational (K +ℚ whole_ℚ (neg_ℤ (d *ℤ b))) ≡ false → pos 0 ≤ℤ (b -ℤ (a +ℤ pos 1)) → ⊥
rounded_past d K a b l next below h =
    disagree (sym next
    ∙ ap is_negative_rational (ap (λ t. K +ℚ t) (ap whole_ℚ (past d a b) ∙ whole_plus (neg_ℤ (d *ℤ b)) (d *ℤ (b -ℤ (a +ℤ pos 1)))) ∙ sym (+ℚ_assoc K (whole_ℚ (neg_ℤ (d *ℤ b))) (whole_ℚ (d *ℤ (b -ℤ (a +ℤ pos 1))))))
    ∙ not_negative_plus (K +ℚ whole_ℚ (neg_ℤ (d *ℤ b))) (whole_ℚ (d *ℤ (b -ℤ (a +ℤ pos 1)))) below (whole_not_negative (d *ℤ (b -ℤ (a +ℤ pos 1))) (product_not_negative d (b -ℤ (a +ℤ pos 1)) l h)))

rounded_same : (d : ℤ) (K : ℚ) (a b : ℤ) → pos 1 ≤ℤ d → is_negative_rational (K +ℚ whole_ℚ (neg_ℤ (d *ℤ a))) ≡ false → is_negative_rational (K +ℚ whole_ℚ (neg_ℤ (d *ℤ (a +ℤ pos 1)))) ≡ true → is_negative_rational (K +ℚ whole_ℚ (neg_ℤ (d *ℤ b))) ≡ false → is_negative_rational (K +ℚ whole_ℚ (neg_ℤ (d *ℤ (b +ℤ pos 1)))) ≡ true → a ≡ b
rounded_same d K a b l below next below' next' = by (either (b -ℤ (a +ℤ pos 1))) (either (a -ℤ (b +ℤ pos 1)))
  where
    by : (pos 0 ≤ℤ (b -ℤ (a +ℤ pos 1))) ⊎ (pos 0 ≤ℤ (neg_ℤ (b -ℤ (a +ℤ pos 1)) -ℤ pos 1)) → (pos 0 ≤ℤ (a -ℤ (b +ℤ pos 1))) ⊎ (pos 0 ≤ℤ (neg_ℤ (a -ℤ (b +ℤ pos 1)) -ℤ pos 1)) → a ≡ b
    by (inl h) k = absurd (rounded_past d K a b l next below' h)
    by (inr h) (inl k) = absurd (rounded_past d K b a l next' below k)
    by (inr h) (inr k) = same_in a b (omega (arith, ints, h, k))

cut_same : (ms : List Fraction) (d : ℤ) (fs : List Form) (e f : Form) → IsCut ms d fs e → IsCut ms d fs f → e ≡ f
cut_same ms d fs e f h k =
    let coefs : e.coefs ≡ f.coefs = multiples_same d (tree.combination (rationals ms) fs).weights e.coefs f.coefs h.positive h.multiples k.multiples in
    let constant : e.constant ≡ f.constant = rounded_same d (tree.combination (rationals ms) fs).constant e.constant f.constant h.positive h.below h.next k.below k.next in
    ap₂ (λ cs n. record { coefs = cs; constant = n }) coefs constant

-- ---- variables, multipliers and divisors
over_all : (vars : List Sort) (cs : List Coefficient) → OverIntegers vars cs → list_all (has_int vars) cs ≡ true
over_all vars [] h = refl
over_all vars (c ∷ cs) h = and_true (has_int vars c) (list_all (has_int vars) cs) (ap is_int h.0) (over_all vars cs h.1)

suits_of : (vars : List Sort) (t : Test) → TestSuits vars t → suits vars t ≡ true
suits_of vars (test.AtLeast f) h = over_all vars f.coefs h
suits_of vars (test.Holds u) h = ap is_bool h

multiplier_of : (m : Fraction) → 0 < m.den → is_negative_rational (value m) ≡ false → is_multiplier m ≡ true
multiplier_of m p h = and_true (not (int_lt m.num (pos 0))) (nat_lt 0 m.den) (ap not (sym (over_negative m.num m.den) ∙ h)) (lt-ltb 0 m.den p)

all_of : (ms : List Fraction) (fs : List Form) → AreMultipliers ms fs → list_all is_multiplier ms ≡ true
all_of [] [] h = refl
all_of [] (f ∷ fs) h = absurd h
all_of (m ∷ ms) [] h = absurd h
all_of (m ∷ ms) (f ∷ fs) h = and_true (is_multiplier m) (list_all is_multiplier ms) (multiplier_of m h.0 h.1) (all_of ms fs h.2)

same_length : (ms : List Fraction) (fs : List Form) → AreMultipliers ms fs → length ms ≡ length fs
same_length [] [] h = refl
same_length [] (f ∷ fs) h = absurd h
same_length (m ∷ ms) [] h = absurd h
same_length (m ∷ ms) (f ∷ fs) h = ap suc (same_length ms fs h.2)

multipliers_of : (ms : List Fraction) (fs : List Form) → AreMultipliers ms fs → are_multipliers ms fs ≡ true
multipliers_of ms fs h = and_true (nat_eq (length ms) (length fs)) (list_all is_multiplier ms) ((unsigned_Decides (length ms) (length fs)).1 (same_length ms fs h)) (all_of ms fs h)

divisor_of : (d : ℤ) → pos 1 ≤ℤ d → int_le (pos 1) d ≡ true
divisor_of (pos (suc n)) l = le-leb 1 (suc n) (omega arith)
divisor_of (pos zero) l = absurd (omega (arith, ints, l))
divisor_of (negsuc n) l = absurd (omega (arith, ints, l))

-- ---- contradictions
zero_shares : (qs : List Share) → AllPositive qs → AllZero (weights_of qs) → list_all is_zero qs ≡ true
zero_shares [] p h = refl
zero_shares (q ∷ qs) p h = and_true (is_zero q) (list_all is_zero qs) ((signed_Decides q.weight.num (pos 0)).1 (zero_over q.weight.num q.weight.den p.0 h.0)) (zero_shares qs p.1 h.1)

contradiction_of : (ms : List Fraction) (fs : List Form) (c : Combination) → IsContradiction ms fs → checked_combination ms fs ≡ Some c → is_negative_constant c ≡ true
contradiction_of ms fs c h e =
    let means : Means (tree.combination (rationals ms) fs) c = subst (λ o. MeansIf (tree.combination (rationals ms) fs) o) e (combination_means ms fs (all_of ms fs h.multipliers)) in
    and_true (list_all is_zero c.shares) (int_lt c.constant.num (pos 0)) (zero_shares c.shares means.positive (subst AllZero (sym means.weights) h.zero)) (sym (over_negative c.constant.num c.constant.den) ∙ ap is_negative_rational means.constant ∙ h.negative)

farkas_broken : (ms : List Fraction) (fs : List Form) (n : ℕ) → cond (are_multipliers ms fs) (of_combination n (checked_combination ms fs)) Broken ≡ Broken → IsContradiction ms fs → ⊥
farkas_broken ms fs n e h = by (are_multipliers ms fs) (multipliers_of ms fs h.multipliers) (checked_combination ms fs) refl e
  where
    by : (b : Bool) → b ≡ true → (o : Option Combination) → checked_combination ms fs ≡ o → cond b (of_combination n o) Broken ≡ Broken → ⊥
    by false f o k g = absurd cc
    by true f None k g = cc
    by true f (Some c) k g = negative (is_negative_constant c) (contradiction_of ms fs c h k) g
      where
        negative : (t : Bool) → t ≡ true → cond t Accepted Broken ≡ Broken → ⊥
        negative true f g = cc
        negative false f g = absurd cc

-- ---- cuts
-- a fraction in lowest terms whose value is whole has the denominator 1
whole_den : (h : Fraction) (k : ℤ) → IsLowest h → value h ≡ whole_ℚ k → h.den ≡ 1
whole_den h k l e = eq-one_of_dvd-one (l.coprime.2 h.den divides (dvd_refl h.den))
  where
    sum : over (h.num *ℤ pos 1 +ℤ neg_ℤ k *ℤ pos h.den) (h.den * 1) ≡ 0ℚ
    sum = sym (sum_over_is h.num (neg_ℤ k) h.den 1 l.positive (omega arith)) ∙ ap (λ x. x +ℚ whole_ℚ (neg_ℤ k)) e ∙ sym (whole_plus k (neg_ℤ k)) ∙ ap whole_ℚ (gone k) ∙ whole_zero

    none : h.num *ℤ pos 1 +ℤ neg_ℤ k *ℤ pos h.den ≡ pos 0
    none = let p : 0 < h.den = l.positive in zero_over (h.num *ℤ pos 1 +ℤ neg_ℤ k *ℤ pos h.den) (h.den * 1) (omega arith) sum

    same : h.num *ℤ pos 1 ≡ pos h.den *ℤ k
    same = equal_by (h.num *ℤ pos 1) (pos h.den *ℤ k) (ap (λ t. h.num *ℤ pos 1 +ℤ t) (sym (*ℤ_comm (neg_ℤ k) (pos h.den) ∙ times_neg (pos h.den) k)) ∙ none)

    magnitude : h.den * unsigned_abs k ≡ unsigned_abs h.num
    magnitude = omega (arith, abs-product h.num (pos 1), abs-product (pos h.den) k, ap unsigned_abs same)

    divides : h.den ∣ unsigned_abs h.num
    divides = subst (λ n. h.den ∣ n) magnitude (dvd-mul_right h.den (unsigned_abs k))

-- a factor of 1 or more is left out
without_factor : (d : ℤ) (x y : ℚ) → pos 1 ≤ℤ d → whole_ℚ d *ℚ x ≡ whole_ℚ d *ℚ y → x ≡ y
without_factor (pos zero) x y l e = absurd (omega (arith, ints, l))
without_factor (negsuc n) x y l e = absurd (omega (arith, ints, l))
without_factor (pos (suc n)) x y l e = sym (back x) ∙ ap (λ t. inverse *ℚ t) e ∙ back y
  where
    inverse : ℚ
    inverse = over (pos 1) (suc n)

    back : (z : ℚ) → inverse *ℚ (whole_ℚ (pos (suc n)) *ℚ z) ≡ z
    back z =
        sym (*ℚ_assoc inverse (whole_ℚ (pos (suc n))) z)
        ∙ ap (λ t. t *ℚ z) (product_over_is (pos 1) (pos (suc n)) (suc n) 1 (omega arith) (omega arith) ∙ over_same (pos 1 *ℤ pos (suc n)) (pos 1) (suc n * 1) 1 (omega arith) (omega arith) (ap pos (omega arith)) ∙ one_over)
        ∙ one-*ℚ z

-- a divided weight that is a whole multiple is whole
whole_weight : (d : ℤ) (f h : Fraction) (k : ℤ) → pos 1 ≤ℤ d → Divides d f (Some h) → value f ≡ whole_ℚ (d *ℤ k) → is_whole h ≡ true
whole_weight d f h k l v e = (unsigned_Decides h.den 1).1 (whole_den h k v.2 (without_factor d (value h) (whole_ℚ k) l (sym v.0 ∙ e ∙ whole_times d k)))

whole_shares : (d : ℤ) (qs rs : List Share) (es : List Coefficient) → pos 1 ≤ℤ d → AllPositive qs → AreMultiples d (weights_of qs) es → divided_shares d qs ≡ Some rs → list_all has_whole_weight rs ≡ true
unfolding divided_shares
whole_shares d [] rs es l p h e = ap (list_all has_whole_weight) (sym (some_same [] rs e))
whole_shares d (q ∷ qs) rs es l p h e = by (over_whole d q.weight) (divided_shares d qs) (over_whole_divides d q.weight l p.0) refl e (λ rest f. whole_shares d qs rest h.1.0 l p.1 h.1.1.2 f)
  where
    by : (w : Option Fraction) (o : Option (List Share)) → Divides d q.weight w → divided_shares d qs ≡ o → share_before q.variable w o ≡ Some rs → ((rest : List Share) → divided_shares d qs ≡ Some rest → list_all has_whole_weight rest ≡ true) → list_all has_whole_weight rs ≡ true
    by None o k f g more = absurd cc
    by (Some w) None k f g more = absurd cc
    by (Some w) (Some rest) k f g more =
        let first : Share = record { variable = q.variable; weight = w } in
        sym (ap (list_all has_whole_weight) (some_same (first ∷ rest) rs g)) ∙ and_true (has_whole_weight first) (list_all has_whole_weight rest) (whole_weight d q.weight w h.0 l k h.1.1.0) (more rest f)

divided_shares_of : (d : ℤ) (c g : Combination) → divided d c ≡ Some g → divided_shares d c.shares ≡ Some g.shares
divided_shares_of d c g e = by (over_whole d c.constant) (divided_shares d c.shares) refl e
  where
    by : (w : Option Fraction) (o : Option (List Share)) → divided_shares d c.shares ≡ o → of_parts w o ≡ Some g → divided_shares d c.shares ≡ Some g.shares
    by None o f k = absurd cc
    by (Some w) None f k = absurd cc
    by (Some w) (Some rest) f k = f ∙ ap (λ x. Some x) (ap (λ (x : Combination). x.shares) (some_same (record { shares = rest; constant = w }) g k))

not_none : (b : Bool) (f : Form) → b ≡ true → cond b (Some f) None ≡ None → ⊥
not_none true f s t = cc
not_none false f s t = absurd cc

-- what breaks below a cut breaks under the form that it adds
cut_broken : (ms : List Fraction) (fs : List Form) (d : ℤ) (n : ℕ) (rest : Fact → Judgement) (e : Form) → IsCut ms d fs e → after_node n (cond (are_multipliers ms fs && int_le (pos 1) d) (rounded_outcome (divided_combination d (checked_combination ms fs))) Fails) rest ≡ Broken → rest (AtLeast e) ≡ Broken
cut_broken ms fs d n rest e h = by (are_multipliers ms fs && int_le (pos 1) d) (and_true (are_multipliers ms fs) (int_le (pos 1) d) (multipliers_of ms fs h.multipliers) (divisor_of d h.positive)) (checked_combination ms fs) refl
  where
    by : (b : Bool) → b ≡ true → (o : Option Combination) → checked_combination ms fs ≡ o → after_node n (cond b (rounded_outcome (divided_combination d o)) Fails) rest ≡ Broken → rest (AtLeast e) ≡ Broken
    by false a o k g = absurd cc
    by true a None k g = absurd cc
    by true a (Some c) k g = part (divided d c) refl g
      where
        means : Means (tree.combination (rationals ms) fs) c
        means = subst (λ o. MeansIf (tree.combination (rationals ms) fs) o) k (combination_means ms fs (all_of ms fs h.multipliers))

        part : (p : Option Combination) → divided d c ≡ p → after_node n (rounded_outcome p) rest ≡ Broken → rest (AtLeast e) ≡ Broken
        part None f g = absurd cc
        part (Some x) f g = form (rounded x) refl g
          where
            whole : list_all has_whole_weight x.shares ≡ true
            whole = whole_shares d c.shares x.shares e.coefs h.positive means.positive (subst (λ ws. AreMultiples d ws e.coefs) (sym means.weights) h.multiples) (divided_shares_of d c x f)

            form : (p : Option Form) → rounded x ≡ p → after_node n (added_form p) rest ≡ Broken → rest (AtLeast e) ≡ Broken
            form None r g = absurd (not_none (list_all has_whole_weight x.shares) (record { coefs = numerators x.shares; constant = floor x.constant }) whole r)
            form (Some y) r g =
                let other : IsCut ms d fs y = cut ms fs d c x y (multipliers_of ms fs h.multipliers) h.positive k f r in
                subst (λ z. rest (AtLeast z) ≡ Broken) (cut_same ms d fs y e other h) g

-- ---- trees
both_broken : (a b : Judgement) → judged_in_turn a b ≡ Broken → (a ≡ Broken) ⊎ (b ≡ Broken)
both_broken Accepted b e = inr e
both_broken Broken b e = inl refl
both_broken (Unfit n) b e = absurd cc

in_case : {A B C : Type 0} → (A → C) → (B → C) → A ⊎ B → C
in_case f g (inl a) = f a
in_case f g (inr b) = g b

shown_not : (n : ℕ) (k : Known) → shown_judged n k ≡ Broken → k ≡ known.False → ⊥
shown_not n known.False e h = cc
shown_not n known.True e h = cc
shown_not n (known.Undecided t) e h = cc
shown_not n (known.OutOfRange m) e h = cc

-- a rejected tree doesn't refute the query under the path
pub rejected : (q : LinearQuery) (path : List Fact) (n : ℕ) (t : TreeShape) → judged q path n t ≡ Broken → TreeRefutes q path t → ⊥
unfolding judged
rejected q path n (Split t left right) e r = by (suits q.vars t) (suits_of q.vars t r.0) (opposite_fits t) e (λ h. rejected q (path ++ added_fact t ∷ []) (n + 1) left h r.1) (λ h. rejected q (path ++ opposite_fact t ∷ []) (n + 1 + size left) right h r.2)
  where
    by : (b : Bool) → b ≡ true → (f : Bool) → after_node {A = Fact × Fact} n (cond b (cond f (Adds (added_fact t, opposite_fact t)) Leaves) Fails) (λ facts. judged_in_turn (judged q (path ++ facts.0 ∷ []) (n + 1) left) (judged q (path ++ facts.1 ∷ []) (n + 1 + size left) right)) ≡ Broken → (judged q (path ++ added_fact t ∷ []) (n + 1) left ≡ Broken → ⊥) → (judged q (path ++ opposite_fact t ∷ []) (n + 1 + size left) right ≡ Broken → ⊥) → ⊥
    by false s f h one two = absurd cc
    by true s false h one two = cc
    by true s true h one two = in_case one two (both_broken (judged q (path ++ added_fact t ∷ []) (n + 1) left) (judged q (path ++ opposite_fact t ∷ []) (n + 1 + size left) right) h)
rejected q path n (Branch i bound left right) e r = by (is_int (slice_get q.vars i)) (ap is_int r.0) e (λ h. rejected q (path ++ AtLeast (at_or_below i bound) ∷ []) (n + 1) left h r.1) (λ h. rejected q (path ++ AtLeast (form_negation (at_or_below i bound)) ∷ []) (n + 1 + size left) right h r.2)
  where
    by : (b : Bool) → b ≡ true → after_node {A = Fact × Fact} n (cond b (Adds (AtLeast (at_or_below i bound), AtLeast (form_negation (at_or_below i bound)))) Fails) (λ facts. judged_in_turn (judged q (path ++ facts.0 ∷ []) (n + 1) left) (judged q (path ++ facts.1 ∷ []) (n + 1 + size left) right)) ≡ Broken → (judged q (path ++ AtLeast (at_or_below i bound) ∷ []) (n + 1) left ≡ Broken → ⊥) → (judged q (path ++ AtLeast (form_negation (at_or_below i bound)) ∷ []) (n + 1 + size left) right ≡ Broken → ⊥) → ⊥
    by false s h one two = absurd cc
    by true s h one two = in_case one two (both_broken (judged q (path ++ AtLeast (at_or_below i bound) ∷ []) (n + 1) left) (judged q (path ++ AtLeast (form_negation (at_or_below i bound)) ∷ []) (n + 1 + size left) right) h)
rejected q path n (Cut ms d inner) e r =
    rejected q (path ++ AtLeast r.0 ∷ []) (n + 1) inner (cut_broken ms (forms path) d n (λ fact. judged q (path ++ fact ∷ []) (n + 1) inner) r.0 r.1.0 e) r.1.1
rejected q path n (Farkas ms) e r = farkas_broken ms (forms path) n e r
rejected q path n Shown e r = shown_not n (query_known q path) e r
rejected q path n Unfinished e r = r
