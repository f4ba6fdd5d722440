-- The values of sums, multiples and negations of forms.
use Rattle.std.specs.Prelude.{◌≡◌, ℕ, ◌≤ℤ◌, Bool, true, false, cond, ◌&&◌, ◌==◌, List, [], ◌∷◌, ℤ, pos, negsuc, ◌+ℤ◌, ◌-ℤ◌, ◌*ℤ◌, neg_ℤ, nat_lt}
use Rattle.std.proofs.Common.{refl, sym, ◌∙◌, ap, ap₂, arith, inl, inr, ◌⊎◌, ◌+◌, ◌*◌}
use borrow.Author.Differences.{up, down, ints, same_in, sum_is_lem, product_is, neg_is, at_most_in}
use Rattle.std.proofs.Math.IntN.{*ℤ_comm, *ℤ-zero, zero-*ℤ, +ℤ_idl, +ℤ_idr}
use Rattle.std.specs.Ordering.{int_eq}
use Rattle.std.specs.Cmp.{signed_Decides, unsigned_Decides}
use Rattle.std.proofs.lemmas.Bool.{ltb-false}
use Rattle.sy_linear_known.specs.declared.form.Form.{Form}
use Rattle.sy_linear_known.specs.Forms.{Coefficient, combined, form_value, before, added, scaled, subtracted, above, constant_form, variable_form, form_plus, times, form_minus, form_negation, same_coefficients, same_form, is_constant_form}

pub distributes : (a b x : ℤ) → (a +ℤ b) *ℤ x ≡ a *ℤ x +ℤ b *ℤ x
distributes a b x =
    let s : up (a +ℤ b) + down a + down b ≡ down (a +ℤ b) + up a + up b = sum_is_lem a b in
    let e : (up (a +ℤ b) + down a + down b) * up x ≡ (down (a +ℤ b) + up a + up b) * up x = ap (λ (n : ℕ). n * up x) s in
    let f : (up (a +ℤ b) + down a + down b) * down x ≡ (down (a +ℤ b) + up a + up b) * down x = ap (λ (n : ℕ). n * down x) s in
    let g : _ = product_is (a +ℤ b) x in
    let h : _ = product_is a x in
    let k : _ = product_is b x in
    let l : _ = sum_is_lem (a *ℤ x) (b *ℤ x) in
    same_in _ _ (omega (arith, e, f, g.0, g.1, h.0, h.1, k.0, k.1, l))

pub distributes_left : (x a b : ℤ) → x *ℤ (a +ℤ b) ≡ x *ℤ a +ℤ x *ℤ b
distributes_left x a b = *ℤ_comm x (a +ℤ b) ∙ distributes a b x ∙ ap₂ (λ s t. s +ℤ t) (*ℤ_comm a x) (*ℤ_comm b x)

pub times_assoc : (a b c : ℤ) → (a *ℤ b) *ℤ c ≡ a *ℤ (b *ℤ c)
times_assoc a b c =
    let g : _ = product_is (a *ℤ b) c in
    let h : _ = product_is a (b *ℤ c) in
    let k : _ = product_is a b in
    let l : _ = product_is b c in
    same_in _ _ (rw (g.0, g.1, h.0, h.1, k.0, k.1, l.0, l.1) (omega arith))

-- ---- lists of coefficients
combined-before : (i : ℕ) (c : ℤ) (cs : List Coefficient) (x : ℕ → ℤ) → combined (before i c cs) x ≡ c *ℤ x i +ℤ combined cs x
unfolding combined
combined-before i c cs x = by (int_eq c (pos 0)) refl
  where
    by : (b : Bool) → int_eq c (pos 0) ≡ b → combined (cond b cs ((i, c) ∷ cs)) x ≡ c *ℤ x i +ℤ combined cs x
    by true e = sym (ap (λ k. k *ℤ x i +ℤ combined cs x) ((signed_Decides c (pos 0)).0 e) ∙ ap (λ k. k +ℤ combined cs x) (zero-*ℤ (x i)) ∙ +ℤ_idl (combined cs x))
    by false e = refl

pub combined-added : (cs ds : List Coefficient) (x : ℕ → ℤ) → combined (added cs ds) x ≡ combined cs x +ℤ combined ds x
unfolding combined added
combined-added [] ds x = sym (+ℤ_idl (combined ds x))
combined-added (c ∷ cs) [] x = sym (+ℤ_idr (combined (c ∷ cs) x))
combined-added (c ∷ cs) (d ∷ ds) x = by (combined-added cs (d ∷ ds) x) (combined-added (c ∷ cs) ds x) (combined-added cs ds x) (nat_lt c.0 d.0) (nat_lt d.0 c.0) refl refl
  where
    left : (p q r s : ℤ) → p +ℤ (q +ℤ (r +ℤ s)) ≡ (p +ℤ q) +ℤ (r +ℤ s)
    left p q r s = same_in _ _ (omega (arith, ints))

    right : (p q r s : ℤ) → r +ℤ ((p +ℤ q) +ℤ s) ≡ (p +ℤ q) +ℤ (r +ℤ s)
    right p q r s = same_in _ _ (omega (arith, ints))

    middle : (p q r s : ℤ) → (p +ℤ r) +ℤ (q +ℤ s) ≡ (p +ℤ q) +ℤ (r +ℤ s)
    middle p q r s = same_in _ _ (omega (arith, ints))

    by : combined (added cs (d ∷ ds)) x ≡ combined cs x +ℤ combined (d ∷ ds) x → combined (added (c ∷ cs) ds) x ≡ combined (c ∷ cs) x +ℤ combined ds x → combined (added cs ds) x ≡ combined cs x +ℤ combined ds x → (a b : Bool) → nat_lt c.0 d.0 ≡ a → nat_lt d.0 c.0 ≡ b → combined (cond a (c ∷ added cs (d ∷ ds)) (cond b (d ∷ added (c ∷ cs) ds) (before c.0 (c.1 +ℤ d.1) (added cs ds)))) x ≡ combined (c ∷ cs) x +ℤ combined (d ∷ ds) x
    by one two three true b e f = ap (λ k. c.1 *ℤ x c.0 +ℤ k) one ∙ left (c.1 *ℤ x c.0) (combined cs x) (d.1 *ℤ x d.0) (combined ds x)
    by one two three false true e f = ap (λ k. d.1 *ℤ x d.0 +ℤ k) two ∙ right (c.1 *ℤ x c.0) (combined cs x) (d.1 *ℤ x d.0) (combined ds x)
    by one two three false false e f =
        let same : c.0 ≡ d.0 = omega (arith, ltb-false _ _ e, ltb-false _ _ f) in
        combined-before c.0 (c.1 +ℤ d.1) (added cs ds) x
        ∙ ap₂ (λ k l. k +ℤ l) (distributes c.1 d.1 (x c.0) ∙ ap (λ i. c.1 *ℤ x c.0 +ℤ d.1 *ℤ x i) same) three
        ∙ middle (c.1 *ℤ x c.0) (combined cs x) (d.1 *ℤ x d.0) (combined ds x)

pub combined-scaled : (k : ℤ) (cs : List Coefficient) (x : ℕ → ℤ) → combined (scaled k cs) x ≡ k *ℤ combined cs x
unfolding combined scaled
combined-scaled k [] x = sym (*ℤ-zero k)
combined-scaled k (c ∷ cs) x = combined-before c.0 (k *ℤ c.1) (scaled k cs) x ∙ ap₂ (λ s t. s +ℤ t) (times_assoc k c.1 (x c.0)) (combined-scaled k cs x) ∙ sym (distributes_left k (c.1 *ℤ x c.0) (combined cs x))

-- ---- forms
pub value-constant : (k : ℤ) (x : ℕ → ℤ) → form_value (constant_form k) x ≡ k
unfolding form_value combined
value-constant k x = +ℤ_idl k

pub value-variable : (i : ℕ) (x : ℕ → ℤ) → form_value (variable_form i) x ≡ x i
unfolding form_value combined
value-variable i x = one (x i)
  where
    one : (y : ℤ) → (pos 1 *ℤ y +ℤ pos 0) +ℤ pos 0 ≡ y
    one y = same_in _ _ (omega (arith, ints))

pub value-plus : (f g : Form) (x : ℕ → ℤ) → form_value (form_plus f g) x ≡ form_value f x +ℤ form_value g x
unfolding form_value
value-plus f g x = ap (λ k. k +ℤ (f.constant +ℤ g.constant)) (combined-added f.coefs g.coefs x) ∙ regroup (combined f.coefs x) (combined g.coefs x) f.constant g.constant
  where
    regroup : (p q r s : ℤ) → (p +ℤ q) +ℤ (r +ℤ s) ≡ (p +ℤ r) +ℤ (q +ℤ s)
    regroup p q r s = same_in _ _ (omega (arith, ints))

pub value-times : (k : ℤ) (f : Form) (x : ℕ → ℤ) → form_value (times k f) x ≡ k *ℤ form_value f x
unfolding form_value
value-times k f x = ap (λ l. l +ℤ k *ℤ f.constant) (combined-scaled k f.coefs x) ∙ sym (distributes_left k (combined f.coefs x) f.constant)

neg_times : (a b : ℤ) → neg_ℤ a *ℤ b ≡ neg_ℤ (a *ℤ b)
neg_times a b =
    let g : _ = product_is (neg_ℤ a) b in
    let h : _ = product_is a b in
    let n : _ = neg_is a in
    let o : _ = neg_is (a *ℤ b) in
    same_in _ _ (rw (g.0, g.1, n.0, n.1, o.0, o.1, h.0, h.1) (omega arith))

pub combined-subtracted : (cs ds : List Coefficient) (x : ℕ → ℤ) → combined (subtracted cs ds) x ≡ combined cs x -ℤ combined ds x
unfolding combined subtracted
combined-subtracted [] ds x = combined-scaled (negsuc 0) ds x ∙ turned (combined ds x)
  where
    turned : (y : ℤ) → negsuc 0 *ℤ y ≡ pos 0 -ℤ y
    turned y = same_in _ _ (omega (arith, ints))
combined-subtracted (c ∷ cs) [] x = whole (combined (c ∷ cs) x)
  where
    whole : (y : ℤ) → y ≡ y -ℤ pos 0
    whole y = same_in _ _ (omega (arith, ints))
combined-subtracted (c ∷ cs) (d ∷ ds) x = by (combined-subtracted cs (d ∷ ds) x) (combined-subtracted (c ∷ cs) ds x) (combined-subtracted cs ds x) (nat_lt c.0 d.0) (nat_lt d.0 c.0) refl refl
  where
    left : (p q t : ℤ) → p +ℤ (q -ℤ t) ≡ (p +ℤ q) -ℤ t
    left p q t = same_in _ _ (omega (arith, ints))

    right : (p r s : ℤ) → negsuc 0 *ℤ r +ℤ (p -ℤ s) ≡ p -ℤ (r +ℤ s)
    right p r s = same_in _ _ (omega (arith, ints))

    middle : (p q r s : ℤ) → (p +ℤ neg_ℤ r) +ℤ (q -ℤ s) ≡ (p +ℤ q) -ℤ (r +ℤ s)
    middle p q r s = same_in _ _ (omega (arith, ints))

    by : combined (subtracted cs (d ∷ ds)) x ≡ combined cs x -ℤ combined (d ∷ ds) x → combined (subtracted (c ∷ cs) ds) x ≡ combined (c ∷ cs) x -ℤ combined ds x → combined (subtracted cs ds) x ≡ combined cs x -ℤ combined ds x → (a b : Bool) → nat_lt c.0 d.0 ≡ a → nat_lt d.0 c.0 ≡ b → combined (cond a (c ∷ subtracted cs (d ∷ ds)) (cond b (before d.0 (negsuc 0 *ℤ d.1) (subtracted (c ∷ cs) ds)) (before c.0 (c.1 -ℤ d.1) (subtracted cs ds)))) x ≡ combined (c ∷ cs) x -ℤ combined (d ∷ ds) x
    by one two three true b e f = ap (λ k. c.1 *ℤ x c.0 +ℤ k) one ∙ left (c.1 *ℤ x c.0) (combined cs x) (combined (d ∷ ds) x)
    by one two three false true e f =
        combined-before d.0 (negsuc 0 *ℤ d.1) (subtracted (c ∷ cs) ds) x
        ∙ ap₂ (λ k l. k +ℤ l) (times_assoc (negsuc 0) d.1 (x d.0)) two
        ∙ right (combined (c ∷ cs) x) (d.1 *ℤ x d.0) (combined ds x)
    by one two three false false e f =
        let same : c.0 ≡ d.0 = omega (arith, ltb-false _ _ e, ltb-false _ _ f) in
        combined-before c.0 (c.1 -ℤ d.1) (subtracted cs ds) x
        ∙ ap₂ (λ k l. k +ℤ l) (distributes c.1 (neg_ℤ d.1) (x c.0) ∙ ap (λ k. c.1 *ℤ x c.0 +ℤ k) (neg_times d.1 (x c.0) ∙ ap (λ i. neg_ℤ (d.1 *ℤ x i)) same)) three
        ∙ middle (c.1 *ℤ x c.0) (combined cs x) (d.1 *ℤ x d.0) (combined ds x)

pub value-minus : (f g : Form) (x : ℕ → ℤ) → form_value (form_minus f g) x ≡ form_value f x -ℤ form_value g x
unfolding form_value
value-minus f g x = ap (λ k. k +ℤ (f.constant -ℤ g.constant)) (combined-subtracted f.coefs g.coefs x) ∙ regroup (combined f.coefs x) (combined g.coefs x) f.constant g.constant
  where
    regroup : (p q r s : ℤ) → (p -ℤ q) +ℤ (r -ℤ s) ≡ (p +ℤ r) -ℤ (q +ℤ s)
    regroup p q r s = same_in _ _ (omega (arith, ints))

pub value-above : (f g : Form) (x : ℕ → ℤ) → form_value (above f g) x ≡ (form_value f x -ℤ form_value g x) +ℤ negsuc 0
unfolding form_value
value-above f g x = ap (λ k. k +ℤ (f.constant +ℤ (neg_ℤ g.constant -ℤ pos 1))) (combined-subtracted f.coefs g.coefs x) ∙ regroup (combined f.coefs x) (combined g.coefs x) f.constant g.constant
  where
    regroup : (p q r s : ℤ) → (p -ℤ q) +ℤ (r +ℤ (neg_ℤ s -ℤ pos 1)) ≡ ((p +ℤ r) -ℤ (q +ℤ s)) +ℤ negsuc 0
    regroup p q r s = same_in _ _ (omega (arith, ints))

pub value-negation : (f : Form) (x : ℕ → ℤ) → form_value (form_negation f) x ≡ neg_ℤ (form_value f x) -ℤ pos 1
unfolding form_value
value-negation f x = ap (λ k. k +ℤ (neg_ℤ f.constant -ℤ pos 1)) (combined-scaled (negsuc 0) f.coefs x) ∙ turned (combined f.coefs x) f.constant
  where
    turned : (p q : ℤ) → negsuc 0 *ℤ p +ℤ (neg_ℤ q -ℤ pos 1) ≡ neg_ℤ (p +ℤ q) -ℤ pos 1
    turned p q = same_in _ _ (omega (arith, ints))

pub value-is_constant : (f : Form) (x : ℕ → ℤ) → is_constant_form f ≡ true → form_value f x ≡ f.constant
unfolding form_value combined
value-is_constant f x h = by f.coefs refl
  where
    by : (cs : List Coefficient) → f.coefs ≡ cs → combined f.coefs x +ℤ f.constant ≡ f.constant
    by [] e = ap (λ cs. combined cs x +ℤ f.constant) e ∙ +ℤ_idl f.constant
    by (c ∷ cs) e = absurd cc

-- ---- equality
and_parts : (a b : Bool) → (a && b) ≡ true → (a ≡ true) × (b ≡ true)
and_parts true b h = (refl, h)
and_parts false b h = absurd cc

same_lists : (cs ds : List Coefficient) → same_coefficients cs ds ≡ true → cs ≡ ds
same_lists [] [] h = refl
same_lists [] (d ∷ ds) h = absurd cc
same_lists (c ∷ cs) [] h = absurd cc
same_lists (c ∷ cs) (d ∷ ds) h =
    let p = and_parts (c.0 == d.0 && int_eq c.1 d.1) (same_coefficients cs ds) h in
    let q = and_parts (c.0 == d.0) (int_eq c.1 d.1) p.0 in
    let first : c.0 ≡ d.0 = (unsigned_Decides c.0 d.0).0 q.0 in
    let second : c.1 ≡ d.1 = (signed_Decides c.1 d.1).0 q.1 in
    ap₂ (λ i n. (i, n) ∷ cs) first second ∙ ap (λ es. d ∷ es) (same_lists cs ds p.1)

pub same_value : (f g : Form) (x : ℕ → ℤ) → same_form f g ≡ true → form_value f x ≡ form_value g x
unfolding form_value
same_value f g x h =
    let p = and_parts (int_eq f.constant g.constant) (same_coefficients f.coefs g.coefs) h in
    ap₂ (λ cs k. combined cs x +ℤ k) (same_lists f.coefs g.coefs p.1) ((signed_Decides f.constant g.constant).0 p.0)

-- a form or its negation is at least 0, and not both
pub either : (x : ℤ) → (pos 0 ≤ℤ x) ⊎ (pos 0 ≤ℤ (neg_ℤ x -ℤ pos 1))
either (pos n) = inl (at_most_in _ _ (omega arith))
either (negsuc n) = inr (at_most_in _ _ (omega (arith, ints)))

pub not_both : (x : ℤ) → pos 0 ≤ℤ x → pos 0 ≤ℤ (neg_ℤ x -ℤ pos 1) → ⊥
not_both x h k = omega (arith, ints, h, k)
