-- What fractions combine to is what they stand for: a combination that is accepted as a contradiction is one.
use Rattle.std.specs.Prelude.{◌≡◌, ◌≢◌, ℕ, zero, suc, ◌<◌, ◌≤◌, ◌≤ℤ◌, ◌+◌, ◌*◌, neg_ℤ, negsuc, Bool, true, false, cond, not, ◌&&◌, List, [], ◌∷◌, length, ℤ, pos, ◌+ℤ◌, ◌*ℤ◌, int_lt, nat_lt, nat_eq, Option, Some, None}
use Rattle.std.specs.Option.{option_and_then}
use Rattle.std.specs.List.{list_all}
use Rattle.std.specs.Cmp.{signed_Decides, unsigned_Decides}
use Rattle.std.proofs.Math.IntN.{*ℤ_comm, zero-*ℤ}
use Rattle.std.proofs.Math.Nat.{mul-le-mul_left}
use borrow.Author.Differences.{up, down, ints, same_in, sum_is_lem, product_is, neg_is}
use Rattle.sy_linear_known.specs.Laws.{times_assoc}
use Rattle.std.proofs.Common.{refl, sym, ◌∙◌, ap, ap₂, subst, arith}
use Rattle.std.proofs.lemmas.Bool.{ltb-true, le-ltb}
use Rattle.sy_frac.specs.Fraction.{Fraction, IsLowest, IsQuotient, sum_over}
use Rattle.sy_frac.specs.Rational.{ℚ, 0ℚ, ◌+ℚ◌, ◌*ℚ◌, over, value, is_negative_rational, over_same, over_negative, value_sum, value_product, sum_over_is, product_over_is, +ℚ_cancel, zero-+ℚ, *ℚ-+ℚ, not_negative_times, whole_not_negative}
use Rattle.sy_frac.proofs.Quotients.{product_nonzero, mul-positive}
use Rattle.sy_frac.specs.Kinds.{is_multiplier}
use Rattle.sy_linear_known.specs.declared.form.Form.{Form}
use Rattle.sy_linear_known.specs.Forms.{Coefficient}
use Rattle.sy_linear_known.specs.Trees as tree
use Rattle.sy_linear_known.specs.Trees.{whole_ℚ, Weight, rationals, combined_with, AreMultipliers, AllZero, IsContradiction, AreMultiples, IsCut}
use Rattle.sy_linear.specs.declared.combination.Share.{Share}
use Rattle.sy_linear.specs.declared.combination.Combination.{Combination}
use Rattle.sy_linear.specs.Exact.{whole_fits, lowest, exact, checked_whole, fraction_sum, fraction_product, whole_multiple, checked_plus_multiple, fraction_quotient, over_whole, floor}
use Rattle.sy_linear.specs.Combining.{has_whole_weight, divided_shares, divided, numerators, rounded, are_multipliers, share_before, plus_coefficients, of_parts, checked_plus_form, forms_folded, empty_combination, checked_combination, is_zero, is_negative_constant}
use Rattle.sy_linear.proofs.Lowest.{lowest_is, fits_to, left_true, right_true, positive_nonzero, whole_nonzero, euclid_low, euclid_high}

-- ---- operations
-- where there is a fraction, it stands for the number
abbrev StandsFor : ℚ → Option Fraction → Type 0
StandsFor x (Some f) = (value f ≡ x) × (0 < f.den)
StandsFor x None = Unit {0}

one_nonzero : pos 1 ≢ pos 0
one_nonzero e = cc

whole_stands : (n : ℤ) → StandsFor (whole_ℚ n) (checked_whole n)
whole_stands n = by (whole_fits n) refl
  where
    by : (b : Bool) → whole_fits n ≡ b → StandsFor (whole_ℚ n) (exact b n (pos 1))
    by true e =
        let q : IsQuotient (lowest n (pos 1)) n (pos 1) = lowest_is n (pos 1) (fits_to n e) (omega arith) one_nonzero in
        (over_same (lowest n (pos 1)).num n (lowest n (pos 1)).den 1 q.lowest.positive (omega arith) q.value, q.lowest.positive)
    by false e = tt

dens_nonzero : (f g : Fraction) → 0 < f.den → 0 < g.den → (pos f.den *ℤ pos g.den) ≢ pos 0
dens_nonzero f g p k = product_nonzero (pos f.den) (pos g.den) (positive_nonzero f.den p) (positive_nonzero g.den k)

product_stands : (f g : Fraction) → 0 < f.den → 0 < g.den → StandsFor (value f *ℚ value g) (fraction_product f g)
product_stands f g p k = by (whole_fits n && whole_fits d) refl
  where
    n : ℤ
    n = f.num *ℤ g.num

    d : ℤ
    d = pos f.den *ℤ pos g.den

    by : (b : Bool) → (whole_fits n && whole_fits d) ≡ b → StandsFor (value f *ℚ value g) (exact b n d)
    by true e =
        let q : IsQuotient (lowest n d) n d = lowest_is n d (fits_to n (left_true (whole_fits n) (whole_fits d) e)) (fits_to d (right_true (whole_fits n) (whole_fits d) e)) (dens_nonzero f g p k) in
        (value_product f g (lowest n d) p k q, q.lowest.positive)
    by false e = tt

sum_stands : (f g : Fraction) → 0 < f.den → 0 < g.den → StandsFor (value f +ℚ value g) (fraction_sum f g)
sum_stands f g p k = by (a && (b && (whole_fits d && whole_fits n))) refl
  where
    n : ℤ
    n = sum_over f g

    d : ℤ
    d = pos f.den *ℤ pos g.den

    a : Bool
    a = whole_fits (f.num *ℤ pos g.den)

    b : Bool
    b = whole_fits (g.num *ℤ pos f.den)

    by : (t : Bool) → (a && (b && (whole_fits d && whole_fits n))) ≡ t → StandsFor (value f +ℚ value g) (exact t n d)
    by true e =
        let last : (whole_fits d && whole_fits n) ≡ true = right_true b (whole_fits d && whole_fits n) (right_true a (b && (whole_fits d && whole_fits n)) e) in
        let q : IsQuotient (lowest n d) n d = lowest_is n d (fits_to n (right_true (whole_fits d) (whole_fits n) last)) (fits_to d (left_true (whole_fits d) (whole_fits n) last)) (dens_nonzero f g p k) in
        (value_sum f g (lowest n d) p k q, q.lowest.positive)
    by false e = tt

multiple_stands : (m : Fraction) (n : ℤ) → 0 < m.den → StandsFor (value m *ℚ whole_ℚ n) (whole_multiple m n)
unfolding whole_multiple
multiple_stands m n p = by (checked_whole n) (whole_stands n)
  where
    by : (o : Option Fraction) → StandsFor (whole_ℚ n) o → StandsFor (value m *ℚ whole_ℚ n) (option_and_then (λ f. fraction_product m f) o)
    by None h = tt
    by (Some w) h = subst (λ x. StandsFor (value m *ℚ x) (fraction_product m w)) h.0 (product_stands m w p h.1)

plus_multiple_stands : (m : Fraction) (n : ℤ) (f : Fraction) → 0 < m.den → 0 < f.den → StandsFor (value m *ℚ whole_ℚ n +ℚ value f) (checked_plus_multiple m n f)
unfolding checked_plus_multiple
plus_multiple_stands m n f p k = by (whole_multiple m n) (multiple_stands m n p)
  where
    by : (o : Option Fraction) → StandsFor (value m *ℚ whole_ℚ n) o → StandsFor (value m *ℚ whole_ℚ n +ℚ value f) (option_and_then (λ g. fraction_sum g f) o)
    by None h = tt
    by (Some g) h = subst (λ x. StandsFor (x +ℚ value f) (fraction_sum g f)) h.0 (sum_stands g f h.1 k)

-- ---- shares
abbrev pub weights_of : List Share → List Weight
weights_of [] = []
weights_of (q ∷ qs) = (q.variable, value q.weight) ∷ weights_of qs

abbrev pub AllPositive : List Share → Type 0
AllPositive [] = Unit {0}
AllPositive (q ∷ qs) = (0 < q.weight.den) × AllPositive qs

abbrev Stand : List Weight → Option (List Share) → Type 0
Stand ws (Some qs) = (weights_of qs ≡ ws) × AllPositive qs
Stand ws None = Unit {0}

before_stands : (i : ℕ) (w : Option Fraction) (o : Option (List Share)) (x : ℚ) (ws : List Weight) → StandsFor x w → Stand ws o → Stand ((i, x) ∷ ws) (share_before i w o)
before_stands i None o x ws h k = tt
before_stands i (Some f) None x ws h k = tt
before_stands i (Some f) (Some qs) x ws h k = (ap₂ (λ y vs. (i, y) ∷ vs) h.0 k.0, (h.1, k.1))

coefficients_stand : (m : Fraction) (cs : List Coefficient) (qs : List Share) → 0 < m.den → AllPositive qs → Stand (tree.plus_multiple (value m) cs (weights_of qs)) (plus_coefficients m cs qs)
unfolding tree.plus_multiple plus_coefficients
coefficients_stand m [] qs p h = (refl, h)
coefficients_stand m (c ∷ cs) [] p h = before_stands c.0 (whole_multiple m c.1) (plus_coefficients m cs []) (value m *ℚ whole_ℚ c.1) (tree.plus_multiple (value m) cs []) (multiple_stands m c.1 p) (coefficients_stand m cs [] p h)
coefficients_stand m (c ∷ cs) (q ∷ qs) p h = by (nat_lt c.0 q.variable) (nat_lt q.variable c.0) (coefficients_stand m cs (q ∷ qs) p h) (coefficients_stand m (c ∷ cs) qs p h.1) (coefficients_stand m cs qs p h.1)
  where
    ws : List Weight
    ws = weights_of qs

    new : ℚ
    new = value m *ℚ whole_ℚ c.1

    by : (a b : Bool) → Stand (tree.plus_multiple (value m) cs (weights_of (q ∷ qs))) (plus_coefficients m cs (q ∷ qs)) → Stand (tree.plus_multiple (value m) (c ∷ cs) ws) (plus_coefficients m (c ∷ cs) qs) → Stand (tree.plus_multiple (value m) cs ws) (plus_coefficients m cs qs) → Stand (cond a ((c.0, new) ∷ tree.plus_multiple (value m) cs (weights_of (q ∷ qs))) (cond b ((q.variable, value q.weight) ∷ tree.plus_multiple (value m) (c ∷ cs) ws) ((c.0, new +ℚ value q.weight) ∷ tree.plus_multiple (value m) cs ws))) (cond a (share_before c.0 (whole_multiple m c.1) (plus_coefficients m cs (q ∷ qs))) (cond b (share_before q.variable (Some q.weight) (plus_coefficients m (c ∷ cs) qs)) (share_before c.0 (checked_plus_multiple m c.1 q.weight) (plus_coefficients m cs qs))))
    by true b one two three = before_stands c.0 (whole_multiple m c.1) (plus_coefficients m cs (q ∷ qs)) new (tree.plus_multiple (value m) cs (weights_of (q ∷ qs))) (multiple_stands m c.1 p) one
    by false true one two three = before_stands q.variable (Some q.weight) (plus_coefficients m (c ∷ cs) qs) (value q.weight) (tree.plus_multiple (value m) (c ∷ cs) ws) (refl, h.0) two
    by false false one two three = before_stands c.0 (checked_plus_multiple m c.1 q.weight) (plus_coefficients m cs qs) (new +ℚ value q.weight) (tree.plus_multiple (value m) cs ws) (plus_multiple_stands m c.1 q.weight p h.0) three

-- ---- forms
-- the combination of fractions stands for that of rational numbers
pub record Means (k : tree.Combination) (c : Combination) : Type 0 where
  pub weights : weights_of c.shares ≡ k.weights
  pub constant : value c.constant ≡ k.constant
  pub positive : AllPositive c.shares
  pub den : 0 < c.constant.den

abbrev pub MeansIf : tree.Combination → Option Combination → Type 0
MeansIf k (Some c) = Means k c
MeansIf k None = Unit {0}

parts_mean : (x : ℚ) (ws : List Weight) (f : Option Fraction) (o : Option (List Share)) → StandsFor x f → Stand ws o → MeansIf (record { weights = ws; constant = x }) (of_parts f o)
parts_mean x ws None o h k = tt
parts_mean x ws (Some f) None h k = tt
parts_mean x ws (Some f) (Some qs) h k = record { weights = k.0; constant = h.0; positive = k.1; den = h.1 }

form_means : (k : tree.Combination) (c : Combination) (m : Fraction) (f : Form) → Means k c → 0 < m.den → MeansIf (tree.plus_form k (value m) f) (checked_plus_form c m f)
unfolding checked_plus_form
form_means k c m f h p =
    parts_mean (value m *ℚ whole_ℚ f.constant +ℚ k.constant) (tree.plus_multiple (value m) f.coefs k.weights) (checked_plus_multiple m f.constant c.constant) (plus_coefficients m f.coefs c.shares)
    (subst (λ x. StandsFor (value m *ℚ whole_ℚ f.constant +ℚ x) (checked_plus_multiple m f.constant c.constant)) h.constant (plus_multiple_stands m f.constant c.constant p h.den))
    (subst (λ ws. Stand (tree.plus_multiple (value m) f.coefs ws) (plus_coefficients m f.coefs c.shares)) h.weights (coefficients_stand m f.coefs c.shares p h.positive))

-- ---- multipliers
multiplier_parts : (m : Fraction) → is_multiplier m ≡ true → (is_negative_rational (value m) ≡ false) × (0 < m.den)
multiplier_parts m h = (over_negative m.num m.den ∙ turned (int_lt m.num (pos 0)) (left_true (not (int_lt m.num (pos 0))) (nat_lt 0 m.den) h), ltb-true 0 m.den (right_true (not (int_lt m.num (pos 0))) (nat_lt 0 m.den) h))
  where
    turned : (b : Bool) → not b ≡ true → b ≡ false
    turned true e = absurd cc
    turned false e = refl

folded_means : (k : tree.Combination) (c : Combination) (ms : List Fraction) (fs : List Form) → Means k c → list_all is_multiplier ms ≡ true → MeansIf (combined_with k (rationals ms) fs) (forms_folded c ms fs)
unfolding combined_with forms_folded
folded_means k c [] fs h a = h
folded_means k c (m ∷ ms) [] h a = h
folded_means k c (m ∷ ms) (f ∷ fs) h a = by (checked_plus_form c m f) (form_means k c m f h (multiplier_parts m (left_true (is_multiplier m) (list_all is_multiplier ms) a)).1) (λ next g. folded_means (tree.plus_form k (value m) f) next ms fs g (right_true (is_multiplier m) (list_all is_multiplier ms) a))
  where
    by : (o : Option Combination) → MeansIf (tree.plus_form k (value m) f) o → ((next : Combination) → Means (tree.plus_form k (value m) f) next → MeansIf (combined_with (tree.plus_form k (value m) f) (rationals ms) fs) (forms_folded next ms fs)) → MeansIf (combined_with (tree.plus_form k (value m) f) (rationals ms) fs) (option_and_then (λ next. forms_folded next ms fs) o)
    by None g rest = tt
    by (Some next) g rest = rest next g

whole_zero : whole_ℚ (pos 0) ≡ 0ℚ
whole_zero = +ℚ_cancel (whole_ℚ (pos 0)) 0ℚ (whole_ℚ (pos 0)) (sum_over_is (pos 0) (pos 0) 1 1 (omega arith) (omega arith) ∙ sym (zero-+ℚ (whole_ℚ (pos 0))))

pub combination_means : (ms : List Fraction) (fs : List Form) → list_all is_multiplier ms ≡ true → MeansIf (tree.combination (rationals ms) fs) (checked_combination ms fs)
combination_means ms fs a = folded_means (record { weights = []; constant = 0ℚ }) empty_combination ms fs (record { weights = refl; constant = whole_zero; positive = tt; den = omega arith }) a

multipliers_are : (ms : List Fraction) (fs : List Form) → length ms ≡ length fs → list_all is_multiplier ms ≡ true → AreMultipliers ms fs
multipliers_are [] [] e a = tt
multipliers_are [] (f ∷ fs) e a = absurd (omega (arith, e))
multipliers_are (m ∷ ms) [] e a = absurd (omega (arith, e))
multipliers_are (m ∷ ms) (f ∷ fs) e a = let parts = multiplier_parts m (left_true (is_multiplier m) (list_all is_multiplier ms) a) in (parts.1, parts.0, multipliers_are ms fs (omega (arith, e)) (right_true (is_multiplier m) (list_all is_multiplier ms) a))

-- ---- contradictions
zero_value : (f : Fraction) → 0 < f.den → f.num ≡ pos 0 → value f ≡ 0ℚ
zero_value f p e = over_same f.num (pos 0) f.den 1 p (omega arith) (ap (λ n. n *ℤ pos 1) e ∙ sym (zero-*ℤ (pos f.den))) ∙ whole_zero

all_zero : (qs : List Share) → AllPositive qs → list_all is_zero qs ≡ true → AllZero (weights_of qs)
all_zero [] p a = tt
all_zero (q ∷ qs) p a = (zero_value q.weight p.0 ((signed_Decides q.weight.num (pos 0)).0 (left_true (is_zero q) (list_all is_zero qs) a)), all_zero qs p.1 (right_true (is_zero q) (list_all is_zero qs) a))

-- what is accepted as a contradiction is one
pub contradiction : (ms : List Fraction) (fs : List Form) (c : Combination) → are_multipliers ms fs ≡ true → checked_combination ms fs ≡ Some c → is_negative_constant c ≡ true → IsContradiction ms fs
contradiction ms fs c a e n =
    let same : nat_eq (length ms) (length fs) ≡ true = left_true (nat_eq (length ms) (length fs)) (list_all is_multiplier ms) a in
    let all : list_all is_multiplier ms ≡ true = right_true (nat_eq (length ms) (length fs)) (list_all is_multiplier ms) a in
    let means : Means (tree.combination (rationals ms) fs) c = subst (λ o. MeansIf (tree.combination (rationals ms) fs) o) e (combination_means ms fs all) in
    record {
      multipliers = multipliers_are ms fs ((unsigned_Decides (length ms) (length fs)).0 same) all;
      zero = subst AllZero means.weights (all_zero c.shares means.positive (left_true (list_all is_zero c.shares) (int_lt c.constant.num (pos 0)) n));
      negative = sym (ap is_negative_rational means.constant) ∙ over_negative c.constant.num c.constant.den ∙ right_true (list_all is_zero c.shares) (int_lt c.constant.num (pos 0)) n;
    }

-- ---- cuts
-- where there is a quotient, the divisor times it is the fraction, and it is in lowest terms
abbrev pub Divides : ℤ → Fraction → Option Fraction → Type 0
Divides d f (Some h) = (value f ≡ whole_ℚ d *ℚ value h) × (0 < h.den) × IsLowest h
Divides d f None = Unit {0}

shuffle : (a b c : ℤ) → a *ℤ (b *ℤ c) ≡ (c *ℤ a) *ℤ b
shuffle a b c = ap (λ t. a *ℤ t) (*ℤ_comm b c) ∙ sym (times_assoc a c b) ∙ ap (λ t. t *ℤ b) (*ℤ_comm a c)

quotient_divides : (f w h : Fraction) → 0 < f.den → 0 < w.den → IsQuotient h (f.num *ℤ pos w.den) (pos f.den *ℤ w.num) → value f ≡ value w *ℚ value h
quotient_divides f w h p k q =
    over_same f.num (w.num *ℤ h.num) f.den (w.den * h.den) p (mul-positive w.den h.den k q.lowest.positive)
    (sym (times_assoc f.num (pos w.den) (pos h.den)) ∙ sym q.value ∙ shuffle h.num (pos f.den) w.num)
    ∙ sym (product_over_is w.num h.num w.den h.den k q.lowest.positive)

pub over_whole_divides : (d : ℤ) (f : Fraction) → pos 1 ≤ℤ d → 0 < f.den → Divides d f (over_whole d f)
unfolding over_whole
over_whole_divides d f l p = by (whole_fits d) refl
  where
    w : Fraction
    w = lowest d (pos 1)

    n : ℤ
    n = f.num *ℤ pos w.den

    m : ℤ
    m = pos f.den *ℤ w.num

    then : IsQuotient w d (pos 1) → (b : Bool) → (whole_fits n && whole_fits m) ≡ b → Divides d f (exact b n m)
    then q true e =
        let r : IsQuotient (lowest n m) n m = lowest_is n m (fits_to n (left_true (whole_fits n) (whole_fits m) e)) (fits_to m (right_true (whole_fits n) (whole_fits m) e)) (product_nonzero (pos f.den) w.num (positive_nonzero f.den p) (whole_nonzero w d l q)) in
        (quotient_divides f w (lowest n m) p q.lowest.positive r ∙ ap (λ x. x *ℚ value (lowest n m)) (over_same w.num d w.den 1 q.lowest.positive (omega arith) q.value), r.lowest.positive, r.lowest)
    then q false e = tt

    by : (b : Bool) → whole_fits d ≡ b → Divides d f (option_and_then (λ g. fraction_quotient f g) (exact b d (pos 1)))
    by true e = then (lowest_is d (pos 1) (fits_to d e) (omega arith) one_nonzero) (whole_fits n && whole_fits m) refl
    by false e = tt

unwrap : {A : Type 0} → A → Option A → A
unwrap x (Some y) = y
unwrap x None = x

pub some_same : {A : Type 0} (x y : A) → Some x ≡ Some y → x ≡ y
unfolding unwrap
some_same x y e = ap (unwrap x) e

pub whole_times : (a b : ℤ) → whole_ℚ (a *ℤ b) ≡ whole_ℚ a *ℚ whole_ℚ b
whole_times a b = sym (product_over_is a b 1 1 (omega arith) (omega arith))

is_whole_value : (d : ℤ) (f h : Fraction) → Divides d f (Some h) → nat_eq h.den 1 ≡ true → value f ≡ whole_ℚ (d *ℤ h.num)
is_whole_value d f h k e = k.0 ∙ ap (λ x. whole_ℚ d *ℚ over h.num x) ((unsigned_Decides h.den 1).0 e) ∙ sym (whole_times d h.num)

multiples : (d : ℤ) (qs rs : List Share) → pos 1 ≤ℤ d → AllPositive qs → divided_shares d qs ≡ Some rs → list_all has_whole_weight rs ≡ true → AreMultiples d (weights_of qs) (numerators rs)
unfolding divided_shares numerators
multiples d [] rs l p e a = sym (ap numerators (some_same [] rs e))
multiples d (q ∷ qs) rs l p e a = by (over_whole d q.weight) (divided_shares d qs) (over_whole_divides d q.weight l p.0) refl e (λ rest f g. multiples d qs rest l p.1 f g)
  where
    by : (w : Option Fraction) (o : Option (List Share)) → Divides d q.weight w → divided_shares d qs ≡ o → share_before q.variable w o ≡ Some rs → ((rest : List Share) → divided_shares d qs ≡ Some rest → list_all has_whole_weight rest ≡ true → AreMultiples d (weights_of qs) (numerators rest)) → AreMultiples d (weights_of (q ∷ qs)) (numerators rs)
    by None o k f g more = absurd cc
    by (Some h) None k f g more = absurd cc
    by (Some h) (Some rest) k f g more =
        let first : Share = record { variable = q.variable; weight = h } in
        let same : first ∷ rest ≡ rs = some_same (first ∷ rest) rs g in
        let whole_first : list_all has_whole_weight (first ∷ rest) ≡ true = ap (list_all has_whole_weight) same ∙ a in
        let left : has_whole_weight first ≡ true = left_true (has_whole_weight first) (list_all has_whole_weight rest) whole_first in
        let right : list_all has_whole_weight rest ≡ true = right_true (has_whole_weight first) (list_all has_whole_weight rest) whole_first in
        (h.num, (numerators rest, (is_whole_value d q.weight h k left, sym (ap numerators same), more rest f right)))

not_below : (z : ℤ) → down z ≤ up z → int_lt z (pos 0) ≡ false
not_below (pos n) h = le-ltb n 0 (omega arith)
not_below (negsuc n) h = absurd (omega arith)

is_below : (z : ℤ) → up z < down z → int_lt z (pos 0) ≡ true
is_below (pos n) h = absurd (omega arith)
is_below (negsuc n) h = refl

pub times_neg : (d y : ℤ) → d *ℤ neg_ℤ y ≡ neg_ℤ (d *ℤ y)
times_neg d y =
    let a : _ = product_is d (neg_ℤ y) in
    let b : _ = product_is d y in
    let n : _ = neg_is y in
    let o : _ = neg_is (d *ℤ y) in
    same_in (d *ℤ neg_ℤ y) (neg_ℤ (d *ℤ y)) (rw (a.0, a.1, n.0, n.1, o.0, o.1, b.0, b.1) (omega arith))

-- the constant less the divisor times a whole number
lifted : (d : ℤ) (K G : ℚ) (k : ℤ) → K ≡ whole_ℚ d *ℚ G → K +ℚ whole_ℚ (neg_ℤ (d *ℤ k)) ≡ whole_ℚ d *ℚ (G +ℚ whole_ℚ (neg_ℤ k))
lifted d K G k e = ap₂ (λ x y. x +ℚ whole_ℚ y) e (sym (times_neg d k)) ∙ ap (λ y. whole_ℚ d *ℚ G +ℚ y) (whole_times d (neg_ℤ k)) ∙ sym (*ℚ-+ℚ (whole_ℚ d) G (whole_ℚ (neg_ℤ k)))

-- the numerator of a fraction less a whole number
rest_over : Fraction → ℤ → ℤ
rest_over f k = f.num *ℤ pos 1 +ℤ neg_ℤ k *ℤ pos f.den

rest_value : (f : Fraction) (k : ℤ) → 0 < f.den → value f +ℚ whole_ℚ (neg_ℤ k) ≡ over (rest_over f k) (f.den * 1)
unfolding rest_over
rest_value f k p = sum_over_is f.num (neg_ℤ k) f.den 1 p (omega arith)

rest_parts : (f : Fraction) (k : ℤ) → up (rest_over f k) + up k * f.den + down f.num ≡ down (rest_over f k) + down k * f.den + up f.num
unfolding rest_over
rest_parts f k =
    let s : _ = sum_is_lem (f.num *ℤ pos 1) (neg_ℤ k *ℤ pos f.den) in
    let a : _ = product_is f.num (pos 1) in
    let b : _ = product_is (neg_ℤ k) (pos f.den) in
    let m : _ = neg_is k in
    let x : up (neg_ℤ k) * f.den ≡ down k * f.den = ap (λ (n : ℕ). n * f.den) m.0 in
    let y : down (neg_ℤ k) * f.den ≡ up k * f.den = ap (λ (n : ℕ). n * f.den) m.1 in
    omega (arith, s, a.0, a.1, b.0, b.1, x, y)

at_floor : (f : Fraction) → 0 < f.den → down (rest_over f (floor f)) ≤ up (rest_over f (floor f))
at_floor f p = omega (arith, rest_parts f (floor f), euclid_low f.num f.den p)

above_floor : (f : Fraction) → 0 < f.den → up (rest_over f (floor f +ℤ pos 1)) < down (rest_over f (floor f +ℤ pos 1))
above_floor f p =
    let k : ℤ = floor f in
    let s : _ = sum_is_lem k (pos 1) in
    let t : (up (k +ℤ pos 1) + down k + 0) * f.den ≡ (down (k +ℤ pos 1) + up k + 1) * f.den = ap (λ (x : ℕ). x * f.den) s in
    omega (arith, rest_parts f (k +ℤ pos 1), euclid_high f.num f.den p, t)

pub negative_times : (d n : ℤ) → pos 1 ≤ℤ d → up n < down n → int_lt (d *ℤ n) (pos 0) ≡ true
negative_times (pos zero) n l h = absurd (omega (arith, ints, l))
negative_times (negsuc a) n l h = absurd (omega (arith, ints, l))
negative_times (pos (suc a)) n l h =
    let m : _ = product_is (pos (suc a)) n in
    let le : suc a * suc (up n) ≤ suc a * down n = mul-le-mul_left (suc a) h in
    is_below (pos (suc a) *ℤ n) (omega (arith, m.0, m.1, le))

at_least_zero : (d : ℤ) → pos 1 ≤ℤ d → pos 0 ≤ℤ d
at_least_zero d l = omega (arith, ints, l)

rounded_below : (d : ℤ) (K : ℚ) (h : Fraction) → pos 1 ≤ℤ d → 0 < h.den → K ≡ whole_ℚ d *ℚ value h → is_negative_rational (K +ℚ whole_ℚ (neg_ℤ (d *ℤ floor h))) ≡ false
rounded_below d K h l p e =
    ap is_negative_rational (lifted d K (value h) (floor h) e)
    ∙ not_negative_times (whole_ℚ d) (value h +ℚ whole_ℚ (neg_ℤ (floor h))) (whole_not_negative d (at_least_zero d l))
    (ap is_negative_rational (rest_value h (floor h) p) ∙ over_negative (rest_over h (floor h)) (h.den * 1) ∙ not_below (rest_over h (floor h)) (at_floor h p))

rounded_next : (d : ℤ) (K : ℚ) (h : Fraction) → pos 1 ≤ℤ d → 0 < h.den → K ≡ whole_ℚ d *ℚ value h → is_negative_rational (K +ℚ whole_ℚ (neg_ℤ (d *ℤ (floor h +ℤ pos 1)))) ≡ true
rounded_next d K h l p e =
    let k : ℤ = floor h +ℤ pos 1 in
    ap is_negative_rational (lifted d K (value h) k e ∙ ap (λ x. whole_ℚ d *ℚ x) (rest_value h k p) ∙ product_over_is d (rest_over h k) 1 (h.den * 1) (omega arith) (omega arith))
    ∙ over_negative (d *ℤ rest_over h k) (1 * (h.den * 1)) ∙ negative_times d (rest_over h k) l (above_floor h p)

cond_some : {A : Type 0} (b : Bool) (x y : A) → cond b (Some x) None ≡ Some y → (b ≡ true) × (x ≡ y)
cond_some true x y e = (refl, some_same x y e)
cond_some false x y e = absurd cc

-- what is accepted as a cut is one
pub cut : (ms : List Fraction) (fs : List Form) (d : ℤ) (c g : Combination) (e : Form) → are_multipliers ms fs ≡ true → pos 1 ≤ℤ d → checked_combination ms fs ≡ Some c → divided d c ≡ Some g → rounded g ≡ Some e → IsCut ms d fs e
cut ms fs d c g e a l is part form = by (over_whole d c.constant) (divided_shares d c.shares) (over_whole_divides d c.constant l means.den) refl part
  where
    same : nat_eq (length ms) (length fs) ≡ true
    same = left_true (nat_eq (length ms) (length fs)) (list_all is_multiplier ms) a

    all : list_all is_multiplier ms ≡ true
    all = right_true (nat_eq (length ms) (length fs)) (list_all is_multiplier ms) a

    whole_combination : tree.Combination
    whole_combination = tree.combination (rationals ms) fs

    means : Means (tree.combination (rationals ms) fs) c
    means = subst (λ o. MeansIf (tree.combination (rationals ms) fs) o) is (combination_means ms fs all)

    of_form : (h : Fraction) (rest : List Share) → Divides d c.constant (Some h) → divided_shares d c.shares ≡ Some rest → (list_all has_whole_weight rest ≡ true) × (record { coefs = numerators rest; constant = floor h } ≡ e) → IsCut ms d fs e
    of_form h rest k f w = subst (λ x. IsCut ms d fs x) w.1 (record {
      multipliers = multipliers_are ms fs ((unsigned_Decides (length ms) (length fs)).0 same) all;
      positive = l;
      multiples = subst (λ ws. AreMultiples d ws (numerators rest)) means.weights (multiples d c.shares rest l means.positive f w.0);
      below = rounded_below d (tree.combination (rationals ms) fs).constant h l k.1 (sym means.constant ∙ k.0);
      next = rounded_next d (tree.combination (rationals ms) fs).constant h l k.1 (sym means.constant ∙ k.0);
    })

    by : (w : Option Fraction) (o : Option (List Share)) → Divides d c.constant w → divided_shares d c.shares ≡ o → of_parts w o ≡ Some g → IsCut ms d fs e
    by None o k f p = absurd cc
    by (Some h) None k f p = absurd cc
    by (Some h) (Some rest) k f p =
        let made : Combination = record { shares = rest; constant = h } in
        of_form h rest k f (cond_some (list_all has_whole_weight rest) (record { coefs = numerators rest; constant = floor h }) e (ap rounded (some_same made g p) ∙ form))
