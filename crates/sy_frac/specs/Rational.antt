-- The rational numbers: fractions of whole numbers over positive denominators, equal where their cross products are.
use Rattle.std.specs.Prelude.{◌≡◌, ℕ, ◌+◌, ◌*◌, ◌<◌, ◌≤◌, Bool, true, false, ℤ, pos, negsuc}
use Rattle.std.proofs.Common.{suc, refl, sym, ◌∙◌, ap, ap₂, arith, mul-le-mul_right, ltb-true, ltb-false}
use Rattle.sy_frac.specs.Fraction.{Fraction, IsQuotient, sum_over}
use Rattle.std.specs.Prelude.{◌*ℤ◌, ◌+ℤ◌, ◌-◌, ◌≤ℤ◌, int_lt}
use borrow.Author.Differences.{sum_is_lem, product_is}
use Rattle.std.proofs.Math.Bool.{Bool-set}
use lib.Dec.{ltb}
use borrow.Author.Differences.{up, down, ints, same_out}
use mathlib.Core.HLevel.{Π_prop}
use mathlib.Core.Quot.{Quot, mk, sound, ind, lift, Quot-set}

-- the whole number plus - minus, over den
pub record Ratio : Type 0 where
  pub plus : ℕ
  pub minus : ℕ
  pub den : ℕ
  pub positive : 0 < den

-- equal cross products
pub Same : Ratio → Ratio → Type 0
Same a b = a.plus * b.den + b.minus * a.den ≡ b.plus * a.den + a.minus * b.den

abbrev pub ℚ : Type 0
ℚ = Quot Same

pub ℚ-set : IsSet ℚ
ℚ-set = Quot-set

product_positive : (a b : ℕ) → 0 < a → 0 < b → 0 < a * b
product_positive a b p q = grind arith

abbrev plus_ratio : Ratio → Ratio → Ratio
plus_ratio a b = record {
  plus = a.plus * b.den + b.plus * a.den;
  minus = a.minus * b.den + b.minus * a.den;
  den = a.den * b.den;
  positive = product_positive a.den b.den a.positive b.positive;
}

abbrev times_ratio : Ratio → Ratio → Ratio
times_ratio a b = record {
  plus = a.plus * b.plus + a.minus * b.minus;
  minus = a.plus * b.minus + a.minus * b.plus;
  den = a.den * b.den;
  positive = product_positive a.den b.den a.positive b.positive;
}

abbrev minus_ratio : Ratio → Ratio
minus_ratio a = record { plus = a.minus; minus = a.plus; den = a.den; positive = a.positive }

plus_left : (a b c : Ratio) → Same a b → Same (plus_ratio a c) (plus_ratio b c)
unfolding Same
plus_left a b c h =
    let e : (a.plus * b.den + b.minus * a.den) * (c.den * c.den) ≡ (b.plus * a.den + a.minus * b.den) * (c.den * c.den) = ap (λ (n : ℕ). n * (c.den * c.den)) h in
    omega arith

plus_comm : (a b : Ratio) → Same (plus_ratio a b) (plus_ratio b a)
unfolding Same
plus_comm a b = omega arith

times_left : (a b c : Ratio) → Same a b → Same (times_ratio a c) (times_ratio b c)
unfolding Same
times_left a b c h =
    let e : (a.plus * b.den + b.minus * a.den) * (c.plus * c.den) ≡ (b.plus * a.den + a.minus * b.den) * (c.plus * c.den) = ap (λ (n : ℕ). n * (c.plus * c.den)) h in
    let f : (a.plus * b.den + b.minus * a.den) * (c.minus * c.den) ≡ (b.plus * a.den + a.minus * b.den) * (c.minus * c.den) = ap (λ (n : ℕ). n * (c.minus * c.den)) h in
    omega arith

times_comm : (a b : Ratio) → Same (times_ratio a b) (times_ratio b a)
unfolding Same
times_comm a b = omega arith

plus_assoc : (a b c : Ratio) → Same (plus_ratio (plus_ratio a b) c) (plus_ratio a (plus_ratio b c))
unfolding Same
plus_assoc a b c = omega arith

times_assoc : (a b c : Ratio) → Same (times_ratio (times_ratio a b) c) (times_ratio a (times_ratio b c))
unfolding Same
times_assoc a b c = omega arith

times_plus : (a b c : Ratio) → Same (times_ratio a (plus_ratio b c)) (plus_ratio (times_ratio a b) (times_ratio a c))
unfolding Same
times_plus a b c = omega arith

zero_ratio : Ratio
zero_ratio = record { plus = 0; minus = 0; den = 1; positive = omega arith }

one_ratio : Ratio
one_ratio = record { plus = 1; minus = 0; den = 1; positive = omega arith }

plus_zero_ratio : (a : Ratio) → Same (plus_ratio a zero_ratio) a
unfolding Same zero_ratio
plus_zero_ratio a = omega arith

times_one_ratio : (a : Ratio) → Same (times_ratio a one_ratio) a
unfolding Same one_ratio
times_one_ratio a = omega arith

plus_minus_ratio : (a : Ratio) → Same (plus_ratio a (minus_ratio a)) zero_ratio
unfolding Same zero_ratio
plus_minus_ratio a = omega arith

minus_same : (a b : Ratio) → Same a b → Same (minus_ratio a) (minus_ratio b)
unfolding Same
minus_same a b h = omega arith

plus_right : (a b c : Ratio) → Same b c → Same (plus_ratio a b) (plus_ratio a c)
unfolding Same
plus_right a b c h =
    let e : (b.plus * c.den + c.minus * b.den) * (a.den * a.den) ≡ (c.plus * b.den + b.minus * c.den) * (a.den * a.den) = ap (λ (n : ℕ). n * (a.den * a.den)) h in
    omega arith

times_right : (a b c : Ratio) → Same b c → Same (times_ratio a b) (times_ratio a c)
unfolding Same
times_right a b c h =
    let e : (b.plus * c.den + c.minus * b.den) * (a.plus * a.den) ≡ (c.plus * b.den + b.minus * c.den) * (a.plus * a.den) = ap (λ (n : ℕ). n * (a.plus * a.den)) h in
    let f : (b.plus * c.den + c.minus * b.den) * (a.minus * a.den) ≡ (c.plus * b.den + b.minus * c.den) * (a.minus * a.den) = ap (λ (n : ℕ). n * (a.minus * a.den)) h in
    omega arith

neg_times : (a b : Ratio) → Same (times_ratio (minus_ratio a) b) (minus_ratio (times_ratio a b))
unfolding Same
neg_times a b = omega arith

neg_plus : (a b : Ratio) → Same (minus_ratio (plus_ratio a b)) (plus_ratio (minus_ratio a) (minus_ratio b))
unfolding Same
neg_plus a b = omega arith

-- ---- the numbers
pub 0ℚ : ℚ
0ℚ = mk zero_ratio

pub 1ℚ : ℚ
1ℚ = mk one_ratio

-- two functions that agree at every ratio agree
agree : (f g : ℚ → ℚ) → ((a : Ratio) → f (mk a) ≡ g (mk a)) → (x : ℚ) → f x ≡ g x
agree f g h x = ind {r = Same} {β = λ q. f q ≡ g q} (λ q. ℚ-set (f q) (g q)) h x

agree₂ : (f g : ℚ → ℚ → ℚ) → ((a b : Ratio) → f (mk a) (mk b) ≡ g (mk a) (mk b)) → (x y : ℚ) → f x y ≡ g x y
agree₂ f g h x y = agree (λ q. f q y) (λ q. g q y) (λ a. agree (f (mk a)) (g (mk a)) (h a) y) x

agree₃ : (f g : ℚ → ℚ → ℚ → ℚ) → ((a b c : Ratio) → f (mk a) (mk b) (mk c) ≡ g (mk a) (mk b) (mk c)) → (x y z : ℚ) → f x y z ≡ g x y z
agree₃ f g h x y z = agree (λ q. f q y z) (λ q. g q y z) (λ a. agree₂ (f (mk a)) (g (mk a)) (h a) y z) x

-- the sum, the product and the opposite number
infixl 20 ◌+ℚ◌
infixl 30 ◌*ℚ◌
abbrev plus_from : Ratio → ℚ → ℚ
plus_from a y = lift ℚ-set (λ b. mk (plus_ratio a b)) (λ b c h. sound {r = Same} (plus_right a b c h)) y

abbrev times_from : Ratio → ℚ → ℚ
times_from a y = lift ℚ-set (λ b. mk (times_ratio a b)) (λ b c h. sound {r = Same} (times_right a b c h)) y

pub ◌+ℚ◌ : ℚ → ℚ → ℚ
x +ℚ y = lift ℚ-set (λ a. plus_from a y) (λ a b h. agree (plus_from a) (plus_from b) (λ c. sound {r = Same} (plus_left a b c h)) y) x

pub ◌*ℚ◌ : ℚ → ℚ → ℚ
x *ℚ y = lift ℚ-set (λ a. times_from a y) (λ a b h. agree (times_from a) (times_from b) (λ c. sound {r = Same} (times_left a b c h)) y) x

pub neg_ℚ : ℚ → ℚ
neg_ℚ x = lift ℚ-set (λ a. mk (minus_ratio a)) (λ a b h. sound {r = Same} (minus_same a b h)) x

-- ---- the laws of a commutative ring
pub +ℚ_comm : (x y : ℚ) → x +ℚ y ≡ y +ℚ x
unfolding ◌+ℚ◌
+ℚ_comm = agree₂ (λ x y. x +ℚ y) (λ x y. y +ℚ x) (λ a b. sound {r = Same} (plus_comm a b))

pub +ℚ_assoc : (x y z : ℚ) → (x +ℚ y) +ℚ z ≡ x +ℚ (y +ℚ z)
unfolding ◌+ℚ◌
+ℚ_assoc = agree₃ (λ x y z. (x +ℚ y) +ℚ z) (λ x y z. x +ℚ (y +ℚ z)) (λ a b c. sound {r = Same} (plus_assoc a b c))

pub +ℚ_zero : (x : ℚ) → x +ℚ 0ℚ ≡ x
unfolding ◌+ℚ◌ 0ℚ
+ℚ_zero = agree (λ x. x +ℚ 0ℚ) (λ x. x) (λ a. sound {r = Same} (plus_zero_ratio a))

pub +ℚ-neg : (x : ℚ) → x +ℚ neg_ℚ x ≡ 0ℚ
unfolding ◌+ℚ◌ 0ℚ neg_ℚ
+ℚ-neg = agree (λ x. x +ℚ neg_ℚ x) (λ x. 0ℚ) (λ a. sound {r = Same} (plus_minus_ratio a))

pub *ℚ_comm : (x y : ℚ) → x *ℚ y ≡ y *ℚ x
unfolding ◌*ℚ◌
*ℚ_comm = agree₂ (λ x y. x *ℚ y) (λ x y. y *ℚ x) (λ a b. sound {r = Same} (times_comm a b))

pub *ℚ_assoc : (x y z : ℚ) → (x *ℚ y) *ℚ z ≡ x *ℚ (y *ℚ z)
unfolding ◌*ℚ◌
*ℚ_assoc = agree₃ (λ x y z. (x *ℚ y) *ℚ z) (λ x y z. x *ℚ (y *ℚ z)) (λ a b c. sound {r = Same} (times_assoc a b c))

pub *ℚ_one : (x : ℚ) → x *ℚ 1ℚ ≡ x
unfolding ◌*ℚ◌ 1ℚ
*ℚ_one = agree (λ x. x *ℚ 1ℚ) (λ x. x) (λ a. sound {r = Same} (times_one_ratio a))

pub *ℚ-+ℚ : (x y z : ℚ) → x *ℚ (y +ℚ z) ≡ (x *ℚ y) +ℚ (x *ℚ z)
unfolding ◌+ℚ◌ ◌*ℚ◌
*ℚ-+ℚ = agree₃ (λ x y z. x *ℚ (y +ℚ z)) (λ x y z. (x *ℚ y) +ℚ (x *ℚ z)) (λ a b c. sound {r = Same} (times_plus a b c))

-- ---- what follows from them
pub +ℚ_left_comm : (x y z : ℚ) → x +ℚ (y +ℚ z) ≡ y +ℚ (x +ℚ z)
+ℚ_left_comm x y z = sym (+ℚ_assoc x y z) ∙ ap (λ t. t +ℚ z) (+ℚ_comm x y) ∙ +ℚ_assoc y x z

pub *ℚ_left_comm : (x y z : ℚ) → x *ℚ (y *ℚ z) ≡ y *ℚ (x *ℚ z)
*ℚ_left_comm x y z = sym (*ℚ_assoc x y z) ∙ ap (λ t. t *ℚ z) (*ℚ_comm x y) ∙ *ℚ_assoc y x z

pub zero-+ℚ : (x : ℚ) → 0ℚ +ℚ x ≡ x
zero-+ℚ x = +ℚ_comm 0ℚ x ∙ +ℚ_zero x

pub one-*ℚ : (x : ℚ) → 1ℚ *ℚ x ≡ x
one-*ℚ x = *ℚ_comm 1ℚ x ∙ *ℚ_one x

pub +ℚ-*ℚ : (x y z : ℚ) → (x +ℚ y) *ℚ z ≡ (x *ℚ z) +ℚ (y *ℚ z)
+ℚ-*ℚ x y z = *ℚ_comm (x +ℚ y) z ∙ *ℚ-+ℚ z x y ∙ ap₂ (λ s t. s +ℚ t) (*ℚ_comm z x) (*ℚ_comm z y)

-- what is added on both sides may go
pub +ℚ_cancel : (x y z : ℚ) → x +ℚ z ≡ y +ℚ z → x ≡ y
+ℚ_cancel x y z h = back x ∙ ap (λ t. t +ℚ neg_ℚ z) h ∙ sym (back y)
  where
    back : (x : ℚ) → x ≡ (x +ℚ z) +ℚ neg_ℚ z
    back x = sym (+ℚ_assoc x z (neg_ℚ z) ∙ ap (λ t. x +ℚ t) (+ℚ-neg z) ∙ +ℚ_zero x)

pub *ℚ_zero : (x : ℚ) → x *ℚ 0ℚ ≡ 0ℚ
*ℚ_zero x = +ℚ_cancel (x *ℚ 0ℚ) 0ℚ (x *ℚ 0ℚ) (sym (*ℚ-+ℚ x 0ℚ 0ℚ) ∙ ap (λ t. x *ℚ t) (+ℚ_zero 0ℚ) ∙ sym (zero-+ℚ (x *ℚ 0ℚ)))

pub zero-*ℚ : (x : ℚ) → 0ℚ *ℚ x ≡ 0ℚ
zero-*ℚ x = *ℚ_comm 0ℚ x ∙ *ℚ_zero x

pub neg_ℚ-*ℚ : (x y : ℚ) → neg_ℚ x *ℚ y ≡ neg_ℚ (x *ℚ y)
unfolding ◌*ℚ◌ neg_ℚ
neg_ℚ-*ℚ = agree₂ (λ x y. neg_ℚ x *ℚ y) (λ x y. neg_ℚ (x *ℚ y)) (λ a b. sound {r = Same} (neg_times a b))

pub neg_ℚ-+ℚ : (x y : ℚ) → neg_ℚ (x +ℚ y) ≡ neg_ℚ x +ℚ neg_ℚ y
unfolding ◌+ℚ◌ neg_ℚ
neg_ℚ-+ℚ = agree₂ (λ x y. neg_ℚ (x +ℚ y)) (λ x y. neg_ℚ x +ℚ neg_ℚ y) (λ a b. sound {r = Same} (neg_plus a b))

-- sorts sums of products, for `simp`
pub ruleset ring = (*ℚ-+ℚ, +ℚ-*ℚ, *ℚ_assoc, *ℚ_left_comm, *ℚ_comm, +ℚ_assoc, +ℚ_left_comm, +ℚ_comm)

-- ---- the order
negative_ratio : Ratio → Bool
negative_ratio a = ltb a.plus a.minus

clash : (a b : Ratio) → Same a b → a.plus < a.minus → b.minus ≤ b.plus → ⊥
unfolding Same
clash a b h p q =
    let e : suc a.plus * b.den ≤ a.minus * b.den = mul-le-mul_right b.den p in
    let f : b.minus * a.den ≤ b.plus * a.den = mul-le-mul_right a.den q in
    let g : 0 < b.den = b.positive in
    omega arith

negative_same : (a b : Ratio) → Same a b → negative_ratio a ≡ negative_ratio b
unfolding Same negative_ratio
negative_same a b h =
    by_tests (ltb a.plus a.minus) (ltb b.plus b.minus) refl refl
  where
    by_tests : (s t : Bool) → ltb a.plus a.minus ≡ s → ltb b.plus b.minus ≡ t → s ≡ t
    by_tests true true p q = refl
    by_tests false false p q = refl
    by_tests true false p q = absurd (clash a b h (ltb-true _ _ p) (ltb-false _ _ q))
    by_tests false true p q = absurd (clash b a (sym h) (ltb-true _ _ q) (ltb-false _ _ p))

-- below zero
pub is_negative_rational : ℚ → Bool
is_negative_rational x = lift Bool-set negative_ratio negative_same x

-- ---- laws of the order
pub one_not_negative : is_negative_rational 1ℚ ≡ false
unfolding is_negative_rational 1ℚ one_ratio negative_ratio
one_not_negative = refl

pub zero_not_negative : is_negative_rational 0ℚ ≡ false
unfolding is_negative_rational 0ℚ zero_ratio negative_ratio
zero_not_negative = refl

not_negative_plus_ratio : (a b : Ratio) → a.minus ≤ a.plus → b.minus ≤ b.plus → (plus_ratio a b).minus ≤ (plus_ratio a b).plus
not_negative_plus_ratio a b h k =
    let e : a.minus * b.den ≤ a.plus * b.den = mul-le-mul_right b.den h in
    let f : b.minus * a.den ≤ b.plus * a.den = mul-le-mul_right a.den k in
    omega arith

not_negative_times_ratio : (a b : Ratio) → a.minus ≤ a.plus → b.minus ≤ b.plus → (times_ratio a b).minus ≤ (times_ratio a b).plus
not_negative_times_ratio a b h k = squares a.plus a.minus b.plus b.minus (a.plus - a.minus) (b.plus - b.minus) (omega arith) (omega arith)
  where
    squares : (p m q n x y : ℕ) → p ≡ m + x → q ≡ n + y → p * n + m * q ≤ p * q + m * n
    squares p m q n x y e f = rw (e, f) (omega arith)

agree_bool : (P : ℚ → Type 0) → ((x : ℚ) → IsProp (P x)) → ((a : Ratio) → P (mk a)) → (x : ℚ) → P x
agree_bool P prop h x = ind {r = Same} {β = P} prop h x

ltb_back : (m n : ℕ) → n ≤ m → ltb m n ≡ false
ltb_back m n h = by (ltb m n) refl
  where
    by : (t : Bool) → ltb m n ≡ t → t ≡ false
    by true e = absurd (omega (arith, ltb-true m n e))
    by false e = refl

pub not_negative_plus : (x y : ℚ) → is_negative_rational x ≡ false → is_negative_rational y ≡ false → is_negative_rational (x +ℚ y) ≡ false
unfolding is_negative_rational ◌+ℚ◌ negative_ratio
not_negative_plus =
    agree_bool (λ x. (y : ℚ) → is_negative_rational x ≡ false → is_negative_rational y ≡ false → is_negative_rational (x +ℚ y) ≡ false)
    (λ x. Π_prop (λ y. Π_prop (λ h. Π_prop (λ k. Bool-set _ _))))
    (λ a. agree_bool (λ y. is_negative_rational (mk a) ≡ false → is_negative_rational y ≡ false → is_negative_rational (mk a +ℚ y) ≡ false)
    (λ y. Π_prop (λ h. Π_prop (λ k. Bool-set _ _)))
    (λ b h k. ltb_back _ _ (not_negative_plus_ratio a b (ltb-false _ _ h) (ltb-false _ _ k))))

pub not_negative_times : (x y : ℚ) → is_negative_rational x ≡ false → is_negative_rational y ≡ false → is_negative_rational (x *ℚ y) ≡ false
unfolding is_negative_rational ◌*ℚ◌ negative_ratio
not_negative_times =
    agree_bool (λ x. (y : ℚ) → is_negative_rational x ≡ false → is_negative_rational y ≡ false → is_negative_rational (x *ℚ y) ≡ false)
    (λ x. Π_prop (λ y. Π_prop (λ h. Π_prop (λ k. Bool-set _ _))))
    (λ a. agree_bool (λ y. is_negative_rational (mk a) ≡ false → is_negative_rational y ≡ false → is_negative_rational (mk a *ℚ y) ≡ false)
    (λ y. Π_prop (λ h. Π_prop (λ k. Bool-set _ _)))
    (λ b h k. ltb_back _ _ (not_negative_times_ratio a b (ltb-false _ _ h) (ltb-false _ _ k))))

-- ---- whole numbers over positive ones
ratio_over : ℤ → ℕ → Ratio
ratio_over n d = record { plus = up n; minus = down n; den = suc (d - 1); positive = omega arith }

-- n over d, where d is positive
pub over : ℤ → ℕ → ℚ
over n d = mk (ratio_over n d)

-- the number that a fraction stands for
abbrev pub value : Fraction → ℚ
value f = over f.num f.den

pub over_same : (a c : ℤ) (b d : ℕ) → 0 < b → 0 < d → a *ℤ pos d ≡ c *ℤ pos b → over a b ≡ over c d
unfolding over Same ratio_over
over_same a c b d p q h = sound {r = Same} (crossed a c b d p q h)
  where
    crossed : (a c : ℤ) (b d : ℕ) → 0 < b → 0 < d → a *ℤ pos d ≡ c *ℤ pos b → Same (ratio_over a b) (ratio_over c d)
    crossed a c b d p q h =
        let e : b ≡ suc (b - 1) = omega arith in
        let f : d ≡ suc (d - 1) = omega arith in
        let g : (up (a *ℤ pos d) ≡ up (c *ℤ pos b)) × (down (a *ℤ pos d) ≡ down (c *ℤ pos b)) = same_out _ _ h in
        let k : (up (a *ℤ pos d) ≡ up a * d + down a * 0) × (down (a *ℤ pos d) ≡ up a * 0 + down a * d) = product_is a (pos d) in
        let l : (up (c *ℤ pos b) ≡ up c * b + down c * 0) × (down (c *ℤ pos b) ≡ up c * 0 + down c * b) = product_is c (pos b) in
        rw (← e, ← f) (omega arith)

-- ---- what the operations on fractions mean
-- a fraction in lowest terms that is n / d has the value of any fraction with that quotient
value_is : (f : Fraction) (n : ℤ) (d : ℕ) → 0 < d → IsQuotient f n (pos d) → value f ≡ over n d
value_is f n d p q = over_same f.num n f.den d q.lowest.positive p q.value

pub sum_over_is : (a c : ℤ) (b d : ℕ) → 0 < b → 0 < d → over a b +ℚ over c d ≡ over (a *ℤ pos d +ℤ c *ℤ pos b) (b * d)
unfolding over Same ratio_over ◌+ℚ◌
sum_over_is a c b d p q = sound {r = Same} (crossed a c b d p q)
  where
    crossed : (a c : ℤ) (b d : ℕ) → 0 < b → 0 < d → Same (plus_ratio (ratio_over a b) (ratio_over c d)) (ratio_over (a *ℤ pos d +ℤ c *ℤ pos b) (b * d))
    crossed a c b d p q =
        let e : suc (b - 1) ≡ b = omega arith in
        let f : suc (d - 1) ≡ d = omega arith in
        let r : 0 < b * d = product_positive b d p q in
        let g : suc (b * d - 1) ≡ b * d = omega arith in
        let s : up (a *ℤ pos d +ℤ c *ℤ pos b) + down (a *ℤ pos d) + down (c *ℤ pos b) ≡ down (a *ℤ pos d +ℤ c *ℤ pos b) + up (a *ℤ pos d) + up (c *ℤ pos b) = sum_is_lem (a *ℤ pos d) (c *ℤ pos b) in
        let k : (up (a *ℤ pos d) ≡ up a * d + down a * 0) × (down (a *ℤ pos d) ≡ up a * 0 + down a * d) = product_is a (pos d) in
        let l : (up (c *ℤ pos b) ≡ up c * b + down c * 0) × (down (c *ℤ pos b) ≡ up c * 0 + down c * b) = product_is c (pos b) in
        let t : up (a *ℤ pos d +ℤ c *ℤ pos b) + down a * d + down c * b ≡ down (a *ℤ pos d +ℤ c *ℤ pos b) + up a * d + up c * b = omega arith in
        let w : (up (a *ℤ pos d +ℤ c *ℤ pos b) + down a * d + down c * b) * (b * d) ≡ (down (a *ℤ pos d +ℤ c *ℤ pos b) + up a * d + up c * b) * (b * d) = ap (λ (n : ℕ). n * (b * d)) t in
        rw (e, f, g) (omega (arith, w))

pub product_over_is : (a c : ℤ) (b d : ℕ) → 0 < b → 0 < d → over a b *ℚ over c d ≡ over (a *ℤ c) (b * d)
unfolding over Same ratio_over ◌*ℚ◌
product_over_is a c b d p q = sound {r = Same} (crossed a c b d p q)
  where
    crossed : (a c : ℤ) (b d : ℕ) → 0 < b → 0 < d → Same (times_ratio (ratio_over a b) (ratio_over c d)) (ratio_over (a *ℤ c) (b * d))
    crossed a c b d p q =
        let e : suc (b - 1) ≡ b = omega arith in
        let f : suc (d - 1) ≡ d = omega arith in
        let r : 0 < b * d = product_positive b d p q in
        let g : suc (b * d - 1) ≡ b * d = omega arith in
        let k : (up (a *ℤ c) ≡ up a * up c + down a * down c) × (down (a *ℤ c) ≡ up a * down c + down a * up c) = product_is a c in
        rw (e, f, g, k.0, k.1) (omega arith)

pub value_sum : (f g r : Fraction) → 0 < f.den → 0 < g.den → IsQuotient r (sum_over f g) (pos f.den *ℤ pos g.den) → value r ≡ value f +ℚ value g
value_sum f g r p q h = value_is r (sum_over f g) (f.den * g.den) (product_positive f.den g.den p q) h ∙ sym (sum_over_is f.num g.num f.den g.den p q)

pub value_product : (f g r : Fraction) → 0 < f.den → 0 < g.den → IsQuotient r (f.num *ℤ g.num) (pos f.den *ℤ pos g.den) → value r ≡ value f *ℚ value g
value_product f g r p q h = value_is r (f.num *ℤ g.num) (f.den * g.den) (product_positive f.den g.den p q) h ∙ sym (product_over_is f.num g.num f.den g.den p q)

-- a whole number that isn't negative
pub whole_not_negative : (n : ℤ) → pos 0 ≤ℤ n → is_negative_rational (over n 1) ≡ false
unfolding is_negative_rational over ratio_over negative_ratio
whole_not_negative n h = ltb_back (up n) (down n) (omega (arith, ints, h))

-- a fraction is negative where its numerator is
pub over_negative : (n : ℤ) (d : ℕ) → is_negative_rational (over n d) ≡ int_lt n (pos 0)
unfolding is_negative_rational over ratio_over negative_ratio
over_negative (pos n) d = refl
over_negative (negsuc n) d = below (ltb 0 (suc n)) refl
  where
    below : (t : Bool) → ltb 0 (suc n) ≡ t → t ≡ true
    below true e = refl
    below false e = absurd (omega (arith, ltb-false 0 (suc n) e))

-- the number 1 as a fraction
pub one_over : over (pos 1) 1 ≡ 1ℚ
unfolding over Same ratio_over 1ℚ one_ratio
one_over = sound {r = Same} refl
