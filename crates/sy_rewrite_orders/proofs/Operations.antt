-- The sums of operators' values.
use Rattle.std.proofs.Common.{◌≡◌, ℕ, Bool, true, false, ◌+◌, ◌-◌, ◌*◌, ◌%◌, ◌^◌, ◌<◌, ◌≤◌, ◌&&◌, not, nat_eq, nat_lt, nat_le, cond, List, [], ◌∷◌, zero, suc, inl, inr, arith, refl, ap, sym, subst, ◌∙◌}
use Rattle.std.proofs.Math.Nat.{mod-lt, mod-eq_of_lt, mod_self, add-mod_right, pow-succ'}
use Rattle.std.proofs.lemmas.Nat.{pow_pos}
use Rattle.std.proofs.lemmas.Bool.{cases_lt}
use Rattle.std.proofs.lemmas.Bool.Decides.{nat_tests}
use Rattle.sy_terms.specs.Values.{Val, Truth, Bits, number, same as are_same}
use Rattle.sy_terms.specs.Operators.{op_value, on_pair, test_two}
use Rattle.sy_terms.specs.BitVectors as bv
use Rattle.sy_terms.specs.declared.op.Op.{Op}
use Rattle.sy_terms.specs.declared.op.Op.TheVariants as ops
use Rattle.sy_bits_sums.specs.declared.sum.Sum.{Sum}
use Rattle.sy_bits_sums.specs.Polynomials.{total, Agree}
use Rattle.sy_bits_sums.proofs.Agreeing.{agree-same, agree-sym, agree-reduced}
use Rattle.sy_rewrite_orders.specs.Sums.{HasSum, IsComparedAs, number_at}
use Rattle.sy_rewrite_orders.proofs.Numbers.{sum-is, product-is, difference-is, negation-is, inversion-is, moved-is}

-- what a sum is at the variables' numbers
abbrev pub total_at : List Val → Sum → ℕ
total_at values sum = total (number_at values) sum.monomials.items

-- a vector whose number is what the sum is, reduced
pub of-number : (values : List Val) (sum : Sum) (value : Val) (w n : ℕ) → sum.width ≡ w → value ≡ Bits w n → n ≡ total_at values sum % 2 ^ w → HasSum values sum value
of-number values sum value w n width is reduced =
    let own : number value ≡ n = ap number is in
    let low : n < 2 ^ w = subst (λ k. k < 2 ^ w) (sym reduced) (mod-lt (total_at values sum) (pow_pos w)) in
    let agrees : Agree w (total_at values sum) n = agree-sym w n (total_at values sum) (agree-reduced w (total_at values sum) n reduced) in
    record {
      is = is ∙ ap (λ k. Bits k n) (sym width) ∙ ap (λ k. Bits sum.width k) (sym own);
      small = subst (λ k. k < 2 ^ sum.width) (sym own) (subst (λ k. n < 2 ^ k) (sym width) low);
      agrees = subst (λ k. Agree sum.width (total_at values sum) k) (sym own) (subst (λ k. Agree k (total_at values sum) n) (sym width) agrees);
    }

-- an operator on the numbers of two vectors
on-two : (values : List Val) (f : ℕ → ℕ → ℕ → ℕ) (left right : Sum) (x y : Val) → HasSum values left x → HasSum values right y → on_pair f x y ≡ Bits left.width (f left.width (number x) (number y))
on-two values f left right x y has also =
    ap (λ v. on_pair f v y) has.is ∙ ap (λ v. on_pair f (Bits left.width (number x)) v) also.is

right-agrees : (values : List Val) (left right : Sum) (y : Val) → right.width ≡ left.width → HasSum values right y → Agree left.width (number y) (total_at values right)
right-agrees values left right y same also = subst (λ k. Agree k (number y) (total_at values right)) same (agree-sym right.width (total_at values right) (number y) also.agrees)

right-small : (values : List Val) (left right : Sum) (y : Val) → right.width ≡ left.width → HasSum values right y → number y < 2 ^ left.width
right-small values left right y same also = subst (λ k. number y < 2 ^ k) same also.small

pub added : (values : List Val) (left right sum : Sum) (x y : Val) → right.width ≡ left.width → sum.width ≡ left.width → Agree left.width (total_at values sum) (total_at values left + total_at values right * 1) → HasSum values left x → HasSum values right y → HasSum values sum (op_value ops.BvAdd (x ∷ y ∷ []))
unfolding op_value
added values left right sum x y same width agrees has also =
    of-number values sum (on_pair bv.sum x y) left.width ((number x + number y) % 2 ^ left.width) width (on-two values bv.sum left right x y has also)
    (sum-is left.width (number x) (number y) (total_at values left) (total_at values right) (total_at values sum) (agree-sym left.width (total_at values left) (number x) has.agrees) (right-agrees values left right y same also) agrees)

pub subtracted : (values : List Val) (left right sum : Sum) (x y : Val) (ones : ℕ) → right.width ≡ left.width → sum.width ≡ left.width → ones ≡ 2 ^ left.width - 1 → Agree left.width (total_at values sum) (total_at values left + total_at values right * ones) → HasSum values left x → HasSum values right y → HasSum values sum (op_value ops.BvSub (x ∷ y ∷ []))
unfolding op_value
subtracted values left right sum x y ones same width most agrees has also =
    of-number values sum (on_pair bv.difference x y) left.width ((number x + (2 ^ left.width - number y)) % 2 ^ left.width) width (on-two values bv.difference left right x y has also)
    (difference-is left.width (number x) (number y) (total_at values left) (total_at values right) (total_at values sum) ones (right-small values left right y same also) most (agree-sym left.width (total_at values left) (number x) has.agrees) (right-agrees values left right y same also) agrees)

pub multiplied : (values : List Val) (left right sum : Sum) (x y : Val) → right.width ≡ left.width → sum.width ≡ left.width → Agree left.width (total_at values sum) (total_at values left * total_at values right) → HasSum values left x → HasSum values right y → HasSum values sum (op_value ops.BvMul (x ∷ y ∷ []))
unfolding op_value
multiplied values left right sum x y same width agrees has also =
    of-number values sum (on_pair bv.product x y) left.width ((number x * number y) % 2 ^ left.width) width (on-two values bv.product left right x y has also)
    (product-is left.width (number x) (number y) (total_at values left) (total_at values right) (total_at values sum) (agree-sym left.width (total_at values left) (number x) has.agrees) (right-agrees values left right y same also) agrees)

below-power : (n : ℕ) → n < 2 ^ n
below-power zero = omega arith
below-power (suc n) = omega (arith, below-power n, pow-succ' 2 n)

-- a vector whose sum is a number below the width has this number
fixed-number : (values : List Val) (left right : Sum) (y : Val) (by : ℕ) → right.width ≡ left.width → total_at values right ≡ by → by < left.width → HasSum values right y → number y ≡ by
fixed-number values left right y by same fixed less also =
    let small : number y < 2 ^ left.width = right-small values left right y same also in
    let low : by < 2 ^ left.width = omega (arith, less, below-power left.width) in
    let e = right-agrees values left right y same also in
    sym (mod-eq_of_lt small) ∙ e.is ∙ ap (λ n. n % 2 ^ left.width) fixed ∙ mod-eq_of_lt low

pub shifted : (values : List Val) (left right nothing sum : Sum) (x y : Val) (by factor : ℕ) → right.width ≡ left.width → sum.width ≡ left.width → total_at values right ≡ by → by < left.width → factor ≡ 2 ^ by → total_at values nothing ≡ 0 → Agree left.width (total_at values sum) (total_at values nothing + total_at values left * factor) → HasSum values left x → HasSum values right y → HasSum values sum (op_value ops.BvShl (x ∷ y ∷ []))
unfolding op_value
shifted values left right nothing sum x y by factor same width fixed less is none agrees has also =
    let w : ℕ = left.width in
    let far : nat_le w by ≡ false = grind (arith, nat_tests, less) in
    let own : number y ≡ by = fixed-number values left right y by same fixed less also in
    let near : bv.shifted_left w (number x) (number y) ≡ (number x * 2 ^ by) % 2 ^ w = ap (λ n. bv.shifted_left w (number x) n) own ∙ ap (λ b. cond b 0 ((number x * 2 ^ by) % 2 ^ w)) far in
    of-number values sum (on_pair bv.shifted_left x y) w ((number x * 2 ^ by) % 2 ^ w) width (on-two values bv.shifted_left left right x y has also ∙ ap (Bits w) near)
    (moved-is w (number x) by (total_at values nothing) (total_at values left) (total_at values sum) factor false is (agree-same w (total_at values nothing) 0 none) (agree-sym w (total_at values left) (number x) has.agrees) agrees)

pub negated : (values : List Val) (of nothing sum : Sum) (x : Val) (ones : ℕ) → sum.width ≡ of.width → ones ≡ 2 ^ of.width - 1 → total_at values nothing ≡ 0 → Agree of.width (total_at values sum) (total_at values nothing + total_at values of * ones) → HasSum values of x → HasSum values sum (op_value ops.BvNeg (x ∷ []))
unfolding op_value
negated values of nothing sum x ones width most none agrees has =
    of-number values sum (op_value ops.BvNeg (x ∷ [])) of.width ((2 ^ of.width - number x) % 2 ^ of.width) width (ap (λ v. op_value ops.BvNeg (v ∷ [])) has.is)
    (negation-is of.width (number x) (total_at values nothing) (total_at values of) (total_at values sum) ones has.small most (agree-same of.width (total_at values nothing) 0 none) (agree-sym of.width (total_at values of) (number x) has.agrees) agrees)

pub inverted : (values : List Val) (of full sum : Sum) (x : Val) (ones : ℕ) → sum.width ≡ of.width → ones ≡ 2 ^ of.width - 1 → Agree of.width (total_at values full) ones → Agree of.width (total_at values sum) (total_at values full + total_at values of * ones) → HasSum values of x → HasSum values sum (op_value ops.BvNot (x ∷ []))
unfolding op_value
inverted values of full sum x ones width most all agrees has =
    of-number values sum (op_value ops.BvNot (x ∷ [])) of.width (2 ^ of.width - 1 - number x) width (ap (λ v. op_value ops.BvNot (v ∷ [])) has.is)
    (inversion-is of.width (number x) (total_at values full) (total_at values of) (total_at values sum) ones has.small most all (agree-sym of.width (total_at values of) (number x) has.agrees) agrees)

-- equalities

-- numbers whose difference, reduced, is 0 are equal
apart : (m a b : ℕ) → a < m → b < m → a < b → (a + (m - b)) % m ≡ 0 → ⊥
apart m a b h k less e =
    let low : a + (m - b) < m = omega (arith, h, k, less) in
    let none : a + (m - b) ≡ 0 = sym (mod-eq_of_lt low) ∙ e in
    omega (arith, none, k)

beyond : (m a b : ℕ) → a < m → b < m → b < a → (a + (m - b)) % m ≡ 0 → ⊥
beyond m a b h k less e =
    let around : a + (m - b) ≡ (a - b) + m = omega (arith, h, k, less) in
    let low : a - b < m = omega (arith, h) in
    let none : a - b ≡ 0 = sym (mod-eq_of_lt low) ∙ sym (add-mod_right (a - b) m) ∙ ap (λ n. n % m) (sym around) ∙ e in
    omega (arith, none, less)

equal-where : (m a b : ℕ) → a < m → b < m → (a + (m - b)) % m ≡ 0 → a ≡ b
equal-where m a b h k e = elim (cases_lt a b) [
  | inl less ↦ absurd (apart m a b h k less e)
  | inr high ↦ elim (cases_lt b a) [ inl more ↦ absurd (beyond m a b h k more e) | inr low ↦ omega (arith, high, low) ]
]

nothing-where : (m a b n : ℕ) → b < m → a ≡ b → (a + (m - b)) % m ≡ n → n ≡ 0
nothing-where m a b n k is e =
    let whole : a + (m - b) ≡ m = omega (arith, k, is) in
    sym e ∙ ap (λ p. p % m) whole ∙ mod_self m

same-test : (m a b n : ℕ) → a < m → b < m → (a + (m - b)) % m ≡ n → nat_eq a b ≡ nat_eq n 0
same-test m a b n h k e =
    let there : n ≡ 0 → a ≡ b = λ none. equal-where m a b h k (e ∙ none) in
    let back : a ≡ b → n ≡ 0 = λ is. nothing-where m a b n k is e in
    both-ways (nat_eq a b) (nat_eq n 0) (λ t. grind (arith, nat_tests, back)) (λ t. grind (arith, nat_tests, there))
  where
    both-ways : (b c : Bool) → (b ≡ true → c ≡ true) → (c ≡ true → b ≡ true) → b ≡ c
    both-ways true true f g = refl
    both-ways true false f g = sym (f refl)
    both-ways false true f g = g refl
    both-ways false false f g = refl

pub compared : (values : List Val) (left right sum : Sum) (x y : Val) (ones n : ℕ) → right.width ≡ left.width → ones ≡ 2 ^ left.width - 1 → Agree left.width (total_at values sum) (total_at values left + total_at values right * ones) → total_at values sum ≡ n → n ≤ ones → HasSum values left x → HasSum values right y → IsComparedAs (nat_eq n 0) x y
compared values left right sum x y ones n width most agrees fixed low has also =
    let w : ℕ = left.width in
    let a : ℕ = number x in
    let b : ℕ = number y in
    let small : b < 2 ^ w = right-small values left right y width also in
    let below : n < 2 ^ w = omega (arith, low, most, pow_pos w) in
    let difference : (a + (2 ^ w - b)) % 2 ^ w ≡ n =
    difference-is w a b (total_at values left) (total_at values right) (total_at values sum) ones small most (agree-sym w (total_at values left) a has.agrees) (right-agrees values left right y width also) agrees
    ∙ ap (λ k. k % 2 ^ w) fixed ∙ mod-eq_of_lt below in
    record {
      width = w;
      left = has.is;
      right = also.is ∙ ap (λ k. Bits k b) width;
      same = same-test (2 ^ w) a b n has.small small difference;
    }

-- what operators say of two vectors

width-test : (w : ℕ) → nat_eq w w ≡ true
width-test w = grind (arith, nat_tests)

same-by : (equal : Bool) (x y : Val) → IsComparedAs equal x y → are_same x y ≡ equal
same-by equal x y is =
    ap (λ v. are_same v y) is.left ∙ ap (λ v. are_same (Bits is.width (number x)) v) is.right ∙ ap (λ t. t && nat_eq (number x) (number y)) (width-test is.width) ∙ is.same

pub equal-by : (equal : Bool) (x y : Val) → IsComparedAs equal x y → op_value ops.Equal (x ∷ y ∷ []) ≡ Truth equal
unfolding op_value
equal-by true x y is = ap (λ t. Truth (t && true)) (same-by true x y is)
equal-by false x y is = ap (λ t. Truth (t && true)) (same-by false x y is)

pub distinct-by : (equal : Bool) (x y : Val) → IsComparedAs equal x y → op_value ops.Distinct (x ∷ y ∷ []) ≡ Truth (not equal)
unfolding op_value
distinct-by true x y is = ap (λ t. Truth ((not t && true) && true)) (same-by true x y is)
distinct-by false x y is = ap (λ t. Truth ((not t && true) && true)) (same-by false x y is)

-- a test of two equal vectors
pub test-by : (f : ℕ → ℕ → ℕ → Bool) (truth : Bool) (x y : Val) → ((w n : ℕ) → f w n n ≡ truth) → IsComparedAs true x y → test_two f (x ∷ y ∷ []) ≡ Truth truth
test-by f truth x y at is =
    let own : number x ≡ number y = grind (arith, nat_tests, is.same) in
    ap (λ v. test_two f (v ∷ y ∷ [])) is.left ∙ ap (λ v. test_two f (Bits is.width (number x) ∷ v ∷ [])) is.right
    ∙ ap (λ n. Truth (f is.width (number x) n)) (sym own) ∙ ap Truth (at is.width (number x))

pub not-less : (n : ℕ) → nat_lt n n ≡ false
not-less n = grind (arith, nat_tests)

pub at-most : (n : ℕ) → nat_le n n ≡ true
at-most n = grind (arith, nat_tests)

-- an operator that tests equal vectors so
pub record TestsAs (operator : Op) (truth : Bool) : Type 0 where
  pub test : ℕ → ℕ → ℕ → Bool
  pub says : (x y : Val) → op_value operator (x ∷ y ∷ []) ≡ test_two test (x ∷ y ∷ [])
  pub at : (w n : ℕ) → test w n n ≡ truth

pub tests : (operator : Op) (truth equal : Bool) (x y : Val) → TestsAs operator truth → equal ≡ true → IsComparedAs equal x y → op_value operator (x ∷ y ∷ []) ≡ Truth truth
tests operator truth equal x y how at is =
    how.says x y ∙ test-by how.test truth x y how.at (subst (λ b. IsComparedAs b x y) at is)

pub ult : TestsAs ops.BvUlt false
unfolding op_value
ult = record { test = λ w s t. nat_lt s t; says = λ x y. refl; at = λ w n. not-less n }

pub ule : TestsAs ops.BvUle true
unfolding op_value
ule = record { test = λ w s t. nat_le s t; says = λ x y. refl; at = λ w n. at-most n }

pub ugt : TestsAs ops.BvUgt false
unfolding op_value
ugt = record { test = λ w s t. nat_lt t s; says = λ x y. refl; at = λ w n. not-less n }

pub uge : TestsAs ops.BvUge true
unfolding op_value
uge = record { test = λ w s t. nat_le t s; says = λ x y. refl; at = λ w n. at-most n }

pub slt : TestsAs ops.BvSlt false
unfolding op_value
slt = record { test = bv.signed_less; says = λ x y. refl; at = λ w n. not-less (bv.sum w n (2 ^ (w - 1))) }

pub sle : TestsAs ops.BvSle true
unfolding op_value
sle = record { test = λ w s t. not (bv.signed_less w t s); says = λ x y. refl; at = λ w n. ap not (not-less (bv.sum w n (2 ^ (w - 1)))) }

pub sgt : TestsAs ops.BvSgt false
unfolding op_value
sgt = record { test = λ w s t. bv.signed_less w t s; says = λ x y. refl; at = λ w n. not-less (bv.sum w n (2 ^ (w - 1))) }

pub sge : TestsAs ops.BvSge true
unfolding op_value
sge = record { test = λ w s t. not (bv.signed_less w s t); says = λ x y. refl; at = λ w n. ap not (not-less (bv.sum w n (2 ^ (w - 1)))) }
