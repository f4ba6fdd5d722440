-- Bits that are true in two words, and sums.
use Rattle.std.proofs.Common.{◌≡◌, ℕ, Bool, true, false, cond, bit_and, bit_or, bit_xor, ◌+◌, ◌-◌, ◌*◌, ◌%◌, ◌^◌, ◌<◌, List, [], ◌∷◌, length, get_or, arith, refl, ap, sym, subst, ◌∙◌}
use Rattle.std.proofs.Math.Nat.{add-mul-mod_self_right, mod-eq_of_lt}
use Rattle.std.proofs.lemmas.Nat.{and-not, and_comm, and_le_l, or_lt, xor_lt, and_block, or_block, xor_block}
use Rattle.std.proofs.lemmas.Option.{slice_get-get_or}
use Rattle.sy_terms.specs.Values.{Bits}
use Rattle.sy_terms.specs.Operators.{op_value}
use Rattle.sy_terms.specs.declared.op.Op.TheVariants as ops
use Rattle.sy_gates.specs.declared.gate.Bit.{Bit}
use Rattle.sy_gates.specs.Circuits.{Plan, FollowsPlan, bit_value, word_number}
use Rattle.sy_gates.proofs.Words.{word_number-below, below_at}
use Rattle.sy_bits_sums.specs.declared.sum.Sum.{Sum}
use Rattle.sy_bits_sums.specs.Polynomials.{total, Agree}
use Rattle.sy_bits_sums.proofs.Agreeing.{agree-same, agree-sym, agree-trans, agree-reduced, agree-add, agree-mul}
use Rattle.sy_bits_operators.specs.declared.signal.Signal.TheVariants as signals
use Rattle.sy_bits_words.specs.declared.known.Known.{Known}
use Rattle.sy_bits_words.specs.Standing.{AreNumbers, StandsFor, IsSumOf, place_number, turned_number}
use Rattle.sy_bits_words.proofs.Numbers.{inversion-is}
use Rattle.sy_bits_words.proofs.Laws.{whole}

-- a number less a part of it

pub taken-away : (w x y z a b r ones : ℕ) → 2 ^ w ≡ ones + 1 → x + y ≡ z → Agree w a z → Agree w b y → Agree w r (a + b * ones) → Agree w r x
taken-away w x y z a b r ones m e f g h =
    let back : (x + y) + y * ones ≡ x + y * (ones + 1) = omega arith in
    let around : z + y * ones ≡ x + y * 2 ^ w = ap (λ n. n + y * ones) (sym e) ∙ back ∙ ap (λ n. x + y * n) (sym m) in
    agree-trans w r (a + b * ones) x h
    (agree-trans w (a + b * ones) (z + y * ones) x
    (agree-add w a z (b * ones) (y * ones) f (agree-mul w b y ones ones g (agree-same w ones ones refl)))
    (record { is = ap (λ n. n % 2 ^ w) around ∙ add-mul-mod_self_right x y (2 ^ w) }))

pub one-more : (w ones : ℕ) → 0 < 2 ^ w → ones ≡ 2 ^ w - 1 → 2 ^ w ≡ ones + 1
one-more w ones h e = omega (arith, h, e)

-- sums of numbers

pub both-numbers : (w m n a b r : ℕ) → Agree w a m → Agree w b n → Agree w r (a + b * 1) → Agree w r (m + n)
both-numbers w m n a b r e f g =
    let one : m + n * 1 ≡ m + n = omega arith in
    agree-trans w r (a + b * 1) (m + n) g
    (agree-trans w (a + b * 1) (m + n * 1) (m + n) (agree-add w a m (b * 1) (n * 1) e (agree-mul w b n 1 1 f (agree-same w 1 1 refl))) (agree-same w (m + n * 1) (m + n) one))

pub same-sum : (w n z a r : ℕ) → Agree w z 0 → Agree w a n → Agree w r (z + a * 1) → Agree w r n
same-sum w n z a r e f g =
    let zero-first : 0 + n ≡ n = omega arith in
    agree-trans w r (0 + n) n (both-numbers w 0 n z a r e f g) (agree-same w (0 + n) n zero-first)

pub inverted-sum : (w n z a r ones : ℕ) → n < 2 ^ w → ones ≡ 2 ^ w - 1 → Agree w z ones → Agree w a n → Agree w r (z + a * ones) → Agree w r (2 ^ w - 1 - n)
inverted-sum w n z a r ones h greatest e f g =
    agree-sym w (2 ^ w - 1 - n) r (agree-reduced w r (2 ^ w - 1 - n) (inversion-is w n z a r ones h greatest e (agree-sym w a n f) g))

-- bits and their negations

pub turned-below : (w : ℕ) (b : Bool) (n : ℕ) → n < 2 ^ w → turned_number w b n < 2 ^ w
turned-below w true n h = omega (arith, h)
turned-below w false n h = h

pub turned-left : (w : ℕ) (b : Bool) (m n : ℕ) → m < 2 ^ w → n < 2 ^ w → cond b (bit_and m n + bit_and (turned_number w b m) n) (bit_and m n) ≡ cond b n (bit_and (turned_number w b m) n)
turned-left w true m n h k =
    let e : bit_and (2 ^ w - 1 - m) n + bit_and m n ≡ n = and-not w m n h k in
    omega (arith, e)
turned-left w false m n h k = refl

pub turned-right : (w : ℕ) (b : Bool) (p n : ℕ) → p < 2 ^ w → n < 2 ^ w → cond b (bit_and p n + bit_and p (turned_number w b n)) (bit_and p n) ≡ cond b p (bit_and p (turned_number w b n))
turned-right w true p n h k =
    let e : bit_and (2 ^ w - 1 - n) p + bit_and n p ≡ p = and-not w n p k h in
    let f : bit_and p n ≡ bit_and n p = and_comm p n in
    let g : bit_and p (2 ^ w - 1 - n) ≡ bit_and (2 ^ w - 1 - n) p = and_comm p (2 ^ w - 1 - n) in
    omega (arith, e, f, g)
turned-right w false p n h k = refl

-- what is true in one of two words at least, and in exactly one

digits-or : (x y : Bool) → bit_or (cond x 1 0) (cond y 1 0) + bit_and (cond x 1 0) (cond y 1 0) ≡ cond x 1 0 + cond y 1 0
digits-or true true = refl
digits-or true false = refl
digits-or false true = refl
digits-or false false = refl

digits-xor : (x y : Bool) → bit_xor (cond x 1 0) (cond y 1 0) + bit_and (cond x 1 0) (cond y 1 0) ≡ bit_or (cond x 1 0) (cond y 1 0)
digits-xor true true = refl
digits-xor true false = refl
digits-xor false true = refl
digits-xor false false = refl

digit-small : (x : Bool) → cond x 1 0 < 2 ^ 1
digit-small true = omega arith
digit-small false = omega arith

last-digit : (r a : ℕ) → r + 2 * a ≡ a * 2 ^ 1 + r
last-digit r a = omega arith

blocks : (f : ℕ → ℕ → ℕ) (a b r s z : ℕ) → f (a * 2 ^ 1 + r) (b * 2 ^ 1 + s) ≡ z → f (r + 2 * a) (s + 2 * b) ≡ z
blocks f a b r s z e = ap (λ n. f n (s + 2 * b)) (last-digit r a) ∙ ap (λ n. f (a * 2 ^ 1 + r) n) (last-digit s b) ∙ e

or-step : (x y : Bool) (a b : ℕ) → bit_or a b + bit_and a b ≡ a + b → bit_or (cond x 1 0 + 2 * a) (cond y 1 0 + 2 * b) + bit_and (cond x 1 0 + 2 * a) (cond y 1 0 + 2 * b) ≡ (cond x 1 0 + 2 * a) + (cond y 1 0 + 2 * b)
or-step x y a b e =
    let r : ℕ = cond x 1 0 in
    let s : ℕ = cond y 1 0 in
    let o : bit_or (r + 2 * a) (s + 2 * b) ≡ bit_or a b * 2 ^ 1 + bit_or r s = blocks bit_or a b r s _ (or_block 1 a b r s (digit-small x) (digit-small y)) in
    let n : bit_and (r + 2 * a) (s + 2 * b) ≡ bit_and a b * 2 ^ 1 + bit_and r s = blocks bit_and a b r s _ (and_block 1 a b r s (digit-small x) (digit-small y)) in
    let d = digits-or x y in
    rw (o, n) (omega (arith, d, e))

xor-step : (x y : Bool) (a b : ℕ) → bit_xor a b + bit_and a b ≡ bit_or a b → bit_xor (cond x 1 0 + 2 * a) (cond y 1 0 + 2 * b) + bit_and (cond x 1 0 + 2 * a) (cond y 1 0 + 2 * b) ≡ bit_or (cond x 1 0 + 2 * a) (cond y 1 0 + 2 * b)
xor-step x y a b e =
    let r : ℕ = cond x 1 0 in
    let s : ℕ = cond y 1 0 in
    let u : bit_xor (r + 2 * a) (s + 2 * b) ≡ bit_xor a b * 2 ^ 1 + bit_xor r s = blocks bit_xor a b r s _ (xor_block 1 a b r s (digit-small x) (digit-small y)) in
    let o : bit_or (r + 2 * a) (s + 2 * b) ≡ bit_or a b * 2 ^ 1 + bit_or r s = blocks bit_or a b r s _ (or_block 1 a b r s (digit-small x) (digit-small y)) in
    let n : bit_and (r + 2 * a) (s + 2 * b) ≡ bit_and a b * 2 ^ 1 + bit_and r s = blocks bit_and a b r s _ (and_block 1 a b r s (digit-small x) (digit-small y)) in
    let d = digits-xor x y in
    rw (u, n, o) (omega (arith, d, e))

pub or-and : (v : ℕ → Bool) (s t : List Bit) → length t ≡ length s → bit_or (word_number v s) (word_number v t) + bit_and (word_number v s) (word_number v t) ≡ word_number v s + word_number v t
or-and v [] [] e = refl
or-and v [] (y ∷ t) e = absurd (omega (arith, e))
or-and v (x ∷ s) [] e = absurd (omega (arith, e))
or-and v (x ∷ s) (y ∷ t) e = or-step (bit_value v x) (bit_value v y) (word_number v s) (word_number v t) (or-and v s t (omega (arith, e)))

pub xor-and : (v : ℕ → Bool) (s t : List Bit) → length t ≡ length s → bit_xor (word_number v s) (word_number v t) + bit_and (word_number v s) (word_number v t) ≡ bit_or (word_number v s) (word_number v t)
xor-and v [] [] e = refl
xor-and v [] (y ∷ t) e = absurd (omega (arith, e))
xor-and v (x ∷ s) [] e = absurd (omega (arith, e))
xor-and v (x ∷ s) (y ∷ t) e = xor-step (bit_value v x) (bit_value v y) (word_number v s) (word_number v t) (xor-and v s t (omega (arith, e)))

-- the value at a place that two words meet at

pub meets-at : (v : ℕ → Bool) (list : List Known) (values : ℕ → ℕ) (place : ℕ) (known : Known) (n : ℕ) → AreNumbers v list values → place < length list → ((d : Known) → place_number v (get_or list place d) ≡ n) → values place ≡ n
meets-at v list values place known n numbers h is = numbers.at place (get_or list place known) (slice_get-get_or list place known h) ∙ is known

-- operators whose number is below the width's

number-is : (w n r : ℕ) → n < 2 ^ w → Agree w r n → n ≡ r % 2 ^ w
number-is w n r h e = sym (mod-eq_of_lt h) ∙ sym e.is

module _ (circuit : Plan) (list : List Known) (s t : List Bit) (r : Sum) (width : r.width ≡ length s) (same : length t ≡ length s) where
  pub and-sum : ((v : ℕ → Bool) (values : ℕ → ℕ) → FollowsPlan v circuit → AreNumbers v list values → Agree (length s) (total values r.monomials.items) (bit_and (word_number v s) (word_number v t))) → IsSumOf circuit list ops.BvAnd (signals.Vector s ∷ signals.Vector t ∷ []) r
  unfolding op_value
  and-sum is = whole circuit list ops.BvAnd (signals.Vector s ∷ signals.Vector t ∷ []) r (length s) (sym width) (λ v. refl)
      (λ v values f n. ap (Bits (length s)) (number-is (length s) (bit_and (word_number v s) (word_number v t)) (total values r.monomials.items) (omega (arith, and_le_l (word_number v s) (word_number v t), word_number-below v s)) (is v values f n)))

  pub or-sum : ((v : ℕ → Bool) (values : ℕ → ℕ) → FollowsPlan v circuit → AreNumbers v list values → Agree (length s) (total values r.monomials.items) (bit_or (word_number v s) (word_number v t))) → IsSumOf circuit list ops.BvOr (signals.Vector s ∷ signals.Vector t ∷ []) r
  unfolding op_value
  or-sum is = whole circuit list ops.BvOr (signals.Vector s ∷ signals.Vector t ∷ []) r (length s) (sym width) (λ v. refl)
      (λ v values f n. ap (Bits (length s)) (number-is (length s) (bit_or (word_number v s) (word_number v t)) (total values r.monomials.items) (or_lt (length s) (word_number v s) (word_number v t) (word_number-below v s) (below_at v t (length s) same)) (is v values f n)))

  pub xor-sum : ((v : ℕ → Bool) (values : ℕ → ℕ) → FollowsPlan v circuit → AreNumbers v list values → Agree (length s) (total values r.monomials.items) (bit_xor (word_number v s) (word_number v t))) → IsSumOf circuit list ops.BvXor (signals.Vector s ∷ signals.Vector t ∷ []) r
  unfolding op_value
  xor-sum is = whole circuit list ops.BvXor (signals.Vector s ∷ signals.Vector t ∷ []) r (length s) (sym width) (λ v. refl)
      (λ v values f n. ap (Bits (length s)) (number-is (length s) (bit_xor (word_number v s) (word_number v t)) (total values r.monomials.items) (xor_lt (length s) (word_number v s) (word_number v t) (word_number-below v s) (below_at v t (length s) same)) (is v values f n)))

-- two words of a circuit, the sums that they stand for, and the place at which they meet
module _ (circuit : Plan) (list : List Known) (s t : List Bit) (a b both : Sum) (same : length t ≡ length s) (first : StandsFor circuit list s a) (second : StandsFor circuit list t b) where
  left-value : (v : ℕ → Bool) (values : ℕ → ℕ) → FollowsPlan v circuit → AreNumbers v list values → Agree (length s) (total values a.monomials.items) (word_number v s)
  left-value v values f n = agree-sym (length s) (word_number v s) (total values a.monomials.items) (first.value v values f n)

  right-value : (v : ℕ → Bool) (values : ℕ → ℕ) → FollowsPlan v circuit → AreNumbers v list values → Agree (length s) (total values b.monomials.items) (word_number v t)
  right-value v values f n = agree-sym (length s) (word_number v t) (total values b.monomials.items) (subst (λ k. Agree k (word_number v t) (total values b.monomials.items)) same (second.value v values f n))

  pub both-is : (place : ℕ) (left right : Bool) (known : Known) → place < length list →
      ((d : Known) (v : ℕ → Bool) → place_number v (get_or list place d) ≡ bit_and (turned_number (length s) left (word_number v s)) (turned_number (length s) right (word_number v t))) →
      ((values : ℕ → ℕ) (m n : ℕ) → m < 2 ^ length s → n < 2 ^ length s → Agree (length s) (total values a.monomials.items) m → Agree (length s) (total values b.monomials.items) n → values place ≡ bit_and (turned_number (length s) left m) (turned_number (length s) right n) → Agree (length s) (total values both.monomials.items) (bit_and m n)) →
      (v : ℕ → Bool) (values : ℕ → ℕ) → FollowsPlan v circuit → AreNumbers v list values → Agree (length s) (total values both.monomials.items) (bit_and (word_number v s) (word_number v t))
  both-is place left right known h meets is v values f n =
      is values (word_number v s) (word_number v t) (word_number-below v s) (below_at v t (length s) same) (left-value v values f n) (right-value v values f n)
      (meets-at v list values place known (bit_and (turned_number (length s) left (word_number v s)) (turned_number (length s) right (word_number v t))) n h (λ d. meets d v))

  pub either-is : (either : Sum) →
      ((v : ℕ → Bool) (values : ℕ → ℕ) → FollowsPlan v circuit → AreNumbers v list values → Agree (length s) (total values both.monomials.items) (bit_and (word_number v s) (word_number v t))) →
      ((values : ℕ → ℕ) (x y m n : ℕ) → Agree (length s) (total values a.monomials.items) m → Agree (length s) (total values b.monomials.items) n → Agree (length s) (total values both.monomials.items) y → x + y ≡ m + n → Agree (length s) (total values either.monomials.items) x) →
      (v : ℕ → Bool) (values : ℕ → ℕ) → FollowsPlan v circuit → AreNumbers v list values → Agree (length s) (total values either.monomials.items) (bit_or (word_number v s) (word_number v t))
  either-is either meet is v values f n =
      is values (bit_or (word_number v s) (word_number v t)) (bit_and (word_number v s) (word_number v t)) (word_number v s) (word_number v t) (left-value v values f n) (right-value v values f n) (meet v values f n) (or-and v s t same)

  pub differ-is : (either differ : Sum) (ones : ℕ) → ones ≡ 2 ^ length s - 1 →
      ((v : ℕ → Bool) (values : ℕ → ℕ) → FollowsPlan v circuit → AreNumbers v list values → Agree (length s) (total values both.monomials.items) (bit_and (word_number v s) (word_number v t))) →
      ((v : ℕ → Bool) (values : ℕ → ℕ) → FollowsPlan v circuit → AreNumbers v list values → Agree (length s) (total values either.monomials.items) (bit_or (word_number v s) (word_number v t))) →
      ((values : ℕ → ℕ) → Agree (length s) (total values differ.monomials.items) (total values either.monomials.items + total values both.monomials.items * ones)) →
      (v : ℕ → Bool) (values : ℕ → ℕ) → FollowsPlan v circuit → AreNumbers v list values → Agree (length s) (total values differ.monomials.items) (bit_xor (word_number v s) (word_number v t))
  differ-is either differ ones greatest meet join is v values f n =
      let below : word_number v s < 2 ^ length s = word_number-below v s in
      taken-away (length s) (bit_xor (word_number v s) (word_number v t)) (bit_and (word_number v s) (word_number v t)) (bit_or (word_number v s) (word_number v t)) (total values either.monomials.items) (total values both.monomials.items) (total values differ.monomials.items) ones
      (one-more (length s) ones (omega (arith, below)) greatest) (xor-and v s t same) (join v values f n) (meet v values f n) (is values)
