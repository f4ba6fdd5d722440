-- The words of circuits stand for the operators' values.
use Rattle.std.specs.Prelude.{ℕ, ◌+◌, ◌-◌, ◌*◌, ◌/◌, ◌%◌, ◌^◌, ◌≤◌, ◌<◌, ◌≡◌, ◌≤ℤ◌, ◌<ℤ◌, ◌↔◌, Bool, true, false, cond, eqb, ◌&&◌, List, [], ◌∷◌, refl, length}
use Rattle.std.proofs.Common.{ap, sym, ◌∙◌}
use Rattle.sy_terms.specs.Values.{Val, Truth, Bits}
use Rattle.sy_terms.specs.Operators.{op_value}
use Rattle.sy_terms.specs.BitVectors as bv
use Rattle.sy_terms.specs.declared.op.Op.TheVariants as ops
use Rattle.sy_gates.specs.declared.gate.Bit.{Bit}
use Rattle.sy_gates.specs.Arithmetic as gates
use Rattle.sy_gates.specs.Circuits.{word_number}
use Rattle.sy_gates.proofs.Words.{word_number-below, below_at}
use Rattle.sy_bits_operators.proofs.Numbers as numbers

-- the vector of a word
abbrev pub word_value : (ℕ → Bool) → List Bit → Val
word_value v word = Bits (length word) (word_number v word)

pub vector-is : (l w m n : ℕ) → l ≡ w → m ≡ n → Bits l m ≡ Bits w n
vector-is l w m n e f = ap (λ k. Bits k m) e ∙ ap (Bits w) f

-- operators on one vector

pub repeat-is : (v : ℕ → Bool) (i k : ℕ) (s r : List Bit) → k ≡ i → length r ≡ k * length s → word_number v r ≡ gates.copies_of (length s) (word_number v s) k → word_value v r ≡ op_value (ops.Repeat i) (word_value v s ∷ [])
unfolding op_value
repeat-is v i k s r same e f =
    vector-is (length r) (i * length s) (word_number v r) (bv.repeated i (length s) (word_number v s)) (e ∙ ap (λ n. n * length s) same)
    (f ∙ numbers.repeated_is k (length s) (word_number v s) ∙ ap (λ n. bv.repeated n (length s) (word_number v s)) same)

pub sign_extend-is : (v : ℕ → Bool) (i k : ℕ) (s r : List Bit) (b : Bool) → k ≡ i → length r ≡ length s + k → b ≡ gates.has_top_bit (length s) (word_number v s) → word_number v r ≡ cond b (2 ^ k - 1) 0 * 2 ^ length s + word_number v s → word_value v r ≡ op_value (ops.SignExtend i) (word_value v s ∷ [])
unfolding op_value
sign_extend-is v i k s r b same e top f =
    vector-is (length r) (length s + i) (word_number v r) (bv.sign_extended i (length s) (word_number v s)) (e ∙ ap (λ n. length s + n) same)
    (f ∙ numbers.sign_extended_is k (length s) (word_number v s) b top ∙ ap (λ n. bv.sign_extended n (length s) (word_number v s)) same)

pub rotate_right-is : (v : ℕ → Bool) (i k : ℕ) (s r : List Bit) → length r ≡ length s → k ≡ i % length s → k ≤ length s → word_number v r ≡ word_number v s / 2 ^ k + word_number v s * 2 ^ (length s - k) % 2 ^ length s → word_value v r ≡ op_value (ops.RotateRight i) (word_value v s ∷ [])
unfolding op_value
rotate_right-is v i k s r e m h f =
    vector-is (length r) (length s) (word_number v r) (bv.rotated_right i (length s) (word_number v s)) e
    (f ∙ numbers.rotated_right_is (word_number v s) (length s) k h ∙ ap (λ n. word_number v s / 2 ^ n + word_number v s % 2 ^ n * 2 ^ (length s - n)) m)

-- operators on two vectors of one width

pub sub-is : (v : ℕ → Bool) (s t r : List Bit) → length t ≡ length s → length r ≡ length s → word_number v r ≡ (word_number v s + 2 ^ length s - word_number v t) % 2 ^ length s → word_value v r ≡ op_value ops.BvSub (word_value v s ∷ word_value v t ∷ [])
unfolding op_value
sub-is v s t r same e f = vector-is (length r) (length s) (word_number v r) (bv.difference (length s) (word_number v s) (word_number v t)) e (f ∙ numbers.difference_is (length s) (word_number v s) (word_number v t) (below_at v t (length s) same))

pub udiv-is : (v : ℕ → Bool) (s t r : List Bit) → length r ≡ length s → word_number v r ≡ gates.quotient_of (length s) (word_number v s) (word_number v t) → word_value v r ≡ op_value ops.BvUdiv (word_value v s ∷ word_value v t ∷ [])
unfolding op_value
udiv-is v s t r e f = vector-is (length r) (length s) (word_number v r) (bv.quotient (length s) (word_number v s) (word_number v t)) e (f ∙ numbers.quotient_is (length s) (word_number v s) (word_number v t))

pub urem-is : (v : ℕ → Bool) (s t r : List Bit) → length r ≡ length s → word_number v r ≡ gates.remainder_of (word_number v s) (word_number v t) → word_value v r ≡ op_value ops.BvUrem (word_value v s ∷ word_value v t ∷ [])
unfolding op_value
urem-is v s t r e f = vector-is (length r) (length s) (word_number v r) (bv.remainder (length s) (word_number v s) (word_number v t)) e (f ∙ numbers.remainder_is (length s) (word_number v s) (word_number v t))

pub sdiv-is : (v : ℕ → Bool) (s t r : List Bit) → length t ≡ length s → length r ≡ length s → word_number v r ≡ gates.signed_quotient (length s) (word_number v s) (word_number v t) → word_value v r ≡ op_value ops.BvSdiv (word_value v s ∷ word_value v t ∷ [])
unfolding op_value
sdiv-is v s t r same e f = vector-is (length r) (length s) (word_number v r) (bv.signed_quotient (length s) (word_number v s) (word_number v t)) e (f ∙ numbers.signed_quotient_is (length s) (word_number v s) (word_number v t) (word_number-below v s) (below_at v t (length s) same))

pub srem-is : (v : ℕ → Bool) (s t r : List Bit) → length t ≡ length s → length r ≡ length s → word_number v r ≡ gates.signed_remainder (length s) (word_number v s) (word_number v t) → word_value v r ≡ op_value ops.BvSrem (word_value v s ∷ word_value v t ∷ [])
unfolding op_value
srem-is v s t r same e f = vector-is (length r) (length s) (word_number v r) (bv.signed_remainder (length s) (word_number v s) (word_number v t)) e (f ∙ numbers.signed_remainder_is (length s) (word_number v s) (word_number v t) (word_number-below v s) (below_at v t (length s) same))

pub smod-is : (v : ℕ → Bool) (s t r : List Bit) → length t ≡ length s → length r ≡ length s → word_number v r ≡ gates.signed_modulo (length s) (word_number v s) (word_number v t) → word_value v r ≡ op_value ops.BvSmod (word_value v s ∷ word_value v t ∷ [])
unfolding op_value
smod-is v s t r same e f = vector-is (length r) (length s) (word_number v r) (bv.signed_modulus (length s) (word_number v s) (word_number v t)) e (f ∙ numbers.signed_modulus_is (length s) (word_number v s) (word_number v t) (word_number-below v s) (below_at v t (length s) same))

pub shl-is : (v : ℕ → Bool) (s t r : List Bit) → length r ≡ length s → word_number v r ≡ word_number v s * 2 ^ word_number v t % 2 ^ length s → word_value v r ≡ op_value ops.BvShl (word_value v s ∷ word_value v t ∷ [])
unfolding op_value
shl-is v s t r e f = vector-is (length r) (length s) (word_number v r) (bv.shifted_left (length s) (word_number v s) (word_number v t)) e (f ∙ numbers.shifted_left_is (length s) (word_number v s) (word_number v t))

pub lshr-is : (v : ℕ → Bool) (s t r : List Bit) → length r ≡ length s → word_number v r ≡ word_number v s / 2 ^ word_number v t → word_value v r ≡ op_value ops.BvLshr (word_value v s ∷ word_value v t ∷ [])
unfolding op_value
lshr-is v s t r e f = vector-is (length r) (length s) (word_number v r) (bv.shifted_right (length s) (word_number v s) (word_number v t)) e (f ∙ numbers.shifted_right_is (length s) (word_number v s) (word_number v t) (word_number-below v s))

pub ashr-is : (v : ℕ → Bool) (s t r : List Bit) → length r ≡ length s → word_number v r ≡ gates.signed_shift_down (length s) (word_number v s) (word_number v t) → word_value v r ≡ op_value ops.BvAshr (word_value v s ∷ word_value v t ∷ [])
unfolding op_value
ashr-is v s t r e f = vector-is (length r) (length s) (word_number v r) (bv.shifted_right_signed (length s) (word_number v s) (word_number v t)) e (f ∙ numbers.shifted_right_signed_is (length s) (word_number v s) (word_number v t) (word_number-below v s))

compared : (l w u m n : ℕ) → u ≡ w → l ≡ cond (eqb m n) 1 0 → l ≡ cond (((eqb w u) && (eqb m n)) && true) 1 0
compared l w u m n e f = f ∙ ap (λ b. cond b 1 0) (numbers.same_numbers w u m n (sym e) ∙ with_true (eqb w u && eqb m n))
  where
    with_true : (b : Bool) → b ≡ (b && true)
    with_true true = refl
    with_true false = refl

pub comp-is : (v : ℕ → Bool) (s t r : List Bit) → length t ≡ length s → length r ≡ 1 → word_number v r ≡ cond (eqb (word_number v s) (word_number v t)) 1 0 → word_value v r ≡ op_value ops.BvComp (word_value v s ∷ word_value v t ∷ [])
unfolding op_value
comp-is v s t r same e f = vector-is (length r) 1 (word_number v r) _ e (compared (word_number v r) (length s) (length t) (word_number v s) (word_number v t) same f)

-- orders

pub slt-is : (v : ℕ → Bool) (s t : List Bit) (b : Bool) → 1 ≤ length s → length t ≡ length s → (b ≡ true ↔ (gates.signed_number (length s) (word_number v s) <ℤ gates.signed_number (length s) (word_number v t))) → Truth b ≡ op_value ops.BvSlt (word_value v s ∷ word_value v t ∷ [])
unfolding op_value
slt-is v s t b h same f = ap Truth (numbers.less_is b (length s) (word_number v s) (word_number v t) h (word_number-below v s) (below_at v t (length s) same) f.0 f.1)

pub sle-is : (v : ℕ → Bool) (s t : List Bit) (b : Bool) → 1 ≤ length s → length t ≡ length s → (b ≡ true ↔ (gates.signed_number (length s) (word_number v s) ≤ℤ gates.signed_number (length s) (word_number v t))) → Truth b ≡ op_value ops.BvSle (word_value v s ∷ word_value v t ∷ [])
unfolding op_value
sle-is v s t b h same f = ap Truth (numbers.at_most_is b (length s) (word_number v s) (word_number v t) h (word_number-below v s) (below_at v t (length s) same) f.0 f.1)

pub sgt-is : (v : ℕ → Bool) (s t : List Bit) (b : Bool) → 1 ≤ length s → length t ≡ length s → (b ≡ true ↔ (gates.signed_number (length s) (word_number v t) <ℤ gates.signed_number (length s) (word_number v s))) → Truth b ≡ op_value ops.BvSgt (word_value v s ∷ word_value v t ∷ [])
unfolding op_value
sgt-is v s t b h same f = ap Truth (numbers.less_is b (length s) (word_number v t) (word_number v s) h (below_at v t (length s) same) (word_number-below v s) f.0 f.1)

pub sge-is : (v : ℕ → Bool) (s t : List Bit) (b : Bool) → 1 ≤ length s → length t ≡ length s → (b ≡ true ↔ (gates.signed_number (length s) (word_number v t) ≤ℤ gates.signed_number (length s) (word_number v s))) → Truth b ≡ op_value ops.BvSge (word_value v s ∷ word_value v t ∷ [])
unfolding op_value
sge-is v s t b h same f = ap Truth (numbers.at_most_is b (length s) (word_number v t) (word_number v s) h (below_at v t (length s) same) (word_number-below v s) f.0 f.1)
