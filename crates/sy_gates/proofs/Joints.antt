use Rattle.std.proofs.Common.{◌≡◌, ℕ, Bool, ◌+◌, ◌*◌, ◌^◌, ◌<◌, true, false, cond, List, [], ◌∷◌, ◌++◌, length, map, take, get_or, add-one, zero, suc, bit_and, bit_or, bit_xor, arith, refl, ap, sym, ◌∙◌}
use Rattle.std.proofs.lemmas.Nat.{shr_split, shr_high, mod_low, and_shr, or_shr, xor_shr, and_mod, or_mod, xor_mod}
use Rattle.sy_gates.specs.declared.gate.Bit.{Bit}
use Rattle.sy_gates.specs.declared.bitwise.Joint.{Joint}
use Rattle.sy_gates.specs.declared.bitwise.Joint.TheVariants.{And, Or, Xor}
use Rattle.sy_gates.specs.Circuits.{bit_value, word_number}
use Rattle.sy_gates.specs.Bitwise.{joint_value, joint_number, all_joined}
use Rattle.sy_gates.proofs.Words.{word_number-push, word_number-take, take-below}

and_split : (p q : ℕ) (k s t z : ℕ) → s < 2 ^ k → t < 2 ^ k → bit_and p q ≡ z → bit_and (p * 2 ^ k + s) (q * 2 ^ k + t) ≡ z * 2 ^ k + bit_and s t
and_split p q k s t z hs ht e =
    sym (shr_split (bit_and (p * 2 ^ k + s) (q * 2 ^ k + t)) k)
    ∙ rw (
      and_shr (p * 2 ^ k + s) (q * 2 ^ k + t) k,
      and_mod (p * 2 ^ k + s) (q * 2 ^ k + t) k,
      shr_high p k s hs,
      shr_high q k t ht,
      mod_low p k s hs,
      mod_low q k t ht,
      e,
    ) refl

or_split : (p q : ℕ) (k s t z : ℕ) → s < 2 ^ k → t < 2 ^ k → bit_or p q ≡ z → bit_or (p * 2 ^ k + s) (q * 2 ^ k + t) ≡ z * 2 ^ k + bit_or s t
or_split p q k s t z hs ht e =
    sym (shr_split (bit_or (p * 2 ^ k + s) (q * 2 ^ k + t)) k)
    ∙ rw (
      or_shr (p * 2 ^ k + s) (q * 2 ^ k + t) k,
      or_mod (p * 2 ^ k + s) (q * 2 ^ k + t) k,
      shr_high p k s hs,
      shr_high q k t ht,
      mod_low p k s hs,
      mod_low q k t ht,
      e,
    ) refl

xor_split : (p q : ℕ) (k s t z : ℕ) → s < 2 ^ k → t < 2 ^ k → bit_xor p q ≡ z → bit_xor (p * 2 ^ k + s) (q * 2 ^ k + t) ≡ z * 2 ^ k + bit_xor s t
xor_split p q k s t z hs ht e =
    sym (shr_split (bit_xor (p * 2 ^ k + s) (q * 2 ^ k + t)) k)
    ∙ rw (
      xor_shr (p * 2 ^ k + s) (q * 2 ^ k + t) k,
      xor_mod (p * 2 ^ k + s) (q * 2 ^ k + t) k,
      shr_high p k s hs,
      shr_high q k t ht,
      mod_low p k s hs,
      mod_low q k t ht,
      e,
    ) refl

bits : (j : Joint) (x y : Bool) → joint_number j (cond x 1 0) (cond y 1 0) ≡ cond (joint_value j x y) 1 0
bits And true true = refl
bits And true false = refl
bits And false true = refl
bits And false false = refl
bits Or true true = refl
bits Or true false = refl
bits Or false true = refl
bits Or false false = refl
bits Xor true true = refl
bits Xor true false = refl
bits Xor false true = refl
bits Xor false false = refl

split : (j : Joint) (p q k s t z : ℕ) → s < 2 ^ k → t < 2 ^ k → joint_number j p q ≡ z →
    joint_number j (p * 2 ^ k + s) (q * 2 ^ k + t) ≡ z * 2 ^ k + joint_number j s t
split And p q k s t z hs ht e = and_split p q k s t z hs ht e
split Or p q k s t z hs ht e = or_split p q k s t z hs ht e
split Xor p q k s t z hs ht e = xor_split p q k s t z hs ht e

step : (j : Joint) (x y : Bool) (k s t : ℕ) → s < 2 ^ k → t < 2 ^ k →
    joint_number j s t + 2 ^ k * cond (joint_value j x y) 1 0 ≡ joint_number j (s + 2 ^ k * cond x 1 0) (t + 2 ^ k * cond y 1 0)
step j x y k s t hs ht =
    let a : s + 2 ^ k * cond x 1 0 ≡ cond x 1 0 * 2 ^ k + s = omega arith in
    let b : t + 2 ^ k * cond y 1 0 ≡ cond y 1 0 * 2 ^ k + t = omega arith in
    let c : joint_number j s t + 2 ^ k * cond (joint_value j x y) 1 0 ≡ cond (joint_value j x y) 1 0 * 2 ^ k + joint_number j s t = omega arith in
    c ∙ sym (split j (cond x 1 0) (cond y 1 0) k s t (cond (joint_value j x y) 1 0) hs ht (bits j x y))
    ∙ sym (ap (λ m. joint_number j m (t + 2 ^ k * cond y 1 0)) a ∙ ap (λ m. joint_number j (cond x 1 0 * 2 ^ k + s) m) b)

pub bitwise_start : (j : Joint) → joint_number j 0 0 ≡ 0
bitwise_start And = refl
bitwise_start Or = refl
bitwise_start Xor = refl

pub bitwise_value : (v : ℕ → Bool) (j : Joint) (a b word more : List Bit) (i : ℕ) (d e r : Bit) →
    i < length a → i < length b → length word ≡ i → more ≡ word ++ r ∷ [] →
    bit_value v r ≡ joint_value j (bit_value v (get_or a i d)) (bit_value v (get_or b i e)) →
    word_number v word ≡ joint_number j (word_number v (take i a)) (word_number v (take i b)) →
    word_number v more ≡ joint_number j (word_number v (take (i + 1) a)) (word_number v (take (i + 1) b))
bitwise_value v j a b word more i d e r ha hb l m f h =
    rw (m, word_number-push v word r, l, f, h, word_number-take v a i d ha, word_number-take v b i e hb)
    (step j (bit_value v (get_or a i d)) (bit_value v (get_or b i e)) i
    (word_number v (take i a)) (word_number v (take i b)) (take-below v a i ha) (take-below v b i hb))

-- all bits of a list, joined

bits_joined : (j : Joint) (x y z : Bool) → joint_value j (joint_value j x y) z ≡ joint_value j x (joint_value j y z)
bits_joined And true y z = refl
bits_joined And false y z = refl
bits_joined Or true y z = refl
bits_joined Or false y z = refl
bits_joined Xor true true true = refl
bits_joined Xor true true false = refl
bits_joined Xor true false z = refl
bits_joined Xor false y z = refl

bits_last : (j : Joint) (x : Bool) → joint_value j (all_joined j []) x ≡ joint_value j x (all_joined j [])
bits_last And true = refl
bits_last And false = refl
bits_last Or true = refl
bits_last Or false = refl
bits_last Xor true = refl
bits_last Xor false = refl

pub joined_step : (j : Joint) (v : ℕ → Bool) (bs : List Bit) (i : ℕ) (d : Bit) → i < length bs →
    all_joined j (map (λ b. bit_value v b) (take (suc i) bs)) ≡ joint_value j (all_joined j (map (λ b. bit_value v b) (take i bs))) (bit_value v (get_or bs i d))
joined_step j v [] i d h = absurd (omega arith)
joined_step j v (b ∷ bs) zero d h = sym (bits_last j (bit_value v b))
joined_step j v (b ∷ bs) (suc i) d h = ap (joint_value j (bit_value v b)) (joined_step j v bs i d (omega arith)) ∙ sym (bits_joined j (bit_value v b) _ _)

pub joined_value : (j : Joint) (v : ℕ → Bool) (bs : List Bit) (i : ℕ) (d all r : Bit) → i < length bs →
    bit_value v r ≡ joint_value j (bit_value v all) (bit_value v (get_or bs i d)) →
    bit_value v all ≡ all_joined j (map (λ b. bit_value v b) (take i bs)) →
    bit_value v r ≡ all_joined j (map (λ b. bit_value v b) (take (i + 1) bs))
joined_value j v bs i d all r h e f = rw (add-one, joined_step j v bs i d h, ← f) e
