-- The bits of words, one by one.
use Rattle.std.proofs.Common.{◌≡◌, ℕ, Bool, true, false, cond, ◌+◌, ◌*◌, ◌%◌, ◌^◌, ◌≤◌, ◌<◌, List, length, take, get_or, arith, ap, sym, ◌∙◌, length-take}
use Rattle.std.proofs.Math.Nat.{pow-le-pow_right, mod-eq_of_lt, zero-mod}
use Rattle.sy_gates.specs.declared.gate.Bit.{Bit}
use Rattle.sy_gates.specs.declared.gate.Bit.TheVariants.{Fixed}
use Rattle.sy_gates.specs.Circuits.{word_number, bit_number}
use Rattle.sy_gates.proofs.Words.{word_number-take, word_number-below}

bit-fits : (i : ℕ) → i < 64 → 1 * 2 ^ i % 2 ^ 64 ≡ 2 ^ i
bit-fits i h =
    let up : i ≤ 63 = omega (arith, h) in
    let p : 2 ^ i ≤ 2 ^ 63 = pow-le-pow_right (omega arith) up in
    let e : 1 * 2 ^ i ≡ 2 ^ i = omega arith in
    ap (λ k. k % 2 ^ 64) e ∙ mod-eq_of_lt (omega (arith, p))

pub next-bit : (word : List Bit) (i n : ℕ) (d : Bit) (b : Bool) → i < length word → length word ≤ 64 → get_or word i d ≡ Fixed b → ((v : ℕ → Bool) → word_number v (take i word) ≡ n) → (v : ℕ → Bool) → word_number v (take (i + 1) word) ≡ n + cond b 1 0 * 2 ^ i % 2 ^ 64
next-bit word i n d true h most is before v =
    let e : n + 2 ^ i * 1 ≡ n + 2 ^ i = omega arith in
    let small : i < 64 = omega (arith, h, most) in
    word_number-take v word i d h ∙ ap (λ k. k + 2 ^ i * bit_number v (get_or word i d)) (before v) ∙ ap (λ b. n + 2 ^ i * bit_number v b) is ∙ e ∙ ap (λ k. n + k) (sym (bit-fits i small))
next-bit word i n d false h most is before v =
    let e : n + 2 ^ i * 0 ≡ n + 0 = omega arith in
    let f : 0 * 2 ^ i ≡ 0 = omega arith in
    word_number-take v word i d h ∙ ap (λ k. k + 2 ^ i * bit_number v (get_or word i d)) (before v) ∙ ap (λ b. n + 2 ^ i * bit_number v b) is ∙ e ∙ ap (λ k. n + k) (sym (ap (λ k. k % 2 ^ 64) f ∙ zero-mod (2 ^ 64)))

pub number-fits : (word : List Bit) (i n : ℕ) → i ≤ 64 → ((v : ℕ → Bool) → word_number v (take i word) ≡ n) → n < 2 ^ 64
number-fits word i n h is =
    let v : ℕ → Bool = λ k. false in
    let short : length (take i word) ≤ i = grind (arith, length-take i word) in
    let below : word_number v (take i word) < 2 ^ length (take i word) = word_number-below v (take i word) in
    let up : length (take i word) ≤ 64 = omega (arith, short, h) in
    let most : 2 ^ length (take i word) ≤ 2 ^ 64 = pow-le-pow_right (omega arith) up in
    rw (← is v) (omega (arith, below, most))
