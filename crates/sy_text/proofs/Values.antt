-- The numbers that digits stand for.
use Rattle.std.proofs.Common.{mul_assoc, ◌≡◌, ℕ, zero, suc, ◌+◌, ◌*◌, ◌^◌, ◌<◌, ◌≤◌, Bool, true, false, cond, List, [], ◌∷◌, length, take, drop, get_or, refl, sym, ap, subst, ◌∙◌, arith, drop-cons, MatchOption, Option, None}
use Rattle.std.proofs.Math.Nat.{le_trans, mul-le-mul_right, pow-succ', pow-zero, pow-le-pow_right}
use Rattle.std.specs.List.{fold, prefix_len}
use Rattle.std.proofs.lemmas.List.Folds.{length-prefix_len}
use Rattle.std.proofs.lemmas.Grind.{common_steps}
use Rattle.sy_text_items.specs.Lexicon.{digit_value, value_in, hexadecimal_digit, binary_digit}

abbrev pub next : ℕ → ℕ → ℕ → ℕ
next base n d = base * n + digit_value d

at_least : (base acc d : ℕ) → 1 ≤ base → acc ≤ base * acc + d
at_least base acc d h = omega (arith, mul-le-mul_right acc h)

pub grows : (base acc : ℕ) (xs : List ℕ) → 1 ≤ base → acc ≤ fold (next base) acc xs
grows base acc [] h = omega arith
grows base acc (x ∷ xs) h = omega (arith, at_least base acc (digit_value x) h, grows base (next base acc x) xs h)

-- a part of the digits that is too large makes the whole too large
pub too_large : (base value i limit : ℕ) (digits : List ℕ) → 1 ≤ base → i < length digits → fold (next base) value (drop i digits) ≡ value_in base digits
    → limit ≤ next base value (get_or digits i 0) → limit ≤ value_in base digits
too_large base value i limit digits h lt e over =
    let one : fold (next base) value (drop i digits) ≡ fold (next base) (next base value (get_or digits i 0)) (drop (suc i) digits) = rw (drop-cons digits i 0) refl in
    omega (arith, grows base (next base value (get_or digits i 0)) (drop (suc i) digits) h, one)

pub none_is : (r : Option ℕ) (P : Type 0) (Q : ℕ → Type 0) → r ≡ None → P → MatchOption r P Q
none_is r P Q e p = rw e p

pub step : (base acc d n : ℕ) → d < base → (base * acc + d + 1) * base ^ n ≤ (acc + 1) * base ^ (suc n)
step base acc d n h =
    let room : base * acc + d + 1 ≤ (acc + 1) * base = omega arith in
    let all : (base * acc + d + 1) * base ^ n ≤ ((acc + 1) * base) * base ^ n = mul-le-mul_right (base ^ n) room in
    let same : ((acc + 1) * base) * base ^ n ≡ (acc + 1) * base ^ (suc n) = mul_assoc (acc + 1) base (base ^ n) ∙ ap (λ (p : ℕ). (acc + 1) * p) (sym (pow-succ' base n)) in
    let P : ℕ → Type 0 = λ m. (base * acc + d + 1) * base ^ n ≤ m in
    subst P same all

pub nothing : (base acc : ℕ) → acc + 1 ≤ (acc + 1) * base ^ 0
nothing base acc = rw (pow-zero base) (omega arith)

below-cons : (test : ℕ → Bool) (base acc x : ℕ) (xs : List ℕ) (b : Bool) → ((b : ℕ) → test b ≡ true → digit_value b < base) → test x ≡ b
    → fold (next base) (next base acc x) (take (prefix_len test xs) xs) + 1 ≤ (next base acc x + 1) * base ^ prefix_len test xs
    → fold (next base) acc (take (cond b (1 + prefix_len test xs) 0) (x ∷ xs)) + 1 ≤ (acc + 1) * base ^ cond b (1 + prefix_len test xs) 0
below-cons test base acc x xs false h e rest = nothing base acc
below-cons test base acc x xs true h e rest =
    let one : 1 + prefix_len test xs ≡ suc (prefix_len test xs) = omega arith in
    let here : (next base acc x + 1) * base ^ prefix_len test xs ≤ (acc + 1) * base ^ (suc (prefix_len test xs)) = step base acc (digit_value x) (prefix_len test xs) (h x e) in
    let both : fold (next base) (next base acc x) (take (prefix_len test xs) xs) + 1 ≤ (acc + 1) * base ^ (suc (prefix_len test xs)) = le_trans rest here in
    let P : ℕ → Type 0 = λ k. fold (next base) acc (take k (x ∷ xs)) + 1 ≤ (acc + 1) * base ^ k in
    subst P (sym one) both

-- digits of a class stand for less than a power of the base
pub below : (test : ℕ → Bool) (base acc : ℕ) (xs : List ℕ) → ((b : ℕ) → test b ≡ true → digit_value b < base)
    → fold (next base) acc (take (prefix_len test xs) xs) + 1 ≤ (acc + 1) * base ^ prefix_len test xs
below test base acc [] h = nothing base acc
below test base acc (x ∷ xs) h = below-cons test base acc x xs (test x) h refl (below test base (next base acc x) xs h)

pub hexadecimal_small : (b : ℕ) → hexadecimal_digit b ≡ true → digit_value b < 16
unfolding hexadecimal_digit digit_value
hexadecimal_small b h = grind (arith, common_steps)

pub binary_small : (b : ℕ) → binary_digit b ≡ true → digit_value b < 2
unfolding binary_digit digit_value
binary_small b h = grind (arith, common_steps)

pub hexadecimal_fits : (xs digits : List ℕ) → digits ≡ take (prefix_len hexadecimal_digit xs) xs → 4 * length digits ≤ 64 → value_in 16 digits < 2 ^ 64
hexadecimal_fits xs digits e fits =
    let n : length digits ≡ prefix_len hexadecimal_digit xs = ap length e ∙ length-prefix_len hexadecimal_digit xs in
    let some : 0 < 16 = omega arith in
    let few : prefix_len hexadecimal_digit xs ≤ 16 = omega arith in
    let P : List ℕ → Type 0 = λ ds. value_in 16 ds < 2 ^ 64 in
    subst P (sym e) (omega (arith, below hexadecimal_digit 16 0 xs hexadecimal_small, pow-le-pow_right some few))

pub binary_fits : (xs digits : List ℕ) → digits ≡ take (prefix_len binary_digit xs) xs → 1 * length digits ≤ 64 → value_in 2 digits < 2 ^ 64
binary_fits xs digits e fits =
    let n : length digits ≡ prefix_len binary_digit xs = ap length e ∙ length-prefix_len binary_digit xs in
    let some : 0 < 2 = omega arith in
    let few : prefix_len binary_digit xs ≤ 64 = omega arith in
    let P : List ℕ → Type 0 = λ ds. value_in 2 ds < 2 ^ 64 in
    subst P (sym e) (omega (arith, below binary_digit 2 0 xs binary_small, pow-le-pow_right some few))

pub pow_of_pow : (k : ℕ) → 2 ^ (4 * k) ≡ 16 ^ k
pow_of_pow zero = refl
pow_of_pow (suc k) =
    let e : 4 * suc k ≡ suc (suc (suc (suc (4 * k)))) = omega arith in
    rw e (omega (arith, pow-succ' 2 (suc (suc (suc (4 * k)))), pow-succ' 2 (suc (suc (4 * k))), pow-succ' 2 (suc (4 * k)), pow-succ' 2 (4 * k), pow-succ' 16 k, pow_of_pow k))
