-- Room for gates: what steps take, summed up.
use Rattle.std.proofs.Common.{◌≡◌, ℕ, ◌+◌, ◌-◌, ◌*◌, ◌^◌, ◌≤◌, ◌<◌, min, arith, ap}

rows : (i d n m : ℕ) → n ≡ i + 1 + d → i * m + m ≤ n * m
rows i d n m e =
    let k : n * m ≡ (i + 1 + d) * m = ap (λ z. z * m) e in
    omega (arith, k)

-- one more of n rows
row_fits : (i n m : ℕ) → i < n → i * m + m ≤ n * m
row_fits i n m h = rows i (n - (i + 1)) n m (omega (arith, h))

-- one more digit of a quotient
pub digit_room : (v o i n b : ℕ) → i < n → b ≡ n → v ≤ o + 4 * (i * (n + 1)) → o + 4 * (n * (n + 1)) < 2 ^ 31 → v + 4 * (b + 1) < 2 ^ 31
digit_room v o i n b h e c r = omega (arith, row_fits i n (n + 1) h, e, c, r)

-- one more step of a shift
pub shift_room : (v o i n m k : ℕ) → i < n → k ≡ m → v ≤ o + m * i → o + m * n < 2 ^ 31 → v + k < 2 ^ 31
shift_room v o i n m k h e c r = omega (arith, row_fits i n m h, e, c, r)

-- one more row of a product
pub product_room : (v o i n : ℕ) → i < n → v ≤ o + 4 * (n * i) → o + 4 * (n * n) < 2 ^ 31 → v + 4 * n < 2 ^ 31
product_room v o i n h c r = omega (arith, row_fits i n n h, c, r)

-- two words that are negated, and their division
pub division_room : (o v w n m k : ℕ) → k ≡ n → m ≡ n → v ≤ o + 4 * n → w ≤ v + 4 * m → o + 4 * (n * (n + 1)) + 8 * n < 2 ^ 31 → w + 4 * (k * (k + 1)) < 2 ^ 31
division_room o v w n m k e f a b r =
    let p : k * (k + 1) ≡ n * (n + 1) = ap (λ z. z * (z + 1)) e in
    omega (arith, p, f, a, b, r)

pub division_cost : (o v w x n m k : ℕ) → k ≡ n → m ≡ n → v ≤ o + 4 * n → w ≤ v + 4 * m → x ≤ w + 4 * (k * (k + 1)) → x ≤ o + 4 * (n * (n + 1)) + 8 * n
division_cost o v w x n m k e f a b c =
    let p : k * (k + 1) ≡ n * (n + 1) = ap (λ z. z * (z + 1)) e in
    omega (arith, p, f, a, b, c)

-- a step that is at most the width
pub step_fits : (s p n k : ℕ) → s ≡ min p n → k ≡ n → s ≤ k
step_fits s p n k e f = omega (arith, e, f)
