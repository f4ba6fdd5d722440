-- Numbers that are the same modulo a power of two, and products of values.
use Rattle.std.proofs.Common.{◌≡◌, ℕ, ◌+◌, ◌-◌, ◌*◌, ◌^◌, ◌<◌, ◌≤◌, ◌%◌, List, [], ◌∷◌, ◌++◌, length, take, drop, get_or, arith, refl, ap, sym, ◌∙◌}
use Rattle.std.proofs.Math.Nat.{add-mod, mod-mod, add-mul-mod_self_right}
use Rattle.std.proofs.lemmas.Nat.{mul-mod, pow_pos}
use Rattle.std.proofs.lemmas.List.{take_more, take_all, take-append-drop}
use Rattle.std.specs.List.{insert}
use Rattle.sy_bits_sums.specs.Polynomials.{product, Agree}

-- numbers

pub agree-same : (w a b : ℕ) → a ≡ b → Agree w a b
agree-same w a b e = record { is = ap (λ n. n % 2 ^ w) e }

pub agree-sym : (w a b : ℕ) → Agree w a b → Agree w b a
agree-sym w a b e = record { is = sym e.is }

pub agree-trans : (w a b c : ℕ) → Agree w a b → Agree w b c → Agree w a c
agree-trans w a b c e f = record { is = e.is ∙ f.is }

pub agree-reduced : (w a r : ℕ) → r ≡ a % 2 ^ w → Agree w r a
agree-reduced w a r e = record { is = ap (λ n. n % 2 ^ w) e ∙ mod-mod a (2 ^ w) }

pub agree-add : (w a b c d : ℕ) → Agree w a b → Agree w c d → Agree w (a + c) (b + d)
agree-add w a b c d e f = record { is = add-mod a c (2 ^ w) ∙ ap (λ n. (n + c % 2 ^ w) % 2 ^ w) e.is ∙ ap (λ n. (b % 2 ^ w + n) % 2 ^ w) f.is ∙ sym (add-mod b d (2 ^ w)) }

pub agree-mul : (w a b c d : ℕ) → Agree w a b → Agree w c d → Agree w (a * c) (b * d)
agree-mul w a b c d e f = record { is = mul-mod a c (2 ^ w) ∙ ap (λ n. (n * (c % 2 ^ w)) % 2 ^ w) e.is ∙ ap (λ n. (b % 2 ^ w * n) % 2 ^ w) f.is ∙ sym (mul-mod b d (2 ^ w)) }

-- differences, by the greatest number of the width in place of minus 1

pub less-multiple : (w a b r ones : ℕ) → ones ≡ 2 ^ w - 1 → Agree w r (a + b * ones) → Agree w (r + b) a
less-multiple w a b r ones most e =
    let more : 2 ^ w ≡ ones + 1 = omega (arith, pow_pos w, most) in
    let around : (a + b * ones) + b ≡ a + b * (ones + 1) = omega arith in
    agree-trans w (r + b) ((a + b * ones) + b) a
    (agree-add w r (a + b * ones) b b e (agree-same w b b refl))
    (record { is = ap (λ n. n % 2 ^ w) (around ∙ ap (λ n. a + b * n) (sym more)) ∙ add-mul-mod_self_right a b (2 ^ w) })

pub multiple-less : (w a b r ones : ℕ) → ones ≡ 2 ^ w - 1 → Agree w (r + b) a → Agree w r (a + b * ones)
multiple-less w a b r ones most e =
    let more : 2 ^ w ≡ ones + 1 = omega (arith, pow_pos w, most) in
    let around : (r + b) + b * ones ≡ r + b * (ones + 1) = omega arith in
    agree-sym w (a + b * ones) r
    (agree-trans w (a + b * ones) ((r + b) + b * ones) r
    (agree-add w a (r + b) (b * ones) (b * ones) (agree-sym w (r + b) a e) (agree-same w (b * ones) (b * ones) refl))
    (record { is = ap (λ n. n % 2 ^ w) (around ∙ ap (λ n. r + b * n) (sym more)) ∙ add-mul-mod_self_right r b (2 ^ w) }))

-- products of values

product-append : (values : ℕ → ℕ) (xs ys : List ℕ) → product values (xs ++ ys) ≡ product values xs * product values ys
product-append values [] ys = omega arith
product-append values (x ∷ xs) ys =
    let e : values x * (product values xs * product values ys) ≡ (values x * product values xs) * product values ys = omega arith in
    ap (λ n. values x * n) (product-append values xs ys) ∙ e

pub product-insert : (values : ℕ → ℕ) (xs after : List ℕ) (i y : ℕ) → after ≡ insert xs i y → product values after ≡ values y * product values xs
product-insert values xs after i y is =
    let p : ℕ = product values (take i xs) in
    let q : ℕ = product values (drop i xs) in
    let e : p * (values y * q) ≡ values y * (p * q) = omega arith in
    ap (product values) is ∙ product-append values (take i xs) (y ∷ drop i xs) ∙ e
    ∙ ap (λ n. values y * n) (sym (product-append values (take i xs) (drop i xs)) ∙ ap (product values) (take-append-drop i xs))

pub product-more : (values : ℕ → ℕ) (xs : List ℕ) (i d a b c : ℕ) → i < length xs → a ≡ c * product values (take i xs) → b ≡ values (get_or xs i d) * a → b ≡ c * product values (take (i + 1) xs)
product-more values xs i d a b c h e f =
    let x : ℕ = values (get_or xs i d) in
    let p : ℕ = product values (take i xs) in
    let last : product values (take (i + 1) xs) ≡ p * (x * 1) = ap (product values) (take_more xs i d h) ∙ product-append values (take i xs) (get_or xs i d ∷ []) in
    let g : x * (c * p) ≡ c * (p * (x * 1)) = omega arith in
    f ∙ ap (λ n. x * n) e ∙ g ∙ ap (λ n. c * n) (sym last)

pub times-value : (w a b c p q r : ℕ) → c ≡ (a * b) % 2 ^ w → r ≡ p * q → Agree w (c * r) ((a * p) * (b * q))
times-value w a b c p q r e f =
    let g : (a * b) * (p * q) ≡ (a * p) * (b * q) = omega arith in
    agree-trans w (c * r) ((a * b) * (p * q)) ((a * p) * (b * q))
    (agree-mul w c (a * b) r (p * q) (agree-reduced w (a * b) c e) (agree-same w r (p * q) f))
    (agree-same w ((a * b) * (p * q)) ((a * p) * (b * q)) g)

pub whole-product : (values : ℕ → ℕ) (xs ys : List ℕ) (i p r : ℕ) → r ≡ p * product values (take i xs) → length xs ≤ i → xs ≡ ys → r ≡ p * product values ys
whole-product values xs ys i p r e h same = e ∙ ap (λ zs. p * product values zs) (take_all i xs h ∙ same)
