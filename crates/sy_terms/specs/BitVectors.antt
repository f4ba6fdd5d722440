-- The operators of SMT-LIB's theory FixedSizeBitVectors on numbers below 2 ^ w, where w is the width.
use Rattle.std.specs.Prelude.{ℕ, zero, suc, ◌+◌, ◌-◌, ◌*◌, ◌/◌, ◌%◌, ◌^◌, Bool, cond, nat_eq, nat_lt, nat_le, if◌then◌else◌}

-- the top bit is 1
abbrev pub negative : ℕ → ℕ → Bool
negative w s = nat_le (2 ^ (w - 1)) s

-- the number with each bit turned
abbrev pub inverted : ℕ → ℕ → ℕ
inverted w s = 2 ^ w - 1 - s

-- the negated number
abbrev pub negated : ℕ → ℕ → ℕ
negated w s = (2 ^ w - s) % 2 ^ w

-- |s| of two's complement
abbrev pub magnitude : ℕ → ℕ → ℕ
magnitude w s = if negative w s then 2 ^ w - s else s

abbrev pub sum : ℕ → ℕ → ℕ → ℕ
sum w s t = (s + t) % 2 ^ w

abbrev pub difference : ℕ → ℕ → ℕ → ℕ
difference w s t = (s + (2 ^ w - t)) % 2 ^ w

abbrev pub product : ℕ → ℕ → ℕ → ℕ
product w s t = (s * t) % 2 ^ w

-- the quotient rounded down; all ones where t is 0
abbrev pub quotient : ℕ → ℕ → ℕ → ℕ
quotient w s t = if nat_eq t 0 then 2 ^ w - 1 else s / t

-- the remainder; s where t is 0
abbrev pub remainder : ℕ → ℕ → ℕ → ℕ
remainder w s t = if nat_eq t 0 then s else s % t

-- the quotient of the magnitudes, negated where the top bits differ
abbrev pub signed_quotient : ℕ → ℕ → ℕ → ℕ
signed_quotient w s t =
    let q = quotient w (magnitude w s) (magnitude w t) in
    cond (negative w s) (cond (negative w t) q (negated w q)) (cond (negative w t) (negated w q) q)

-- the remainder of the magnitudes, with the sign of s
abbrev pub signed_remainder : ℕ → ℕ → ℕ → ℕ
signed_remainder w s t =
    let r = remainder w (magnitude w s) (magnitude w t) in
    if negative w s then negated w r else r

-- the remainder of the magnitudes, moved to the sign of t
abbrev pub signed_modulus : ℕ → ℕ → ℕ → ℕ
signed_modulus w s t =
    let u = remainder w (magnitude w s) (magnitude w t) in
    if nat_eq u 0 then 0 else
    cond (negative w s)
    (cond (negative w t) (negated w u) (sum w (negated w u) t))
    (cond (negative w t) (sum w u t) u)

abbrev pub shifted_left : ℕ → ℕ → ℕ → ℕ
shifted_left w s t = if nat_le w t then 0 else (s * 2 ^ t) % 2 ^ w

abbrev pub shifted_right : ℕ → ℕ → ℕ → ℕ
shifted_right w s t = if nat_le w t then 0 else s / 2 ^ t

-- filled with the top bit
abbrev pub shifted_right_signed : ℕ → ℕ → ℕ → ℕ
shifted_right_signed w s t =
    if negative w s then inverted w (shifted_right w (inverted w s) t) else shifted_right w s t

-- the bits of s, and below them those of t, of width w
abbrev pub joined : ℕ → ℕ → ℕ → ℕ
joined w s t = s * 2 ^ w + t

-- bits i down to j
abbrev pub extracted : ℕ → ℕ → ℕ → ℕ
extracted i j s = (s / 2 ^ j) % 2 ^ (i - j + 1)

-- so many copies
abbrev pub repeated : ℕ → ℕ → ℕ → ℕ
repeated zero w s = 0
repeated (suc copies) w s = joined w (repeated copies w s) s

-- i more top bits, each the top bit
abbrev pub sign_extended : ℕ → ℕ → ℕ → ℕ
sign_extended i w s = if negative w s then s + (2 ^ (w + i) - 2 ^ w) else s

abbrev pub rotated_left : ℕ → ℕ → ℕ → ℕ
rotated_left i w s = let k = i % w in (s * 2 ^ k) % 2 ^ w + s / 2 ^ (w - k)

abbrev pub rotated_right : ℕ → ℕ → ℕ → ℕ
rotated_right i w s = let k = i % w in s / 2 ^ k + (s % 2 ^ k) * 2 ^ (w - k)

-- two's complement order, as the unsigned order of numbers whose top bit is turned
abbrev pub signed_less : ℕ → ℕ → ℕ → Bool
signed_less w s t = nat_lt (sum w s (2 ^ (w - 1))) (sum w t (2 ^ (w - 1)))
