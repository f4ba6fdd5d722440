use Rattle.std.proofs.Common.{◌≡◌, ℕ, Bool, ◌+◌, ◌-◌, ◌*◌, ◌^◌, ◌<◌, ◌≤◌, ◌%◌, true, false, cond, List, length, take, get_or, arith, ap, sym, ◌∙◌, zero, suc}
use Rattle.std.proofs.Math.Nat.{zero-mod, mod_self, mod-eq_of_lt}
use Rattle.sy_clauses.specs.declared.Lit.{Lit}
use Rattle.sy_gates.specs.declared.gate.Bit.{Bit}
use Rattle.sy_gates.specs.declared.gate.Bit.TheVariants.{Of}
use Rattle.sy_gates.specs.Circuits.{lit_value, word_number}
use Rattle.sy_gates.proofs.Words.{word_number-take, mod_of}
use Rattle.sy_gates.proofs.Places.{filled_bool}

-- one more bit of a word whose bits are one literal
pub same_step : (v : ℕ → Bool) (xs : List Bit) (i : ℕ) (d : Bit) (l : Lit) → i < length xs → get_or xs i d ≡ Of l →
    word_number v (take i xs) ≡ cond (lit_value v l) (2 ^ i - 1) 0 → word_number v (take (i + 1) xs) ≡ cond (lit_value v l) (2 ^ (i + 1) - 1) 0
same_step v xs i d l h e w =
    rw (word_number-take v xs i d h, e) (filled_bool (lit_value v l) i (word_number v (take i xs)) w)

-- minus a number is its product by minus 1
minus_product : (a p : ℕ) → a < p → a * (p - 1) % p ≡ (p - a) % p
minus_product zero p h =
    let z : zero * (p - 1) ≡ zero = omega arith in
    let e : p - zero ≡ p = omega arith in
    rw (z, e) (zero-mod p ∙ sym (mod_self p))
minus_product (suc a) p h =
    sym (mod_of (p - suc a) p a (suc a * (p - 1)) (omega arith) (counted a (p - 1) p (omega arith) (omega arith)))
    ∙ sym (mod-eq_of_lt {n = p - suc a} (omega arith))
  where
    counted : (a q p : ℕ) → a ≤ q → p ≡ q + 1 → p - suc a + p * a ≡ suc a * q
    counted a q p h e =
        let m : p * a ≡ (q + 1) * a = ap (λ k. k * a) e in
        omega (arith, m)

-- a product by a sign: `neg` is minus a, and `other` is a or 0
pub sign_product : (s odd : Bool) (a p neg other r : ℕ) → a < p → neg ≡ (p - a) % p → other ≡ cond odd a 0 →
    r ≡ cond s neg other → r ≡ a * cond s (p - 1) (cond odd 1 0) % p
sign_product true odd a p neg other r h e f g = g ∙ e ∙ sym (minus_product a p h)
sign_product false true a p neg other r h e f g =
    g ∙ f ∙ mod_of a p 0 (a * 1) h (omega arith)
sign_product false false a p neg other r h e f g =
    g ∙ f ∙ mod_of 0 p 0 (a * 0) (omega arith) (omega arith)

-- the same where the first factor is the sign
pub exchanged : (r a b p s : ℕ) → a ≡ s → r ≡ b * s % p → r ≡ a * b % p
exchanged r a b p s e f =
    let m : b * s ≡ s * b = omega arith in
    f ∙ ap (λ n. n % p) m ∙ ap (λ n. n * b % p) (sym e)
