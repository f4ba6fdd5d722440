-- Two words are equal exactly where the sides of their difference are.
use Rattle.std.proofs.Common.{◌≡◌, ℕ, Bool, true, eqb, not, ◌+◌, ◌-◌, ◌*◌, ◌%◌, ◌^◌, ◌<◌, ◌&&◌, List, [], ◌∷◌, length, arith, refl, ap, sym, subst, ◌∙◌}
use Rattle.std.specs.Prelude.{◌==◌}
use Rattle.std.proofs.Math.Nat.{add-mod_right, add-mul-mod_self_right, mod-eq_of_lt}
use Rattle.std.proofs.lemmas.Bool.{eqb-true, eq-eqb}
use Rattle.sy_terms.specs.Values.{Val, Truth, Bits, same}
use Rattle.sy_terms.specs.Operators.{op_value}
use Rattle.sy_terms.specs.Theories.{sort_of_value}
use Rattle.sy_terms.specs.declared.op.Op.TheVariants as ops
use Rattle.sy_terms.specs.declared.sort.Sort.TheVariants as sorts
use Rattle.sy_gates.specs.declared.gate.Bit.{Bit}
use Rattle.sy_gates.specs.Circuits.{Plan, FollowsPlan, word_number}
use Rattle.sy_gates.proofs.Words.{word_number-below, below_at, same_bool}
use Rattle.sy_bits_sums.specs.declared.sum.Sum.{Sum}
use Rattle.sy_bits_sums.specs.Polynomials.{total, Agree}
use Rattle.sy_bits_sums.proofs.Agreeing.{agree-same, agree-sym, agree-trans, agree-add, agree-mul}
use Rattle.sy_bits_operators.specs.declared.signal.Signal.TheVariants as signals
use Rattle.sy_bits_words.specs.declared.known.Known.{Known}
use Rattle.sy_bits_words.specs.Standing.{StandsFor, AreEqualWhere}
use Rattle.sy_bits_words.proofs.Tables.{numbers_of, are-numbers}

-- numbers of a width

cancelled : (w p s t : ℕ) → p < 2 ^ w → s < 2 ^ w → t < 2 ^ w → Agree w (p + t) (s + p) → t ≡ s
cancelled w p s t hp hs ht e =
    let l : t + 2 ^ w ≡ (p + t) + (2 ^ w - p) = omega (arith, hp) in
    let r : (s + p) + (2 ^ w - p) ≡ s + 2 ^ w = omega (arith, hp) in
    sym (mod-eq_of_lt ht) ∙ sym (add-mod_right t (2 ^ w)) ∙ ap (λ n. n % 2 ^ w) l
    ∙ (agree-add w (p + t) (s + p) (2 ^ w - p) (2 ^ w - p) e (agree-same w (2 ^ w - p) (2 ^ w - p) refl)).is
    ∙ ap (λ n. n % 2 ^ w) r ∙ add-mod_right s (2 ^ w) ∙ mod-eq_of_lt hs

around : (s t q ones m : ℕ) → m ≡ ones + 1 → ((s + t * ones) + q) + t ≡ (s + q) + t * m
around s t q ones m e = rw e (omega arith)

-- a word less the other one is a side less the other one
crossed : (w s t p q a b d l r ones : ℕ) → 0 < 2 ^ w → ones ≡ 2 ^ w - 1 → Agree w s a → Agree w t b → Agree w d (a + b * ones) → Agree w l (d + r) → Agree w p l → Agree w q r → Agree w (p + t) (s + q)
crossed w s t p q a b d l r ones one greatest e f g h i j =
    let m : 2 ^ w ≡ ones + 1 = omega (arith, greatest, one) in
    let difference : Agree w d (s + t * ones) =
    agree-trans w d (a + b * ones) (s + t * ones) g
    (agree-add w a s (b * ones) (t * ones) (agree-sym w s a e) (agree-mul w b t ones ones (agree-sym w t b f) (agree-same w ones ones refl))) in
    let first : Agree w p ((s + t * ones) + q) =
    agree-trans w p l ((s + t * ones) + q) i
    (agree-trans w l (d + r) ((s + t * ones) + q) h (agree-add w d (s + t * ones) r q difference (agree-sym w q r j))) in
    let turned : Agree w (((s + t * ones) + q) + t) (s + q) =
    record { is = ap (λ n. n % 2 ^ w) (around s t q ones (2 ^ w) m) ∙ add-mul-mod_self_right (s + q) t (2 ^ w) } in
    agree-trans w (p + t) (((s + t * ones) + q) + t) (s + q) (agree-add w p ((s + t * ones) + q) t t first (agree-same w t t refl)) turned

equal-alike : (w s t p q : ℕ) → s < 2 ^ w → t < 2 ^ w → p < 2 ^ w → q < 2 ^ w → Agree w (p + t) (s + q) → eqb p q ≡ eqb s t
equal-alike w s t p q hs ht hp hq k =
    let left : s + p ≡ p + s = omega arith in
    let right : s + q ≡ q + s = omega arith in
    same_bool (eqb p q) (eqb s t)
    (λ x. eq-eqb s t (sym (cancelled w p s t hp hs ht (subst (λ n. Agree w (p + t) (s + n)) (sym (eqb-true p q x)) k))))
    (λ x. eq-eqb p q (cancelled w s q p hs hq hp
    (agree-trans w (s + p) (p + s) (q + s) (agree-same w (s + p) (p + s) left)
    (agree-trans w (p + s) (s + q) (q + s) (subst (λ n. Agree w (p + n) (s + q)) (sym (eqb-true s t x)) k) (agree-same w (s + q) (q + s) right)))))

-- the sort of both operators is Bool

pub equal-sort : (xs ys : List Val) → sort_of_value (op_value ops.Equal xs) ≡ sort_of_value (op_value ops.Equal ys)
unfolding op_value
equal-sort xs ys = refl

pub distinct-sort : (xs ys : List Val) → sort_of_value (op_value ops.Distinct xs) ≡ sort_of_value (op_value ops.Distinct ys)
unfolding op_value
distinct-sort xs ys = refl

-- words

pub sides-equal : (circuit : Plan) (list : List Known) (s t p q : List Bit) (a b d l r : Sum) (ones : ℕ) → length t ≡ length s → StandsFor circuit list s a → StandsFor circuit list t b → ones ≡ 2 ^ length s - 1 → ((values : ℕ → ℕ) → Agree (length s) (total values d.monomials.items) (total values a.monomials.items + total values b.monomials.items * ones)) → l.width ≡ length s → r.width ≡ length s → ((values : ℕ → ℕ) → Agree (length s) (total values l.monomials.items) (total values d.monomials.items + total values r.monomials.items)) → StandsFor circuit list p l → StandsFor circuit list q r → AreEqualWhere circuit (signals.Vector s ∷ signals.Vector t ∷ []) (signals.Vector p ∷ signals.Vector q ∷ [])
unfolding op_value
sides-equal circuit list s t p q a b d l r ones same-width first second greatest difference left-width right-width sides left right =
    let wide-p : length p ≡ length s = left.width ∙ left-width in
    let wide-q : length q ≡ length s = right.width ∙ right-width in
    let wide : length q ≡ length t = wide-q ∙ sym same-width in
    let inside-p = left.inside in
    let inside-q = right.inside in
    let widths : (length p == length q) ≡ (length s == length t) = ap (λ n. n == length q) wide-p ∙ ap (λ n. length s == n) wide in
    let numbers : (v : ℕ → Bool) → FollowsPlan v circuit → (word_number v p == word_number v q) ≡ (word_number v s == word_number v t) = λ v f.
    let values = numbers_of v list in
    let n = are-numbers v list in
    let w = length s in
    let below-s : word_number v s < 2 ^ w = word_number-below v s in
    equal-alike w (word_number v s) (word_number v t) (word_number v p) (word_number v q) below-s (below_at v t w same-width) (below_at v p w wide-p) (below_at v q w wide-q)
    (crossed w (word_number v s) (word_number v t) (word_number v p) (word_number v q) (total values a.monomials.items) (total values b.monomials.items) (total values d.monomials.items) (total values l.monomials.items) (total values r.monomials.items) ones (omega (arith, below-s)) greatest
    (first.value v values f n)
    (subst (λ k. Agree k (word_number v t) (total values b.monomials.items)) same-width (second.value v values f n))
    (difference values) (sides values)
    (subst (λ k. Agree k (word_number v p) (total values l.monomials.items)) wide-p (left.value v values f n))
    (subst (λ k. Agree k (word_number v q) (total values r.monomials.items)) wide-q (right.value v values f n))) in
    let alike : (v : ℕ → Bool) → FollowsPlan v circuit → same (Bits (length p) (word_number v p)) (Bits (length q) (word_number v q)) ≡ same (Bits (length s) (word_number v s)) (Bits (length t) (word_number v t)) = λ v f.
    ap (λ b. b && (word_number v p == word_number v q)) widths ∙ ap (λ b. (length s == length t) && b) (numbers v f) in
    record {
      alike = ap (λ n. sorts.Bits n ∷ sorts.Bits (length q) ∷ []) wide-p ∙ ap (λ n. sorts.Bits (length s) ∷ sorts.Bits n ∷ []) wide;
      inside = omega (arith, inside-p, inside-q);
      equal = λ v f. ap (λ b. Truth (b && true)) (alike v f);
      distinct = λ v f. ap (λ b. Truth ((not b && true) && (true && true))) (alike v f);
    }
