-- Operators at a vector and the same vector again.
use Rattle.std.proofs.Common.{◌≡◌, ℕ, zero, suc, ◌-◌, ◌*◌, ◌/◌, ◌%◌, ◌^◌, ◌<◌, Bool, true, false, cond, nat_eq, nat_le, List, [], ◌∷◌, Option, Some, None, arith, refl, ap, sym, ◌∙◌}
use Rattle.std.specs.Prelude.{IfSome}
use Rattle.std.proofs.Math.Nat.{div-eq_of_lt, mod_self, pow-succ'}
use Rattle.std.proofs.lemmas.Nat.{pow_pos}
use Rattle.std.proofs.lemmas.Bool.Decides.{nat_tests}
use Rattle.sy_terms.specs.Values.{Val, Truth, Whole, Bits, number}
use Rattle.sy_terms.specs.BitVectors as bv
use Rattle.sy_terms.specs.Operators.{op_value}
use Rattle.sy_terms.specs.Theories.{sort_of_value}
use Rattle.sy_terms.specs.Expr.{Expr, Exprs, Constant, Apply, none, more}
use Rattle.sy_terms.specs.Denoted.{expr_of}
use Rattle.sy_terms.specs.Meaning.{meaning, meanings}
use Rattle.sy_terms.specs.declared.op.Op.{Op}
use Rattle.sy_terms.specs.declared.op.Op.TheVariants as ops
use Rattle.sy_terms.specs.declared.sort.Sort.{Sort}
use Rattle.sy_terms.specs.declared.sort.Sort.TheVariants as sorts
use Rattle.sy_terms.specs.declared.term.Term.{Term}
use Rattle.sy_rewrite_orders.specs.Sums.{BeginWithSorts, IsSameOver}

below-power : (n : ℕ) → n < 2 ^ n
below-power zero = omega arith
below-power (suc n) = omega (arith, below-power n, pow-succ' 2 n)

-- a number that is shifted down by as many places as it has digits, or by the width
nothing-left : (w s t : ℕ) → (nat_le w t ≡ false → s < 2 ^ t) → bv.shifted_right w s t ≡ 0
nothing-left w s t less = by (nat_le w t) less
  where
    by : (b : Bool) → (b ≡ false → s < 2 ^ t) → cond b 0 (s / 2 ^ t) ≡ 0
    by true less = refl
    by false less = div-eq_of_lt (less refl)

shifted-nothing : (w n : ℕ) → bv.shifted_right w n n ≡ 0
shifted-nothing w n = nothing-left w n n (λ h. below-power n)

remainder-nothing : (w n : ℕ) → bv.remainder w n n ≡ 0
remainder-nothing w n = by (nat_eq n 0) refl
  where
    by : (b : Bool) → nat_eq n 0 ≡ b → cond b n (n % n) ≡ 0
    by true h = grind (arith, nat_tests)
    by false h = mod_self n

-- the remainder of the magnitudes, with a sign
signed-nothing : (w r : ℕ) (b : Bool) → r ≡ 0 → cond b (bv.negated w r) r ≡ 0
signed-nothing w r true left =
    let whole : 2 ^ w - 0 ≡ 2 ^ w = omega arith in
    ap (bv.negated w) left ∙ ap (λ (k : ℕ). k % 2 ^ w) whole ∙ mod_self (2 ^ w)
signed-nothing w r false left = left

half : (w : ℕ) → nat_le w (w - 1) ≡ false → 2 ^ w ≡ 2 * 2 ^ (w - 1)
half zero h = grind (arith, nat_tests)
half (suc v) h =
    let below : suc v - 1 ≡ v = omega arith in
    pow-succ' 2 v ∙ ap (λ (k : ℕ). 2 * 2 ^ k) (sym below)

-- a signed number that is shifted down by itself
sign-left : (w n : ℕ) → bv.shifted_right_signed w n n ≡ bv.shifted_right_signed w n (w - 1)
sign-left w n = by (bv.negative w n) refl
  where
    by : (b : Bool) → bv.negative w n ≡ b → cond b (bv.inverted w (bv.shifted_right w (bv.inverted w n) n)) (bv.shifted_right w n n) ≡ cond b (bv.inverted w (bv.shifted_right w (bv.inverted w n) (w - 1))) (bv.shifted_right w n (w - 1))
    by true h =
        let itself : bv.shifted_right w (bv.inverted w n) n ≡ 0 = nothing-left w (bv.inverted w n) n (λ k. grind (arith, nat_tests, below-power (w - 1))) in
        let whole : bv.shifted_right w (bv.inverted w n) (w - 1) ≡ 0 = nothing-left w (bv.inverted w n) (w - 1) (λ k. grind (arith, nat_tests, half w k, pow_pos (w - 1))) in
        ap (bv.inverted w) (itself ∙ sym whole)
    by false h =
        let whole : bv.shifted_right w n (w - 1) ≡ 0 = nothing-left w n (w - 1) (λ k. grind (arith, nat_tests)) in
        shifted-nothing w n ∙ sym whole

-- the operators

pub shift-nothing : (w n : ℕ) → op_value ops.BvLshr (Bits w n ∷ Bits w n ∷ []) ≡ Bits w 0
unfolding op_value
shift-nothing w n = ap (Bits w) (shifted-nothing w n)

pub urem-nothing : (w n : ℕ) → op_value ops.BvUrem (Bits w n ∷ Bits w n ∷ []) ≡ Bits w 0
unfolding op_value
urem-nothing w n = ap (Bits w) (remainder-nothing w n)

pub srem-nothing : (w n : ℕ) → op_value ops.BvSrem (Bits w n ∷ Bits w n ∷ []) ≡ Bits w 0
unfolding op_value
srem-nothing w n = ap (Bits w) (signed-nothing w (bv.remainder w (bv.magnitude w n) (bv.magnitude w n)) (bv.negative w n) (remainder-nothing w (bv.magnitude w n)))

pub smod-nothing : (w n : ℕ) → op_value ops.BvSmod (Bits w n ∷ Bits w n ∷ []) ≡ Bits w 0
unfolding op_value
smod-nothing w n = rw (remainder-nothing w (bv.magnitude w n)) refl

pub shift-sign : (w n : ℕ) → op_value ops.BvAshr (Bits w n ∷ Bits w n ∷ []) ≡ op_value ops.BvAshr (Bits w n ∷ Bits w (w - 1) ∷ [])
unfolding op_value
shift-sign w n = ap (Bits w) (sign-left w n)

-- the operators at terms

-- a value of a vector's sort is a vector
is-vector : (x : Val) (w : ℕ) → sort_of_value x ≡ sorts.Bits w → x ≡ Bits w (number x)
is-vector (Bits v n) w h =
    let same : v ≡ w = cc in
    ap (λ (k : ℕ). Bits k n) same
is-vector (Truth b) w h = cc
is-vector (Whole z) w h = cc

-- what an operator gives at a term twice
at-twice : (operator : Op) (w : ℕ) (x given : Val) (xs : List Val) → xs ≡ x ∷ x ∷ [] → sort_of_value x ≡ sorts.Bits w → op_value operator (Bits w (number x) ∷ Bits w (number x) ∷ []) ≡ given → given ≡ op_value operator xs
at-twice operator w x given xs are sorted gives =
    sym gives ∙ ap (λ (v : Val). op_value operator (v ∷ v ∷ [])) (sym (is-vector x w sorted)) ∙ ap (op_value operator) (sym are)

pub zeros-same : {T N : Type 0} (numbers : N → Val) (ss : List Sort) (operator : Op) (w : ℕ) (found : Option (Term T N)) (term : Expr) (arguments : Exprs) →
    ((values : List Val) → meanings [] [] values arguments ≡ meaning [] [] values term ∷ meaning [] [] values term ∷ []) →
    ((values : List Val) → BeginWithSorts ss values → sort_of_value (meaning [] [] values term) ≡ sorts.Bits w) →
    ((v n : ℕ) → op_value operator (Bits v n ∷ Bits v n ∷ []) ≡ Bits v 0) →
    IfSome found (λ zeros. expr_of numbers zeros ≡ Constant (Bits w 0)) →
    IfSome found (λ zeros. IsSameOver ss (expr_of numbers zeros) (Apply operator arguments))
unfolding meaning
zeros-same numbers ss operator w None term arguments are sorted gives is = is
zeros-same numbers ss operator w (Some zeros) term arguments are sorted gives is = λ values begin.
    let x : Val = meaning [] [] values term in
    ap (meaning [] [] values) is ∙ at-twice operator w x (Bits w 0) (meanings [] [] values arguments) (are values) (sorted values begin) (gives w (number x))

pub sign-same : (ss : List Sort) (w k : ℕ) (found term places : Expr) (arguments : Exprs) →
    ((values : List Val) → meanings [] [] values arguments ≡ meaning [] [] values term ∷ meaning [] [] values term ∷ []) →
    ((values : List Val) → BeginWithSorts ss values → sort_of_value (meaning [] [] values term) ≡ sorts.Bits w) →
    k ≡ w - 1 → places ≡ Constant (Bits w k) → found ≡ Apply ops.BvAshr (more term (more places none)) →
    IsSameOver ss found (Apply ops.BvAshr arguments)
unfolding meaning meanings
sign-same ss w k found term places arguments are sorted less at is values begin =
    let x : Val = meaning [] [] values term in
    let shifted : Val = op_value ops.BvAshr (Bits w (number x) ∷ Bits w (w - 1) ∷ []) in
    ap (meaning [] [] values) is
    ∙ ap (λ (e : Expr). op_value ops.BvAshr (x ∷ meaning [] [] values e ∷ [])) at
    ∙ ap (λ (v : Val). op_value ops.BvAshr (v ∷ Bits w k ∷ [])) (is-vector x w (sorted values begin))
    ∙ ap (λ (n : ℕ). op_value ops.BvAshr (Bits w (number x) ∷ Bits w n ∷ [])) less
    ∙ at-twice ops.BvAshr w x shifted (meanings [] [] values arguments) (are values) (sorted values begin) (shift-sign w (number x))
