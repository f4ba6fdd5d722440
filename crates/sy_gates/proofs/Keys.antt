-- No two gates have the same number, so a gate's number finds it.
use Rattle.std.proofs.Common.{◌≡◌, ℕ, Bool, true, false, ◌+◌, ◌*◌, ◌^◌, ◌≤◌, ◌<◌, cond, List, [], ◌∷◌, ◌++◌, length, slice_get, nat_eq, Some, arith, refl, subst, ap, ap₂, sym, ◌∙◌, zero, suc, inl, inr, ◌⊎◌, ⊎_elim}
use Rattle.std.proofs.lemmas.Bool.{ne_eqb, eq-eqb}
use Rattle.sy_clauses.specs.declared.Lit.{Lit}
use Rattle.sy_gates.specs.declared.gate.Gate.{Gate}
use Rattle.sy_gates.specs.declared.gate.Gate.TheVariants.{Constant, And, Xor, Choose}
use Rattle.sy_gates.specs.declared.table.Table.{Table}
use Rattle.sy_gates.specs.Circuits.{Plan, variables, InOrder, lit_bound, gate_bound}
use Rattle.sy_gates.specs.Keys.{literal_key, gate_key, place_in, FindsAll}

-- literals

signs : (p q : Bool) (m n : ℕ) → 2 * m + cond p 0 1 ≡ 2 * n + cond q 0 1 → (m ≡ n) × (p ≡ q)
signs true true m n e = (omega (arith, e), refl)
signs true false m n e = absurd (omega (arith, e))
signs false true m n e = absurd (omega (arith, e))
signs false false m n e = (omega (arith, e), refl)

pub literal-key : (a b : Lit) → literal_key a ≡ literal_key b → a ≡ b
literal-key a b e =
    let same = signs a.positive b.positive a.var b.var e in
    ap₂ (λ var positive. record { var = var; positive = positive }) same.0 same.1

sign_bound : (p : Bool) (m : ℕ) → m + 1 ≤ 2 ^ 32 → 2 * m + cond p 0 1 < 2 ^ 33
sign_bound true m h = omega (arith, h)
sign_bound false m h = omega (arith, h)

-- numbers of two digits

digits : (a b c d : ℕ) → a < 2 ^ 33 → c < 2 ^ 33 → a + 2 ^ 33 * b ≡ c + 2 ^ 33 * d → (a ≡ c) × (b ≡ d)
digits a b c d small small' e = (omega (arith, small, small', e), omega (arith, small, small', e))

-- gates

-- two literals below a kind
two : (a b c d : Lit) (kind : ℕ) → lit_bound a ≤ 2 ^ 32 → lit_bound c ≤ 2 ^ 32 → 4 * (literal_key a + 2 ^ 33 * literal_key b) + kind ≡ 4 * (literal_key c + 2 ^ 33 * literal_key d) + kind → (a ≡ c) × (b ≡ d)
two a b c d kind h h' e =
    let small = sign_bound a.positive a.var h in
    let small' = sign_bound c.positive c.var h' in
    let same = digits (literal_key a) (literal_key b) (literal_key c) (literal_key d) small small' (omega (arith, e)) in
    (literal-key a c same.0, literal-key b d same.1)

three : (t a b u c d : Lit) → lit_bound t ≤ 2 ^ 32 → lit_bound a ≤ 2 ^ 32 → lit_bound u ≤ 2 ^ 32 → lit_bound c ≤ 2 ^ 32 → 4 * (literal_key t + 2 ^ 33 * (literal_key a + 2 ^ 33 * literal_key b)) + 3 ≡ 4 * (literal_key u + 2 ^ 33 * (literal_key c + 2 ^ 33 * literal_key d)) + 3 → (t ≡ u) × ((a ≡ c) × (b ≡ d))
three t a b u c d ht ha hu hc e =
    let small = sign_bound t.positive t.var ht in
    let small' = sign_bound u.positive u.var hu in
    let same = digits (literal_key t) (literal_key a + 2 ^ 33 * literal_key b) (literal_key u) (literal_key c + 2 ^ 33 * literal_key d) small small' (omega (arith, e)) in
    let below = digits (literal_key a) (literal_key b) (literal_key c) (literal_key d) (sign_bound a.positive a.var ha) (sign_bound c.positive c.var hc) same.1 in
    (literal-key t u same.0, (literal-key a c below.0, literal-key b d below.1))

bits : (b c : Bool) → 4 * cond b 1 0 ≡ 4 * cond c 1 0 → b ≡ c
bits true true e = refl
bits true false e = absurd (omega (arith, e))
bits false true e = absurd (omega (arith, e))
bits false false e = refl

no_bit : (b : Bool) (n k : ℕ) → 0 < k → k < 4 → 4 * cond b 1 0 ≡ 4 * n + k → ⊥
no_bit true n k low high e = omega (arith, low, high, e)
no_bit false n k low high e = omega (arith, low, high, e)

kinds : (m n j k : ℕ) → j < k → k < 4 → 4 * m + j ≡ 4 * n + k → ⊥
kinds m n j k less high e = omega (arith, less, high, e)

pub gate-key : (g h : Gate) → gate_bound g ≤ 2 ^ 32 → gate_bound h ≤ 2 ^ 32 → gate_key g ≡ gate_key h → g ≡ h
gate-key (Constant b) (Constant c) h h' e = ap Constant (bits b c e)
gate-key (Constant b) (And x y) h h' e = absurd (no_bit b _ 1 (omega arith) (omega arith) e)
gate-key (Constant b) (Xor x y) h h' e = absurd (no_bit b _ 2 (omega arith) (omega arith) e)
gate-key (Constant b) (Choose t x y) h h' e = absurd (no_bit b _ 3 (omega arith) (omega arith) e)
gate-key (And a b) (Constant c) h h' e = absurd (no_bit c _ 1 (omega arith) (omega arith) (sym e))
gate-key (And a b) (And x y) h h' e = let same = two a b x y 1 (omega (arith, h)) (omega (arith, h')) e in let first : a ≡ x = same.0 in let second : b ≡ y = same.1 in cc
gate-key (And a b) (Xor x y) h h' e = absurd (kinds _ _ 1 2 (omega arith) (omega arith) e)
gate-key (And a b) (Choose t x y) h h' e = absurd (kinds _ _ 1 3 (omega arith) (omega arith) e)
gate-key (Xor a b) (Constant c) h h' e = absurd (no_bit c _ 2 (omega arith) (omega arith) (sym e))
gate-key (Xor a b) (And x y) h h' e = absurd (kinds _ _ 1 2 (omega arith) (omega arith) (sym e))
gate-key (Xor a b) (Xor x y) h h' e = let same = two a b x y 2 (omega (arith, h)) (omega (arith, h')) e in let first : a ≡ x = same.0 in let second : b ≡ y = same.1 in cc
gate-key (Xor a b) (Choose t x y) h h' e = absurd (kinds _ _ 2 3 (omega arith) (omega arith) e)
gate-key (Choose s a b) (Constant c) h h' e = absurd (no_bit c _ 3 (omega arith) (omega arith) (sym e))
gate-key (Choose s a b) (And x y) h h' e = absurd (kinds _ _ 1 3 (omega arith) (omega arith) (sym e))
gate-key (Choose s a b) (Xor x y) h h' e = absurd (kinds _ _ 2 3 (omega arith) (omega arith) (sym e))
gate-key (Choose s a b) (Choose t x y) h h' e =
    let same = three s a b t x y (omega (arith, h)) (omega (arith, h)) (omega (arith, h')) (omega (arith, h')) e in
    let test : s ≡ t = same.0 in
    let first : a ≡ x = same.1.0 in
    let second : b ≡ y = same.1.1 in
    cc

-- gates in order read variables below their own

bound_at : (first : ℕ) (gs : List Gate) (i : ℕ) (g : Gate) → InOrder first gs → slice_get gs i ≡ Some g → gate_bound g ≤ first + length gs
bound_at first [] i g o e = cc
bound_at first (h ∷ gs) zero g o e =
    let same : h ≡ g = cc in
    subst (λ x. gate_bound x ≤ first + length (h ∷ gs)) same (omega (arith, o.0))
bound_at first (h ∷ gs) (suc i) g o e =
    let later = bound_at (first + 1) gs i g o.1 e in
    omega (arith, later)

-- a gate of a list with one more at its end is one of the list, or the last

at_push : (gs : List Gate) (last : Gate) (i : ℕ) (g : Gate) → slice_get (gs ++ last ∷ []) i ≡ Some g → (slice_get gs i ≡ Some g) ⊎ ((i ≡ length gs) × (last ≡ g))
at_push [] last zero g e = inr (refl, cc)
at_push [] last (suc i) g e = cc
at_push (h ∷ gs) last zero g e = inl e
at_push (h ∷ gs) last (suc i) g e = ⊎_elim (λ here. inl here) (λ end. inr (omega (arith, end.0), end.1)) (at_push gs last i g e)

-- a table with one gate more

module _ (n : ℕ) (gs : List Gate) (gate : Gate) (before after : Table) (made : ℕ) (p : Plan) (same : record { inputs = n; gates = gs } ≡ p) (few : variables p + 1 < 2 ^ 31) (inside : gate_bound gate ≤ variables p)
    (absent : (place : ℕ) → slice_get p.gates place ≡ Some gate → ⊥) (order : InOrder n gs) (finds : FindsAll before gs) (last : made ≡ length gs) (noted : (other : Gate) → place_in after other ≡ cond (nat_eq (gate_key gate) (gate_key other)) (Some made) (place_in before other)) where
  small : n + length gs + 1 < 2 ^ 31
  small = subst (λ q. variables q + 1 < 2 ^ 31) (sym same) few

  bounded : gate_bound gate ≤ 2 ^ 32
  bounded = let here = subst (λ q. gate_bound gate ≤ variables q) (sym same) inside in omega (arith, here, small)

  new_key : (place : ℕ) (other : Gate) → slice_get gs place ≡ Some other → nat_eq (gate_key gate) (gate_key other) ≡ false
  new_key place other at =
      let bound : gate_bound other ≤ 2 ^ 32 = let here = bound_at n gs place other order at in omega (arith, here, small) in
      ne_eqb (gate_key gate) (gate_key other) (λ e. absent place (subst (λ q. slice_get q.gates place ≡ Some gate) same (at ∙ ap Some (sym (gate-key gate other bounded bound e)))))

  pub still-found : FindsAll after gs
  still-found place other at = rw (noted other, new_key place other at) (finds place other at)

  pub found-push : FindsAll after (gs ++ gate ∷ [])
  found-push place other at = ⊎_elim
      (λ here. still-found place other here)
      (λ end. let e : place ≡ length gs = end.0 in let here : gate ≡ other = end.1 in
      subst (λ x. place_in after x ≡ Some place) here (rw (noted gate, eq-eqb (gate_key gate) (gate_key gate) refl) (ap Some (last ∙ sym e))))
      (at_push gs gate place other at)
