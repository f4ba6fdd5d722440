-- Whether clauses are true, as a test and as a fact.
use Rattle.std.proofs.Common.{◌≡◌, ℕ, Bool, true, false, ◌&&◌, ◌||◌, not, cond, List, [], ◌∷◌, refl, ap, sym, ◌∙◌, arith}
use Rattle.std.proofs.lemmas.List.Elements.{All-nil, All-cons, All-head, All-tail}
use Rattle.sy_clauses.specs.declared.Lit.{Lit}
use Rattle.sy_clauses.specs.Clauses.{IsModel, ClauseIsTrueUnder, literals, same_literal}
use Rattle.sy_clauses.proofs.Sets.{literal_is}
use Rattle.sy_gates.specs.Circuits.{lit_value}
use Rattle.sy_gates.specs.Models.{clause_value, clauses_value}

-- a literal is true where its variable has its sign
own_sign : (p x : Bool) → cond p x (not x) ≡ true → x ≡ p
own_sign true x e = e
own_sign false true e = cc
own_sign false false e = refl

sign_true : (p x : Bool) → x ≡ p → cond p x (not x) ≡ true
sign_true true x e = e
sign_true false true e = cc
sign_true false false e = refl

found : (b : Bool) (v : ℕ → Bool) (l : Lit) (c : List Lit) → lit_value v l ≡ b → (b ≡ false → ClauseIsTrueUnder v (literals c)) → ClauseIsTrueUnder v (literals (l ∷ c))
found true v l c e rest =
    let s : v l.var ≡ l.positive = own_sign l.positive (v l.var) e in
    record { var = l.var; has = rw s (grind arith) }
found false v l c e rest =
    let t = rest refl in
    record { var = t.var; has = rw t.has (either (same_literal l.var l.positive t.var (v t.var))) }
  where
    either : (a : Bool) → (a || true) ≡ true
    either true = refl
    either false = refl

second : (a b : Bool) → (a || b) ≡ true → a ≡ false → b ≡ true
second true b e f = cc
second false b e f = e

pub value-true : (v : ℕ → Bool) (c : List Lit) → clause_value v c ≡ true → ClauseIsTrueUnder v (literals c)
value-true v [] e = cc
value-true v (l ∷ c) e = found (lit_value v l) v l c refl (λ f. value-true v c (second (lit_value v l) (clause_value v c) e f))

first_true : (a b : Bool) → a ≡ true → (a || b) ≡ true
first_true true b e = refl
first_true false b e = cc

either_true : (a b : Bool) → b ≡ true → (a || b) ≡ true
either_true true b e = refl
either_true false b e = e

at_literal : (b : Bool) (v : ℕ → Bool) (l : Lit) (c : List Lit) (t : ClauseIsTrueUnder v (literals (l ∷ c))) → same_literal l.var l.positive t.var (v t.var) ≡ b → (ClauseIsTrueUnder v (literals c) → clause_value v c ≡ true) → clause_value v (l ∷ c) ≡ true
at_literal true v l c t e rest =
    let same = literal_is l.var l.positive t.var (v t.var) e in
    first_true (lit_value v l) (clause_value v c) (sign_true l.positive (v l.var) (ap v (sym same.0) ∙ same.1))
at_literal false v l c t e rest =
    either_true (lit_value v l) (clause_value v c)
    (rest (record { var = t.var; has = second (same_literal l.var l.positive t.var (v t.var)) (literals c t.var (v t.var)) t.has e }))

pub true-value : (v : ℕ → Bool) (c : List Lit) → ClauseIsTrueUnder v (literals c) → clause_value v c ≡ true
true-value v [] t = let h = t.has in cc
true-value v (l ∷ c) t = at_literal (same_literal l.var l.positive t.var (v t.var)) v l c t refl (true-value v c)

both : (a b : Bool) → a && b ≡ true → (a ≡ true) × (b ≡ true)
both true b e = (refl, e)
both false b e = cc

-- the test tells the fact
pub model : (v : ℕ → Bool) (cs : List (List Lit)) → clauses_value v cs ≡ true → IsModel v cs
model v [] e = All-nil (λ c. ClauseIsTrueUnder v (literals c))
model v (c ∷ cs) e =
    let p = both (clause_value v c) (clauses_value v cs) e in
    All-cons (λ c. ClauseIsTrueUnder v (literals c)) c cs (value-true v c p.0) (model v cs p.1)

pub holds : (v : ℕ → Bool) (cs : List (List Lit)) → IsModel v cs → clauses_value v cs ≡ true
holds v [] m = refl
holds v (c ∷ cs) m =
    let first = true-value v c (All-head (λ c. ClauseIsTrueUnder v (literals c)) c cs m) in
    let rest = holds v cs (All-tail (λ c. ClauseIsTrueUnder v (literals c)) c cs m) in
    rw (first, rest) refl
