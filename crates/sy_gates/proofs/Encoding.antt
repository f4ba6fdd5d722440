use Rattle.std.proofs.Common.{◌≡◌, ◌≤◌, ℕ, ◌+◌, max, arith, Bool, true, false, ◌&&◌, ◌||◌, not, cond, List, [], ◌∷◌, ◌++◌, length, length-append, take, get_or, ◌<◌, refl, ap, sym, ◌∙◌}
use Rattle.std.proofs.lemmas.List.{take_more}
use Rattle.sy_clauses.specs.declared.Lit.{Lit}
use Rattle.sy_gates.specs.Circuits.{lit_bound, lit_value, xor, clause_bound, clauses_bound}
use Rattle.sy_gates.specs.Models.{clause_value, clauses_value}

and_true : (b : Bool) → b && true ≡ b
and_true true = refl
and_true false = refl

and_assoc : (a b c : Bool) → (a && b) && c ≡ a && (b && c)
and_assoc true b c = refl
and_assoc false b c = refl

pub clauses_value-append : (v : ℕ → Bool) (cs ds : List (List Lit)) →
    clauses_value v (cs ++ ds) ≡ (clauses_value v cs && clauses_value v ds)
clauses_value-append v [] ds = refl
clauses_value-append v (d ∷ cs) ds =
    ap (λ b. clause_value v d && b) (clauses_value-append v cs ds) ∙ sym (and_assoc (clause_value v d) (clauses_value v cs) (clauses_value v ds))

-- one literal more
pub literal-more : (literals clause more : List Lit) (i : ℕ) (d : Lit) → clause ≡ take i literals → more ≡ clause ++ get_or literals i d ∷ [] → i < length literals →
    more ≡ take (i + 1) literals
literal-more literals clause more i d e m h =
    m ∙ ap (λ c. c ++ get_or literals i d ∷ []) e ∙ sym (take_more literals i d h)

-- one clause more

pub clauses_value-push : (v : ℕ → Bool) (cs : List (List Lit)) (d : List Lit) →
    clauses_value v (cs ++ d ∷ []) ≡ (clauses_value v cs && clause_value v d)
clauses_value-push v cs d = rw (clauses_value-append v cs (d ∷ []), and_true (clause_value v d)) refl

pub clauses_bound-push : (cs : List (List Lit)) (d : List Lit) → clauses_bound (cs ++ d ∷ []) ≡ max (clauses_bound cs) (clause_bound d)
clauses_bound-push [] d = omega arith
clauses_bound-push (c ∷ cs) d = omega (arith, clauses_bound-push cs d)

pub clauses_count-push : (cs ds : List (List Lit)) (d : List Lit) → ds ≡ cs ++ d ∷ [] → length ds ≡ length cs + 1
clauses_count-push cs ds d e = rw e (omega (arith, length-append cs (d ∷ [])))

-- a bound of the clauses before, or of the one that is added
pub bound-push : (cs ds : List (List Lit)) (d : List Lit) (old n : ℕ) → ds ≡ cs ++ d ∷ [] → clause_bound d ≤ n → clauses_bound cs ≤ max old n →
    clauses_bound ds ≤ max old n
bound-push cs ds d old n e h k = rw (e, clauses_bound-push cs d) (omega (arith, h, k))

bound-first : (old n : ℕ) → old ≤ max old n
bound-first old n = omega arith

pub lit_value-negated : (v : ℕ → Bool) (l : Lit) → lit_value v (record { var = l.var; positive = not l.positive }) ≡ not (lit_value v l)
lit_value-negated v l = by_sign (v l.var) l.positive
  where
    by_sign : (x p : Bool) → cond (not p) x (not x) ≡ not (cond p x (not x))
    by_sign true true = refl
    by_sign true false = refl
    by_sign false true = refl
    by_sign false false = refl

-- bounds of clauses of two and three literals

first_bound : (x y z : Lit) → clause_bound (x ∷ y ∷ []) ≤ max (lit_bound x) (max (lit_bound y) (lit_bound z))
first_bound x y z = omega arith

second_bound : (x y z : Lit) → clause_bound (x ∷ z ∷ []) ≤ max (lit_bound x) (max (lit_bound y) (lit_bound z))
second_bound x y z = omega arith

three_bound : (x y z : Lit) → clause_bound (x ∷ y ∷ z ∷ []) ≤ max (lit_bound x) (max (lit_bound y) (lit_bound z))
three_bound x y z = omega arith

-- two clauses that hold where u is true or x and y differ; r says whether the clauses before them hold

differing : (r u x y : Bool) →
    ((r && (u || (x || (y || false)))) && (u || (not x || (not y || false))))
    ≡ (r && (u || xor x y))
differing false _ _ _ = refl
differing true true true true = refl
differing true true true false = refl
differing true true false true = refl
differing true true false false = refl
differing true false true true = refl
differing true false true false = refl
differing true false false true = refl
differing true false false false = refl

pub differing_clauses : (v : ℕ → Bool) (cs d1 d2 : List (List Lit)) (u x y nx ny : Lit) →
    nx ≡ record { var = x.var; positive = not x.positive } →
    ny ≡ record { var = y.var; positive = not y.positive } →
    d1 ≡ cs ++ (u ∷ x ∷ y ∷ []) ∷ [] →
    d2 ≡ d1 ++ (u ∷ nx ∷ ny ∷ []) ∷ [] →
    clauses_value v d2 ≡ (clauses_value v cs && (lit_value v u || xor (lit_value v x) (lit_value v y)))
differing_clauses v cs d1 d2 u x y nx ny fx fy e1 e2 =
    rw (
      e2,
      clauses_value-push v d1 (u ∷ nx ∷ ny ∷ []),
      e1,
      clauses_value-push v cs (u ∷ x ∷ y ∷ []),
      fx,
      lit_value-negated v x,
      fy,
      lit_value-negated v y,
    )
    (differing (clauses_value v cs) (lit_value v u) (lit_value v x) (lit_value v y))

pub differing_count : (cs d1 d2 : List (List Lit)) (c d : List Lit) → d1 ≡ cs ++ c ∷ [] → d2 ≡ d1 ++ d ∷ [] → length d2 ≤ length cs + 2
differing_count cs d1 d2 c d e1 e2 = omega (arith, clauses_count-push cs d1 c e1, clauses_count-push d1 d2 d e2)

pub differing_bound : (cs d1 d2 : List (List Lit)) (u x y nx ny : Lit) →
    nx ≡ record { var = x.var; positive = not x.positive } →
    ny ≡ record { var = y.var; positive = not y.positive } →
    d1 ≡ cs ++ (u ∷ x ∷ y ∷ []) ∷ [] →
    d2 ≡ d1 ++ (u ∷ nx ∷ ny ∷ []) ∷ [] →
    clauses_bound d2 ≤ max (clauses_bound cs) (max (lit_bound u) (max (lit_bound x) (lit_bound y)))
differing_bound cs d1 d2 u x y nx ny fx fy e1 e2 =
    bound-push d1 d2 (u ∷ nx ∷ ny ∷ []) (clauses_bound cs) (max (lit_bound u) (max (lit_bound x) (lit_bound y))) e2
    (rw (fx, fy) (three_bound u x y))
    (bound-push cs d1 (u ∷ x ∷ y ∷ []) (clauses_bound cs) (max (lit_bound u) (max (lit_bound x) (lit_bound y))) e1
    (three_bound u x y)
    (bound-first (clauses_bound cs) (max (lit_bound u) (max (lit_bound x) (lit_bound y)))))

-- the clauses of each kind of gate, where r says whether the clauses before them hold, and o whether the gate's variable does

constant_gate : (r o b : Bool) → (r && (cond b o (not o) || false)) ≡ (r && not (xor o b))
constant_gate false _ _ = refl
constant_gate true true true = refl
constant_gate true true false = refl
constant_gate true false true = refl
constant_gate true false false = refl

pub constant_clauses : (v : ℕ → Bool) (cs ds : List (List Lit)) (made : ℕ) (b : Bool) →
    ds ≡ cs ++ (record { var = made; positive = b } ∷ []) ∷ [] →
    clauses_value v ds ≡ (clauses_value v cs && not (xor (v made) b))
constant_clauses v cs ds made b e =
    rw (e, clauses_value-push v cs (record { var = made; positive = b } ∷ []))
    (constant_gate (clauses_value v cs) (v made) b)

pub constant_count : (cs ds : List (List Lit)) (d : List Lit) → ds ≡ cs ++ d ∷ [] → length ds ≤ length cs + 4
constant_count cs ds d e = omega (arith, clauses_count-push cs ds d e)

pub constant_bound : (cs ds : List (List Lit)) (made : ℕ) (b : Bool) →
    ds ≡ cs ++ (record { var = made; positive = b } ∷ []) ∷ [] →
    clauses_bound ds ≤ max (clauses_bound cs) (max (made + 1) 0)
constant_bound cs ds made b e = rw (e, clauses_bound-push cs (record { var = made; positive = b } ∷ [])) (omega arith)

and_gate : (r o a b : Bool) →
    (((r && (not o || (a || false))) && (not o || (b || false))) && (o || (not a || (not b || false))))
    ≡ (r && not (xor o (a && b)))
and_gate false _ _ _ = refl
and_gate true true true true = refl
and_gate true true true false = refl
and_gate true true false true = refl
and_gate true true false false = refl
and_gate true false true true = refl
and_gate true false true false = refl
and_gate true false false true = refl
and_gate true false false false = refl

pub and_clauses : (v : ℕ → Bool) (cs d1 d2 d3 : List (List Lit)) (made : ℕ) (a b na nb : Lit) →
    na ≡ record { var = a.var; positive = not a.positive } →
    nb ≡ record { var = b.var; positive = not b.positive } →
    d1 ≡ cs ++ (record { var = made; positive = false } ∷ a ∷ []) ∷ [] →
    d2 ≡ d1 ++ (record { var = made; positive = false } ∷ b ∷ []) ∷ [] →
    d3 ≡ d2 ++ (record { var = made; positive = true } ∷ na ∷ nb ∷ []) ∷ [] →
    clauses_value v d3 ≡ (clauses_value v cs && not (xor (v made) (lit_value v a && lit_value v b)))
and_clauses v cs d1 d2 d3 made a b na nb fa fb e1 e2 e3 =
    rw (
      e3,
      clauses_value-push v d2 (record { var = made; positive = true } ∷ na ∷ nb ∷ []),
      e2,
      clauses_value-push v d1 (record { var = made; positive = false } ∷ b ∷ []),
      e1,
      clauses_value-push v cs (record { var = made; positive = false } ∷ a ∷ []),
      fa,
      lit_value-negated v a,
      fb,
      lit_value-negated v b,
    )
    (and_gate (clauses_value v cs) (v made) (lit_value v a) (lit_value v b))

pub and_count : (cs d1 d2 d3 : List (List Lit)) (c d e : List Lit) → d1 ≡ cs ++ c ∷ [] → d2 ≡ d1 ++ d ∷ [] → d3 ≡ d2 ++ e ∷ [] → length d3 ≤ length cs + 4
and_count cs d1 d2 d3 c d e e1 e2 e3 =
    omega (arith, clauses_count-push cs d1 c e1, clauses_count-push d1 d2 d e2, clauses_count-push d2 d3 e e3)

pub and_bound : (cs d1 d2 d3 : List (List Lit)) (made : ℕ) (a b na nb : Lit) →
    na ≡ record { var = a.var; positive = not a.positive } →
    nb ≡ record { var = b.var; positive = not b.positive } →
    d1 ≡ cs ++ (record { var = made; positive = false } ∷ a ∷ []) ∷ [] →
    d2 ≡ d1 ++ (record { var = made; positive = false } ∷ b ∷ []) ∷ [] →
    d3 ≡ d2 ++ (record { var = made; positive = true } ∷ na ∷ nb ∷ []) ∷ [] →
    clauses_bound d3 ≤ max (clauses_bound cs) (max (made + 1) (max (lit_bound a) (lit_bound b)))
and_bound cs d1 d2 d3 made a b na nb fa fb e1 e2 e3 =
    bound-push d2 d3 (record { var = made; positive = true } ∷ na ∷ nb ∷ []) (clauses_bound cs) (max (made + 1) (max (lit_bound a) (lit_bound b))) e3
    (rw (fa, fb) (three_bound (record { var = made; positive = true }) a b))
    (bound-push d1 d2 (record { var = made; positive = false } ∷ b ∷ []) (clauses_bound cs) (max (made + 1) (max (lit_bound a) (lit_bound b))) e2
    (second_bound (record { var = made; positive = false }) a b)
    (bound-push cs d1 (record { var = made; positive = false } ∷ a ∷ []) (clauses_bound cs) (max (made + 1) (max (lit_bound a) (lit_bound b))) e1
    (first_bound (record { var = made; positive = false }) a b)
    (bound-first (clauses_bound cs) (max (made + 1) (max (lit_bound a) (lit_bound b))))))

-- what is added in two steps, of two clauses each

pub count_twice : (old mid new : ℕ) → mid ≤ old + 2 → new ≤ mid + 2 → new ≤ old + 4
count_twice old mid new h k = omega arith

bound_twice : (old mid new j k n : ℕ) → j ≤ n → k ≤ n → mid ≤ max old j → new ≤ max mid k → new ≤ max old n
bound_twice old mid new j k n a b h g = omega arith

xor_gate : (r o a b : Bool) →
    ((r && (not o || xor a b)) && (o || xor (not a) b))
    ≡ (r && not (xor o (xor a b)))
xor_gate false _ _ _ = refl
xor_gate true true true true = refl
xor_gate true true true false = refl
xor_gate true true false true = refl
xor_gate true true false false = refl
xor_gate true false true true = refl
xor_gate true false true false = refl
xor_gate true false false true = refl
xor_gate true false false false = refl

pub xor_clauses : (v : ℕ → Bool) (r s t : Bool) (made : ℕ) (on off a na b : Lit) →
    on ≡ record { var = made; positive = true } →
    off ≡ record { var = on.var; positive = not on.positive } →
    na ≡ record { var = a.var; positive = not a.positive } →
    s ≡ (r && (lit_value v off || xor (lit_value v a) (lit_value v b))) →
    t ≡ (s && (lit_value v on || xor (lit_value v na) (lit_value v b))) →
    t ≡ (r && not (xor (v made) (xor (lit_value v a) (lit_value v b))))
xor_clauses v r s t made on off a na b fon foff fa e1 e2 =
    rw (e2, e1, foff, fon, fa, lit_value-negated v a)
    (xor_gate r (v made) (lit_value v a) (lit_value v b))

pub xor_bound : (old mid new made : ℕ) (on off a na b : Lit) →
    on ≡ record { var = made; positive = true } →
    off ≡ record { var = on.var; positive = not on.positive } →
    na ≡ record { var = a.var; positive = not a.positive } →
    mid ≤ max old (max (lit_bound off) (max (lit_bound a) (lit_bound b))) →
    new ≤ max mid (max (lit_bound on) (max (lit_bound na) (lit_bound b))) →
    new ≤ max old (max (made + 1) (max (lit_bound a) (lit_bound b)))
xor_bound old mid new made on off a na b fon foff fa h k =
    both old mid new (max (made + 1) (max (lit_bound a) (lit_bound b))) (rw (foff, fon) at h) (rw (fon, fa) at k)
  where
    both : (old mid new n : ℕ) → mid ≤ max old n → new ≤ max mid n → new ≤ max old n
    both old mid new n h k = omega arith

choose_gate : (r o t a b : Bool) →
    ((r && (not t || xor (not a) o)) && (t || xor (not b) o))
    ≡ (r && not (xor o (cond t a b)))
choose_gate false _ _ _ _ = refl
choose_gate true true true true true = refl
choose_gate true true true true false = refl
choose_gate true true true false true = refl
choose_gate true true true false false = refl
choose_gate true true false true true = refl
choose_gate true true false true false = refl
choose_gate true true false false true = refl
choose_gate true true false false false = refl
choose_gate true false true true true = refl
choose_gate true false true true false = refl
choose_gate true false true false true = refl
choose_gate true false true false false = refl
choose_gate true false false true true = refl
choose_gate true false false true false = refl
choose_gate true false false false true = refl
choose_gate true false false false false = refl

pub choose_clauses : (v : ℕ → Bool) (r s u : Bool) (made : ℕ) (on t a b nt na nb : Lit) →
    on ≡ record { var = made; positive = true } →
    nt ≡ record { var = t.var; positive = not t.positive } →
    na ≡ record { var = a.var; positive = not a.positive } →
    nb ≡ record { var = b.var; positive = not b.positive } →
    s ≡ (r && (lit_value v nt || xor (lit_value v na) (lit_value v on))) →
    u ≡ (s && (lit_value v t || xor (lit_value v nb) (lit_value v on))) →
    u ≡ (r && not (xor (v made) (cond (lit_value v t) (lit_value v a) (lit_value v b))))
choose_clauses v r s u made on t a b nt na nb fon ft fa fb e1 e2 =
    rw (e2, e1, fon, ft, lit_value-negated v t, fa, lit_value-negated v a, fb, lit_value-negated v b)
    (choose_gate r (v made) (lit_value v t) (lit_value v a) (lit_value v b))

pub choose_bound : (old mid new made : ℕ) (on t a b nt na nb : Lit) →
    on ≡ record { var = made; positive = true } →
    nt ≡ record { var = t.var; positive = not t.positive } →
    na ≡ record { var = a.var; positive = not a.positive } →
    nb ≡ record { var = b.var; positive = not b.positive } →
    mid ≤ max old (max (lit_bound nt) (max (lit_bound na) (lit_bound on))) →
    new ≤ max mid (max (lit_bound t) (max (lit_bound nb) (lit_bound on))) →
    new ≤ max old (max (made + 1) (max (lit_bound t) (max (lit_bound a) (lit_bound b))))
choose_bound old mid new made on t a b nt na nb fon ft fa fb h k =
    bound_twice old mid new
    (max (lit_bound t) (max (lit_bound a) (made + 1)))
    (max (lit_bound t) (max (lit_bound b) (made + 1)))
    (max (made + 1) (max (lit_bound t) (max (lit_bound a) (lit_bound b))))
    (left (made + 1) (lit_bound t) (lit_bound a) (lit_bound b))
    (right (made + 1) (lit_bound t) (lit_bound a) (lit_bound b))
    (rw (ft, fa, fon) at h)
    (rw (fb, fon) at k)
  where
    left : (m t a b : ℕ) → max t (max a m) ≤ max m (max t (max a b))
    left m t a b = omega arith

    right : (m t a b : ℕ) → max t (max b m) ≤ max m (max t (max a b))
    right m t a b = omega arith
