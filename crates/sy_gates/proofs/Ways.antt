use Rattle.std.proofs.Common.{◌≡◌, ℕ, max, subst, Bool, true, false, ◌+◌, ◌-◌, ◌<◌, ◌≤◌, ◌&&◌, not, cond, List, [], ◌∷◌, ◌++◌, length, take, get_or, arith, refl, ap, sym, ◌∙◌, length-append, suc, zero, below_more, add-one, length-take}
use Rattle.std.proofs.Math.Seq.{take-suc}
use Rattle.std.proofs.lemmas.List.{take-append-le}
use Rattle.std.proofs.lemmas.Grind.{common_steps}
use Rattle.sy_clauses.specs.declared.Lit.{Lit}
use Rattle.sy_gates.specs.declared.gate.Gate.{Gate}
use Rattle.sy_gates.specs.declared.gate.Gate.TheVariants.{Constant, And, Xor, Choose}
use Rattle.sy_gates.specs.Circuits.{Plan, variables, clauses_bound, FollowsPlan, Obeys, InOrder, lit_bound, lit_value, gate_bound, gate_value, xor}
use Rattle.sy_clauses.specs.Clauses.{IsModel}
use Rattle.sy_gates.specs.Models.{values_of, but_last, clauses_value, ExtendsInOneWay}
use Rattle.sy_gates.proofs.Holding.{model, holds}
use Rattle.sy_gates.proofs.Encoding.{clauses_bound-push}

-- Two truth values of each variable agree below a number.
abbrev pub Agree : (ℕ → Bool) → (ℕ → Bool) → ℕ → Type 0
Agree v w n = (k : ℕ) → k < n → v k ≡ w k

lit_agree : (v w : ℕ → Bool) (n : ℕ) (l : Lit) → Agree v w n → lit_bound l ≤ n → lit_value v l ≡ lit_value w l
lit_agree v w n l a h = ap (λ b. cond l.positive b (not b)) (a l.var (omega arith))

gate_agree : (v w : ℕ → Bool) (n : ℕ) (g : Gate) → Agree v w n → gate_bound g ≤ n → gate_value v g ≡ gate_value w g
gate_agree v w n (Constant b) a h = refl
gate_agree v w n (And x y) a h =
    let p : lit_value v x ≡ lit_value w x = lit_agree v w n x a (omega arith) in
    let q : lit_value v y ≡ lit_value w y = lit_agree v w n y a (omega arith) in
    rw (p, q) refl
gate_agree v w n (Xor x y) a h =
    let p : lit_value v x ≡ lit_value w x = lit_agree v w n x a (omega arith) in
    let q : lit_value v y ≡ lit_value w y = lit_agree v w n y a (omega arith) in
    rw (p, q) refl
gate_agree v w n (Choose t x y) a h =
    let o : lit_value v t ≡ lit_value w t = lit_agree v w n t a (omega arith) in
    let p : lit_value v x ≡ lit_value w x = lit_agree v w n x a (omega arith) in
    let q : lit_value v y ≡ lit_value w y = lit_agree v w n y a (omega arith) in
    rw (o, p, q) refl

agree-suc : (v w : ℕ → Bool) (n : ℕ) → Agree v w n → v n ≡ w n → Agree v w (n + 1)
agree-suc v w n a e = below_more _ _ a e

pub follow_one : (v w : ℕ → Bool) (n : ℕ) (gs : List Gate) → InOrder n gs → Obeys v n gs → Obeys w n gs →
    Agree v w n → Agree v w (n + length gs)
follow_one v w n [] i o p a = λ k h. a k (omega arith)
follow_one v w n (g ∷ gs) i o p a =
    let e : v n ≡ w n = o.0 ∙ gate_agree v w n g a i.0 ∙ sym p.0 in
    let r : Agree v w (n + 1 + length gs) = follow_one v w (n + 1) gs i.1 o.1 p.1 (agree-suc v w n a e) in
    λ k h. r k (omega arith)

-- The truth values of the inputs, followed by that of each gate.
abbrev pub run : List Gate → List Bool → List Bool
run [] m = m
run (g ∷ gs) m = run gs (m ++ gate_value (values_of m) g ∷ [])

pub run-length : (gs : List Gate) (m : List Bool) → length (run gs m) ≡ length m + length gs
run-length [] m = omega arith
run-length (g ∷ gs) m =
    let b : Bool = gate_value (values_of m) g in
    omega (arith, run-length gs (m ++ gate_value (values_of m) g ∷ []), length-append m (gate_value (values_of m) g ∷ []))

get-front : (m : List Bool) (b : Bool) (k : ℕ) → k < length m → get_or (m ++ b ∷ []) k false ≡ get_or m k false
get-front [] b k h = absurd (omega arith)
get-front (x ∷ m) b zero h = refl
get-front (x ∷ m) b (suc k) h = get-front m b k (omega arith)

get-last : (m : List Bool) (b : Bool) → get_or (m ++ b ∷ []) (length m) false ≡ b
get-last [] b = refl
get-last (x ∷ m) b = get-last m b

run-keeps : (gs : List Gate) (m : List Bool) → Agree (values_of m) (values_of (run gs m)) (length m)
run-keeps [] m = λ k h. refl
run-keeps (g ∷ gs) m = λ k h.
    sym (get-front m (gate_value (values_of m) g) k h)
    ∙ run-keeps gs (m ++ gate_value (values_of m) g ∷ []) k (omega (arith, length-append m (gate_value (values_of m) g ∷ [])))

pub run-obeys : (gs : List Gate) (m : List Bool) (n : ℕ) → length m ≡ n → InOrder n gs → Obeys (values_of (run gs m)) n gs
run-obeys [] m n l i = tt
run-obeys (g ∷ gs) m n l i =
    let x : length (m ++ gate_value (values_of m) g ∷ []) ≡ n + 1 = omega (arith, length-append m (gate_value (values_of m) g ∷ [])) in
    let last : values_of (run (g ∷ gs) m) (length m) ≡ gate_value (values_of m) g =
    sym (run-keeps gs (m ++ gate_value (values_of m) g ∷ []) (length m) (omega (arith, x)))
    ∙ get-last m (gate_value (values_of m) g) in
    let same : gate_value (values_of m) g ≡ gate_value (values_of (run (g ∷ gs) m)) g =
    gate_agree (values_of m) (values_of (run (g ∷ gs) m)) (length m) g (run-keeps (g ∷ gs) m) (omega arith) in (
      ap (values_of (run (g ∷ gs) m)) (sym l) ∙ last ∙ same,
      run-obeys gs (m ++ gate_value (values_of m) g ∷ []) (n + 1) x i.1,
    )

take-all-front : (m : List Bool) (b : Bool) (n : ℕ) → n ≤ length m → take n (m ++ b ∷ []) ≡ take n m
take-all-front m b n h = rw take-append-le refl

pub run-take : (gs : List Gate) (m : List Bool) (n : ℕ) → n ≤ length m → take n (run gs m) ≡ take n m
run-take [] m n h = refl
run-take (g ∷ gs) m n h =
    run-take gs (m ++ gate_value (values_of m) g ∷ []) n (omega (arith, length-append m (gate_value (values_of m) g ∷ [])))
    ∙ take-all-front m (gate_value (values_of m) g) n h

-- lists of truth values that agree at each place are equal
pub same_values : (m n : List Bool) → length m ≡ length n → Agree (values_of m) (values_of n) (length m) → m ≡ n
same_values [] [] l a = refl
same_values [] (y ∷ n) l a = absurd (omega arith)
same_values (x ∷ m) [] l a = absurd (omega arith)
same_values (x ∷ m) (y ∷ n) l a =
    let e : x ≡ y = a zero (omega arith) in
    let r : m ≡ n = same_values m n (omega arith) (λ k h. a (suc k) (omega arith)) in
    cc

pub agree_take : (m n : List Bool) (i : ℕ) → i ≤ length m → i ≤ length n → take i m ≡ take i n → Agree (values_of m) (values_of n) i
agree_take m n i hm hn e = λ k h.
    sym (get-take m i k h) ∙ ap (λ xs. get_or xs k false) e ∙ get-take n i k h
  where
    get-take : (xs : List Bool) (i k : ℕ) → k < i → get_or (take i xs) k false ≡ get_or xs k false
    get-take [] i k h = grind (arith, common_steps)
    get-take (x ∷ xs) zero k h = absurd (omega arith)
    get-take (x ∷ xs) (suc i) zero h = refl
    get-take (x ∷ xs) (suc i) (suc k) h = get-take xs i k (omega arith)

-- the test of Obeys
abbrev pub obeys_test : (ℕ → Bool) → ℕ → List Gate → Bool
obeys_test v n [] = true
obeys_test v n (g ∷ gs) = not (xor (v n) (gate_value v g)) && obeys_test v (n + 1) gs

same_true : (a b : Bool) → not (xor a b) ≡ true → a ≡ b
same_true true true e = refl
same_true true false e = cc
same_true false true e = cc
same_true false false e = refl

true_same : (a b : Bool) → a ≡ b → not (xor a b) ≡ true
true_same true true e = refl
true_same true false e = cc
true_same false true e = cc
true_same false false e = refl

both : (a b : Bool) → a && b ≡ true → (a ≡ true) × (b ≡ true)
both true b e = (refl, e)
both false b e = cc

pub test-obeys : (v : ℕ → Bool) (n : ℕ) (gs : List Gate) → obeys_test v n gs ≡ true → Obeys v n gs
test-obeys v n [] e = tt
test-obeys v n (g ∷ gs) e =
    let p : (not (xor (v n) (gate_value v g)) ≡ true) × (obeys_test v (n + 1) gs ≡ true) =
    both (not (xor (v n) (gate_value v g))) (obeys_test v (n + 1) gs) e in
    (same_true (v n) (gate_value v g) p.0, test-obeys v (n + 1) gs p.1)

pub obeys-test : (v : ℕ → Bool) (n : ℕ) (gs : List Gate) → Obeys v n gs → obeys_test v n gs ≡ true
obeys-test v n [] o = refl
obeys-test v n (g ∷ gs) o =
    let p : not (xor (v n) (gate_value v g)) ≡ true = true_same (v n) (gate_value v g) o.0 in
    let q : obeys_test v (n + 1) gs ≡ true = obeys-test v (n + 1) gs o.1 in
    rw (p, q) refl

and_assoc : (a b c : Bool) → a && (b && c) ≡ (a && b) && c
and_assoc true b c = refl
and_assoc false b c = refl

and_true : (b : Bool) → b && true ≡ b
and_true true = refl
and_true false = refl

pub obeys_test-push : (v : ℕ → Bool) (n : ℕ) (gs : List Gate) (g : Gate) →
    obeys_test v n (gs ++ g ∷ []) ≡ (obeys_test v n gs && not (xor (v (n + length gs)) (gate_value v g)))
obeys_test-push v n [] g =
    let e : n + length {A = Gate} [] ≡ n = omega arith in
    rw (e, and_true (not (xor (v n) (gate_value v g)))) refl
obeys_test-push v n (h ∷ gs) g =
    let e : n + length (h ∷ gs) ≡ n + 1 + length gs = omega arith in
    rw (
      e,
      obeys_test-push v (n + 1) gs g,
      and_assoc (not (xor (v n) (gate_value v h))) (obeys_test v (n + 1) gs) (not (xor (v (n + 1 + length gs)) (gate_value v g))),
    ) refl

-- one more gate, and its clauses
pub encode_step : (v : ℕ → Bool) (n : ℕ) (gs : List Gate) (i : ℕ) (d : Gate) (x y : Bool) → i < length gs →
    y ≡ (x && not (xor (v (n + i)) (gate_value v (get_or gs i d)))) → x ≡ obeys_test v n (take i gs) →
    y ≡ obeys_test v n (take (i + 1) gs)
encode_step v n gs i d x y h e f =
    let l : length (take i gs) ≡ i = grind (arith, length-take i gs) in
    rw (add-one, take-suc gs i d h, obeys_test-push v n (take i gs) (get_or gs i d), l, ← f) e

take-all : (bits : List Bool) (n : ℕ) → length bits ≡ n → take n bits ≡ bits
take-all bits n h = grind (arith, common_steps)

-- what the clauses of a circuit say
pub ways : (n vars : ℕ) (gs : List Gate) (cs : List (List Lit)) → InOrder n gs → vars ≡ n + length gs →
    ((v : ℕ → Bool) → clauses_value v cs ≡ obeys_test v n gs) → ExtendsInOneWay n vars cs
ways n vars gs cs i e c = record {
  some = λ bits l. (
    run gs bits,
    (
      run-length gs bits ∙ ap (λ k. k + length gs) l ∙ sym e,
      run-take gs bits n (omega (arith, l)) ∙ take-all bits n l,
      model (values_of (run gs bits)) cs (c (values_of (run gs bits)) ∙ obeys-test (values_of (run gs bits)) n gs (run-obeys gs bits n l i)),
    ),
  );
  one = λ x y lx ly t tx ty.
      let ox : Obeys (values_of x) n gs = test-obeys (values_of x) n gs (sym (c (values_of x)) ∙ holds (values_of x) cs tx) in
      let oy : Obeys (values_of y) n gs = test-obeys (values_of y) n gs (sym (c (values_of y)) ∙ holds (values_of y) cs ty) in
      let a : Agree (values_of x) (values_of y) n = agree_take x y n (omega arith) (omega arith) t in
      let all : Agree (values_of x) (values_of y) (n + length gs) = follow_one (values_of x) (values_of y) n gs i ox oy a in
      same_values x y (omega arith) (λ k h. all k (omega arith));
}

but_last-push : (cs : List (List Lit)) (d : List Lit) → but_last (cs ++ d ∷ []) ≡ cs
but_last-push cs d =
    let e : length (cs ++ d ∷ []) - 1 ≡ length cs = omega (arith, length-append cs (d ∷ [])) in
    rw e (grind (arith, common_steps))

-- the last clause stands after the others
pub last-push : (cs ds : List (List Lit)) (d : List Lit) → ds ≡ cs ++ d ∷ [] → ds ≡ but_last ds ++ d ∷ []
last-push cs ds d e = rw (e, but_last-push cs d) refl

take-whole : (gs : List Gate) (i : ℕ) → length gs ≤ i → take i gs ≡ gs
take-whole gs i h = grind (arith, common_steps)

-- the clauses but for the output's, where the loop ends
pub final : (n i : ℕ) (cs ds : List (List Lit)) (d : List Lit) (gs hs : List Gate) →
    ds ≡ cs ++ d ∷ [] → hs ≡ gs → length hs ≤ i →
    ((v : ℕ → Bool) → clauses_value v cs ≡ obeys_test v n (take i hs)) →
    (v : ℕ → Bool) → clauses_value v (but_last ds) ≡ obeys_test v n gs
final n i cs ds d gs hs e f h c v =
    rw (e, but_last-push cs d, ← f) (c v ∙ ap (obeys_test v n) (take-whole hs i h))

pub follows-iff : (v : ℕ → Bool) (n : ℕ) (gs : List Gate) (cs : List (List Lit)) → clauses_value v cs ≡ obeys_test v n gs →
    (IsModel v cs → FollowsPlan v (record { inputs = n; gates = gs })) × (FollowsPlan v (record { inputs = n; gates = gs }) → IsModel v cs)
follows-iff v n gs cs e = (
  λ m. record { obeys = test-obeys v n gs (sym e ∙ holds v cs m) },
  λ f. model v cs (e ∙ obeys-test v n gs f.obeys),
)

-- what a gate reads lies below its own variable
pub in_order-at : (n : ℕ) (gs : List Gate) (i : ℕ) (d : Gate) → InOrder n gs → i < length gs → gate_bound (get_or gs i d) ≤ n + i
in_order-at n [] i d o h = absurd (omega arith)
in_order-at n (g ∷ gs) zero d o h = omega (arith, o.0)
in_order-at n (g ∷ gs) (suc i) d o h = omega (arith, in_order-at (n + 1) gs i d o.1 (omega arith))

pub bound_step : (n i : ℕ) (gs : List Gate) (d : Gate) (old new : ℕ) → InOrder n gs → i < length gs →
    new ≤ max old (max (n + i + 1) (gate_bound (get_or gs i d))) → old ≤ n + i → new ≤ n + (i + 1)
bound_step n i gs d old new o h e f = omega (arith, in_order-at n gs i d o h, e, f)

pub bound_end : (n m i : ℕ) (gs : List Gate) (p : Plan) (cs ds : List (List Lit)) (l : Lit) → ds ≡ cs ++ (l ∷ []) ∷ [] →
    record { inputs = n; gates = gs } ≡ p → lit_bound l ≤ variables p → clauses_bound cs ≤ n + i → i ≤ length gs → m ≡ length gs →
    clauses_bound ds ≤ n + m
bound_end n m i gs p cs ds l e view h b k f =
    let P : Plan → Type 0 = λ q. lit_bound l ≤ variables q in
    let inside : lit_bound l ≤ n + length gs = subst P (sym view) h in
    rw (e, clauses_bound-push cs (l ∷ [])) (omega (arith, inside, b, k, f))
