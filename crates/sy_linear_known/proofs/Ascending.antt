-- Forms on integer variables in ascending order, and what arithmetic makes of them.
use Rattle.std.specs.Prelude.{◌≡◌, ℕ, suc, ◌≤◌, Bool, true, false, cond, List, [], ◌∷◌, nat_lt, ℤ, pos, negsuc, ◌+ℤ◌, ◌-ℤ◌, ◌*ℤ◌}
use Rattle.std.specs.Ordering.{int_eq}
use Rattle.std.proofs.Common.{refl, arith, ltb-true, ltb-false}
use Rattle.sy_terms.specs.declared.sort.Sort.{Sort}
use Rattle.sy_terms.specs.declared.sort.Sort.TheVariants as sorts
use Rattle.sy_linear_known.specs.declared.form.Form.{Form}
use Rattle.sy_linear_known.specs.Forms.{Coefficient, before, added, scaled, subtracted, variable_form, form_plus, times, form_minus, form_negation}
use Rattle.sy_linear_known.specs.Trees.{IsOf}

-- coefficients of integer variables, in ascending order from a least one
abbrev pub AscendFrom : List Sort → ℕ → List Coefficient → Type 0
AscendFrom vars least [] = Unit {0}
AscendFrom vars least (c ∷ cs) = (least ≤ c.0) × IsOf sorts.Int vars c.0 × AscendFrom vars (suc c.0) cs

-- a form on integer variables in ascending order
abbrev pub Ascends : List Sort → Form → Type 0
Ascends vars f = AscendFrom vars 0 f.coefs

-- ---- arithmetic
ascend-weaken : (vars : List Sort) (m n : ℕ) (cs : List Coefficient) → m ≤ n → AscendFrom vars n cs → AscendFrom vars m cs
ascend-weaken vars m n [] l h = tt
ascend-weaken vars m n (c ∷ cs) l h = (omega (arith, l, h.0), h.1, h.2)

ascend-before : (vars : List Sort) (least i : ℕ) (k : ℤ) (cs : List Coefficient) → least ≤ i → IsOf sorts.Int vars i → AscendFrom vars (suc i) cs → AscendFrom vars least (before i k cs)
ascend-before vars least i k cs l o h = by (int_eq k (pos 0))
  where
    by : (b : Bool) → AscendFrom vars least (cond b cs ((i, k) ∷ cs))
    by true = ascend-weaken vars least (suc i) cs (omega (arith, l)) h
    by false = (l, o, h)

ascend-added : (vars : List Sort) (least : ℕ) (cs ds : List Coefficient) → AscendFrom vars least cs → AscendFrom vars least ds → AscendFrom vars least (added cs ds)
unfolding added
ascend-added vars least [] ds h k = k
ascend-added vars least (c ∷ cs) [] h k = h
ascend-added vars least (c ∷ cs) (d ∷ ds) h k = by (ascend-added vars (suc c.0) cs (d ∷ ds)) (ascend-added vars (suc d.0) (c ∷ cs) ds) (ascend-added vars (suc c.0) cs ds) (nat_lt c.0 d.0) (nat_lt d.0 c.0) refl refl
  where
    by : (AscendFrom vars (suc c.0) cs → AscendFrom vars (suc c.0) (d ∷ ds) → AscendFrom vars (suc c.0) (added cs (d ∷ ds))) → (AscendFrom vars (suc d.0) (c ∷ cs) → AscendFrom vars (suc d.0) ds → AscendFrom vars (suc d.0) (added (c ∷ cs) ds)) → (AscendFrom vars (suc c.0) cs → AscendFrom vars (suc c.0) ds → AscendFrom vars (suc c.0) (added cs ds)) → (a b : Bool) → nat_lt c.0 d.0 ≡ a → nat_lt d.0 c.0 ≡ b → AscendFrom vars least (cond a (c ∷ added cs (d ∷ ds)) (cond b (d ∷ added (c ∷ cs) ds) (before c.0 (c.1 +ℤ d.1) (added cs ds))))
    by one two three true b e f = (h.0, h.1, one h.2 (omega (arith, ltb-true _ _ e), k.1, k.2))
    by one two three false true e f = (k.0, k.1, two (omega (arith, ltb-true _ _ f), h.1, h.2) k.2)
    by one two three false false e f = ascend-before vars least c.0 (c.1 +ℤ d.1) (added cs ds) h.0 h.1 (three h.2 (ascend-weaken vars (suc c.0) (suc d.0) ds (omega (arith, ltb-false _ _ e, ltb-false _ _ f)) k.2))

ascend-scaled : (vars : List Sort) (least : ℕ) (k : ℤ) (cs : List Coefficient) → AscendFrom vars least cs → AscendFrom vars least (scaled k cs)
unfolding scaled
ascend-scaled vars least k [] h = tt
ascend-scaled vars least k (c ∷ cs) h = ascend-before vars least c.0 (k *ℤ c.1) (scaled k cs) h.0 h.1 (ascend-scaled vars (suc c.0) k cs h.2)

ascend-subtracted : (vars : List Sort) (least : ℕ) (cs ds : List Coefficient) → AscendFrom vars least cs → AscendFrom vars least ds → AscendFrom vars least (subtracted cs ds)
unfolding subtracted
ascend-subtracted vars least [] ds h k = ascend-scaled vars least (negsuc 0) ds k
ascend-subtracted vars least (c ∷ cs) [] h k = h
ascend-subtracted vars least (c ∷ cs) (d ∷ ds) h k = by (ascend-subtracted vars (suc c.0) cs (d ∷ ds)) (ascend-subtracted vars (suc d.0) (c ∷ cs) ds) (ascend-subtracted vars (suc c.0) cs ds) (nat_lt c.0 d.0) (nat_lt d.0 c.0) refl refl
  where
    by : (AscendFrom vars (suc c.0) cs → AscendFrom vars (suc c.0) (d ∷ ds) → AscendFrom vars (suc c.0) (subtracted cs (d ∷ ds))) → (AscendFrom vars (suc d.0) (c ∷ cs) → AscendFrom vars (suc d.0) ds → AscendFrom vars (suc d.0) (subtracted (c ∷ cs) ds)) → (AscendFrom vars (suc c.0) cs → AscendFrom vars (suc c.0) ds → AscendFrom vars (suc c.0) (subtracted cs ds)) → (a b : Bool) → nat_lt c.0 d.0 ≡ a → nat_lt d.0 c.0 ≡ b → AscendFrom vars least (cond a (c ∷ subtracted cs (d ∷ ds)) (cond b (before d.0 (negsuc 0 *ℤ d.1) (subtracted (c ∷ cs) ds)) (before c.0 (c.1 -ℤ d.1) (subtracted cs ds))))
    by one two three true b e f = (h.0, h.1, one h.2 (omega (arith, ltb-true _ _ e), k.1, k.2))
    by one two three false true e f = ascend-before vars least d.0 (negsuc 0 *ℤ d.1) (subtracted (c ∷ cs) ds) k.0 k.1 (two (omega (arith, ltb-true _ _ f), h.1, h.2) k.2)
    by one two three false false e f = ascend-before vars least c.0 (c.1 -ℤ d.1) (subtracted cs ds) h.0 h.1 (three h.2 (ascend-weaken vars (suc c.0) (suc d.0) ds (omega (arith, ltb-false _ _ e, ltb-false _ _ f)) k.2))

pub ascends-variable : (vars : List Sort) (i : ℕ) → IsOf sorts.Int vars i → Ascends vars (variable_form i)
ascends-variable vars i o = (omega arith, o, tt)

pub ascends-plus : (vars : List Sort) (f g : Form) → Ascends vars f → Ascends vars g → Ascends vars (form_plus f g)
ascends-plus vars f g h k = ascend-added vars 0 f.coefs g.coefs h k

pub ascends-times : (vars : List Sort) (n : ℤ) (f : Form) → Ascends vars f → Ascends vars (times n f)
ascends-times vars n f h = ascend-scaled vars 0 n f.coefs h

pub ascends-minus : (vars : List Sort) (f g : Form) → Ascends vars f → Ascends vars g → Ascends vars (form_minus f g)
ascends-minus vars f g h k = ascend-subtracted vars 0 f.coefs g.coefs h k

pub ascends-negation : (vars : List Sort) (f : Form) → Ascends vars f → Ascends vars (form_negation f)
ascends-negation vars f h = ascend-scaled vars 0 (negsuc 0) f.coefs h
