-- The full row of a form's coefficients, filled coefficient by coefficient.
use Rattle.std.specs.Prelude.{◌≡◌, ◌≢◌, ℕ, zero, suc, ◌<◌, ◌+◌, ◌==◌, true, false, cond, List, [], ◌∷◌, length, get_or, set, ℤ, pos}
use Rattle.std.proofs.Common.{sym, ◌∙◌, ap, subst, arith, inl, inr, ◌⊎◌}
use Rattle.std.proofs.Math.Dec.{eqb}
use Rattle.std.proofs.Math.ListN.{length-set}
use Rattle.std.proofs.lemmas.Bool.Decides.{eqb_tells}
use Rattle.std.proofs.lemmas.List.{get_or-set_same, get_or-set_other}
use Rattle.sy_frac.specs.Fraction.{Fraction, IsInRange}
use Rattle.sy_linear_known.specs.declared.form.Form.{Form}
use Rattle.sy_simplex.specs.Operations.{fraction_of_whole}
use Rattle.sy_simplex.specs.Rows.{at}
use Rattle.sy_simplex.specs.Problems.{coefficient, variable_at, IsForm}
use Rattle.sy_simplex.specs.Beginnings.{AreZeros, IsFullRow}

abbrev pub number_at : List (ℕ × ℤ) → ℕ → ℤ
number_at cs k = (get_or cs k (0, pos 0)).1

ascending : (vars : ℕ) (f : Form) → IsForm vars f → (k l : ℕ) → k < l → l < length f.coefs → variable_at f.coefs k < variable_at f.coefs l
ascending vars f h k zero p q = absurd (omega arith)
ascending vars f h k (suc l) p q = by (eqb_tells k l) (ascending vars f h k l)
  where
    next : variable_at f.coefs l < variable_at f.coefs (suc l)
    next = subst (λ n. variable_at f.coefs l < variable_at f.coefs n) (let e : l + 1 ≡ suc l = omega arith in e) (h.ascending l (omega (arith, q)))

    by : ((eqb k l ≡ true) × (k ≡ l)) ⊎ ((eqb k l ≡ false) × (k ≢ l)) → (k < l → l < length f.coefs → variable_at f.coefs k < variable_at f.coefs l) → variable_at f.coefs k < variable_at f.coefs (suc l)
    by (inl s) ih = subst (λ n. variable_at f.coefs n < variable_at f.coefs (suc l)) (sym s.1) next
    by (inr s) ih = omega (arith, ih (omega (arith, s.1, p)) (omega (arith, q)), next)

-- the first n coefficients stand in their places, and 0 elsewhere
pub record IsFilled (vars : ℕ) (cs : List (ℕ × ℤ)) (n : ℕ) (xs : List Fraction) : Type 0 where
  pub len : length xs ≡ vars
  pub found : (j k : ℕ) → j < vars → k < n → variable_at cs k ≡ j → at xs j ≡ fraction_of_whole (number_at cs k)
  pub absent : (j : ℕ) → j < vars → ((k : ℕ) → k < n → variable_at cs k ≢ j) → at xs j ≡ fraction_of_whole (pos 0)
  pub fits : (k : ℕ) → k < n → IsInRange (number_at cs k)

pub filled_none : (vars : ℕ) (cs : List (ℕ × ℤ)) (xs : List Fraction) → AreZeros vars xs → IsFilled vars cs 0 xs
filled_none vars cs xs h = record { len = h.len; found = λ j k l m e. absurd (omega (arith, m)); absent = λ j l k. h.each j l; fits = λ k l. absurd (omega (arith, l)) }

pub filled_more : (vars : ℕ) (f : Form) (n : ℕ) (xs ys : List Fraction) → IsForm vars f → n < length f.coefs → IsFilled vars f.coefs n xs → IsInRange (number_at f.coefs n) → ys ≡ set xs (variable_at f.coefs n) (fraction_of_whole (number_at f.coefs n)) → IsFilled vars f.coefs (n + 1) ys
filled_more vars f n xs ys form h filled fits e = record {
  len = ap length e ∙ length-set xs (variable_at f.coefs n) (fraction_of_whole (number_at f.coefs n)) ∙ filled.len;
  found = λ j k l m s. found j k l m s (eqb_tells k n);
  absent = λ j l none. other j (λ s. none n (omega arith) (sym s)) ∙ filled.absent j l (λ k m. none k (omega (arith, m)));
  fits = λ k l. fit k l (eqb_tells k n);
}
  where
    here : at ys (variable_at f.coefs n) ≡ fraction_of_whole (number_at f.coefs n)
    here = ap (λ zs. at zs (variable_at f.coefs n)) e ∙ get_or-set_same xs (variable_at f.coefs n) (fraction_of_whole (number_at f.coefs n)) (fraction_of_whole (pos 0)) (omega (arith, filled.len, form.below n h))

    other : (j : ℕ) → j ≢ variable_at f.coefs n → at ys j ≡ at xs j
    other j d = ap (λ zs. at zs j) e ∙ get_or-set_other xs (variable_at f.coefs n) j (fraction_of_whole (number_at f.coefs n)) (fraction_of_whole (pos 0)) d

    found : (j k : ℕ) → j < vars → k < n + 1 → variable_at f.coefs k ≡ j → ((eqb k n ≡ true) × (k ≡ n)) ⊎ ((eqb k n ≡ false) × (k ≢ n)) → at ys j ≡ fraction_of_whole (number_at f.coefs k)
    found j k l m s (inl t) = ap (at ys) (sym s ∙ ap (variable_at f.coefs) t.1) ∙ here ∙ ap (λ i. fraction_of_whole (number_at f.coefs i)) (sym t.1)
    found j k l m s (inr t) =
        let low : k < n = omega (arith, m, t.1) in
        let before : variable_at f.coefs k < variable_at f.coefs n = ascending vars f form k n low h in
        other j (λ (q : j ≡ variable_at f.coefs n). let q' : j ≡ variable_at f.coefs n = q in omega (arith, before, s, q')) ∙ filled.found j k l low s

    fit : (k : ℕ) → k < n + 1 → ((eqb k n ≡ true) × (k ≡ n)) ⊎ ((eqb k n ≡ false) × (k ≢ n)) → IsInRange (number_at f.coefs k)
    fit k l (inl t) = subst (λ i. IsInRange (number_at f.coefs i)) (sym t.1) fits
    fit k l (inr t) = filled.fits k (omega (arith, l, t.1))

coefficient_is : (cs : List (ℕ × ℤ)) (j : ℕ) (x : Fraction) → ((k : ℕ) → k < length cs → variable_at cs k ≡ j → x ≡ fraction_of_whole (number_at cs k)) → (((k : ℕ) → k < length cs → variable_at cs k ≢ j) → x ≡ fraction_of_whole (pos 0)) → x ≡ fraction_of_whole (coefficient cs j)
coefficient_is [] j x found absent = absent (λ k l e. omega (arith, l))
coefficient_is (c ∷ cs) j x found absent = by (eqb_tells c.0 j) (coefficient_is cs j x)
  where
    by : ((eqb c.0 j ≡ true) × (c.0 ≡ j)) ⊎ ((eqb c.0 j ≡ false) × (c.0 ≢ j)) → (((k : ℕ) → k < length cs → variable_at cs k ≡ j → x ≡ fraction_of_whole (number_at cs k)) → (((k : ℕ) → k < length cs → variable_at cs k ≢ j) → x ≡ fraction_of_whole (pos 0)) → x ≡ fraction_of_whole (coefficient cs j)) → x ≡ fraction_of_whole (cond (c.0 == j) (c.1) (coefficient cs j))
    by (inl s) ih = found 0 (omega arith) s.1 ∙ ap (λ b. fraction_of_whole (cond b (c.1) (coefficient cs j))) (sym s.0)
    by (inr s) ih =
        ih (λ k l e. found (suc k) (omega (arith, l)) e) (λ none. absent (λ k l. each k l none))
        ∙ ap (λ b. fraction_of_whole (cond b (c.1) (coefficient cs j))) (sym s.0)
      where
        each : (k : ℕ) → k < length (c ∷ cs) → ((i : ℕ) → i < length cs → variable_at cs i ≢ j) → variable_at (c ∷ cs) k ≢ j
        each zero l none e = s.1 e
        each (suc k) l none e = none k (omega (arith, l)) e

pub filled_all : (vars : ℕ) (cs : List (ℕ × ℤ)) (xs : List Fraction) → IsFilled vars cs (length cs) xs → IsFullRow vars cs xs
filled_all vars cs xs h = record { len = h.len; each = λ j l. coefficient_is cs j (at xs j) (λ k m e. h.found j k l m e) (λ none. h.absent j l none) }

-- one coefficient more, of an equal list
pub filled_item : (vars : ℕ) (f : Form) (n : ℕ) (xs : List Fraction) (items : List (ℕ × ℤ)) (x : Fraction) → IsForm vars f → items ≡ f.coefs → n < length items → IsFilled vars f.coefs n xs → IsInRange (number_at items n) × (x ≡ fraction_of_whole (number_at items n)) → IsFilled vars f.coefs (n + 1) (set xs (variable_at items n) x)
filled_item vars f n xs items x form e h filled p =
    subst (λ cs. n < length cs → IsInRange (number_at cs n) × (x ≡ fraction_of_whole (number_at cs n)) → IsFilled vars f.coefs (n + 1) (set xs (variable_at cs n) x)) (sym e)
    (λ l q. filled_more vars f n xs (set xs (variable_at f.coefs n) x) form l filled q.0 (ap (set xs (variable_at f.coefs n)) q.1)) h p

pub filled_end : (vars : ℕ) (cs : List (ℕ × ℤ)) (n : ℕ) (xs : List Fraction) → n ≡ length cs → IsFilled vars cs n xs → IsFullRow vars cs xs
filled_end vars cs n xs e h = filled_all vars cs xs (subst (λ m. IsFilled vars cs m xs) e h)
