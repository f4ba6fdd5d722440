-- A step keeps the shape of a tableau.
use Rattle.std.specs.Prelude.{◌≡◌, ◌≢◌, ℕ, ◌<◌, true, false, List, length, get_or, set}
use Rattle.std.proofs.Common.{sym, ◌∙◌, ap, subst, arith, inl, inr, ◌⊎◌}
use Rattle.std.proofs.Math.Dec.{eqb}
use Rattle.std.proofs.Math.ListN.{length-set}
use Rattle.std.proofs.lemmas.Bool.Decides.{eqb_tells}
use Rattle.std.proofs.lemmas.List.{get_or-set_same, get_or-set_other}
use Rattle.sy_frac.specs.Fraction.{Fraction, IsLowest}
use Rattle.sy_simplex.specs.Rows.{at, AreLowest, IsSolvedRow, IsPutRow}
use Rattle.sy_simplex.specs.States.{TableauState, variable_of_column, basic, row, row_value, IsVariable, IsShaped, IsPivot}

pub solved_lowest : (coefs solved : List Fraction) (e : ℕ) → IsSolvedRow coefs e solved → AreLowest solved
solved_lowest coefs solved e h j l = by (eqb_tells j e)
  where
    by : ((eqb j e ≡ true) × (j ≡ e)) ⊎ ((eqb j e ≡ false) × (j ≢ e)) → IsLowest (at solved j)
    by (inl k) = ((h.each j (omega (arith, h.len, l))).here k.1).exact.lowest
    by (inr k) = ((h.each j (omega (arith, h.len, l))).elsewhere k.1).exact.lowest

pub put_lowest : (coefs solved : List Fraction) (e : ℕ) (new : List Fraction) → IsPutRow coefs solved e new → AreLowest new
put_lowest coefs solved e new h j l = (h.each j (omega (arith, h.len, l))).sum_is.exact.lowest

-- a fact of each place of a list in which one place changes
changed : (P : ℕ → Type 0) (xs ys : List ℕ) (r x : ℕ) → r < length xs → ys ≡ set xs r x → ((i : ℕ) → i < length xs → P (get_or xs i 0)) → P x → (i : ℕ) → i < length ys → P (get_or ys i 0)
changed P xs ys r x h e all new i l = by (eqb_tells i r)
  where
    low : i < length xs
    low = omega (arith, ap length e ∙ length-set xs r x, l)

    by : ((eqb i r ≡ true) × (i ≡ r)) ⊎ ((eqb i r ≡ false) × (i ≢ r)) → P (get_or ys i 0)
    by (inl k) = subst (λ m. P (get_or ys m 0)) (sym k.1) (subst P (sym (ap (λ zs. get_or zs r 0) e ∙ get_or-set_same xs r x 0 h)) new)
    by (inr k) = subst P (sym (ap (λ zs. get_or zs i 0) e ∙ get_or-set_other xs r i x 0 k.1)) (all i low)

pub step_shaped : (t u : TableauState) (r e : ℕ) → IsShaped t → r < length t.basics → e < length t.columns → IsPivot t u r e → IsShaped u
step_shaped t u r e shape row_below column_below step = record {
  rows_length = rows_length;
  values_length = step.raised.len ∙ shape.values_length ∙ sym basics_length;
  widths = λ i l. width i (omega (arith, basics_length, l)) (eqb_tells i r);
  basics_below = λ i l. variable (basic u i) (changed (IsVariable t) t.basics u.basics r (variable_of_column t e) row_below step.basics_are shape.basics_below (shape.columns_below e column_below) i l);
  columns_below = λ j l. variable (variable_of_column u j) (changed (IsVariable t) t.columns u.columns e (basic t r) column_below step.columns_are shape.columns_below (shape.basics_below r row_below) j l);
  rows_lowest = λ i l. lowest i (omega (arith, basics_length, l)) (eqb_tells i r);
  values_lowest = λ i l. value_lowest i (omega (arith, step.raised.len, shape.values_length, l)) (eqb_tells i r);
  bounds_lowest = subst AreLowest (sym step.bounds_are) shape.bounds_lowest;
}
  where
    basics_length : length u.basics ≡ length t.basics
    basics_length = ap length step.basics_are ∙ length-set t.basics r (variable_of_column t e)

    columns_length : length u.columns ≡ length t.columns
    columns_length = ap length step.columns_are ∙ length-set t.columns e (basic t r)

    rows_length : length u.rows ≡ length u.basics
    rows_length = step.put.len ∙ shape.rows_length ∙ sym basics_length

    variable : (v : ℕ) → IsVariable t v → IsVariable u v
    variable v h = omega (arith, step.vars_is, ap length step.bounds_are, h)

    in_rows : (i : ℕ) → i < length t.basics → i < length t.rows
    in_rows i l = omega (arith, shape.rows_length, l)

    width : (i : ℕ) → i < length t.basics → ((eqb i r ≡ true) × (i ≡ r)) ⊎ ((eqb i r ≡ false) × (i ≢ r)) → length (row u i) ≡ length u.columns
    width i l (inl k) = ap (λ m. length (row u m)) k.1 ∙ step.solved.len ∙ shape.widths r row_below ∙ sym columns_length
    width i l (inr k) = (step.put.each i (in_rows i l) k.1).len ∙ shape.widths i l ∙ sym columns_length

    lowest : (i : ℕ) → i < length t.basics → ((eqb i r ≡ true) × (i ≡ r)) ⊎ ((eqb i r ≡ false) × (i ≢ r)) → AreLowest (row u i)
    lowest i l (inl k) = subst (λ m. AreLowest (row u m)) (sym k.1) (solved_lowest (row t r) (row u r) e step.solved)
    lowest i l (inr k) = put_lowest (row t i) (row u r) e (row u i) (step.put.each i (in_rows i l) k.1)

    value_lowest : (i : ℕ) → i < length t.basics → ((eqb i r ≡ true) × (i ≡ r)) ⊎ ((eqb i r ≡ false) × (i ≢ r)) → IsLowest (row_value u i)
    value_lowest i l (inl k) = subst (λ m. IsLowest (row_value u m)) (sym k.1) step.entered.exact.lowest
    value_lowest i l (inr k) = (step.raised.each i (in_rows i l) k.1).sum_is.exact.lowest
