-- A step is determined: two tableaus that the same exchange reaches are one.
use Rattle.std.specs.Prelude.{◌≡◌, ◌≢◌, ℕ, zero, suc, ◌<◌, ◌≤◌, ◌+◌, ◌-◌, ◌==◌, nat_lt, Bool, true, false, cond, List, [], length, ℤ, pos, negsuc, neg_ℤ, ◌*ℤ◌}
use Rattle.std.proofs.Common.{refl, sym, ◌∙◌, ap, subst, arith, inl, inr, ◌⊎◌, ltb-false}
use Rattle.std.proofs.lemmas.List.{ext_get_or}
use Rattle.std.proofs.Math.Dec.{eqb}
use Rattle.std.proofs.lemmas.Bool.Decides.{eqb_tells}
use Rattle.sy_frac.specs.Fraction.{Fraction}
use Rattle.sy_frac.proofs.Canonical.{same_quotient}
use Rattle.sy_frac.proofs.Quotients.{product_nonzero}
use Rattle.sy_simplex.specs.Operations.{sum, difference, product, quotient, HasResult, OperationFits, fraction_opposite, fraction_of_whole, IsPlusProduct, PlusProductUnfit, product_unfit, sum_unfit, IsShift, ShiftUnfit, gap_unfit, quotient_unfit}
use Rattle.sy_simplex.specs.Rows.{at, AreLowest, IsSolvedAt, IsSolvedRow, SolvedAtUnfit, here_unfit, elsewhere_unfit, beside, IsPutRow, PutUnfit}
use Rattle.sy_simplex.proofs.Shapes.{solved_lowest}
use Rattle.sy_simplex.specs.States.{TableauState, variable_of_column, basic, row, coef, row_value, bound, rest, IsShaped, IsPivot, StepUnfit, shift_unfit, entered_unfit, raised_unfit, solved_unfit, put_unfit}

positive_nonzero : (n : ℕ) → 0 < n → pos n ≢ pos 0
positive_nonzero zero p e = omega arith
positive_nonzero (suc n) p e = cc

dens_nonzero : (f g : Fraction) → 0 < f.den → 0 < g.den → pos f.den *ℤ pos g.den ≢ pos 0
dens_nonzero f g p q = product_nonzero (pos f.den) (pos g.den) (positive_nonzero f.den p) (positive_nonzero g.den q)

-- tableaus of the same parts
abbrev of_parts : ℕ → List ℕ → List ℕ → List (List Fraction) → List Fraction → List Fraction → TableauState
of_parts vars columns basics rows values bounds = record { vars = vars; columns = columns; basics = basics; rows = rows; values = values; bounds = bounds }

pub same_state : (t u : TableauState) → t.vars ≡ u.vars → t.columns ≡ u.columns → t.basics ≡ u.basics → t.rows ≡ u.rows → t.values ≡ u.values → t.bounds ≡ u.bounds → t ≡ u
same_state t u a b c d e f =
    ap (λ x. of_parts x t.columns t.basics t.rows t.values t.bounds) a
    ∙ ap (λ x. of_parts u.vars x t.basics t.rows t.values t.bounds) b
    ∙ ap (λ x. of_parts u.vars u.columns x t.rows t.values t.bounds) c
    ∙ ap (λ x. of_parts u.vars u.columns u.basics x t.values t.bounds) d
    ∙ ap (λ x. of_parts u.vars u.columns u.basics u.rows x t.bounds) e
    ∙ ap (λ x. of_parts u.vars u.columns u.basics u.rows u.values x) f

-- ---- operations
sum_same : (f g r s : Fraction) → 0 < f.den → 0 < g.den → HasResult sum f g r → HasResult sum f g s → r ≡ s
sum_same f g r s p q h k = same_quotient r s _ (pos f.den *ℤ pos g.den) (dens_nonzero f g p q) h.exact k.exact

difference_same : (f g r s : Fraction) → 0 < f.den → 0 < g.den → HasResult difference f g r → HasResult difference f g s → r ≡ s
difference_same f g r s p q h k = same_quotient r s _ (pos f.den *ℤ pos g.den) (dens_nonzero f g p q) h.exact k.exact

product_same : (f g r s : Fraction) → 0 < f.den → 0 < g.den → HasResult product f g r → HasResult product f g s → r ≡ s
product_same f g r s p q h k = same_quotient r s _ (pos f.den *ℤ pos g.den) (dens_nonzero f g p q) h.exact k.exact

quotient_same : (f g r s : Fraction) → 0 < f.den → g.num ≢ pos 0 → HasResult quotient f g r → HasResult quotient f g s → r ≡ s
quotient_same f g r s p q h k = same_quotient r s _ (pos f.den *ℤ g.num) (product_nonzero (pos f.den) g.num (positive_nonzero f.den p) q) h.exact k.exact

plus_product_same : (own factor other r s : Fraction) → 0 < own.den → 0 < factor.den → 0 < other.den → IsPlusProduct own factor other r → IsPlusProduct own factor other s → r ≡ s
plus_product_same own factor other r s p q l h k =
    let parts : h.part ≡ k.part = product_same factor other h.part k.part q l h.part_is k.part_is in
    sum_same own k.part r s p k.part_is.exact.lowest.positive (subst (λ x. HasResult sum own x r) parts h.sum_is) k.sum_is

plus_product_fits : (own factor other r : Fraction) → 0 < factor.den → 0 < other.den → IsPlusProduct own factor other r → ¬ (PlusProductUnfit own factor other)
plus_product_fits own factor other r q l h (product_unfit n) = n h.part_is.fits
plus_product_fits own factor other r q l h (sum_unfit part g n) = n (subst (OperationFits sum own) (product_same factor other h.part part q l h.part_is g) h.sum_is.fits)

shift_same : (b v c r s : Fraction) → 0 < b.den → 0 < v.den → c.num ≢ pos 0 → IsShift b v c r → IsShift b v c s → r ≡ s
shift_same b v c r s p q l h k =
    let gaps : h.gap ≡ k.gap = difference_same b v h.gap k.gap p q h.gap_is k.gap_is in
    quotient_same k.gap c r s k.gap_is.exact.lowest.positive l (subst (λ x. HasResult quotient x c r) gaps h.quotient_is) k.quotient_is

shift_fits : (b v c r : Fraction) → 0 < b.den → 0 < v.den → IsShift b v c r → ¬ (ShiftUnfit b v c)
shift_fits b v c r p q h (gap_unfit n) = n h.gap_is.fits
shift_fits b v c r p q h (quotient_unfit gap g n) = n (subst (λ x. OperationFits quotient x c) (difference_same b v h.gap gap p q h.gap_is g) h.quotient_is.fits)

-- ---- rows
solved_at_same : (coefs : List Fraction) (e j : ℕ) (r s : Fraction) → 0 < (at coefs e).den → (at coefs e).num ≢ pos 0 → 0 < (at coefs j).den → IsSolvedAt coefs e j r → IsSolvedAt coefs e j s → r ≡ s
solved_at_same coefs e j r s p q l h k = by (eqb_tells j e)
  where
    one_positive : 0 < 1
    one_positive = omega arith

    turned : (n : ℤ) → n ≢ pos 0 → neg_ℤ n ≢ pos 0
    turned (pos zero) q z = q refl
    turned (pos (suc n)) q z = cc
    turned (negsuc n) q z = cc

    by : ((eqb j e ≡ true) × (j ≡ e)) ⊎ ((eqb j e ≡ false) × (j ≢ e)) → r ≡ s
    by (inl m) = quotient_same (fraction_of_whole (pos 1)) (at coefs e) r s one_positive q (h.here m.1) (k.here m.1)
    by (inr m) = quotient_same (at coefs j) (fraction_opposite (at coefs e)) r s l (turned (at coefs e).num q) (h.elsewhere m.1) (k.elsewhere m.1)

solved_at_fits : (coefs : List Fraction) (e j : ℕ) (r : Fraction) → IsSolvedAt coefs e j r → ¬ (SolvedAtUnfit coefs e j)
solved_at_fits coefs e j r h (here_unfit m n) = n (h.here m).fits
solved_at_fits coefs e j r h (elsewhere_unfit m n) = n (h.elsewhere m).fits

solved_row_same : (coefs xs ys : List Fraction) (e : ℕ) → e < length coefs → AreLowest coefs → (at coefs e).num ≢ pos 0 → IsSolvedRow coefs e xs → IsSolvedRow coefs e ys → xs ≡ ys
solved_row_same coefs xs ys e l lows q h k = ext_get_or (fraction_of_whole (pos 0)) xs ys (h.len ∙ sym k.len) (λ j m. let i : j < length coefs = omega (arith, h.len, m) in solved_at_same coefs e j (at xs j) (at ys j) (lows e l).positive q (lows j i).positive (h.each j i) (k.each j i))

beside_positive : (coefs : List Fraction) (e j : ℕ) → j < length coefs → AreLowest coefs → 0 < (beside coefs e j).den
beside_positive coefs e j l lows = by (j == e)
  where
    by : (b : Bool) → 0 < (cond b (fraction_of_whole (pos 0)) (at coefs j)).den
    by true = omega arith
    by false = (lows j l).positive

put_row_same : (coefs solved xs ys : List Fraction) (e : ℕ) → length solved ≡ length coefs → e < length coefs → AreLowest coefs → AreLowest solved → IsPutRow coefs solved e xs → IsPutRow coefs solved e ys → xs ≡ ys
put_row_same coefs solved xs ys e n l lows solved_lows h k = ext_get_or (fraction_of_whole (pos 0)) xs ys (h.len ∙ sym k.len) (λ j m.
    let i : j < length coefs = omega (arith, h.len, m) in
    plus_product_same (beside coefs e j) (at coefs e) (at solved j) (at xs j) (at ys j) (beside_positive coefs e j i lows) (lows e l).positive (solved_lows j (omega (arith, n, i))).positive (h.each j i) (k.each j i))

put_row_fits : (coefs solved xs : List Fraction) (e : ℕ) → length solved ≡ length coefs → e < length coefs → AreLowest coefs → AreLowest solved → IsPutRow coefs solved e xs → ¬ (PutUnfit coefs solved e)
put_row_fits coefs solved xs e n l lows solved_lows h u = plus_product_fits (beside coefs e u.column) (at coefs e) (at solved u.column) (at xs u.column) (lows e l).positive (solved_lows u.column (omega (arith, n, u.below))).positive (h.each u.column u.below) u.unfit

-- ---- steps
module _ (t u : TableauState) (r e : ℕ) (shape : IsShaped t) (row_below : r < length t.basics) (column_below : e < length t.columns) (bounded : t.vars ≤ basic t r) (nonzero : (coef t r e).num ≢ pos 0) (step : IsPivot t u r e) where
  width : (i : ℕ) → i < length t.basics → e < length (row t i)
  width i l = omega (arith, shape.widths i l, column_below)

  in_rows : (i : ℕ) → i < length t.rows → i < length t.basics
  in_rows i l = omega (arith, shape.rows_length, l)

  value_positive : (i : ℕ) → i < length t.basics → 0 < (row_value t i).den
  value_positive i l = (shape.values_lowest i (omega (arith, shape.values_length, l))).positive

  bound_positive : (v : ℕ) → t.vars ≤ v → v < t.vars + length t.bounds → 0 < (bound t v).den
  bound_positive v h l = (shape.bounds_lowest (v - t.vars) (omega (arith, h, l))).positive

  rest_positive : 0 < (rest t (variable_of_column t e)).den
  rest_positive = by (nat_lt (variable_of_column t e) t.vars) refl
    where
      by : (b : Bool) → nat_lt (variable_of_column t e) t.vars ≡ b → 0 < (cond b (fraction_of_whole (pos 0)) (bound t (variable_of_column t e))).den
      by true h = omega arith
      by false h = bound_positive (variable_of_column t e) (ltb-false (variable_of_column t e) t.vars h) (shape.columns_below e column_below)

  own_bound_positive : 0 < (bound t (basic t r)).den
  own_bound_positive = bound_positive (basic t r) bounded (shape.basics_below r row_below)

  solved_lows : AreLowest (row u r)
  solved_lows = solved_lowest (row t r) (row u r) e step.solved

  -- a row and the solved row are as wide
  same_width : (i : ℕ) → i < length t.basics → length (row u r) ≡ length (row t i)
  same_width i l = step.solved.len ∙ shape.widths r row_below ∙ sym (shape.widths i l)

  pub step_fits : ¬ (StepUnfit t r e)
  step_fits (shift_unfit n) = shift_fits (bound t (basic t r)) (row_value t r) (coef t r e) step.shift own_bound_positive (value_positive r row_below) step.shift_is n
  step_fits (entered_unfit shift h n) = n (subst (OperationFits sum (rest t (variable_of_column t e))) (shift_same (bound t (basic t r)) (row_value t r) (coef t r e) step.shift shift own_bound_positive (value_positive r row_below) nonzero step.shift_is h) step.entered.fits)
  step_fits (raised_unfit shift h n) =
      let same : shift ≡ step.shift = shift_same (bound t (basic t r)) (row_value t r) (coef t r e) shift step.shift own_bound_positive (value_positive r row_below) nonzero h step.shift_is in
      let i : n.row < length t.basics = in_rows n.row n.below in
      plus_product_fits (row_value t n.row) (coef t n.row e) step.shift (row_value u n.row) (shape.rows_lowest n.row i e (width n.row i)).positive step.shift_is.quotient_is.exact.lowest.positive (step.raised.each n.row n.below n.other)
      (subst (PlusProductUnfit (row_value t n.row) (coef t n.row e)) same n.unfit)
  step_fits (solved_unfit n) = solved_at_fits (row t r) e n.column (at (row u r) n.column) (step.solved.each n.column n.below) n.unfit
  step_fits (put_unfit solved h n) =
      let same : solved ≡ row u r = solved_row_same (row t r) solved (row u r) e (width r row_below) (shape.rows_lowest r row_below) nonzero h step.solved in
      let i : n.row < length t.basics = in_rows n.row n.below in
      put_row_fits (row t n.row) (row u r) (row u n.row) e (same_width n.row i) (width n.row i) (shape.rows_lowest n.row i) solved_lows (step.put.each n.row n.below n.other)
      (subst (λ s. PutUnfit (row t n.row) s e) same n.unfit)

  module _ (w : TableauState) (other : IsPivot t w r e) where
    shifts : step.shift ≡ other.shift
    shifts = shift_same (bound t (basic t r)) (row_value t r) (coef t r e) step.shift other.shift own_bound_positive (value_positive r row_below) nonzero step.shift_is other.shift_is

    solved_rows : row u r ≡ row w r
    solved_rows = solved_row_same (row t r) (row u r) (row w r) e (width r row_below) (shape.rows_lowest r row_below) nonzero step.solved other.solved

    row_at : (i : ℕ) → i < length t.basics → ((eqb i r ≡ true) × (i ≡ r)) ⊎ ((eqb i r ≡ false) × (i ≢ r)) → row u i ≡ row w i
    row_at i l (inl k) = subst (λ m. row u m ≡ row w m) (sym k.1) solved_rows
    row_at i l (inr k) =
        let j : i < length t.rows = omega (arith, shape.rows_length, l) in
        put_row_same (row t i) (row u r) (row u i) (row w i) e (same_width i l) (width i l) (shape.rows_lowest i l) solved_lows (step.put.each i j k.1) (subst (λ s. IsPutRow (row t i) s e (row w i)) (sym solved_rows) (other.put.each i j k.1))

    value_at : (i : ℕ) → i < length t.basics → ((eqb i r ≡ true) × (i ≡ r)) ⊎ ((eqb i r ≡ false) × (i ≢ r)) → row_value u i ≡ row_value w i
    value_at i l (inl k) = subst (λ m. row_value u m ≡ row_value w m) (sym k.1) (sum_same (rest t (variable_of_column t e)) other.shift (row_value u r) (row_value w r) rest_positive other.shift_is.quotient_is.exact.lowest.positive (subst (λ s. HasResult sum (rest t (variable_of_column t e)) s (row_value u r)) shifts step.entered) other.entered)
    value_at i l (inr k) =
        let j : i < length t.rows = omega (arith, shape.rows_length, l) in
        plus_product_same (row_value t i) (coef t i e) other.shift (row_value u i) (row_value w i) (value_positive i l) (shape.rows_lowest i l e (width i l)).positive other.shift_is.quotient_is.exact.lowest.positive (subst (λ s. IsPlusProduct (row_value t i) (coef t i e) s (row_value u i)) shifts (step.raised.each i j k.1)) (other.raised.each i j k.1)

    rows_same : u.rows ≡ w.rows
    rows_same = ext_get_or [] u.rows w.rows (step.put.len ∙ sym other.put.len) (λ i l. row_at i (omega (arith, step.put.len, shape.rows_length, l)) (eqb_tells i r))

    values_same : u.values ≡ w.values
    values_same = ext_get_or (fraction_of_whole (pos 0)) u.values w.values (step.raised.len ∙ sym other.raised.len) (λ i l. value_at i (omega (arith, step.raised.len, shape.values_length, l)) (eqb_tells i r))

    pub step_same : u ≡ w
    step_same = same_state u w (step.vars_is ∙ sym other.vars_is) (step.columns_are ∙ sym other.columns_are) (step.basics_are ∙ sym other.basics_are) rows_same values_same (step.bounds_are ∙ sym other.bounds_are)
