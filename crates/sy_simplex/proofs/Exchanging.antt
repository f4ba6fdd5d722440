-- The parts of an exchange make a step.
use Rattle.std.specs.Prelude.{◌≡◌, ◌≢◌, ℕ, ◌<◌, ◌≤◌, ◌-◌, List, [], length, get_or, set, pos}
use Rattle.std.specs.Prelude.{◌+◌, Result, Ok, Err}
use Rattle.std.proofs.Common.{sym, ◌∙◌, ap, subst, arith}
use Rattle.std.specs.Result.{IsErrAnd}
use Rattle.std.proofs.Math.ListN.{length-set}
use Rattle.std.proofs.lemmas.List.{get_or-set_same, get_or-set_other, get_or_read}
use Rattle.sy_frac.specs.Fraction.{Fraction}
use Rattle.sy_simplex.specs.Operations.{HasResult, sum, fraction_of_whole, IsShift, IsPlusProduct}
use Rattle.sy_simplex.specs.Rows.{at, AreLowest, IsSolvedRow, IsPutRow, ArePut, AreRaised}
use Rattle.sy_simplex.specs.States.{TableauState, variable_of_column, basic, row, coef, row_value, bound, rest, IsShaped, IsPivot}

-- what is read of a tableau for a step
pub record AreRead (t : TableauState) (r e leaves enters : ℕ) (b v f : Fraction) : Type 0 where
  pub leaves_is : leaves ≡ basic t r
  pub enters_is : enters ≡ variable_of_column t e
  pub bound_is : b ≡ bound t (basic t r)
  pub value_is : v ≡ row_value t r
  pub coef_is : f ≡ coef t r e

pub are_read : (t : TableauState) (r e leaves enters : ℕ) (b v f : Fraction) (cs ds : List Fraction) → IsShaped t → r < length t.basics → e < length t.columns → t.vars ≤ basic t r → leaves ≡ get_or t.basics r leaves → enters ≡ get_or t.columns e enters → b ≡ get_or t.bounds (leaves - t.vars) b → v ≡ get_or t.values r v → cs ≡ get_or t.rows r cs → ds ≡ cs → f ≡ get_or ds e f → AreRead t r e leaves enters b v f
are_read t r e leaves enters b v f cs ds shape row_below column_below bounded l n bs vs rs ss fs = record {
  leaves_is = leaves_is;
  enters_is = get_or_read t.columns e enters column_below n 0;
  bound_is = get_or_read t.bounds (leaves - t.vars) b (omega (arith, leaves_is, bounded, shape.basics_below r row_below)) bs (fraction_of_whole (pos 0)) ∙ ap (bound t) leaves_is;
  value_is = get_or_read t.values r v (omega (arith, shape.values_length, row_below)) vs (fraction_of_whole (pos 0));
  coef_is = get_or_read ds e f (omega (arith, ap length row_is, shape.widths r row_below, column_below)) fs (fraction_of_whole (pos 0)) ∙ ap (λ xs. at xs e) row_is;
}
  where
    leaves_is : leaves ≡ basic t r
    leaves_is = get_or_read t.basics r leaves row_below l 0

    row_is : ds ≡ row t r
    row_is = ss ∙ get_or_read t.rows r cs (omega (arith, shape.rows_length, row_below)) rs []

pub shift_read : (P : Fraction → Fraction → Fraction → Type 0) (t : TableauState) (r e leaves enters : ℕ) (b v f : Fraction) → AreRead t r e leaves enters b v f → P b v f → P (bound t (basic t r)) (row_value t r) (coef t r e)
shift_read P t r e leaves enters b v f h p = subst (λ x. P x (row_value t r) (coef t r e)) h.bound_is (subst (λ x. P b x (coef t r e)) h.value_is (subst (λ x. P b v x) h.coef_is p))

pub row_read : (t : TableauState) (r : ℕ) (cs : List Fraction) → IsShaped t → r < length t.basics → cs ≡ get_or t.rows r cs → cs ≡ row t r
row_read t r cs shape row_below e = get_or_read t.rows r cs (omega (arith, shape.rows_length, row_below)) e []

-- what is read is there
pub in_values : (t : TableauState) (r : ℕ) → IsShaped t → r < length t.basics → r < length t.values
in_values t r shape row_below = subst (λ n. r < n) (sym shape.values_length) row_below

pub in_rows : (t : TableauState) (r : ℕ) → IsShaped t → r < length t.basics → r < length t.rows
in_rows t r shape row_below = subst (λ n. r < n) (sym shape.rows_length) row_below

in_basics : (t : TableauState) (i : ℕ) → IsShaped t → i < length t.rows → i < length t.basics
in_basics t i shape below = subst (λ n. i < n) shape.rows_length below

pub leaves_bounded : (t : TableauState) (r leaves : ℕ) → r < length t.basics → t.vars ≤ basic t r → leaves ≡ get_or t.basics r leaves → t.vars ≤ leaves
leaves_bounded t r leaves row_below bounded l = subst (λ v. t.vars ≤ v) (sym (get_or_read t.basics r leaves row_below l 0)) bounded

pub bound_there : (t : TableauState) (r leaves : ℕ) → IsShaped t → r < length t.basics → t.vars ≤ basic t r → leaves ≡ get_or t.basics r leaves → leaves - t.vars < length t.bounds
bound_there t r leaves shape row_below bounded l = subst (λ v. v - t.vars < length t.bounds) (sym (get_or_read t.basics r leaves row_below l 0)) (place (basic t r) t.vars (length t.bounds) bounded (shape.basics_below r row_below))
  where
    place : (v m n : ℕ) → m ≤ v → v < m + n → v - m < n
    place v m n h k = omega (arith, h, k)

pub bound_read : (t : TableauState) (r leaves : ℕ) (b : Fraction) → IsShaped t → r < length t.basics → t.vars ≤ basic t r → leaves ≡ get_or t.basics r leaves → b ≡ get_or t.bounds (leaves - t.vars) b → b ≡ bound t (basic t r)
bound_read t r leaves b shape row_below bounded l e = get_or_read t.bounds (leaves - t.vars) b (bound_there t r leaves shape row_below bounded l) e (fraction_of_whole (pos 0)) ∙ ap (bound t) (get_or_read t.basics r leaves row_below l 0)

pub value_read : (t : TableauState) (r : ℕ) (v : Fraction) → IsShaped t → r < length t.basics → v ≡ get_or t.values r v → v ≡ row_value t r
value_read t r v shape row_below e = get_or_read t.values r v (in_values t r shape row_below) e (fraction_of_whole (pos 0))

pub column_there : (t : TableauState) (r e : ℕ) (cs ds : List Fraction) → IsShaped t → r < length t.basics → e < length t.columns → cs ≡ get_or t.rows r cs → ds ≡ cs → e < length ds
column_there t r e cs ds shape row_below column_below rs ss = subst (λ n. e < n) (sym (ap length (ss ∙ row_read t r cs shape row_below rs) ∙ shape.widths r row_below)) column_below

pub columns_there : (t : TableauState) (e : ℕ) → IsShaped t → e < length t.columns → (i : ℕ) → i < length t.rows → e < length (row t i)
columns_there t e shape column_below i below = subst (λ n. e < n) (sym (shape.widths i (in_basics t i shape below))) column_below

solved_width : (t : TableauState) (r e : ℕ) (cs solved : List Fraction) → IsShaped t → r < length t.basics → cs ≡ get_or t.rows r cs → IsSolvedRow cs e solved → length solved ≡ length t.columns
solved_width t r e cs solved shape row_below rs s = s.len ∙ ap length (row_read t r cs shape row_below rs) ∙ shape.widths r row_below

pub solved_widths : (t : TableauState) (r e : ℕ) (cs solved : List Fraction) → IsShaped t → r < length t.basics → cs ≡ get_or t.rows r cs → IsSolvedRow cs e solved → (i : ℕ) → i < length t.rows → length (row t i) ≡ length solved
solved_widths t r e cs solved shape row_below rs s i below = shape.widths i (in_basics t i shape below) ∙ sym (solved_width t r e cs solved shape row_below rs s)

pub solved_there : (t : TableauState) (r e : ℕ) (cs solved : List Fraction) → IsShaped t → r < length t.basics → e < length t.columns → cs ≡ get_or t.rows r cs → IsSolvedRow cs e solved → e < length solved
solved_there t r e cs solved shape row_below column_below rs s = subst (λ n. e < n) (sym (solved_width t r e cs solved shape row_below rs s)) column_below

pub rows_lowest : (t : TableauState) → IsShaped t → (i : ℕ) → i < length t.rows → AreLowest (row t i)
rows_lowest t shape i below = shape.rows_lowest i (in_basics t i shape below)

pub same_fault : {T E : Type 0} (r : Result T E) (e f : E) → IsErrAnd r (λ end. end ≡ e) → r ≡ Err f → e ≡ f
same_fault (Ok x) e f told h = absurd told
same_fault (Err y) e f told h = cc

pub within : (i n m : ℕ) → n ≡ m → i < m → i < n
within i n m e h = subst (λ k. i < k) (sym e) h

pub step_is : (t u : TableauState) (r e leaves enters : ℕ) (solved : List Fraction) (rows : List (List Fraction)) (values : List Fraction) (shift entered : Fraction) → IsShaped t → r < length t.basics → leaves ≡ basic t r → enters ≡ variable_of_column t e → u.vars ≡ t.vars → u.bounds ≡ t.bounds → u.columns ≡ set t.columns e leaves → u.basics ≡ set t.basics r enters → u.rows ≡ set rows r solved → u.values ≡ set values r entered → IsSolvedRow (row t r) e solved → ArePut t.rows solved r e rows → IsShift (bound t (basic t r)) (row_value t r) (coef t r e) shift → HasResult sum (rest t (variable_of_column t e)) shift entered → AreRaised t.values t.rows r e shift values → IsPivot t u r e
step_is t u r e leaves enters solved rows values shift entered shape row_below leaves_is enters_is vars_is bounds_are columns_are basics_are rows_are values_are solved_is put shift_is entered_is raised = record {
  vars_is = vars_is;
  bounds_are = bounds_are;
  columns_are = columns_are ∙ ap (set t.columns e) leaves_is;
  basics_are = basics_are ∙ ap (set t.basics r) enters_is;
  solved = subst (IsSolvedRow (row t r) e) (sym new_row) solved_is;
  put = record {
    len = ap length rows_are ∙ length-set rows r solved ∙ put.len;
    each = λ i l k. subst (λ s. IsPutRow (row t i) s e (row u i)) (sym new_row) (subst (IsPutRow (row t i) solved e) (sym (other_row i k)) (put.each i l k));
  };
  shift = shift;
  shift_is = shift_is;
  entered = subst (HasResult sum (rest t (variable_of_column t e)) shift) (sym new_value) entered_is;
  raised = record {
    len = ap length values_are ∙ length-set values r entered ∙ raised.len;
    each = λ i l k. subst (IsPlusProduct (row_value t i) (coef t i e) shift) (sym (other_value i k)) (raised.each i l k);
  };
}
  where
    new_row : row u r ≡ solved
    new_row = ap (λ xs. get_or xs r []) rows_are ∙ get_or-set_same rows r solved [] (omega (arith, put.len, shape.rows_length, row_below))

    other_row : (i : ℕ) → i ≢ r → row u i ≡ get_or rows i []
    other_row i k = ap (λ xs. get_or xs i []) rows_are ∙ get_or-set_other rows r i solved [] k

    new_value : row_value u r ≡ entered
    new_value = ap (λ xs. at xs r) values_are ∙ get_or-set_same values r entered (fraction_of_whole (pos 0)) (omega (arith, raised.len, shape.values_length, row_below))

    other_value : (i : ℕ) → i ≢ r → row_value u i ≡ at values i
    other_value i k = ap (λ xs. at xs i) values_are ∙ get_or-set_other values r i entered (fraction_of_whole (pos 0)) k
