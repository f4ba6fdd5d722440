use Rattle.std.proofs.Common.{◌≡◌, ◌≢◌, ℕ, ◌<◌, List, length, get_or, refl, sym, ap, ◌∙◌, subst}
use Rattle.std.specs.Prelude.{[], pos, Err}
use Rattle.std.proofs.lemmas.Result.{err_from_is_err_and}
use Rattle.sy_frac.specs.Fraction.{Fraction}
use Rattle.sy_simplex.specs.Operations.{HasResult, OperationFits, sum, IsShift, ShiftUnfit}
use Rattle.sy_simplex.specs.Rows.{at, IsSolvedRow, SolvedUnfit, ArePut, PutUnfitBeside, AreRaised, RaisedUnfitBeside}
use Rattle.sy_simplex.specs.States.{variable_of_column, basic, row, coef, row_value, bound, rest, IsVariable, shift_unfit, entered_unfit, raised_unfit, solved_unfit, put_unfit}
use Rattle.sy_simplex.specs.Stated.{tableau_state_of}
use Rattle.sy_simplex.proofs.Exchanging.{are_read, shift_read, row_read, in_values, in_rows, leaves_bounded, bound_there, column_there, columns_there, solved_widths, solved_there, rows_lowest, same_fault, within, step_is}
use Rattle.sy_simplex.proofs.Results.{none_of, some_of}
use Rattle.sy_simplex.proofs.Shapes.{solved_lowest, step_shaped}
use Rattle.sy_simplex.proofs.tableau.Tableau.exchange.Goals as goal

pub returns-in_default-clause-unfit : goal.returns-in_default-clause-unfit
returns-in_default-clause-unfit c =
    let t = tableau_state_of c.args.self.now in
    let read = are_read t c.args.row c.args.column c.index-leaves.result.now c.index-enters.result.now c.index.result.now c.index-2.result.now c.index-as_slice-column.result c.index-3.result.now c.as_slice.result.now c.requires.shaped c.requires.row_below c.requires.column_below c.requires.bounded c.index-leaves.ensures c.index-enters.ensures c.index.ensures c.index-2.ensures c.index-3.ensures c.as_slice.ensures c.index-as_slice-column.is in
    λ _. shift_unfit (shift_read ShiftUnfit t c.args.row c.args.column _ _ c.index.result.now c.index-2.result.now c.index-as_slice-column.result read c.in_default.ensures)

pub rest-requires : goal.rest-requires
rest-requires c =
    let t = tableau_state_of c.args.self.now in
    let read = are_read t c.args.row c.args.column c.index-leaves.result.now c.index-enters.result.now c.index.result.now c.index-2.result.now c.index-as_slice-column.result c.index-3.result.now c.as_slice.result.now c.requires.shaped c.requires.row_below c.requires.column_below c.requires.bounded c.index-leaves.ensures c.index-enters.ensures c.index.ensures c.index-2.ensures c.index-3.ensures c.as_slice.ensures c.index-as_slice-column.is in
    subst (IsVariable t) (sym read.enters_is) (c.requires.shaped.columns_below c.args.column c.requires.column_below)

pub returns-in_default-add-clause-unfit : goal.returns-in_default-add-clause-unfit
returns-in_default-add-clause-unfit c =
    let t = tableau_state_of c.args.self.now in
    let read = are_read t c.args.row c.args.column c.index-leaves.result.now c.index-enters.result.now c.index.result.now c.index-2.result.now c.index-as_slice-column.result c.index-3.result.now c.as_slice.result.now c.requires.shaped c.requires.row_below c.requires.column_below c.requires.bounded c.index-leaves.ensures c.index-enters.ensures c.index.ensures c.index-2.ensures c.index-3.ensures c.as_slice.ensures c.index-as_slice-column.is in
    let shift_is : IsShift (bound t (basic t c.args.row)) (row_value t c.args.row) (coef t c.args.row c.args.column) c.in-Some.shift = shift_read (λ b v f. IsShift b v f c.in-Some.shift) t c.args.row c.args.column _ _ c.index.result.now c.index-2.result.now c.index-as_slice-column.result read c.in-Some.ensures in
    let rest_is : c.rest.result ≡ rest t (variable_of_column t c.args.column) = c.rest.ensures ∙ ap (rest t) read.enters_is in
    λ _. entered_unfit c.in-Some.shift shift_is (subst (λ f. ¬ (OperationFits sum f c.in-Some.shift)) rest_is c.in_default-add.ensures)

pub returns-then-is_none-clause-unfit : goal.returns-then-is_none-clause-unfit
returns-then-is_none-clause-unfit c =
    let t = tableau_state_of c.args.self.now in
    let read = are_read t c.args.row c.args.column c.index-leaves.result.now c.index-enters.result.now c.index.result.now c.index-2.result.now c.index-as_slice-column.result c.index-3.result.now c.as_slice.result.now c.requires.shaped c.requires.row_below c.requires.column_below c.requires.bounded c.index-leaves.ensures c.index-enters.ensures c.index.ensures c.index-2.ensures c.index-3.ensures c.as_slice.ensures c.index-as_slice-column.is in
    let shift_is : IsShift (bound t (basic t c.args.row)) (row_value t c.args.row) (coef t c.args.row c.args.column) c.in-Some.shift = shift_read (λ b v f. IsShift b v f c.in-Some.shift) t c.args.row c.args.column _ _ c.index.result.now c.index-2.result.now c.index-as_slice-column.result read c.in-Some.ensures in
    let unfit : RaisedUnfitBeside t.values c.as_slice-2.result.now c.args.row c.args.column c.in-Some.shift = none_of c.raise_others.result c.is_none.result _ _ c.is_none.ensures c.if-is_none.true c.raise_others.ensures in
    λ _. raised_unfit c.in-Some.shift shift_is (subst (λ xs. RaisedUnfitBeside t.values xs c.args.row c.args.column c.in-Some.shift) c.as_slice-2.ensures.value unfit)

pub put_into_others-requires-clause-solved_lowest : goal.put_into_others-requires-clause-solved_lowest
put_into_others-requires-clause-solved_lowest c = solved_lowest c.index-4.result.now c.in_ok-solved.solved c.args.column c.in_ok-solved.ensures.ok

pub returns-then-is_none-2-clause-unfit : goal.returns-then-is_none-2-clause-unfit
returns-then-is_none-2-clause-unfit c =
    let t = tableau_state_of c.args.self.now in
    let solved : IsSolvedRow (row t c.args.row) c.args.column c.in_ok-solved.solved = subst (λ xs. IsSolvedRow xs c.args.column c.in_ok-solved.solved) (row_read t c.args.row c.index-4.result.now c.requires.shaped c.requires.row_below c.index-4.ensures) c.in_ok-solved.ensures.ok in
    let unfit : PutUnfitBeside t.rows c.in_ok-solved.solved c.args.row c.args.column = none_of c.put_into_others.result c.is_none-2.result _ _ c.is_none-2.ensures c.if-is_none-2.true c.put_into_others.ensures in
    λ _. put_unfit c.in_ok-solved.solved solved unfit

pub returns-clause-ok : goal.returns-clause-ok
returns-clause-ok c =
    let t = tableau_state_of c.args.self.now in
    let read = are_read t c.args.row c.args.column c.index-leaves.result.now c.index-enters.result.now c.index.result.now c.index-2.result.now c.index-as_slice-column.result c.index-3.result.now c.as_slice.result.now c.requires.shaped c.requires.row_below c.requires.column_below c.requires.bounded c.index-leaves.ensures c.index-enters.ensures c.index.ensures c.index-2.ensures c.index-3.ensures c.as_slice.ensures c.index-as_slice-column.is in
    let shift_is : IsShift (bound t (basic t c.args.row)) (row_value t c.args.row) (coef t c.args.row c.args.column) c.in-Some.shift = shift_read (λ b v f. IsShift b v f c.in-Some.shift) t c.args.row c.args.column _ _ c.index.result.now c.index-2.result.now c.index-as_slice-column.result read c.in-Some.ensures in
    let rest_is : c.rest.result ≡ rest t (variable_of_column t c.args.column) = c.rest.ensures ∙ ap (rest t) read.enters_is in
    let entered : HasResult sum c.rest.result c.in-Some.shift c.in-Some-add.entered = record { fits = c.in-Some-add.ensures.0; exact = c.in-Some-add.ensures.1 } in
    let solved : IsSolvedRow (row t c.args.row) c.args.column c.in_ok-solved.solved = subst (λ xs. IsSolvedRow xs c.args.column c.in_ok-solved.solved) (row_read t c.args.row c.index-4.result.now c.requires.shaped c.requires.row_below c.index-4.ensures) c.in_ok-solved.ensures.ok in
    let raised : AreRaised t.values c.as_slice-2.result.now c.args.row c.args.column c.in-Some.shift c.raise_others.new.values.items = some_of c.raise_others.result c.is_none.result _ _ c.is_none.ensures c.if-is_none.false c.raise_others.ensures in
    let put : ArePut t.rows c.in_ok-solved.solved c.args.row c.args.column c.put_into_others.new.rows.items = some_of c.put_into_others.result c.is_none-2.result _ _ c.is_none-2.ensures c.if-is_none-2.false c.put_into_others.ensures in
    step_is t _ c.args.row c.args.column c.index-leaves.result.now c.index-enters.result.now c.in_ok-solved.solved c.put_into_others.new.rows.items c.raise_others.new.values.items c.in-Some.shift c.in-Some-add.entered
    c.requires.shaped c.requires.row_below read.leaves_is read.enters_is refl refl refl refl refl refl solved put shift_is (subst (λ f. HasResult sum f c.in-Some.shift c.in-Some-add.entered) rest_is entered)
    (subst (λ xs. AreRaised t.values xs c.args.row c.args.column c.in-Some.shift c.raise_others.new.values.items) c.as_slice-2.ensures.value raised)

pub returns-clause-shaped : goal.returns-clause-shaped
returns-clause-shaped c = step_shaped _ _ c.args.row c.args.column c.requires.shaped c.requires.row_below c.requires.column_below (returns-clause-ok c)

pub index-leaves-requires : goal.index-leaves-requires
index-leaves-requires c = within c.args.row _ _ c.args.self.now.basics.ok.0 c.requires.row_below

pub index-enters-requires : goal.index-enters-requires
index-enters-requires c = within c.args.column _ _ c.args.self.now.columns.ok.0 c.requires.column_below

pub overflow_sub-leaves : goal.overflow_sub-leaves
overflow_sub-leaves c = leaves_bounded (tableau_state_of c.args.self.now) c.args.row c.index-leaves.result.now c.requires.row_below c.requires.bounded c.index-leaves.ensures

pub index-requires : goal.index-requires
index-requires c = within _ _ _ c.args.self.now.bounds.ok.0 (bound_there (tableau_state_of c.args.self.now) c.args.row c.index-leaves.result.now c.requires.shaped c.requires.row_below c.requires.bounded c.index-leaves.ensures)

pub index-requires-2 : goal.index-requires-2
index-requires-2 c = within c.args.row _ _ c.args.self.now.values.ok.0 (in_values (tableau_state_of c.args.self.now) c.args.row c.requires.shaped c.requires.row_below)

pub index-requires-3 : goal.index-requires-3
index-requires-3 c = within c.args.row _ _ c.args.self.now.rows.ok.0 (in_rows (tableau_state_of c.args.self.now) c.args.row c.requires.shaped c.requires.row_below)

pub bounds-as_slice-column : goal.bounds-as_slice-column
bounds-as_slice-column c = column_there (tableau_state_of c.args.self.now) c.args.row c.args.column c.index-3.result.now c.as_slice.result.now c.requires.shaped c.requires.row_below c.requires.column_below c.index-3.ensures c.as_slice.ensures

pub shift-requires : goal.shift-requires
shift-requires c =
    let t = tableau_state_of c.args.self.now in
    let read = are_read t c.args.row c.args.column c.index-leaves.result.now c.index-enters.result.now c.index.result.now c.index-2.result.now c.index-as_slice-column.result c.index-3.result.now c.as_slice.result.now c.requires.shaped c.requires.row_below c.requires.column_below c.requires.bounded c.index-leaves.ensures c.index-enters.ensures c.index.ensures c.index-2.ensures c.index-3.ensures c.as_slice.ensures c.index-as_slice-column.is in
    subst (λ (f : Fraction). f.num ≢ pos 0) (sym read.coef_is) c.requires.nonzero

pub index-requires-4 : goal.index-requires-4
index-requires-4 c = within c.args.row _ _ c.args.self.now.rows.ok.0 (in_rows (tableau_state_of c.args.self.now) c.args.row c.requires.shaped c.requires.row_below)

pub solved-requires-clause-in_bounds : goal.solved-requires-clause-in_bounds
solved-requires-clause-in_bounds c = column_there (tableau_state_of c.args.self.now) c.args.row c.args.column c.index-4.result.now c.index-4.result.now c.requires.shaped c.requires.row_below c.requires.column_below c.index-4.ensures refl

pub solved-requires-clause-nonzero : goal.solved-requires-clause-nonzero
solved-requires-clause-nonzero c =
    let t = tableau_state_of c.args.self.now in
    subst (λ (xs : List Fraction). (at xs c.args.column).num ≢ pos 0) (sym (row_read t c.args.row c.index-4.result.now c.requires.shaped c.requires.row_below c.index-4.ensures)) c.requires.nonzero

pub returns-in_err-solved-clause-ok : goal.returns-in_err-solved-clause-ok
returns-in_err-solved-clause-ok c = let p = err_from_is_err_and c.from_residual.result c.from_residual.ensures.1 in rw p.1 tt

pub returns-in_err-solved-clause-shaped : goal.returns-in_err-solved-clause-shaped
returns-in_err-solved-clause-shaped c = let p = err_from_is_err_and c.from_residual.result c.from_residual.ensures.1 in rw p.1 tt

pub returns-in_err-solved-clause-unfit : goal.returns-in_err-solved-clause-unfit
returns-in_err-solved-clause-unfit c =
    let t = tableau_state_of c.args.self.now in
    λ is. solved_unfit (subst (λ xs. SolvedUnfit xs c.args.column) (row_read t c.args.row c.index-4.result.now c.requires.shaped c.requires.row_below c.index-4.ensures) (c.in_err-solved.ensures.unfit (ap Err (same_fault c.from_residual.result _ _ c.from_residual.ensures.1 is))))

pub raise_others-requires-clause-same_length : goal.raise_others-requires-clause-same_length
raise_others-requires-clause-same_length c = c.args.self.now.values.ok.0 ∙ c.requires.shaped.values_length ∙ sym c.requires.shaped.rows_length ∙ sym (ap length c.as_slice-2.ensures.value)

pub raise_others-requires-clause-column_below : goal.raise_others-requires-clause-column_below
raise_others-requires-clause-column_below c =
    subst (λ (xs : List (List Fraction)). (i : ℕ) → i < length xs → c.args.column < length (get_or xs i [])) (sym c.as_slice-2.ensures.value)
    (columns_there (tableau_state_of c.args.self.now) c.args.column c.requires.shaped c.requires.column_below)

pub put_into_others-requires-clause-widths : goal.put_into_others-requires-clause-widths
put_into_others-requires-clause-widths c = solved_widths (tableau_state_of c.args.self.now) c.args.row c.args.column c.index-4.result.now c.in_ok-solved.solved c.requires.shaped c.requires.row_below c.index-4.ensures c.in_ok-solved.ensures.ok

pub put_into_others-requires-clause-column_below : goal.put_into_others-requires-clause-column_below
put_into_others-requires-clause-column_below c = solved_there (tableau_state_of c.args.self.now) c.args.row c.args.column c.index-4.result.now c.in_ok-solved.solved c.requires.shaped c.requires.row_below c.requires.column_below c.index-4.ensures c.in_ok-solved.ensures.ok

pub put_into_others-requires-clause-lowest : goal.put_into_others-requires-clause-lowest
put_into_others-requires-clause-lowest c = rows_lowest (tableau_state_of c.args.self.now) c.requires.shaped

pub index_mut-requires : goal.index_mut-requires
index_mut-requires c =
    let t = tableau_state_of c.args.self.now in
    let raised : AreRaised t.values c.as_slice-2.result.now c.args.row c.args.column c.in-Some.shift c.raise_others.new.values.items = some_of c.raise_others.result c.is_none.result _ _ c.is_none.ensures c.if-is_none.false c.raise_others.ensures in
    within c.args.row _ _ c.raise_others.new.values.ok.0 (subst (λ n. c.args.row < n) (sym raised.len) (in_values t c.args.row c.requires.shaped c.requires.row_below))

pub index_mut-requires-2 : goal.index_mut-requires-2
index_mut-requires-2 c =
    let t = tableau_state_of c.args.self.now in
    let put : ArePut t.rows c.in_ok-solved.solved c.args.row c.args.column c.put_into_others.new.rows.items = some_of c.put_into_others.result c.is_none-2.result _ _ c.is_none-2.ensures c.if-is_none-2.false c.put_into_others.ensures in
    within c.args.row _ _ c.put_into_others.new.rows.ok.0 (subst (λ n. c.args.row < n) (sym put.len) (in_rows t c.args.row c.requires.shaped c.requires.row_below))

pub index_mut-requires-3 : goal.index_mut-requires-3
index_mut-requires-3 c = within c.args.row _ _ c.args.self.now.basics.ok.0 c.requires.row_below

pub index_mut-requires-4 : goal.index_mut-requires-4
index_mut-requires-4 c = within c.args.column _ _ c.args.self.now.columns.ok.0 c.requires.column_below
