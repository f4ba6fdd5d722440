-- The constants of a kept term of the integers are truth values and whole numbers.
use Rattle.std.specs.Prelude.{true, ◌≡◌, refl, ℤ}
use Rattle.sy_terms.specs.Values.{Whole}
use Rattle.sy_terms.specs.Denoted.{val_of, expr_of, row_of}
use Rattle.sy_terms.specs.declared.sort.Value.{Value}
use Rattle.sy_terms.specs.declared.sort.Value.TheVariants as values
use Rattle.sy_terms.specs.declared.term.Term.{Term, Const, Var, App', Call', Let', Row_of-Term, end_of-Term, more_of-Term}
use Rattle.sy_lower_laws.specs.Laws.{is_integral, has_integers, have_integers}
use Rattle.sy_lower_laws.proofs.Sides.{and_both}

value_integral : (value : Value ℤ) → is_integral (val_of Whole value) ≡ true
value_integral (values.Truth b) = refl
value_integral (values.Num n) = refl

mutual
  unfolding expr_of row_of has_integers have_integers

  pub term_integers : {T : Type 0} (term : Term T ℤ) → has_integers (expr_of Whole term) ≡ true
  term_integers (Const value) = value_integral value
  term_integers (Var position) = refl
  term_integers (App' operator shape row) = row_integers row
  term_integers (Call' function shape row) = row_integers row
  term_integers (Let' shape row pointer inner) = and_both _ _ (row_integers row) (term_integers inner)

  row_integers : {T : Type 0} {m : _} (row : Row_of-Term T ℤ m) → have_integers (row_of Whole row) ≡ true
  row_integers end_of-Term = refl
  row_integers (more_of-Term term rest) = and_both _ _ (term_integers term) (row_integers rest)
