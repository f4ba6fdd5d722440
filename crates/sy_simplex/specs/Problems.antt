-- The forms and fractions of the program as rational numbers.
use Rattle.std.specs.Prelude.{ℕ, ◌<◌, ◌+◌, ◌==◌, cond, List, [], ◌∷◌, length, ℤ, pos, get_or}
use Rattle.sy_frac.specs.Fraction.{Fraction}
use Rattle.sy_frac.specs.Rational.{ℚ, over, value}
use Rattle.sy_linear_known.specs.declared.form.Form.{Form}
use Rattle.sy_linear_known.specs.Forms.{constant_form}
use Rattle.sy_linear_known.specs.Systems.{System}
use Rattle.sy_simplex.specs.Rows.{at}

-- the coefficient of a variable
abbrev pub coefficient : List (ℕ × ℤ) → ℕ → ℤ
coefficient [] v = pos 0
coefficient (c ∷ cs) v = cond (c.0 == v) (c.1) (coefficient cs v)

abbrev pub form : List Form → ℕ → Form
form forms i = get_or forms i (constant_form (pos 0))

abbrev pub variable_at : List (ℕ × ℤ) → ℕ → ℕ
variable_at cs k = (get_or cs k (0, pos 0)).0

-- each form's variables are below vars, in ascending order
pub record IsForm (vars : ℕ) (f : Form) : Type 0 where
  pub below : (k : ℕ) → k < length f.coefs → variable_at f.coefs k < vars
  pub ascending : (k : ℕ) → k + 1 < length f.coefs → variable_at f.coefs k < variable_at f.coefs (k + 1)

abbrev pub AreForms : ℕ → List Form → Type 0
AreForms vars forms = (i : ℕ) → i < length forms → IsForm vars (form forms i)

-- the forms over the rational numbers
unfoldable pub system_of : ℕ → List Form → System
system_of vars forms = record {
  vars = vars;
  count = length forms;
  linear = λ i j. over (coefficient (form forms i).coefs j) 1;
  constant = λ i. over (form forms i).constant 1;
}

-- the numbers of a list of fractions
unfoldable pub numbers : List Fraction → ℕ → ℚ
numbers xs i = value (at xs i)
