-- The values of forms at rational points.
use Rattle.std.specs.Prelude.{ℕ, List, [], ◌∷◌}
use Rattle.sy_frac.specs.Rational.{ℚ, 0ℚ, ◌+ℚ◌, ◌*ℚ◌}
use Rattle.sy_linear_known.specs.declared.form.Form.{Form}
use Rattle.sy_linear_known.specs.Forms.{Coefficient}
use Rattle.sy_linear_known.specs.Trees.{whole_ℚ}

-- the sum of each coefficient times its variable's value
unfoldable pub combined_at : List Coefficient → (ℕ → ℚ) → ℚ
combined_at [] x = 0ℚ
combined_at (c ∷ cs) x = whole_ℚ c.1 *ℚ x c.0 +ℚ combined_at cs x

-- the value of a form where the variables have these values
unfoldable pub form_value_at : Form → (ℕ → ℚ) → ℚ
form_value_at f x = combined_at f.coefs x +ℚ whole_ℚ f.constant
