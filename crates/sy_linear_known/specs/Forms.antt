-- Linear forms: coefficients of variables in ascending order, none of them 0, and a constant.
use Rattle.std.specs.Prelude.{◌==◌, ℕ, ◌^◌, Bool, true, false, cond, ◌&&◌, List, [], ◌∷◌, ℤ, pos, negsuc, ◌+ℤ◌, ◌-ℤ◌, ◌*ℤ◌, neg_ℤ, int_le, int_lt, nat_lt}
use Rattle.std.specs.Ordering.{int_eq}
use Rattle.sy_linear_known.specs.declared.form.Form.{Form}

-- a variable's number and its coefficient
abbrev pub Coefficient : Type 0
Coefficient = ℕ × ℤ

-- a number that 128 bits hold, as a signed number
abbrev pub in_range : ℤ → Bool
in_range n = int_le (neg_ℤ (pos (2 ^ 127))) n && int_lt n (pos (2 ^ 127))

abbrev pub all_in_range : List Coefficient → Bool
all_in_range [] = true
all_in_range (c ∷ cs) = in_range c.1 && all_in_range cs

-- each coefficient and the constant are in range
abbrev pub form_is_in_range : Form → Bool
form_is_in_range f = all_in_range f.coefs && in_range f.constant

-- ---- values
-- the sum of each coefficient times its variable's value
unfoldable pub combined : List Coefficient → (ℕ → ℤ) → ℤ
combined [] x = pos 0
combined (c ∷ cs) x = c.1 *ℤ x c.0 +ℤ combined cs x

-- the value of a form where the variables have these values
unfoldable pub form_value : Form → (ℕ → ℤ) → ℤ
form_value f x = combined f.coefs x +ℤ f.constant

-- ---- arithmetic
-- a coefficient before others, where it isn't 0
abbrev pub before : ℕ → ℤ → List Coefficient → List Coefficient
before i c cs = cond (int_eq c (pos 0)) cs ((i, c) ∷ cs)

-- the sum of two lists of coefficients
unfoldable pub added : List Coefficient → List Coefficient → List Coefficient
added [] ds = ds
added (c ∷ cs) [] = c ∷ cs
added (c ∷ cs) (d ∷ ds) =
    cond (nat_lt c.0 d.0) (c ∷ added cs (d ∷ ds))
    (cond (nat_lt d.0 c.0) (d ∷ added (c ∷ cs) ds)
    (before c.0 (c.1 +ℤ d.1) (added cs ds)))

-- each coefficient times k
unfoldable pub scaled : ℤ → List Coefficient → List Coefficient
scaled k [] = []
scaled k (c ∷ cs) = before c.0 (k *ℤ c.1) (scaled k cs)

-- the first list of coefficients less the second
unfoldable pub subtracted : List Coefficient → List Coefficient → List Coefficient
subtracted [] ds = scaled (negsuc 0) ds
subtracted (c ∷ cs) [] = c ∷ cs
subtracted (c ∷ cs) (d ∷ ds) =
    cond (nat_lt c.0 d.0) (c ∷ subtracted cs (d ∷ ds))
    (cond (nat_lt d.0 c.0) (before d.0 (negsuc 0 *ℤ d.1) (subtracted (c ∷ cs) ds))
    (before c.0 (c.1 -ℤ d.1) (subtracted cs ds)))

abbrev pub constant_form : ℤ → Form
constant_form k = record { coefs = []; constant = k }

abbrev pub variable_form : ℕ → Form
variable_form i = record { coefs = (i, pos 1) ∷ []; constant = pos 0 }

abbrev pub form_plus : Form → Form → Form
form_plus f g = record { coefs = added f.coefs g.coefs; constant = f.constant +ℤ g.constant }

abbrev pub times : ℤ → Form → Form
times k f = record { coefs = scaled k f.coefs; constant = k *ℤ f.constant }

abbrev pub form_minus : Form → Form → Form
form_minus f g = record { coefs = subtracted f.coefs g.coefs; constant = f.constant -ℤ g.constant }

-- f - g - 1, which is at least 0 exactly where f is above g
abbrev pub above : Form → Form → Form
above f g = record { coefs = subtracted f.coefs g.coefs; constant = f.constant +ℤ (neg_ℤ g.constant -ℤ pos 1) }

-- -f - 1, which is at least 0 exactly where f isn't
abbrev pub form_negation : Form → Form
form_negation f = record { coefs = scaled (negsuc 0) f.coefs; constant = neg_ℤ f.constant -ℤ pos 1 }

abbrev pub has_no_coefficients : List Coefficient → Bool
has_no_coefficients [] = true
has_no_coefficients (c ∷ cs) = false

-- no variable has a coefficient
abbrev pub is_constant_form : Form → Bool
is_constant_form f = has_no_coefficients f.coefs

abbrev pub same_coefficients : List Coefficient → List Coefficient → Bool
same_coefficients [] [] = true
same_coefficients (c ∷ cs) (d ∷ ds) = (c.0 == d.0 && int_eq c.1 d.1) && same_coefficients cs ds
same_coefficients _ _ = false

-- the same coefficients and the same constant
abbrev pub same_form : Form → Form → Bool
same_form f g = int_eq f.constant g.constant && same_coefficients f.coefs g.coefs
