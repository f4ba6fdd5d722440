-- Combinations of forms by fractions, folded form by form.
use Rattle.std.specs.Prelude.{ℕ, ◌&&◌, Bool, cond, List, [], ◌∷◌, ◌++◌, length, ℤ, pos, int_lt, nat_lt, nat_eq, Option, Some, None}
use Rattle.std.specs.List.{list_all}
use Rattle.std.specs.Option.{option_and_then}
use Rattle.std.specs.Ordering.{int_eq}
use Rattle.sy_frac.specs.Fraction.{Fraction}
use Rattle.sy_frac.specs.Kinds.{is_multiplier}
use Rattle.sy_linear_known.specs.declared.form.Form.{Form}
use Rattle.sy_linear_known.specs.Forms.{Coefficient, before}
use Rattle.sy_linear.specs.declared.combination.Share.{Share}
use Rattle.sy_linear.specs.declared.combination.Combination.{Combination}
use Rattle.sy_linear.specs.Exact.{whole_multiple, checked_plus_multiple, over_whole, floor, is_whole}

-- ---- multipliers
-- one multiplier for each form
abbrev pub are_multipliers : List Fraction → List Form → Bool
are_multipliers ms fs = nat_eq (length ms) (length fs) && list_all is_multiplier ms

-- ---- sums
-- a variable's part before those of others, where both are there
abbrev pub share_before : ℕ → Option Fraction → Option (List Share) → Option (List Share)
share_before i (Some f) (Some rest) = Some (record { variable = i; weight = f } ∷ rest)
share_before i None rest = None
share_before i (Some f) None = None

-- m times the coefficients, and the shares, in ascending order of variable
unfoldable pub plus_coefficients : Fraction → List Coefficient → List Share → Option (List Share)
plus_coefficients m [] qs = Some qs
plus_coefficients m (c ∷ cs) [] = share_before c.0 (whole_multiple m c.1) (plus_coefficients m cs [])
plus_coefficients m (c ∷ cs) (q ∷ qs) =
    cond (nat_lt c.0 q.variable) (share_before c.0 (whole_multiple m c.1) (plus_coefficients m cs (q ∷ qs)))
    (cond (nat_lt q.variable c.0) (share_before q.variable (Some q.weight) (plus_coefficients m (c ∷ cs) qs))
    (share_before c.0 (checked_plus_multiple m c.1 q.weight) (plus_coefficients m cs qs)))

-- shares after others
abbrev pub following : List Share → Option (List Share) → Option (List Share)
following qs (Some rest) = Some (qs ++ rest)
following qs None = None

abbrev pub of_parts : Option Fraction → Option (List Share) → Option Combination
of_parts (Some constant) (Some shares) = Some (record { shares = shares; constant = constant })
of_parts None shares = None
of_parts (Some constant) None = None

-- a combination and m times a form
unfoldable pub checked_plus_form : Combination → Fraction → Form → Option Combination
checked_plus_form c m f = of_parts (checked_plus_multiple m f.constant c.constant) (plus_coefficients m f.coefs c.shares)

-- with each form times its multiplier, in order
unfoldable pub forms_folded : Combination → List Fraction → List Form → Option Combination
forms_folded c [] fs = Some c
forms_folded c (m ∷ ms) [] = Some c
forms_folded c (m ∷ ms) (f ∷ fs) = option_and_then (λ next. forms_folded next ms fs) (checked_plus_form c m f)

abbrev pub empty_combination : Combination
empty_combination = record { shares = []; constant = record { num = pos 0; den = 1 } }

-- the combination of the forms
abbrev pub checked_combination : List Fraction → List Form → Option Combination
checked_combination ms fs = forms_folded empty_combination ms fs

-- ---- contradictions
abbrev pub is_zero : Share → Bool
is_zero q = int_eq q.weight.num (pos 0)

-- a negative constant
abbrev pub is_negative_constant : Combination → Bool
is_negative_constant c = list_all is_zero c.shares && int_lt c.constant.num (pos 0)

-- ---- cuts
-- each share divided by d
unfoldable pub divided_shares : ℤ → List Share → Option (List Share)
divided_shares d [] = Some []
divided_shares d (q ∷ qs) = share_before q.variable (over_whole d q.weight) (divided_shares d qs)

abbrev pub divided : ℤ → Combination → Option Combination
divided d c = of_parts (over_whole d c.constant) (divided_shares d c.shares)

abbrev pub has_whole_weight : Share → Bool
has_whole_weight q = is_whole q.weight

-- the numerators, without those of 0
unfoldable pub numerators : List Share → List Coefficient
numerators [] = []
numerators (q ∷ qs) = before q.variable q.weight.num (numerators qs)

-- the form with these coefficients and the constant rounded down, where all shares are whole
abbrev pub rounded : Combination → Option Form
rounded c = cond (list_all has_whole_weight c.shares) (Some (record { coefs = numerators c.shares; constant = floor c.constant })) None
