-- Which applications are linear.
use Rattle.std.specs.Prelude.{ℕ, ◌+◌, List, Bool, true, false, not, ◌&&◌, ◌||◌, nat_le, int_lt, pos, get_or, if◌then◌else◌}
use Rattle.sy_terms.specs.Values.{Val}
use Rattle.sy_terms.specs.Theories.{whole_number}
use Rattle.sy_terms.specs.declared.op.Op.{Op}
use Rattle.sy_terms.specs.declared.op.Op.TheVariants as ops
use Rattle.sy_forms_items.specs.Measures.{is_neg}
use Rattle.sy_forms_items.specs.Phrases as phrase
use Rattle.sy_forms_items.specs.Phrases.{Phrase, Phrases}

-- Products

abbrev pub is_written_phrase : Phrase → Bool
is_written_phrase (phrase.Literal value) = true
is_written_phrase _ = false

-- one literal
abbrev pub is_one_literal : Phrases → Bool
is_one_literal (phrase.more argument phrase.none) = is_written_phrase argument
is_one_literal _ = false

abbrev pub is_mul : Op → Bool
is_mul ops.Mul = true
is_mul _ = false

abbrev pub flag_at : List Bool → ℕ → Bool
flag_at flags number = get_or flags number false

-- a numeral, `(- n)` with a numeral n, or a nonterminal that derives such alone
abbrev pub is_constant_phrase : List Bool → Phrase → Bool
is_constant_phrase constants (phrase.Literal value) = true
is_constant_phrase constants (phrase.Operation operator arguments) = is_neg operator && is_one_literal arguments
is_constant_phrase constants (phrase.Nonterminal number) = flag_at constants number
is_constant_phrase constants _ = false

-- 0 at a constant, and 1 at another factor
abbrev pub factor_weight : List Bool → Phrase → ℕ
factor_weight constants factor = if is_constant_phrase constants factor then 0 else 1

-- how many factors are no constants
abbrev pub varying_factors : List Bool → Phrases → ℕ
varying_factors constants phrase.none = 0
varying_factors constants (phrase.more first rest) = factor_weight constants first + varying_factors constants rest

-- at most one factor of a product varies
abbrev pub is_linear_product : List Bool → Op → Phrases → Bool
is_linear_product constants operator arguments = not (is_mul operator) || nat_le (varying_factors constants arguments) 1

-- Divisions

abbrev pub is_division : Op → Bool
is_division ops.Div = true
is_division ops.Mod = true
is_division _ = false

-- a number above 0
abbrev pub is_positive : Val → Bool
is_positive value = int_lt (pos 0) (whole_number value)

abbrev pub is_positive_literal : Phrase → Bool
is_positive_literal (phrase.Literal value) = is_positive value
is_positive_literal _ = false

-- one literal above 0
abbrev pub is_one_positive : Phrases → Bool
is_one_positive (phrase.more argument phrase.none) = is_positive_literal argument
is_one_positive _ = false

-- a numeral of at least 1, `(- n)` with such a numeral n, or a nonterminal that derives such alone
abbrev pub is_divisor_phrase : List Bool → Phrase → Bool
is_divisor_phrase divisors (phrase.Literal value) = is_positive value
is_divisor_phrase divisors (phrase.Operation operator arguments) = is_neg operator && is_one_positive arguments
is_divisor_phrase divisors (phrase.Nonterminal number) = flag_at divisors number
is_divisor_phrase divisors _ = false

abbrev pub are_divisors : List Bool → Phrases → Bool
are_divisors divisors phrase.none = true
are_divisors divisors (phrase.more first rest) = is_divisor_phrase divisors first && are_divisors divisors rest

-- each argument after the first
abbrev pub are_divisors_after : List Bool → Phrases → Bool
are_divisors_after divisors phrase.none = true
are_divisors_after divisors (phrase.more first rest) = are_divisors divisors rest

-- a division is by constants other than 0
abbrev pub divides_by_constants : List Bool → Op → Phrases → Bool
divides_by_constants divisors operator arguments = not (is_division operator) || are_divisors_after divisors arguments

-- where these nonterminals derive constants alone, and those constants by which one may divide
abbrev pub is_linear : List Bool → List Bool → Op → Phrases → Bool
is_linear constants divisors operator arguments =
    is_linear_product constants operator arguments && divides_by_constants divisors operator arguments
