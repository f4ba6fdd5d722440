-- Queries without division, remainder and absolute value: fresh variables stand for what these give, and side conditions say so.
-- A lowered term has no binding and no call.
use Rattle.std.specs.Prelude.{ℕ, zero, suc, ◌-◌, Bool, true, false, ◌&&◌, ◌||◌, nat_eq, List, [], ◌∷◌, ◌++◌, length, ℤ, pos, neg_ℤ, unsigned_abs, Option, Some, None, if◌then◌else◌}
use Rattle.std.specs.Ordering.{int_eq}
use Rattle.sy_terms.specs.Values.{Truth, Whole, same}
use Rattle.sy_terms.specs.Theories.{fits_128}
use Rattle.sy_terms.specs.Expr.{Expr, Exprs, Constant, Variable, Apply, Invoke, Bind, none, more, append}
use Rattle.sy_terms.specs.Fitting.{sort_in}
use Rattle.sy_terms.specs.declared.op.Op.{Op}
use Rattle.sy_terms.specs.declared.op.Op.TheVariants as ops
use Rattle.sy_terms.specs.declared.sort.Sort.{Sort}
use Rattle.sy_terms.specs.declared.sort.Sort.TheVariants as sorts
use Rattle.sy_query_base.specs.Asked.{Query}
use Rattle.sy_query_base.specs.Weights.{query_scope}
use Rattle.sy_meaning_integers.specs.Lia.{owned}

-- what becomes of an application: a quotient, a remainder, an absolute value, or itself
pub data Step : Type 0 where
  Quotient Remainder Magnitude Itself : Step

unfoldable pub step_of : Op → Step
step_of ops.Div = Quotient
step_of ops.Mod = Remainder
step_of ops.Abs = Magnitude
step_of _ = Itself

abbrev pub is_lowered : Step → Bool
is_lowered Itself = false
is_lowered _ = true

unfoldable mutual
  -- the term has a division, a remainder or an absolute value
  pub has_divisions : Expr → Bool
  has_divisions (Constant value) = false
  has_divisions (Variable position) = false
  has_divisions (Apply operator arguments) = is_lowered (step_of operator) || have_divisions arguments
  has_divisions (Invoke function arguments) = have_divisions arguments
  has_divisions (Bind bound inner) = have_divisions bound || has_divisions inner

  pub have_divisions : Exprs → Bool
  have_divisions none = false
  have_divisions (more first rest) = has_divisions first || have_divisions rest

-- divisors

abbrev pub nonzero : ℤ → Option ℤ
nonzero number = if int_eq number (pos 0) then None else Some number

unfoldable pub is_negation : Op → Bool
is_negation ops.Neg = true
is_negation _ = false

-- the negated number, where it fits 128 bits and isn't 0
abbrev pub negated_divisor : Exprs → Option ℤ
negated_divisor (more (Constant (Whole number)) none) = if fits_128 (neg_ℤ number) then nonzero (neg_ℤ number) else None
negated_divisor _ = None

-- the constant other than 0 that a term is as it is written: a number, or the negation of one
unfoldable pub divisor : Expr → Option ℤ
divisor (Constant (Whole number)) = nonzero number
divisor (Apply operator arguments) = if is_negation operator then negated_divisor arguments else None
divisor _ = None

-- a variable or a constant, for which a name may stand
abbrev pub is_name : Expr → Bool
is_name (Constant value) = true
is_name (Variable position) = true
is_name _ = false

abbrev pub is_variable : Expr → Bool
is_variable (Variable position) = true
is_variable _ = false

-- equal terms

-- a number for each operator of Core and Ints
unfoldable pub operator_code : Op → Option ℕ
operator_code ops.Not = Some 0
operator_code ops.And = Some 1
operator_code ops.Or = Some 2
operator_code ops.Xor = Some 3
operator_code ops.Implies = Some 4
operator_code ops.Equal = Some 5
operator_code ops.Distinct = Some 6
operator_code ops.Ite = Some 7
operator_code ops.Neg = Some 8
operator_code ops.Sub = Some 9
operator_code ops.Add = Some 10
operator_code ops.Mul = Some 11
operator_code ops.Div = Some 12
operator_code ops.Mod = Some 13
operator_code ops.Abs = Some 14
operator_code ops.Le = Some 15
operator_code ops.Lt = Some 16
operator_code ops.Ge = Some 17
operator_code ops.Gt = Some 18
operator_code _ = None

abbrev pub same_code : Option ℕ → Option ℕ → Bool
same_code (Some m) (Some n) = nat_eq m n
same_code _ _ = false

unfoldable mutual
  -- the same term of the integers, without bindings and calls
  pub same_expr : Expr → Expr → Bool
  same_expr (Constant value) (Constant other) = same value other
  same_expr (Variable position) (Variable other) = nat_eq position other
  same_expr (Apply operator arguments) (Apply other others) = same_code (operator_code operator) (operator_code other) && same_exprs arguments others
  same_expr _ _ = false

  pub same_exprs : Exprs → Exprs → Bool
  same_exprs none none = true
  same_exprs (more first rest) (more other others) = same_expr first other && same_exprs rest others
  same_exprs _ _ = false

-- fresh variables

-- what was divided by what, and the variable of the quotient; the next one is that of the remainder
pub record Pair : Type 0 where
  pub dividend : Expr
  pub divisor : ℤ
  pub quotient : ℕ

-- the sorts of the variables so far, the side conditions in order, and the divisions in the order in which they were met
pub record Progress : Type 0 where
  pub sorts : List Sort
  pub sides : Exprs
  pub pairs : List Pair

pub record Lowered : Type 0 where
  pub term : Expr
  pub progress : Progress

pub record AllLowered : Type 0 where
  pub terms : Exprs
  pub progress : Progress

-- the variable of the quotient, after which that of the remainder comes
pub record Divided : Type 0 where
  pub quotient : ℕ
  pub progress : Progress

abbrev pub equation : Expr → Expr → Expr
equation term other = Apply ops.Equal (more term (more other none))

abbrev pub at_most : Expr → Expr → Expr
at_most term other = Apply ops.Le (more term (more other none))

abbrev pub whole_constant : ℤ → Expr
whole_constant number = Constant (Whole number)

-- a fresh variable of this sort, which equals the term
unfoldable pub equated : Progress → Sort → Expr → Lowered
equated before sort term = record {
  term = Variable (length before.sorts);
  progress = record {
    sorts = before.sorts ++ sort ∷ [];
    sides = append before.sides (more (equation (Variable (length before.sorts)) term) none);
    pairs = before.pairs;
  };
}

-- (k * v) + w
abbrev pub recomposed : ℤ → ℕ → Expr
recomposed divisor quotient =
    Apply ops.Add (more (Apply ops.Mul (more (whole_constant divisor) (more (Variable quotient) none))) (more (Variable (suc quotient)) none))

-- the dividend is (k * v) + w, where w is from 0 to |k| - 1
abbrev pub division_sides : Expr → ℤ → ℕ → Exprs
division_sides dividend divisor quotient =
    more (equation dividend (recomposed divisor quotient)) (
    more (at_most (whole_constant (pos 0)) (Variable (suc quotient))) (
    more (at_most (Variable (suc quotient)) (whole_constant (pos (unsigned_abs divisor - 1)))) none))

-- the quotient of the first division of the same dividend by the same divisor
unfoldable pub pair_of : List Pair → Expr → ℤ → Option ℕ
pair_of [] dividend divisor = None
pair_of (pair ∷ pairs) dividend divisor =
    if int_eq pair.divisor divisor && same_expr pair.dividend dividend then Some pair.quotient else pair_of pairs dividend divisor

-- a fresh quotient and remainder
abbrev pub fresh_pair : Progress → Expr → ℤ → Divided
fresh_pair before dividend divisor = record {
  quotient = length before.sorts;
  progress = record {
    sorts = before.sorts ++ sorts.Int ∷ sorts.Int ∷ [];
    sides = append before.sides (division_sides dividend divisor (length before.sorts));
    pairs = before.pairs ++ record { dividend = dividend; divisor = divisor; quotient = length before.sorts } ∷ [];
  };
}

abbrev pub paired_by : Option ℕ → Progress → Expr → ℤ → Divided
paired_by (Some quotient) before dividend divisor = record { quotient = quotient; progress = before }
paired_by None before dividend divisor = fresh_pair before dividend divisor

-- the variables of an earlier division of the same by the same, and else fresh ones
unfoldable pub paired : Progress → Expr → ℤ → Divided
paired before dividend divisor = paired_by (pair_of before.pairs dividend divisor) before dividend divisor

abbrev pub quotient_of : Divided → Lowered
quotient_of divided = record { term = Variable divided.quotient; progress = divided.progress }

abbrev pub remainder_of : Divided → Lowered
remainder_of divided = record { term = Variable (suc divided.quotient); progress = divided.progress }

-- by a constant other than 0 the variable; by any other term the application itself
abbrev pub quotient_at : Option ℤ → Progress → Expr → Expr → Lowered
quotient_at (Some number) before dividend divisor = quotient_of (paired before dividend number)
quotient_at None before dividend divisor = record { term = Apply ops.Div (more dividend (more divisor none)); progress = before }

abbrev pub remainder_at : Option ℤ → Progress → Expr → Expr → Lowered
remainder_at (Some number) before dividend divisor = remainder_of (paired before dividend number)
remainder_at None before dividend divisor = record { term = Apply ops.Mod (more dividend (more divisor none)); progress = before }

unfoldable pub quotient_by : Progress → Expr → Expr → Lowered
quotient_by before dividend divided_by = quotient_at (divisor divided_by) before dividend divided_by

unfoldable pub remainder_by : Progress → Expr → Expr → Lowered
remainder_by before dividend divided_by = remainder_at (divisor divided_by) before dividend divided_by

-- the quotient by one divisor after the other
unfoldable pub quotients : Progress → Expr → Exprs → Lowered
quotients before dividend none = record { term = dividend; progress = before }
quotients before dividend (more divided_by rest) =
    let first = quotient_by before dividend divided_by in
    quotients first.progress first.term rest

-- itself where it is a variable, and else a fresh integer that equals it
abbrev pub as_variable : Progress → Expr → Lowered
as_variable before term = if is_variable term then record { term = term; progress = before } else equated before sorts.Int term

-- the term where it isn't below 0, and else its negation
abbrev pub magnitude : Expr → Expr
magnitude term = Apply ops.Ite (more (at_most (whole_constant (pos 0)) term) (more term (more (Apply ops.Neg (more term none)) none)))

unfoldable pub absolute_of : Progress → Expr → Lowered
absolute_of before term =
    let found = as_variable before term in
    record { term = magnitude found.term; progress = found.progress }

-- applications whose arguments are lowered

abbrev pub divided : Progress → Exprs → Lowered
divided before (more dividend divisors) = quotients before dividend divisors
divided before none = record { term = Apply ops.Div none; progress = before }

abbrev pub reduced : Progress → Exprs → Lowered
reduced before (more dividend (more divided_by none)) = remainder_by before dividend divided_by
reduced before arguments = record { term = Apply ops.Mod arguments; progress = before }

abbrev pub unsigned : Progress → Exprs → Lowered
unsigned before (more term none) = absolute_of before term
unsigned before arguments = record { term = Apply ops.Abs arguments; progress = before }

abbrev pub applied_by : Step → Op → AllLowered → Lowered
applied_by Quotient operator found = divided found.progress found.terms
applied_by Remainder operator found = reduced found.progress found.terms
applied_by Magnitude operator found = unsigned found.progress found.terms
applied_by Itself operator found = record { term = Apply operator found.terms; progress = found.progress }

unfoldable pub applied : Op → AllLowered → Lowered
applied operator found = applied_by (step_of operator) operator found

-- a bound term: what its name stands for

abbrev pub equated_at : Option Sort → Lowered → Lowered
equated_at None found = found
equated_at (Some sort) found = equated found.progress sort found.term

-- itself where it is a variable or a constant, and else a fresh variable of its sort that equals it
unfoldable pub named : Lowered → Lowered
named found = if is_name found.term then found else equated_at (sort_in (query_scope owned) found.progress.sorts found.term) found

-- what the name at a position stands for
abbrev pub name_at : Exprs → ℕ → Expr
name_at none position = Constant (Truth false)
name_at (more name names) zero = name
name_at (more name names) (suc position) = name_at names position

unfoldable mutual
  -- the lowered term, where the names in force stand for these terms; each term is walked from left to right, with arguments first
  pub lowered : Exprs → Progress → Expr → Lowered
  lowered names before (Constant value) = record { term = Constant value; progress = before }
  lowered names before (Variable position) = record { term = name_at names position; progress = before }
  lowered names before (Apply operator arguments) = applied operator (all_lowered names before arguments)
  lowered names before (Invoke function arguments) = record { term = Invoke function arguments; progress = before }
  lowered names before (Bind bound inner) =
      let found = bound_lowered names before bound in
      lowered (append names found.terms) found.progress inner

  pub all_lowered : Exprs → Progress → Exprs → AllLowered
  all_lowered names before none = record { terms = none; progress = before }
  all_lowered names before (more first rest) =
      let found = lowered names before first in
      let others = all_lowered names found.progress rest in
      record { terms = more found.term others.terms; progress = others.progress }

  -- what the names of bound terms stand for
  pub bound_lowered : Exprs → Progress → Exprs → AllLowered
  bound_lowered names before none = record { terms = none; progress = before }
  bound_lowered names before (more first rest) =
      let found = named (lowered names before first) in
      let others = bound_lowered names found.progress rest in
      record { terms = more found.term others.terms; progress = others.progress }

-- queries

-- so many variables, from the first on
abbrev pub first_variables : ℕ → Exprs
first_variables zero = none
first_variables (suc count) = append (first_variables count) (more (Variable count) none)

-- no side condition yet
abbrev pub begun : List Sort → Progress
begun variables = record { sorts = variables; sides = none; pairs = [] }

-- the side conditions and the term
abbrev pub with_sides : Lowered → Query
with_sides found = record {
  variables = found.progress.sorts;
  body = Apply ops.And (append found.progress.sides (more found.term none));
}

-- the query itself where it has no division, and else the side conditions and its lowered body, over its variables and the fresh ones
unfoldable pub lowering : Query → Query
lowering query =
    if has_divisions query.body
    then with_sides (lowered (first_variables (length query.variables)) (begun query.variables) query.body)
    else query
