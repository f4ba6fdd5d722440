-- Vectors that are polynomials over the numbers of variables.
use Rattle.std.specs.Prelude.{ℕ, ◌^◌, ◌<◌, ◌≡◌, Bool, nat_eq, List, [], ◌∷◌, ◌++◌}
use Rattle.sy_terms.specs.Values.{Val, Bits, number}
use Rattle.sy_terms.specs.Expr.{Expr, Exprs}
use Rattle.sy_terms.specs.Meaning.{meaning, meanings, value_at_position}
use Rattle.sy_terms.specs.declared.sort.Sort.{Sort}
use Rattle.sy_grammar_base.specs.Solving.{AreValues}
use Rattle.sy_bits_sums.specs.declared.sum.Sum.{Sum}
use Rattle.sy_bits_sums.specs.Polynomials.{total, Agree}

-- the number of the variable at a position
abbrev pub number_at : List Val → ℕ → ℕ
number_at values position = number (value_at_position values position)

-- the value is a vector of the sum's width, and the sum is its number at the variables' numbers
pub record HasSum (values : List Val) (sum : Sum) (value : Val) : Type 0 where
  pub is : value ≡ Bits sum.width (number value)
  pub small : number value < 2 ^ sum.width
  pub agrees : Agree sum.width (total (number_at values) sum.monomials.items) (number value)

-- so with each of the sums and its value
abbrev pub HaveSums : List Val → List Sum → List Val → Type 0
HaveSums values [] [] = Unit {0}
HaveSums values [] (x ∷ arguments) = ⊥
HaveSums values (sum ∷ sums) [] = ⊥
HaveSums values (sum ∷ sums) (x ∷ arguments) = HasSum values sum x × HaveSums values sums arguments

-- two vectors of one width, equal or not
pub record IsComparedAs (equal : Bool) (x y : Val) : Type 0 where
  pub width : ℕ
  pub left : x ≡ Bits width (number x)
  pub right : y ≡ Bits width (number y)
  pub same : nat_eq (number x) (number y) ≡ equal

-- the first of the values are of these sorts
pub record BeginWithSorts (sorts : List Sort) (values : List Val) : Type 0 where
  pub first : List Val
  pub rest : List Val
  pub are : AreValues sorts first
  pub is : values ≡ first ++ rest

-- the terms mean the same wherever the first values are of these sorts
abbrev pub IsSameOver : List Sort → Expr → Expr → Type 0
IsSameOver sorts found term = (values : List Val) → BeginWithSorts sorts values → meaning [] [] values found ≡ meaning [] [] values term

-- the same of lists of terms
abbrev pub AreSameOver : List Sort → Exprs → Exprs → Type 0
AreSameOver sorts found terms = (values : List Val) → BeginWithSorts sorts values → meanings [] [] values found ≡ meanings [] [] values terms
