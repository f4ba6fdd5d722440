-- Subterms by number: a list of shapes, each over the numbers of those before it.
use Rattle.std.specs.Prelude.{ℕ, ◌<◌, ◌≡◌, List, [], ◌∷◌, ◌++◌, length, slice_get, Some, All, slice_index_or, false}
use Rattle.sy_terms.specs.Values.{Val, Truth}
use Rattle.sy_terms.specs.Expr.{Expr, Exprs, Constant, Variable, Apply, Invoke, none, more}
use Rattle.sy_loop_spec.specs.WrittenOut.{written, all_written}
use Rattle.sy_terms.specs.declared.op.Op.{Op}
use Rattle.sy_terms.specs.declared.term.Fun.{Fun}

-- a value, an argument, or an operator or a function at the subterms of these numbers
pub data Shape : Type 0 where
  Fixed : (value : Val) → Shape
  Argument : (position : ℕ) → Shape
  Applied : (operator : Op) → (numbers : List ℕ) → Shape
  Called : (function : Fun) → (numbers : List ℕ) → Shape

-- the numbers over which it is
abbrev pub numbers_of : Shape → List ℕ
numbers_of (Fixed value) = []
numbers_of (Argument position) = []
numbers_of (Applied operator numbers) = numbers
numbers_of (Called function numbers) = numbers

-- the term of this number
abbrev pub term_of : List Expr → ℕ → Expr
term_of terms number = slice_index_or terms number (Constant (Truth false))

-- the terms of these numbers
abbrev pub terms_of : List Expr → List ℕ → Exprs
terms_of terms [] = none
terms_of terms (number ∷ numbers) = more (term_of terms number) (terms_of terms numbers)

-- the term that a shape is, over these terms
abbrev pub shaped : List Expr → Shape → Expr
shaped terms (Fixed value) = Constant value
shaped terms (Argument position) = Variable position
shaped terms (Applied operator numbers) = Apply operator (terms_of terms numbers)
shaped terms (Called function numbers) = Invoke function (terms_of terms numbers)

-- the terms that shapes are, after these
unfoldable pub subterms_after : List Expr → List Shape → List Expr
subterms_after terms [] = terms
subterms_after terms (shape ∷ shapes) = subterms_after (terms ++ shaped terms shape ∷ []) shapes

abbrev pub subterms : List Shape → List Expr
subterms shapes = subterms_after [] shapes

-- each number is less
abbrev pub AreBelow : ℕ → List ℕ → Type 0
AreBelow count numbers = All (λ number. number < count) numbers

-- each shape is over numbers of those before it, and none comes twice
pub record AreSubterms (shapes : List Shape) : Type 0 where
  pub ordered : (place : ℕ) (shape : Shape) → slice_get shapes place ≡ Some shape → AreBelow place (numbers_of shape)
  pub distinct : (place other : ℕ) (shape : Shape) → slice_get shapes place ≡ Some shape → slice_get shapes other ≡ Some shape → place ≡ other

-- there are more shapes, after those that there were
pub record ShapesExtend (before after : List Shape) : Type 0 where
  pub added : List Shape
  pub is : after ≡ before ++ added

-- a term is added: the number is that of the term, over these terms for the names in force, written out
pub record IsNumberOf (before after : List Shape) (names : List ℕ) (term : Expr) (number : ℕ) : Type 0 where
  pub extends : ShapesExtend before after
  pub within : number < length after
  pub is : term_of (subterms after) number ≡ written (terms_of (subterms before) names) term

-- so are several terms
pub record AreNumbered (before after : List Shape) (names : List ℕ) (terms : Exprs) (numbers : List ℕ) : Type 0 where
  pub extends : ShapesExtend before after
  pub within : AreBelow (length after) numbers
  pub are : terms_of (subterms after) numbers ≡ all_written (terms_of (subterms before) names) terms
