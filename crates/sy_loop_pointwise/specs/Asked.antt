-- Which applications of functions to be found stand within terms.
use Rattle.std.specs.Prelude.{ℕ, ◌<◌, List, [], ◌≡◌, All, Contains, slice_get, Some, length}
use Rattle.sy_terms.specs.Expr.{Expr, Exprs, Invoke}
use Rattle.sy_terms.specs.declared.term.Fun.{Fun}
use Rattle.sy_terms.specs.declared.term.Fun.TheVariants.{Wanted}
use Rattle.sy_loop_spec.specs.Applications.{applications, all_applications}
use Rattle.sy_loop_pointwise.specs.Shapes.{Shape, AreBelow, subterms, term_of, terms_of}
use Rattle.sy_loop_pointwise.specs.declared.asks.Asks.{Asks}
use Rattle.sy_loop_pointwise.specs.declared.asks.Asks.TheVariants.{Nothing, Calls, Mixed}

-- all of these applications have the arguments, which contain none
pub record AreAtOnce (all : List (ℕ × Exprs)) (arguments : Exprs) : Type 0 where
  pub same : All (λ application. application.1 ≡ arguments) all
  pub plain : all_applications arguments ≡ []

-- the term of this number is one of these applications, and all have its arguments, which contain none
pub record IsTheCall (terms : List Expr) (all : List (ℕ × Exprs)) (number : ℕ) : Type 0 where
  pub application : ℕ × Exprs
  pub of : Contains all application
  pub is : term_of terms number ≡ Invoke (Wanted application.0) application.1
  pub at_once : AreAtOnce all application.1

-- these are the applications: none, all at once, or neither
abbrev pub AreApplications : List Expr → List (ℕ × Exprs) → Asks → Type 0
AreApplications terms all Nothing = all ≡ []
AreApplications terms all (Calls number) = IsTheCall terms all number
AreApplications terms all Mixed = (arguments : Exprs) → AreAtOnce all arguments → ⊥

-- those within the terms of the first numbers
abbrev pub AreKnown : List Expr → List Asks → Type 0
AreKnown terms asks = (number : ℕ) (own : Asks) → slice_get asks number ≡ Some own → AreApplications terms (applications (term_of terms number)) own

-- the numbers, all less, are those of the arguments of the call of this number
pub record AreArguments (shapes : List Shape) (number : ℕ) (numbers : List ℕ) : Type 0 where
  pub within : number < length shapes
  pub below : AreBelow number numbers
  pub are : (function : Fun) (arguments : Exprs) → term_of (subterms shapes) number ≡ Invoke function arguments → terms_of (subterms shapes) numbers ≡ arguments
