-- What the walk over a term gives: the term with its calls replaced, its sort, and what it weighs.
use Rattle.std.specs.Prelude.{ℕ, ◌+◌, Bool, true, ◌≡◌, List, Some, map}
use Rattle.sy_terms.specs.Values.{Val}
use Rattle.sy_terms.specs.Expr.{Expr, Exprs, Bind, Apply}
use Rattle.sy_terms.specs.Denoted.{expr_of}
use Rattle.sy_terms.specs.Definitions.{bodies}
use Rattle.sy_terms.specs.Fitting.{Scope, Signature, signature_of, sort_in, sorts_in, given_by}
use Rattle.sy_terms.specs.Sorts.{sort_of}
use Rattle.sy_terms.specs.declared.sorts.Sorted.TheVariants.{Is}
use Rattle.sy_terms.specs.declared.op.Op.{Op}
use Rattle.sy_terms.specs.declared.sort.Sort.{Sort}
use Rattle.sy_terms.specs.declared.term.Def.{Def}
use Rattle.sy_terms.specs.declared.term.Fun.{Fun}
use Rattle.sy_terms.specs.declared.term.Term.{Term}
use Rattle.sy_terms_operators.specs.Evaluation.{BodiesFit, scope_with}
use Rattle.sy_query.specs.declared.room.Left.{Left}
use Rattle.sy_query_base.specs.Placed.{Placement, count, placed, all_placed, called_at, placement_of, placement_from, placements}
use Rattle.sy_query_base.specs.Weights.{weight, weights, sort_weight, operator_weight}

-- the placements of bodies, which may call definitions
abbrev pub wanted_placements : {T N : Type 0} → (N → Val) → List (Def T N) → List (Term T N) → List Placement
wanted_placements number defs terms = map (placement_from (placements (bodies number defs))) (map (expr_of number) terms)

-- the term with its calls replaced, where its own list begins at position `first` of the list in force, of length `long`
abbrev pub placed_with : {T N : Type 0} → (N → Val) → List (Def T N) → List (Term T N) → ℕ → ℕ → Expr → Expr
placed_with number defs terms first long term = placed (placements (bodies number defs)) (wanted_placements number defs terms) first long term

abbrev pub all_placed_with : {T N : Type 0} → (N → Val) → List (Def T N) → List (Term T N) → ℕ → ℕ → Exprs → Exprs
all_placed_with number defs terms first long all = all_placed (placements (bodies number defs)) (wanted_placements number defs terms) first long all

-- what stands for a called function, where its arguments begin at position `first` of the list in force
abbrev pub called_with : {T N : Type 0} → (N → Val) → List (Def T N) → List (Term T N) → Fun → ℕ → ℕ → Expr
called_with number defs terms function first long = called_at (placement_of (placements (bodies number defs)) (wanted_placements number defs terms) function) first long

-- the function takes arguments of these sorts
pub record FunctionTakes {T N : Type 0} (owned : Op → Bool) (number : N → Val) (defs : List (Def T N)) (terms : List (Term T N)) (function : Fun) (found : List Sort) : Type 0 where
  pub wanted : List Signature
  pub bodies : BodiesFit owned number defs terms wanted
  pub signature : Signature
  pub is : signature_of (scope_with owned defs wanted) function ≡ Some signature
  pub takes : signature.takes ≡ found

-- the bodies fit, and under them and the definitions the term does, over values of these sorts
pub record FitsOver {T N : Type 0} (owned : Op → Bool) (number : N → Val) (defs : List (Def T N)) (terms : List (Term T N)) (sorts : List Sort) (term : Expr) : Type 0 where
  pub wanted : List Signature
  pub bodies : BodiesFit owned number defs terms wanted
  pub sort : Sort
  pub is : sort_in (scope_with owned defs wanted) sorts term ≡ Some sort

pub record AllFitOver {T N : Type 0} (owned : Op → Bool) (number : N → Val) (defs : List (Def T N)) (terms : List (Term T N)) (sorts : List Sort) (all : Exprs) : Type 0 where
  pub wanted : List Signature
  pub bodies : BodiesFit owned number defs terms wanted
  pub found : List Sort
  pub are : sorts_in (scope_with owned defs wanted) sorts all ≡ Some found

-- The term that is built is this one, where all positions are counted; it has this sort, and what it weighs was taken from
-- what was left.
pub record TermIsBuilt (scope : Scope) (sorts : List Sort) (term : Expr) (before after : Left) (built : Expr) (sort : Sort) : Type 0 where
  pub is : after.counted ≡ true → built ≡ term
  pub has : sort_in scope sorts term ≡ Some sort
  pub weight : before.weight ≡ after.weight + weight scope sorts term
  pub counted : after.counted ≡ true → before.counted ≡ true

pub record AreBuilt (scope : Scope) (sorts : List Sort) (terms : Exprs) (before after : Left) (built : Exprs) (found : List Sort) : Type 0 where
  pub are : after.counted ≡ true → built ≡ terms
  pub many : count built ≡ count terms
  pub have : sorts_in scope sorts terms ≡ Some found
  pub weight : before.weight ≡ after.weight + weights scope sorts terms
  pub counted : after.counted ≡ true → before.counted ≡ true

-- a binding of these terms around an inner term, which stands where the values in force have these sorts; what the
-- inner term and the binding itself weigh was taken
abbrev pub bound_weight : Scope → List Sort → Expr → ℕ
bound_weight scope sorts inner = weight scope sorts inner + sort_weight (sort_in scope sorts inner)

pub record IsBound (scope : Scope) (sorts : List Sort) (bound : Exprs) (inner : Expr) (before after : Left) (built : Expr) (sort : Sort) : Type 0 where
  pub is : after.counted ≡ true → built ≡ Bind bound inner
  pub has : sort_in scope sorts inner ≡ Some sort
  pub weight : before.weight ≡ after.weight + bound_weight scope sorts inner
  pub counted : after.counted ≡ true → before.counted ≡ true

-- the operator has a value at arguments of these sorts
pub record OperatorHasSort (operator : Op) (sorts : List Sort) : Type 0 where
  pub sort : Sort
  pub is : sort_of operator sorts ≡ Is sort

-- what the application itself weighs
abbrev pub applied_weight : Op → Exprs → List Sort → ℕ
applied_weight operator arguments sorts = operator_weight operator (count arguments) (sort_weight (given_by (sort_of operator sorts)))

-- an operator at arguments of these sorts; what the application itself weighs was taken
pub record ApplicationIsBuilt (operator : Op) (arguments : Exprs) (sorts : List Sort) (before after : Left) (built : Expr) (sort : Sort) : Type 0 where
  pub is : built ≡ Apply operator arguments
  pub has : sort_of operator sorts ≡ Is sort
  pub weight : before.weight ≡ after.weight + applied_weight operator arguments sorts
  pub counted : after.counted ≡ true → before.counted ≡ true
