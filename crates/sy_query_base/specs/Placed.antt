-- Terms with their calls replaced by the called bodies.
use Rattle.std.specs.Prelude.{ℕ, ◌+◌, List, [], ◌∷◌, ◌++◌, Option, Some, None, false, slice_get}
use Rattle.sy_terms.specs.Values.{Truth}
use Rattle.sy_terms.specs.Expr.{Expr, Exprs, Constant, Variable, Apply, Invoke, Bind, none, more}
use Rattle.sy_terms.specs.declared.term.Fun.{Fun}
use Rattle.sy_terms.specs.declared.term.Fun.TheVariants.{Defined, Wanted}

-- a function's body with its calls replaced, where its first argument stands at a position of the list in force,
-- and the list in force has a length
abbrev pub Placement : Type 0
Placement = ℕ → ℕ → Expr

abbrev pub placement_of : List Placement → List Placement → Fun → Option Placement
placement_of defined wanted (Defined f) = slice_get defined f
placement_of defined wanted (Wanted f) = slice_get wanted f

abbrev pub called_at : Option Placement → ℕ → ℕ → Expr
called_at None first long = Constant (Truth false)
called_at (Some placement) first long = placement first long

-- how many terms a list has
abbrev pub count : Exprs → ℕ
count none = 0
count (more first rest) = count rest + 1

unfoldable mutual
  -- a term with its own list of values beginning at position `first` of the list in force, which has length `long`:
  -- each call is a binding of its arguments around the called body
  pub placed : List Placement → List Placement → ℕ → ℕ → Expr → Expr
  placed defined wanted first long (Constant value) = Constant value
  placed defined wanted first long (Variable position) = Variable (first + position)
  placed defined wanted first long (Apply operator arguments) = Apply operator (all_placed defined wanted first long arguments)
  placed defined wanted first long (Invoke function arguments) = Bind (all_placed defined wanted first long arguments) (called_at (placement_of defined wanted function) long (long + count arguments))
  placed defined wanted first long (Bind bound inner) = Bind (all_placed defined wanted first long bound) (placed defined wanted first (long + count bound) inner)

  pub all_placed : List Placement → List Placement → ℕ → ℕ → Exprs → Exprs
  all_placed defined wanted first long none = none
  all_placed defined wanted first long (more term rest) = more (placed defined wanted first long term) (all_placed defined wanted first long rest)

-- the placement of a body that calls only definitions
abbrev pub placement_from : List Placement → Expr → Placement
placement_from defined body = λ first long. placed defined [] first long body

-- the placements of definitions, each of which calls only those before it, after those of earlier ones
abbrev pub placements_after : List Placement → List Expr → List Placement
placements_after earlier [] = earlier
placements_after earlier (body ∷ bodies) = placements_after (earlier ++ placement_from earlier body ∷ []) bodies

abbrev pub placements : List Expr → List Placement
placements definitions = placements_after [] definitions
