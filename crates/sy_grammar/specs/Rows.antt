-- When rows and notes are right.
use Rattle.std.specs.Prelude.{ℕ, ◌+◌, ◌^◌, ℤ, pos, negsuc, List, [], ◌∷◌, ◌++◌, ◌≡◌, ◌<◌, length, slice_get, Option, Some, None}
use Rattle.sy_terms.specs.Values.{Val, Whole}
use Rattle.sy_terms.specs.Denoted.{val_of}
use Rattle.sy_terms.specs.Expr as expr
use Rattle.sy_terms.specs.Expr.{Expr, Exprs}
use Rattle.sy_terms.specs.declared.sort.Sort.{Sort}
use Rattle.sy_grammar_base.specs.Trees.{Tree, Syntax, Production, Template, EachConstant, EachVariable, Derives, rule_at, constant_yield, variable_yield}
use Rattle.sy_grammar.specs.Filled.{Filled}
use Rattle.sy_grammar.specs.Notes as notes
use Rattle.sy_grammar.specs.Notes.{Note, Notes, Noted}
use Rattle.sy_grammar.specs.Steps.{tree_at, step_trees, AreInOrder}
use Rattle.sy_grammar.specs.declared.step.Step.{Step}
use Rattle.sy_grammar.specs.declared.step.Step.TheVariants.{Node, Constant, Variable}

-- the row has a step for the nonterminal
abbrev pub HasStep : List (Option ℕ) → ℕ → Type 0
HasStep row nonterminal = (step : ℕ) × (slice_get row nonterminal ≡ Some (Some step))

-- each step that the row has derives the term from its nonterminal
pub record RowIsSound (syntax : Syntax) (trees : List Tree) (term : Expr) (row : List (Option ℕ)) : Type 0 where
  pub derives : (nonterminal step : ℕ) → slice_get row nonterminal ≡ Some (Some step) → (step < length trees) × Derives syntax nonterminal (tree_at trees step) term

-- the row has a step for each nonterminal that derives the term
pub record RowIsWhole (syntax : Syntax) (term : Expr) (row : List (Option ℕ)) : Type 0 where
  pub found : (nonterminal : ℕ) → (tree : Tree) → Derives syntax nonterminal tree term → HasStep row nonterminal

-- the arguments of an application or a call
abbrev pub arguments_of : Expr → Exprs
arguments_of (expr.Constant value) = expr.none
arguments_of (expr.Variable position) = expr.none
arguments_of (expr.Apply operator arguments) = arguments
arguments_of (expr.Invoke function arguments) = arguments
arguments_of (expr.Bind bound inner) = expr.none

unfoldable mutual
  pub NoteIsRight : Syntax → List Tree → Expr → Note → Type 0
  NoteIsRight syntax trees term (Noted row below) = RowIsSound syntax trees term row × RowIsWhole syntax term row × NotesAreRight syntax trees (arguments_of term) below

  pub NotesAreRight : Syntax → List Tree → Exprs → Notes → Type 0
  NotesAreRight syntax trees expr.none notes.none = Unit {0}
  NotesAreRight syntax trees (expr.more term terms) (notes.more note below) = NoteIsRight syntax trees term note × NotesAreRight syntax trees terms below
  NotesAreRight syntax trees expr.none (notes.more note below) = ⊥
  NotesAreRight syntax trees (expr.more term terms) notes.none = ⊥

-- a rule for all constants of the sort gives the value, which the term writes
abbrev pub IsConstant : Sort → Expr → Val → Type 0
IsConstant sort term value = constant_yield (Some (EachConstant sort)) value ≡ Some term

-- the value is minus an integer above 0 and below 2 ^ 127
pub record IsOpposite (whole : ℤ) (value : Val) : Type 0 where
  pub less : ℕ
  pub above : whole ≡ pos (less + 1)
  pub is : value ≡ Whole (negsuc less)
  pub fits : less + 1 < 2 ^ 127

-- a rule for all arguments of the sort gives the position, which the term names
abbrev pub IsArgumentOf : Sort → List Sort → Expr → ℕ → Type 0
IsArgumentOf sort arguments term position = variable_yield (Some (EachVariable sort)) arguments position ≡ Some term

-- the rule of this number makes the step, from what the row and the notes have
abbrev pub Makes : {T N : Type 0} → (N → Val) → List Sort → ℕ → Expr → List (Option ℕ) → Notes → Production → Step T N → Type 0
Makes number arguments place term row below (Template pattern) (Node rule steps) = (rule ≡ place) × Filled pattern term row below steps.items
Makes number arguments place term row below (EachConstant sort) (Constant rule value) = (rule ≡ place) × IsConstant sort term (val_of number value)
Makes number arguments place term row below (EachVariable sort) (Variable rule position) = (rule ≡ place) × IsArgumentOf sort arguments term position
Makes number arguments place term row below _ _ = ⊥

-- the rule makes none
abbrev pub MakesNone : List Sort → Expr → List (Option ℕ) → Notes → Production → Type 0
MakesNone arguments term row below (Template pattern) = (steps : List ℕ) → Filled pattern term row below steps → ⊥
MakesNone arguments term row below (EachConstant sort) = (value : Val) → IsConstant sort term value → ⊥
MakesNone arguments term row below (EachVariable sort) = (position : ℕ) → IsArgumentOf sort arguments term position → ⊥

-- no rule makes a step for a nonterminal that lacks one
pub record RowIsClosed (syntax : Syntax) (term : Expr) (row : List (Option ℕ)) (below : Notes) : Type 0 where
  pub sized : length row ≡ length syntax.nonterminals
  pub none : (nonterminal rule : ℕ) (production : Production) → slice_get row nonterminal ≡ Some None → rule_at syntax nonterminal rule ≡ Some production →
      MakesNone syntax.arguments term row below production

-- some rule of the nonterminal makes the step
pub record IsMade {T N : Type 0} (number : N → Val) (syntax : Syntax) (nonterminal : ℕ) (term : Expr) (row : List (Option ℕ)) (below : Notes) (step : Step T N) : Type 0 where
  pub rule : ℕ
  pub production : Production
  pub at : rule_at syntax nonterminal rule ≡ Some production
  pub makes : Makes number syntax.arguments rule term row below production step

-- some rule of these makes the step
pub record IsMadeBy {T N : Type 0} (number : N → Val) (arguments : List Sort) (productions : List Production) (term : Expr) (row : List (Option ℕ)) (below : Notes) (step : Step T N) : Type 0 where
  pub rule : ℕ
  pub production : Production
  pub at : slice_get productions rule ≡ Some production
  pub makes : Makes number arguments rule term row below production step

-- no rule of these makes a step
abbrev pub IsMadeByNone : List Sort → List Production → Expr → List (Option ℕ) → Notes → Type 0
IsMadeByNone arguments productions term row below = (rule : ℕ) → (production : Production) → slice_get productions rule ≡ Some production → MakesNone arguments term row below production

-- steps were added, in order
pub record IsGrown {T N : Type 0} (number : N → Val) (before after : List (Step T N)) : Type 0 where
  pub ordered : AreInOrder after
  pub later : List Tree
  pub is : step_trees number after ≡ step_trees number before ++ later

-- the row has no step
abbrev pub IsBlank : List (Option ℕ) → Type 0
IsBlank row = (nonterminal step : ℕ) → slice_get row nonterminal ≡ Some (Some step) → ⊥

-- how many nonterminals have no step
abbrev pub missing_steps : List (Option ℕ) → ℕ
missing_steps [] = 0
missing_steps (None ∷ row) = missing_steps row + 1
missing_steps (Some step ∷ row) = missing_steps row

-- what holds while a row is filled: its steps are right, and come after those before
pub record IsFilling {T N : Type 0} (number : N → Val) (syntax : Syntax) (term : Expr) (row : List (Option ℕ)) (before after : List (Step T N)) : Type 0 where
  pub sized : length row ≡ length syntax.nonterminals
  pub grown : IsGrown number before after
  pub sound : RowIsSound syntax (step_trees number after) term row

-- a row that is right
pub record IsRowOfSteps {T N : Type 0} (number : N → Val) (syntax : Syntax) (term : Expr) (row : List (Option ℕ)) (below : Notes) (before after : List (Step T N)) : Type 0 where
  pub grown : IsGrown number before after
  pub right : NoteIsRight syntax (step_trees number after) term (Noted row below)

-- a note that is right, and its steps
pub record IsNoted {T N : Type 0} (number : N → Val) (syntax : Syntax) (term : Expr) (note : Note) (before after : List (Step T N)) : Type 0 where
  pub grown : IsGrown number before after
  pub right : NoteIsRight syntax (step_trees number after) term note

pub record AreNoted {T N : Type 0} (number : N → Val) (syntax : Syntax) (terms : Exprs) (notes : Notes) (before after : List (Step T N)) : Type 0 where
  pub grown : IsGrown number before after
  pub right : NotesAreRight syntax (step_trees number after) terms notes
