-- How the steps of notes fill a pattern's occurrences.
use Rattle.std.specs.Prelude.{ℕ, List, [], ◌∷◌, ◌++◌, ◌≡◌, slice_get, Option, Some, Bool, true, false}
use Rattle.sy_terms.specs.Expr as expr
use Rattle.sy_terms.specs.Expr.{Expr, Exprs}
use Rattle.sy_terms.specs.declared.term.Fun.TheVariants.{Defined}
use Rattle.sy_grammar_base.specs.Patterns.{Pattern, Patterns, Constant, Variable, Occurrence, Apply, Invoke}
use Rattle.sy_grammar_base.specs.Patterns as patterns
use Rattle.sy_grammar.specs.Notes as notes
use Rattle.sy_grammar.specs.Notes.{Notes}

-- the row's step for the nonterminal
abbrev pub IsTaken : List (Option ℕ) → ℕ → List ℕ → Type 0
IsTaken row nonterminal steps = (step : ℕ) × (slice_get row nonterminal ≡ Some (Some step)) × (steps ≡ step ∷ [])

unfoldable mutual
  -- the term is the pattern's with each occurrence replaced by what a step derives, and these are the steps:
  -- the row has them for the term itself, the notes below for its arguments
  pub Filled : Pattern → Expr → List (Option ℕ) → Notes → List ℕ → Type 0
  Filled (Constant value) term row below steps = (term ≡ expr.Constant value) × (steps ≡ [])
  Filled (Variable position) term row below steps = (term ≡ expr.Variable position) × (steps ≡ [])
  Filled (Occurrence nonterminal) term row below steps = IsTaken row nonterminal steps
  Filled (Apply operator parts) term row below steps = (terms : Exprs) × (term ≡ expr.Apply operator terms) × AllFilled parts terms below steps
  Filled (Invoke definition parts) term row below steps = (terms : Exprs) × (term ≡ expr.Invoke (Defined definition) terms) × AllFilled parts terms below steps

  pub AllFilled : Patterns → Exprs → Notes → List ℕ → Type 0
  AllFilled patterns.none expr.none below steps = steps ≡ []
  AllFilled patterns.none (expr.more term terms) below steps = ⊥
  AllFilled (patterns.more part parts) expr.none below steps = ⊥
  AllFilled (patterns.more part parts) (expr.more term terms) notes.none steps = ⊥
  AllFilled (patterns.more part parts) (expr.more term terms) (notes.more note below) steps =
      (front : List ℕ) × (back : List ℕ) × (steps ≡ front ++ back) × Filled part term (notes.note_row note) (notes.below note) front × AllFilled parts terms below back

-- the list grew by steps that fill; or no steps fill
abbrev pub Appends : (List ℕ → Type 0) → List ℕ → List ℕ → Bool → Type 0
Appends Fills before after true = (found : List ℕ) × (after ≡ before ++ found) × Fills found
Appends Fills before after false = (found : List ℕ) → Fills found → ⊥
