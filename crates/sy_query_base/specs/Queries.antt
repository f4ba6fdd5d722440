-- The query of a problem and bodies: it is true exactly where the bodies violate the problem.
use Rattle.std.specs.Prelude.{◌↔◌, All, List, [], ◌∷◌, length, map, true}
use Rattle.sy_terms.specs.Values.{Val, Truth}
use Rattle.sy_terms.specs.Expr.{Expr, Exprs, Constant, Apply, none, more, append}
use Rattle.sy_terms.specs.declared.op.Op.TheVariants.{And, Not}
use Rattle.sy_grammar_base.specs.Questions.{Question}
use Rattle.sy_grammar_base.specs.Solving.{AreValues, IsTrueUnder}
use Rattle.sy_query_base.specs.Asked.{Query, Satisfies}
use Rattle.sy_query_base.specs.Placed.{placed, placements, placement_from}

-- a list of terms in a row
abbrev pub in_row : List Expr → Exprs
in_row [] = none
in_row (term ∷ terms) = more term (in_row terms)

-- all of the terms; true where there is none
abbrev pub conjunction : List Expr → Expr
conjunction [] = Constant (Truth true)
conjunction (term ∷ terms) = Apply And (in_row (term ∷ terms))

-- every assumption, and not every constraint
abbrev pub violated : List Expr → List Expr → Expr
violated assumptions constraints = Apply And (append (in_row assumptions) (more (Apply Not (more (conjunction constraints) none)) none))

-- a term of the problem with its calls replaced by these bodies
abbrev pub without_calls : Question → List Expr → Expr → Expr
without_calls question bodies term =
    placed (placements question.definitions) (map (placement_from (placements question.definitions)) bodies) 0 (length question.variables) term

-- the query of a problem and bodies, over the problem's variables
abbrev pub violating : Question → List Expr → Query
violating question bodies = record {
  variables = question.variables;
  body = violated (map (without_calls question bodies) question.assumptions) (map (without_calls question bodies) question.constraints);
}

-- the bodies make every assumption true, and not every constraint
abbrev pub Violates : Question → List Expr → List Val → Type 0
Violates question bodies values =
    All (IsTrueUnder question bodies values) question.assumptions × (All (IsTrueUnder question bodies values) question.constraints → ⊥)

-- an assignment satisfies the query exactly where the bodies violate the problem
abbrev pub IsViolation : Question → List Expr → Query → Type 0
IsViolation question bodies query =
    (values : List Val) → AreValues question.variables values → (Satisfies query values ↔ Violates question bodies values)
