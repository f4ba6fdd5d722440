-- How many constraints bodies meet, where there are no variables.
use Rattle.std.specs.Prelude.{ℕ, Bool, true, List, [], map, count_by, ◌≡◌}
use Rattle.sy_terms.specs.Values.{Val, truth}
use Rattle.sy_terms.specs.Expr.{Expr}
use Rattle.sy_terms.specs.Meaning.{meaning, function_from, functions}
use Rattle.sy_terms.specs.Theories.{fits}
use Rattle.sy_terms.specs.declared.op.Op.{Op}
use Rattle.sy_grammar_base.specs.Questions.{Question}

-- each value of these operators fits the machine's numbers
abbrev pub AlwaysFit : (Op → Bool) → Type 0
AlwaysFit owned = (operator : Op) (values : List Val) → owned operator ≡ true → fits operator values ≡ true

-- whether the term is true, where the functions to be found have these bodies
abbrev pub is_met : Question → List Expr → Expr → Bool
is_met question bodies term = truth (meaning (functions question.definitions) (map (function_from (functions question.definitions)) bodies) [] term)

-- how many of the constraints are
abbrev pub met_count : Question → List Expr → ℕ
met_count question bodies = count_by (is_met question bodies) question.constraints
