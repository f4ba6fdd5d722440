-- When nothing solves a problem.
use Rattle.std.specs.Prelude.{ℕ, List}
use Rattle.sy_terms.specs.Expr.{Expr}
use Rattle.sy_grammar_base.specs.Questions.{Question}
use Rattle.sy_grammar_base.specs.Solving.{AreMembers, Solves}
use Rattle.sy_loop_spec.specs.Bounds.{InBound}
use Rattle.sy_loop_spec.specs.declared.reach.Reach.{Reach}

-- no bodies in bound n solve the problem
abbrev pub NoSolutionWithin : Reach → Question → ℕ → Type 0
NoSolutionWithin reach question n = (bodies : List Expr) → InBound reach question n bodies → Solves question bodies → ⊥

-- no members of the grammars at all do
abbrev pub NoSolution : Question → Type 0
NoSolution question = (bodies : List Expr) → AreMembers question.goals bodies → Solves question bodies → ⊥
