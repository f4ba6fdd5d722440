-- Which bodies are in bound.
use Rattle.std.specs.Prelude.{ℕ, List, [], ◌∷◌, ◌≡◌, ◌⊎◌}
use Rattle.sy_terms.specs.Expr.{Expr}
use Rattle.sy_grammar_base.specs.Questions.{Goal, Question}
use Rattle.sy_grammar_base.specs.Solving.{AreWithin}
use Rattle.sy_loop_spec.specs.Pointwise.{IsPointwise}
use Rattle.sy_loop_spec.specs.Conditional.{Conditional, yield, ArePartsWithin, IsTreeRule}
use Rattle.sy_loop_spec.specs.declared.reach.Reach.{Reach}
use Rattle.sy_loop_spec.specs.declared.reach.Reach.TheVariants.{Sizes, Joins}

-- the problem is pointwise, its grammar has a rule for conditional trees, and the one body is such a tree, of parts of sizes
-- of at most n
pub record IsJoinedWithin (question : Question) (n : ℕ) (bodies : List Expr) : Type 0 where
  pub goal : Goal
  pub one : question.goals ≡ goal ∷ []
  pub pointwise : IsPointwise question
  pub rule : ℕ
  pub condition : ℕ
  pub chooses : IsTreeRule goal.grammar rule condition
  pub parts : Conditional
  pub within : ArePartsWithin goal.grammar question.pool condition n parts
  pub is : bodies ≡ yield parts ∷ []

-- the bodies are in bound n
abbrev pub InBound : Reach → Question → ℕ → List Expr → Type 0
InBound Sizes question n bodies = AreWithin question.pool n question.goals bodies
InBound Joins question n bodies = AreWithin question.pool n question.goals bodies ⊎ IsJoinedWithin question n bodies
