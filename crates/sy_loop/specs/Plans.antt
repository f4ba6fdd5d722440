-- What a search has to know of a problem to join terms by conditional trees.
use Rattle.std.specs.Prelude.{ℕ, ◌≡◌, List, Some, slice_get}
use Rattle.sy_terms.specs.Values.{Val}
use Rattle.sy_terms.specs.Expr.{Expr}
use Rattle.sy_grammar_base.specs.Questions.{Goal, Question}
use Rattle.sy_loop_spec.specs.Bounds.{IsJoinedWithin}
use Rattle.sy_loop_spec.specs.Conditional.{IsTreeRule}
use Rattle.sy_loop_spec.specs.Pointwise.{IsPointwise}
use Rattle.sy_loop_spec.specs.declared.reach.Reach.{Reach}
use Rattle.sy_loop_spec.specs.declared.reach.Reach.TheVariants.{Sizes, Joins}
use Rattle.sy_loop_pointwise.specs.Posed.{ArePosed}
use Rattle.sy_loop_goods.specs.Memos.{IsMemo}
use Rattle.sy_loop.specs.declared.plan.Plan.{Plan}

-- whether a search of this reach tries conditional trees
abbrev pub TriesTrees : Reach → Type 0
TriesTrees Sizes = ⊥
TriesTrees Joins = Unit {0}

-- it tries none, or the problem has none in any bound
abbrev pub TriesNoTrees : Reach → Question → Type 0
TriesNoTrees reach question = TriesTrees reach → (n : ℕ) (bodies : List Expr) → IsJoinedWithin question n bodies → ⊥

-- it tries trees, whose conditions are of the plan's nonterminal; the problem is pointwise, and the plan has its constraints and
-- what they told
pub record IsPlan {T N : Type 0} (number : N → Val) (reach : Reach) (question : Question) (plan : Plan T N) : Type 0 where
  pub tries : TriesTrees reach
  pub pointwise : IsPointwise question
  pub posed : ArePosed question plan.posed.items
  pub memo : IsMemo number question plan.memo
  pub goal : Goal
  pub at : slice_get question.goals 0 ≡ Some goal
  pub rule : ℕ
  pub chooses : IsTreeRule goal.grammar rule plan.condition
