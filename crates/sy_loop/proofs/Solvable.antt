-- An outcome that is right is complete: nothing in bound solves a problem of which it says so.
use Rattle.std.specs.Prelude.{ℕ, Bool, List, [], ◌∷◌, ◌⊎◌}
use Rattle.std.proofs.Common.{⊎_elim, sym, subst}
use Rattle.sy_terms.specs.Values.{Val}
use Rattle.sy_terms.specs.Expr.{Expr}
use Rattle.sy_terms.specs.declared.op.Op.{Op}
use Rattle.sy_grammar_base.specs.Questions.{Question}
use Rattle.sy_grammar_base.specs.Solving.{AreMembers, AreWithin}
use Rattle.sy_query_base.specs.Asked.{Query}
use Rattle.sy_query_limits.specs.declared.FailName.{FailName}
use Rattle.sy_query_limits.specs.declared.Limits.{Limits}
use Rattle.sy_loop_spec.specs.Bounds.{InBound, IsJoinedWithin}
use Rattle.sy_loop_spec.specs.Conditional.{yield}
use Rattle.sy_loop_spec.specs.declared.reach.Reach.{Reach}
use Rattle.sy_loop_spec.specs.declared.reach.Reach.TheVariants.{Sizes, Joins}
use Rattle.sy_loop_spec.proofs.Conditional.{tree_is_member}
use Rattle.sy_loop_candidate.proofs.Ending.{members}
use Rattle.sy_loop_spec.specs.Right.{IsRight}
use Rattle.sy_loop_spec.specs.declared.outcome.FailCause.TheVariants as causes
use Rattle.sy_loop_spec.specs.declared.outcome.Outcome.{Outcome}
use Rattle.sy_loop_spec.specs.declared.outcome.Outcome.TheVariants.{Found, Infeasible, Fail}
use Rattle.sy_loop.specs.Solvable.{IsComplete}

-- bodies in bound are members
tree_members : (question : Question) (n : ℕ) (bodies : List Expr) → IsJoinedWithin question n bodies → AreMembers question.goals bodies
tree_members question n bodies joined =
    let body = yield joined.parts in
    let one : AreMembers (joined.goal ∷ []) (body ∷ []) = (tree_is_member joined.goal.grammar question.pool joined.rule joined.condition n joined.parts joined.chooses joined.within, tt) in
    subst (λ goals. AreMembers goals bodies) (sym joined.one) (subst (AreMembers (joined.goal ∷ [])) (sym joined.is) one)

either_members : (question : Question) (n : ℕ) (bodies : List Expr) → AreWithin question.pool n question.goals bodies ⊎ IsJoinedWithin question n bodies → AreMembers question.goals bodies
either_members question n bodies bound = ⊎_elim
    (λ (within : AreWithin question.pool n question.goals bodies). members question.pool n question.goals bodies within)
    (λ (joined : IsJoinedWithin question n bodies). tree_members question n bodies joined)
    bound

bound_members : (reach : Reach) (question : Question) (n : ℕ) (bodies : List Expr) → InBound reach question n bodies → AreMembers question.goals bodies
bound_members Sizes question n bodies bound = members question.pool n question.goals bodies bound
bound_members Joins question n bodies bound = either_members question n bodies bound

module _ {T P S N : Type 0} (owned : Op → Bool) (number : N → Val) (accepted : Query → P → Type 0) (budget : S → FailName) (shows : Query → Limits → FailName → S → Type 0)
    (reach : Reach) (question : Question) (limits : Limits) where
  pub complete : (outcome : Outcome T P S N) → IsRight owned number accepted budget shows reach question limits outcome → IsComplete reach question limits.size outcome
  complete (Found bodies proof) right some = tt
  complete Infeasible right some = right.0 some.bodies (bound_members reach question limits.size some.bodies some.bound) some.solves
  complete (Fail causes.Size) right some = right.0 some.bodies some.bound some.solves
  complete (Fail (causes.Rounds stored)) right some = tt
  complete (Fail (causes.Points stored function bodies assignment tuples)) right some = tt
  complete (Fail (causes.Bank stored function bank nonterminal next)) right some = tt
  complete (Fail (causes.Weight stored bodies)) right some = tt
  complete (Fail (causes.Decide stored bodies spent)) right some = tt
  complete (Fail (causes.Range stored left)) right some = tt
