-- Which problems have conditional trees.
use Rattle.std.specs.Prelude.{Bool, true, ◌≡◌, ◌≤◌, List, length, slice_get, Some}
use Rattle.std.specs.Option.{option_map}
use Rattle.std.proofs.Common.{arith, ap, sym, ◌∙◌, subst}
use Rattle.std.proofs.lemmas.List.{length-map}
use Rattle.std.proofs.lemmas.List.Elements.{All-contains}
use Rattle.std.proofs.lemmas.Option.{slice_get-map}
use Rattle.sy_terms.specs.Values.{Val}
use Rattle.sy_terms.specs.Definitions.{scope_of}
use Rattle.sy_terms.specs.declared.op.Op.{Op}
use Rattle.sy_terms.specs.declared.sort.Sort.{Sort}
use Rattle.sy_grammar_base.specs.Fits.{GrammarFits, QuestionFits}
use Rattle.sy_grammar_base.specs.Formed.{is_formed}
use Rattle.sy_grammar_base.specs.Grown.{syntax_from}
use Rattle.sy_grammar_base.specs.Questions.{Goal, Question, goal_of, question_of}
use Rattle.sy_grammar_base.specs.declared.problem.Problem.{Problem}
use Rattle.sy_grammar_base.specs.declared.problem.Wanted.{Wanted}
use Rattle.sy_grammar_base.proofs.Problems.{problem_grammars}
use Rattle.sy_loop_spec.specs.Conditional.{IsTreeRule}
use Rattle.sy_loop_spec.specs.Pointwise.{IsPointwise}
use Rattle.sy_loop_spec.specs.declared.reach.Reach.{Reach}
use Rattle.sy_loop_truth.proofs.Items.{has_place}
use Rattle.sy_loop_trees.specs.Conditions as conditions
use Rattle.sy_loop_goods.specs.Memos.{IsMemo}
use Rattle.sy_loop_goods.specs.declared.memo.Memo.{Memo}
use Rattle.sy_loop.specs.Plans.{IsPlan, TriesNoTrees}
use Rattle.sy_loop.specs.declared.plan.Plan.{Plan}

module _ {T N : Type 0} (number : N → Val) (problem : Problem T N) (reach : Reach) where
  -- nothing is to be found
  pub none_wanted : length problem.wanted ≤ 0 → TriesNoTrees reach (question_of number problem)
  none_wanted none tries n bodies joined =
      let one : length (question_of number problem).goals ≡ 1 = ap length joined.one in
      absurd (omega (arith, one, none, length-map problem.wanted (goal_of number)))

  pub first_goal : (wanted : Wanted T N) → slice_get problem.wanted 0 ≡ Some wanted → slice_get (question_of number problem).goals 0 ≡ Some (goal_of number wanted)
  first_goal wanted at = slice_get-map (goal_of number) problem.wanted 0 ∙ ap (option_map (goal_of number)) at

  -- no rule makes them
  pub none_chooses : (wanted : Wanted T N) → slice_get problem.wanted 0 ≡ Some wanted → conditions.HasNoTrees (syntax_from number wanted.grammar) → TriesNoTrees reach (question_of number problem)
  none_chooses wanted at none tries n bodies joined =
      let found : Some joined.goal ≡ Some (goal_of number wanted) = sym (ap (λ (goals : List Goal). slice_get goals 0) joined.one) ∙ first_goal wanted at in
      let same : joined.goal ≡ goal_of number wanted = cc in
      absurd (none joined.rule joined.condition (subst (λ (goal : Goal). IsTreeRule goal.grammar joined.rule joined.condition) same joined.chooses))

  -- some constraint isn't pointwise
  pub none_pointwise : (IsPointwise (question_of number problem) → ⊥) → TriesNoTrees reach (question_of number problem)
  none_pointwise none tries n bodies joined = absurd (none joined.pointwise)

-- the first grammar is well formed
pub formed_first : {T N : Type 0} (owned : Op → Bool) (numeric : Sort → Bool) (number : N → Val) (problem : Problem T N) (wanted : Wanted T N) → QuestionFits owned numeric (question_of number problem) → slice_get problem.wanted 0 ≡ Some wanted →
    is_formed numeric (scope_of owned problem.defs) (syntax_from number wanted.grammar) ≡ true
formed_first owned numeric number problem wanted fit at =
    (All-contains (GrammarFits owned numeric number problem) problem.wanted wanted (problem_grammars owned numeric number problem fit) (has_place problem.wanted 0 wanted at)).formed

-- a plan to which more was told
pub with_memo : {T N : Type 0} (number : N → Val) (reach : Reach) (question : Question) (plan : Plan T N) (memo : Memo T N) → IsPlan number reach question plan → IsMemo number question memo → IsPlan number reach question (record plan { memo = memo })
with_memo number reach question plan memo is told = record { tries = is.tries; pointwise = is.pointwise; posed = is.posed; memo = told; goal = is.goal; at = is.at; rule = is.rule; chooses = is.chooses }
