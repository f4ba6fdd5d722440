-- What the search knows of kept terms that are chosen as bodies.
use Rattle.std.proofs.Common.{◌≡◌, ap, subst, ◌∙◌, ℕ, Bool, true, List, [], ◌∷◌, map, Some}
use Rattle.std.specs.List.{All}
use Rattle.std.specs.Option.{option_map}
use Rattle.std.proofs.lemmas.Option.{slice_get-map}
use Rattle.std.proofs.lemmas.List.Elements.{All-head, All-tail}
use denote.Ref.{Bor}
use Rattle.sy_terms.specs.Values.{Val}
use Rattle.sy_terms.specs.Expr.{Expr}
use Rattle.sy_terms.specs.Denoted.{expr_of}
use Rattle.sy_terms.specs.Definitions.{scope_of}
use Rattle.sy_terms.specs.Fitting.{sort_in}
use Rattle.sy_terms.specs.declared.op.Op.{Op}
use Rattle.sy_terms.specs.declared.op.Op.TheVariants as ops
use Rattle.sy_terms.specs.declared.sort.Sort.{Sort}
use Rattle.sy_terms.specs.declared.sort.Sort.TheVariants as sorts
use Rattle.sy_terms.specs.declared.term.Term.{Term}
use Rattle.sy_terms_operators.specs.Evaluation.{BodiesFit}
use Rattle.sy_grammar_base.specs.Fits.{GrammarFits, QuestionFits}
use Rattle.sy_grammar_base.specs.Grown.{syntax_from}
use Rattle.sy_grammar_base.specs.Questions.{question_of, goal_of, signatures, wanted_signature}
use Rattle.sy_grammar_base.specs.Solving.{AreMembers, AreWithin}
use Rattle.sy_grammar_base.specs.declared.problem.Problem.{Problem}
use Rattle.sy_grammar_base.specs.declared.problem.Wanted.{Wanted}
use Rattle.sy_grammar_base.proofs.Candidates.{bodies_fit}
use Rattle.sy_grammar_base.proofs.Members.{member_fits}
use Rattle.sy_grammar_base.proofs.Problems.{problem_grammars}
use Rattle.sy_query_limits.specs.declared.Limits.{Limits}
use Rattle.sy_points.specs.Asked.{Asked}
use Rattle.sy_bank_level.specs.Stored.{entry_of, chosen_of}
use Rattle.sy_bank_level.specs.declared.kept.Kept.{Kept}
use Rattle.sy_loop_spec.specs.declared.reach.Reach.{Reach}
use Rattle.sy_loop_spec.specs.Histories.{Counterexample}
use Rattle.sy_loop_truth.specs.Known.{IsKnown}
use Rattle.sy_loop_candidate.proofs.Ending.{members}
use Rattle.sy_loop_candidate.specs.Bodies.{AreBodies}
use Rattle.sy_loop_candidate.specs.Observing as observing
use Rattle.sy_loop_candidate.specs.Refuting.{AreAssignments}
use Rattle.sy_loop.specs.Levels.{BodiesHaveRows}

-- members fit as bodies
pub candidate_fits : {T N : Type 0} (owned : Op → Bool) (numeric : Sort → Bool) (number : N → Val) (problem : Problem T N) (size : ℕ) (bodies : List (Term T N)) → QuestionFits owned numeric (question_of number problem) → (numeric sorts.Int ≡ true → owned ops.Neg ≡ true) →
    AreWithin (question_of number problem).pool size (question_of number problem).goals (map (expr_of number) bodies) → BodiesFit owned number problem.defs bodies (signatures problem)
candidate_fits owned numeric number problem size bodies fit negation candidate =
    bodies_fit owned numeric number problem bodies fit negation (members (question_of number problem).pool size (question_of number problem).goals (map (expr_of number) bodies) candidate)

-- and so do bodies that are members of their grammars
all_fit : {T N : Type 0} (owned : Op → Bool) (numeric : Sort → Bool) (number : N → Val) (problem : Problem T N) → (numeric sorts.Int ≡ true → owned ops.Neg ≡ true) → (wanted : List (Wanted T N)) (bodies : List Expr) → All (GrammarFits owned numeric number problem) wanted →
    AreMembers (map (goal_of number) wanted) bodies → AreBodies owned problem.defs bodies (map wanted_signature wanted)
all_fit owned numeric number problem negation [] [] fit members = tt
all_fit owned numeric number problem negation [] (body ∷ bodies) fit members = members
all_fit owned numeric number problem negation (w ∷ wanted) [] fit members = members
all_fit owned numeric number problem negation (w ∷ wanted) (body ∷ bodies) fit members =
    let it = All-head (GrammarFits owned numeric number problem) w wanted fit in (
      subst (λ arguments. sort_in (scope_of owned problem.defs) arguments body ≡ Some w.sort) it.arguments
          (member_fits numeric (scope_of owned problem.defs) (syntax_from number w.grammar) negation it.formed w.sort body it.start members.0),
      all_fit owned numeric number problem negation wanted bodies (All-tail (GrammarFits owned numeric number problem) w wanted fit) members.1,
    )

pub chosen_fit : {T N : Type 0} (owned : Op → Bool) (numeric : Sort → Bool) (number : N → Val) (problem : Problem T N) (size : ℕ) (bodies : List Expr) → QuestionFits owned numeric (question_of number problem) → (numeric sorts.Int ≡ true → owned ops.Neg ≡ true) →
    AreWithin (question_of number problem).pool size (question_of number problem).goals bodies → AreBodies owned problem.defs bodies (signatures problem)
chosen_fit owned numeric number problem size bodies fit negation candidate =
    all_fit owned numeric number problem negation problem.wanted bodies (problem_grammars owned numeric number problem fit) (members (question_of number problem).pool size (question_of number problem).goals bodies candidate)

pub rows_are : {T N : Type 0} (owned : Op → Bool) (number : N → Val) (problem : Problem T N) (asked : Asked) (chosen : List (Bor (Kept T N))) → BodiesHaveRows (scope_of owned problem.defs) (question_of number problem) asked (chosen_of number chosen) →
    observing.KeptHaveRows owned number problem.defs asked chosen
rows_are owned number problem asked chosen rows function kept at =
    rows function (entry_of number kept.now) (slice_get-map (λ (k : Bor (Kept _ _)). entry_of number k.now) chosen function ∙ ap (option_map (λ (k : Bor (Kept _ _)). entry_of number k.now)) at)

-- stored assignments are of the problem's variables
pub assignments_are : {T N : Type 0} (number : N → Val) (reach : Reach) (problem : Problem T N) (limits : Limits) (history : List Counterexample) (asked : Asked) → IsKnown reach (question_of number problem) limits history asked → AreAssignments (question_of number problem) history
assignments_are number reach problem limits history asked known = known.held.assigned
