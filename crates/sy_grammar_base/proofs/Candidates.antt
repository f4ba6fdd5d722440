-- Members of a problem's grammars are bodies that fit.
use Rattle.std.specs.Prelude.{Bool, true, List, [], ◌∷◌, map, Some, ◌≡◌, All}
use Rattle.std.proofs.Common.{subst}
use Rattle.std.proofs.lemmas.List.Elements.{All-head, All-tail}
use Rattle.sy_terms.specs.Values.{Val}
use Rattle.sy_terms.specs.Definitions.{scope_of}
use Rattle.sy_terms.specs.Denoted.{expr_of}
use Rattle.sy_terms.specs.Fitting.{sort_in}
use Rattle.sy_terms.specs.declared.op.Op.{Op}
use Rattle.sy_terms.specs.declared.op.Op.TheVariants as ops
use Rattle.sy_terms.specs.declared.sort.Sort.{Sort}
use Rattle.sy_terms.specs.declared.sort.Sort.TheVariants as sorts
use Rattle.sy_terms.specs.declared.term.Term.{Term}
use Rattle.sy_terms_operators.specs.Evaluation.{BodiesFit}
use Rattle.sy_grammar_base.specs.Fits.{GrammarFits, QuestionFits}
use Rattle.sy_grammar_base.specs.Grown.{syntax_from}
use Rattle.sy_grammar_base.specs.Questions.{goal_of, question_of, wanted_signature, signatures}
use Rattle.sy_grammar_base.specs.Solving.{AreMembers}
use Rattle.sy_grammar_base.specs.declared.problem.Problem.{Problem}
use Rattle.sy_grammar_base.specs.declared.problem.Wanted.{Wanted}
use Rattle.sy_grammar_base.proofs.Members.{member_fits}
use Rattle.sy_grammar_base.proofs.Problems.{problem_grammars}

all_fit : {T N : Type 0} (owned : Op → Bool) (numeric : Sort → Bool) (number : N → Val) (problem : Problem T N) → (numeric sorts.Int ≡ true → owned ops.Neg ≡ true) → (wanted : List (Wanted T N)) (bodies : List (Term T N)) → All (GrammarFits owned numeric number problem) wanted
    → AreMembers (map (goal_of number) wanted) (map (expr_of number) bodies) → BodiesFit owned number problem.defs bodies (map wanted_signature wanted)
all_fit owned numeric number problem negation [] [] fit members = tt
all_fit owned numeric number problem negation [] (body ∷ bodies) fit members = members
all_fit owned numeric number problem negation (w ∷ wanted) [] fit members = members
all_fit owned numeric number problem negation (w ∷ wanted) (body ∷ bodies) fit members =
    let it = All-head (GrammarFits owned numeric number problem) w wanted fit in (
      subst (λ arguments. sort_in (scope_of owned problem.defs) arguments (expr_of number body) ≡ Some w.sort) it.arguments
          (member_fits numeric (scope_of owned problem.defs) (syntax_from number w.grammar) negation it.formed w.sort (expr_of number body) it.start members.0),
      all_fit owned numeric number problem negation wanted bodies (All-tail (GrammarFits owned numeric number problem) w wanted fit) members.1,
    )

pub bodies_fit : {T N : Type 0} (owned : Op → Bool) (numeric : Sort → Bool) (number : N → Val) (problem : Problem T N) (bodies : List (Term T N)) → QuestionFits owned numeric (question_of number problem) → (numeric sorts.Int ≡ true → owned ops.Neg ≡ true)
    → AreMembers (question_of number problem).goals (map (expr_of number) bodies) → BodiesFit owned number problem.defs bodies (signatures problem)
bodies_fit owned numeric number problem bodies fit negation members = all_fit owned numeric number problem negation problem.wanted bodies (problem_grammars owned numeric number problem fit) members
