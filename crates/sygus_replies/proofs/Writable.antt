-- Members of the grammars can be written.
use Rattle.std.proofs.Common.{◌≤◌, ap, subst, ℕ, List, [], length, arith}
use Rattle.std.specs.Prelude.{Bool, All}
use Rattle.std.proofs.lemmas.List.{length-map}
use Rattle.std.proofs.lemmas.List.Elements.{All-weaker}
use Rattle.sy_terms.specs.Values.{Val}
use Rattle.sy_terms.specs.Expr.{Expr}
use Rattle.sy_terms.specs.Definitions.{signature, body}
use Rattle.sy_terms.specs.declared.op.Op.{Op}
use Rattle.sy_terms.specs.declared.sort.Sort.{Sort}
use Rattle.sy_scope_causes.specs.declared.titles.Titles.{Titles}
use Rattle.sy_grammar_base.specs.Fits.{with_functions, GoalFits}
use Rattle.sy_grammar_base.specs.Questions.{Question, question_of}
use Rattle.sy_grammar_base.specs.Solving.{AreMembers}
use Rattle.sy_grammar_base.specs.declared.problem.Problem.{Problem}
use Rattle.sy_reply.specs.Writable.{HaveBodies}
use Rattle.sy_reply.proofs.Members.{IsGiven, members_written}
use Rattle.sygus_replies.specs.Answerable.{IsAnswerable}

module _ {owned : Op → Bool} {numeric : Sort → Bool} where
  bodies_written : (titles : Titles) (question : Question) (bodies : List Expr) → IsAnswerable owned numeric titles question → AreMembers question.goals bodies → HaveBodies (length question.signatures) question.goals bodies
  bodies_written titles question bodies is members =
      let scope = with_functions owned question.signatures [] in
      members_written numeric scope question.goals bodies
      (All-weaker (GoalFits owned numeric question.signatures) (IsGiven numeric scope) (λ goal fits. record { arguments = ap length fits.arguments; formed = fits.formed }) question.goals is.fits.goals) members

  pub problem_written : {T N : Type 0} (number : N → Val) (titles : Titles) (problem : Problem T N) (bodies : List Expr) → IsAnswerable owned numeric titles (question_of number problem) → AreMembers (question_of number problem).goals bodies
      → HaveBodies (length problem.defs) (question_of number problem).goals bodies
  problem_written number titles problem bodies is members =
      subst (λ (n : ℕ). HaveBodies n (question_of number problem).goals bodies) (length-map problem.defs signature) (bodies_written titles (question_of number problem) bodies is members)

  -- each definition has a name
  pub definitions_named : {T N : Type 0} (number : N → Val) (titles : Titles) (problem : Problem T N) → IsAnswerable owned numeric titles (question_of number problem) → length problem.defs ≤ length titles.defined
  definitions_named number titles problem is =
      let named = is.titled.defined in
      let all = length-map problem.defs (body number) in
      omega (arith, named, all)
