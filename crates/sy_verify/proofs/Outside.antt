-- Which bodies are members of their grammars.
use Rattle.std.proofs.Common.{◌≡◌, ℕ, zero, suc, List, [], ◌∷◌, length, map, take, ap, sym, subst, arith, slice_get, Some}
use Rattle.std.specs.Prelude.{Bool, All}
use Rattle.std.proofs.lemmas.List.Elements.{All-weaker}
use Rattle.sy_terms.specs.Values.{Val}
use Rattle.sy_terms.specs.Denoted.{expr_of}
use Rattle.sy_terms.specs.Definitions.{signature}
use Rattle.sy_terms.specs.Fitting.{Signature}
use Rattle.sy_terms.specs.declared.op.Op.{Op}
use Rattle.sy_terms.specs.declared.sort.Sort.{Sort}
use Rattle.sy_terms.specs.declared.term.Def.{Def}
use Rattle.sy_terms.specs.declared.term.Term.{Term}
use Rattle.sy_terms_operators.specs.Evaluation.{BodiesFit}
use Rattle.sy_grammar_base.specs.Fits.{with_functions, GrammarFits, ProblemFits, QuestionFits}
use Rattle.sy_grammar_base.specs.Grown.{syntax_from}
use Rattle.sy_grammar_base.specs.Questions.{goal_of, question_of, wanted_signature}
use Rattle.sy_grammar_base.specs.Solving.{AreMembers}
use Rattle.sy_grammar_base.specs.Trees.{IsMember, IsNumbered}
use Rattle.sy_grammar_base.specs.declared.problem.Problem.{Problem}
use Rattle.sy_grammar_base.specs.declared.problem.Wanted.{Wanted}
use Rattle.sy_grammar_base.proofs.Numbering.{numbered}
use Rattle.sy_grammar_base.proofs.Problems.{problem_grammars}
use Rattle.sy_verify.specs.Posing.{IsFirstOutside}

module _ {T N : Type 0} (number : N → Val) where
  -- the bodies of the first functions are members
  abbrev pub AreMembersBefore : List (Wanted T N) → List (Term T N) → ℕ → Type 0
  AreMembersBefore wanted bodies place = AreMembers (map (goal_of number) (take place wanted)) (map (expr_of number) (take place bodies))

  -- so are those of one function more
  pub members_more : (wanted : List (Wanted T N)) (bodies : List (Term T N)) (place : ℕ) (w : Wanted T N) (body : Term T N) → slice_get wanted place ≡ Some w → slice_get bodies place ≡ Some body →
      IsMember (syntax_from number w.grammar) (expr_of number body) → AreMembersBefore wanted bodies place → AreMembersBefore wanted bodies (suc place)
  members_more [] bodies place w body at also member before = absurd (cc)
  members_more (v ∷ wanted) [] place w body at also member before = absurd (cc)
  members_more (v ∷ wanted) (term ∷ bodies) zero w body at also member before =
      let same : w ≡ v = cc in
      let same' : body ≡ term = cc in
      (subst (λ (x : Wanted T N). IsMember (syntax_from number x.grammar) (expr_of number term)) same (subst (λ b. IsMember (syntax_from number w.grammar) (expr_of number b)) same' member), tt)
  members_more (v ∷ wanted) (term ∷ bodies) (suc place) w body at also member before = (before.0, members_more wanted bodies place w body at also member before.1)

  -- the next is no member
  pub outside_at : (wanted : List (Wanted T N)) (bodies : List (Term T N)) (place : ℕ) (w : Wanted T N) (body : Term T N) → slice_get wanted place ≡ Some w → slice_get bodies place ≡ Some body →
      (IsMember (syntax_from number w.grammar) (expr_of number body) → ⊥) → AreMembersBefore wanted bodies place → IsFirstOutside (map (goal_of number) wanted) (map (expr_of number) bodies) place
  outside_at [] bodies place w body at also outside before = absurd (cc)
  outside_at (v ∷ wanted) [] place w body at also outside before = absurd (cc)
  outside_at (v ∷ wanted) (term ∷ bodies) zero w body at also outside before = λ member.
      let same : v ≡ w = cc in
      let same' : term ≡ body = cc in
      outside (subst (λ (x : Wanted T N). IsMember (syntax_from number x.grammar) (expr_of number body)) same (subst (λ b. IsMember (syntax_from number v.grammar) (expr_of number b)) same' member))
  outside_at (v ∷ wanted) (term ∷ bodies) (suc place) w body at also outside before = (before.0, outside_at wanted bodies place w body at also outside before.1)

  -- there is a body for each function
  pub as_many : (owned : Op → Bool) (defs : List (Def T N)) (bodies : List (Term T N)) (wanted : List (Wanted T N)) → BodiesFit owned number defs bodies (map wanted_signature wanted) → length bodies ≡ length wanted
  as_many owned defs [] [] fit = omega arith
  as_many owned defs [] (w ∷ wanted) fit = absurd fit
  as_many owned defs (body ∷ bodies) [] fit = absurd fit
  as_many owned defs (body ∷ bodies) (w ∷ wanted) fit = omega (arith, as_many owned defs bodies wanted fit.1)

  -- 31 bits number what the grammars have
  pub grammars_numbered : (owned : Op → Bool) (numeric : Sort → Bool) (problem : Problem T N) → QuestionFits owned numeric (question_of number problem) → All (λ (w : Wanted T N). IsNumbered (syntax_from number w.grammar)) problem.wanted
  grammars_numbered owned numeric problem fit =
      All-weaker (GrammarFits owned numeric number problem) (λ (w : Wanted T N). IsNumbered (syntax_from number w.grammar))
      (λ w fits. numbered numeric (with_functions owned (map signature problem.defs) []) (syntax_from number w.grammar) fits.formed)
      problem.wanted (problem_grammars owned numeric number problem fit)
