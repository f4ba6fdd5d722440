-- What a problem holds fits where the problem does.
use Rattle.std.specs.Prelude.{Bool, true, List, [], ◌∷◌, ◌++◌, map, Some, All, ◌≡◌, refl}
use Rattle.std.specs.List.{list_all}
use Rattle.std.proofs.Common.{ap, sym, subst}
use Rattle.std.proofs.lemmas.List.Elements.{All-nil, All-cons, All-head, All-tail, All-weaker}
use Rattle.sy_terms.specs.Values.{Val}
use Rattle.sy_terms.specs.Definitions.{signature, bodies, FitAfter, DefinitionsFit}
use Rattle.sy_terms.specs.Denoted.{expr_of}
use Rattle.sy_terms.specs.Fitting.{Signature, sort_in}
use Rattle.sy_terms.specs.declared.op.Op.{Op}
use Rattle.sy_terms.specs.declared.sort.Sort.{Sort}
use Rattle.sy_terms.specs.declared.sort.Sort.TheVariants as sorts
use Rattle.sy_terms.specs.declared.term.Def.{Def}
use Rattle.sy_terms_operators.proofs.Equations.{both_true}
use Rattle.sy_grammar_base.specs.Fits.{with_functions, FitInTurn, GoalFits, QuestionFits, IsTruth, GrammarFits}
use Rattle.sy_grammar_base.specs.Formed.{is_known}
use Rattle.sy_grammar_base.specs.Questions.{Goal, goal_of, question_of, wanted_signature, signatures}
use Rattle.sy_grammar_base.specs.declared.problem.Problem.{Problem}
use Rattle.sy_grammar_base.specs.declared.problem.Wanted.{Wanted}
use Rattle.sy_grammar_base.specs.Extending.{Extends}
use Rattle.sy_grammar_base.proofs.Widening.{term_wider}

signatures_last : {T N : Type 0} (earlier : List (Def T N)) (def : Def T N) → map signature (earlier ++ def ∷ []) ≡ map signature earlier ++ signature def ∷ []
signatures_last [] def = refl
signatures_last (d ∷ earlier) def = ap (λ (all : List Signature). signature d ∷ all) (signatures_last earlier def)

fit_after : {T N : Type 0} (owned : Op → Bool) (number : N → Val) (earlier defs : List (Def T N)) → FitInTurn owned (map signature earlier) (map signature defs) (bodies number defs) → FitAfter owned number earlier defs
fit_after owned number earlier [] fit = tt
fit_after owned number earlier (def ∷ defs) fit =
    (fit.0, fit_after owned number (earlier ++ def ∷ []) defs (subst (λ all. FitInTurn owned all (map signature defs) (bodies number defs)) (sym (signatures_last earlier def)) fit.1))

-- a property of what each item stands for
all_of_map : {A B : Type 0} (P : B → Type 0) (f : A → B) (xs : List A) → All P (map f xs) → All (λ x. P (f x)) xs
all_of_map P f [] all = All-nil (λ x. P (f x))
all_of_map P f (x ∷ xs) all = All-cons (λ x. P (f x)) x xs (All-head P (f x) (map f xs) all) (all_of_map P f xs (All-tail P (f x) (map f xs) all))

all_pass : (p : Sort → Bool) (all : List Sort) → list_all p all ≡ true → All (λ s. p s ≡ true) all
all_pass p [] e = All-nil (λ s. p s ≡ true)
all_pass p (s ∷ all) e =
    let both = both_true (p s) (list_all p all) e in
    All-cons (λ s. p s ≡ true) s all both.0 (all_pass p all both.1)

goal_signatures : {T N : Type 0} (number : N → Val) (wanted : List (Wanted T N)) → map (λ (g : Goal). g.signature) (map (goal_of number) wanted) ≡ map wanted_signature wanted
goal_signatures number [] = refl
goal_signatures number (w ∷ wanted) = ap (λ (all : List Signature). wanted_signature w ∷ all) (goal_signatures number wanted)

nothing_extends : (all : List Signature) → Extends [] all
nothing_extends all place x e = absurd cc

module _ {T N : Type 0} (owned : Op → Bool) (numeric : Sort → Bool) (number : N → Val) (problem : Problem T N) (fit : QuestionFits owned numeric (question_of number problem)) where
  pub problem_definitions : DefinitionsFit owned number problem.defs
  problem_definitions = fit_after owned number [] problem.defs fit.definitions

  pub problem_variables : All (λ s. is_known numeric s ≡ true) problem.vars
  problem_variables = all_pass (is_known numeric) problem.vars fit.variables

  pub problem_grammars : All (GrammarFits owned numeric number problem) problem.wanted
  problem_grammars = all_of_map (GoalFits owned numeric (map signature problem.defs)) (goal_of number) problem.wanted fit.goals

  pub problem_assumptions : All (IsTruth owned number problem) problem.assumptions
  problem_assumptions =
      let defined = map signature problem.defs in
      all_of_map (λ term. sort_in (with_functions owned defined (signatures problem)) problem.vars term ≡ Some sorts.Bool) (expr_of number) problem.assumptions
      (All-weaker (λ term. sort_in (with_functions owned defined []) problem.vars term ≡ Some sorts.Bool) (λ term. sort_in (with_functions owned defined (signatures problem)) problem.vars term ≡ Some sorts.Bool)
      (λ term e. term_wider owned defined [] defined (signatures problem) (λ place x found. found) (nothing_extends (signatures problem)) problem.vars term sorts.Bool e) (map (expr_of number) problem.assumptions) fit.assumptions)

  pub problem_constraints : All (IsTruth owned number problem) problem.constraints
  problem_constraints =
      all_of_map (λ term. sort_in (with_functions owned (map signature problem.defs) (signatures problem)) problem.vars term ≡ Some sorts.Bool) (expr_of number) problem.constraints
      (subst (λ wanted. All (λ term. sort_in (with_functions owned (map signature problem.defs) wanted) problem.vars term ≡ Some sorts.Bool) (map (expr_of number) problem.constraints)) (goal_signatures number problem.wanted) fit.constraints)
