-- When all terms and grammars of a problem fit.
use Rattle.std.specs.Prelude.{Bool, true, List, [], ◌∷◌, ◌++◌, map, slice_get, Some, ◌≡◌, All, ⊤}
use Rattle.std.specs.Option.{option_map}
use Rattle.std.specs.List.{list_all}
use Rattle.sy_terms.specs.Values.{Val}
use Rattle.sy_terms.specs.Expr.{Expr}
use Rattle.sy_terms.specs.Denoted.{expr_of}
use Rattle.sy_terms.specs.Definitions.{signature}
use Rattle.sy_terms.specs.Fitting.{Scope, Signature, sort_in}
use Rattle.sy_terms.specs.declared.op.Op.{Op}
use Rattle.sy_terms.specs.declared.sort.Sort.{Sort}
use Rattle.sy_terms.specs.declared.sort.Sort.TheVariants as sorts
use Rattle.sy_terms.specs.declared.term.Term.{Term}
use Rattle.sy_terms.specs.declared.theory.Theory.{Ghosts as TheoryOf}
use Rattle.sy_grammar_base.specs.Formed.{is_formed, is_known}
use Rattle.sy_grammar_base.specs.Questions.{Goal, Question, goal_of, question_of, signatures}
use Rattle.sy_grammar_base.specs.Trees.{Nonterminal}
use Rattle.sy_grammar_base.specs.declared.problem.Problem.{Problem}
use Rattle.sy_grammar_base.specs.declared.problem.Wanted.{Wanted}

-- what terms may name: these operators, definitions and functions to be found
abbrev pub with_functions : (Op → Bool) → List Signature → List Signature → Scope
with_functions owned defined wanted = record { owned = owned; defined = defined; wanted = wanted }

-- each body fits under the definitions before it
abbrev pub FitInTurn : (Op → Bool) → List Signature → List Signature → List Expr → Type 0
FitInTurn owned earlier [] [] = ⊤
FitInTurn owned earlier [] (body ∷ bodies) = ⊥
FitInTurn owned earlier (f ∷ signatures) [] = ⊥
FitInTurn owned earlier (f ∷ signatures) (body ∷ bodies) =
    (sort_in (with_functions owned earlier []) f.takes body ≡ Some f.gives) × FitInTurn owned (earlier ++ f ∷ []) signatures bodies

-- the grammar is well formed, over the function's arguments, and its start symbol has the sort of the function's value
pub record GoalFits (owned : Op → Bool) (numeric : Sort → Bool) (defined : List Signature) (goal : Goal) : Type 0 where
  pub formed : is_formed numeric (with_functions owned defined []) goal.grammar ≡ true
  pub arguments : goal.grammar.arguments ≡ goal.signature.takes
  pub start : option_map (λ (n : Nonterminal). n.sort) (slice_get goal.grammar.nonterminals 0) ≡ Some goal.signature.gives

-- the signatures of the functions to be found
abbrev pub wanted_of : Question → List Signature
wanted_of question = map (λ (g : Goal). g.signature) question.goals

-- The definitions fit in turn, the variables' sorts are known, and the functions to be found have grammars. Assumptions
-- and constraints are truth values, and no assumption calls a function to be found.
pub record QuestionFits (owned : Op → Bool) (numeric : Sort → Bool) (question : Question) : Type 0 where
  pub definitions : FitInTurn owned [] question.signatures question.definitions
  pub variables : list_all (is_known numeric) question.variables ≡ true
  pub goals : All (GoalFits owned numeric question.signatures) question.goals
  pub assumptions : All (λ term. sort_in (with_functions owned question.signatures []) question.variables term ≡ Some sorts.Bool) question.assumptions
  pub constraints : All (λ term. sort_in (with_functions owned question.signatures (wanted_of question)) question.variables term ≡ Some sorts.Bool) question.constraints

-- what a problem asks fits
abbrev pub ProblemFits : {T N : Type 0} → TheoryOf T N → Problem T N → Type 0
ProblemFits theory problem = QuestionFits theory.owned theory.numeric (question_of theory.denotes problem)

-- a truth value's term over the problem's variables, which may call its definitions and functions to be found
abbrev pub IsTruth : {T N : Type 0} → (Op → Bool) → (N → Val) → Problem T N → Term T N → Type 0
IsTruth owned number problem term =
    sort_in (with_functions owned (map signature problem.defs) (signatures problem)) problem.vars (expr_of number term) ≡ Some sorts.Bool

-- a function to be found has a grammar, under the problem's definitions
abbrev pub GrammarFits : {T N : Type 0} → (Op → Bool) → (Sort → Bool) → (N → Val) → Problem T N → Wanted T N → Type 0
GrammarFits owned numeric number problem wanted = GoalFits owned numeric (map signature problem.defs) (goal_of number wanted)
