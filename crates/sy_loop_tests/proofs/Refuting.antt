-- A problem without functions to be found, whose assumption and constraint are constants.
use denote.Ref.{Bor}
use Rattle.std.proofs.Common.{arith, ◌≡◌, refl, ap, sym, subst, ◌∙◌, ◌⊎◌, ⊎_elim, zero, suc, Bool, true, List, [], ◌∷◌, map, ℤ, length, Some, All}
use Rattle.std.proofs.lemmas.Option.{none-some, same_Some}
use Rattle.std.proofs.lemmas.List.Elements.{All-nil, All-cons}
use Rattle.sy_terms.specs.Values as values
use Rattle.sy_terms.specs.Values.{Val, Whole}
use Rattle.sy_terms.specs.Expr.{Expr, Constant}
use Rattle.sy_terms.specs.Definitions.{signature}
use Rattle.sy_terms.specs.Denoted.{expr_of, expr_of-Const}
use Rattle.sy_terms.specs.Theories.{valid}
use Rattle.sy_terms.specs.Fitting.{Scope, sort_in}
use Rattle.sy_terms.specs.declared.sort.Sort.{Sort}
use Rattle.sy_terms.specs.declared.sort.Sort.TheVariants as sort
use Rattle.sy_terms.specs.declared.sort.Value.{Value}
use Rattle.sy_terms.specs.declared.sort.Value.TheVariants.{Truth}
use Rattle.sy_terms.specs.declared.term.Def.{Def}
use Rattle.sy_terms.specs.declared.term.Term.{Term, Const}
use Rattle.sy_meaning_integers.specs.Lia as lia
use Rattle.sy_grammar_base.specs.Questions.{Question, question_of, signatures}
use Rattle.sy_grammar_base.specs.Solving.{AreValues}
use Rattle.sy_grammar_base.specs.declared.problem.Problem.{Problem}
use Rattle.sy_loop_spec.specs.Histories.{Counterexample}
use Rattle.sy_loop_spec.specs.Stored.{counterexample_of}
use Rattle.sy_points.specs.Asked.{Asked}
use Rattle.sy_bank_level.specs.declared.kept.Kept.{Kept}
use Rattle.sy_loop_candidate.specs.Bodies.{AreBodies, bodies_of}
use Rattle.sy_loop_candidate.specs.Observing.{KeptHaveRows}
use Rattle.sy_loop_candidate.specs.Refuting.{AreAssignments, AreTaken}
use Rattle.sy_grammar_base.specs.Fits.{GoalFits, QuestionFits, wanted_of, with_functions}

-- a constant is a truth value's term
abbrev IsBoolean : Scope → List Sort → Expr → Type 0
IsBoolean scope sorts term = sort_in scope sorts term ≡ Some sort.Bool

constant-fits : {T : Type 0} (scope : Scope) (sorts : List Sort) (terms : List (Term T ℤ)) (truth : Bool) → terms ≡ Const (Truth truth) ∷ [] → All (IsBoolean scope sorts) (map (expr_of Whole) terms)
unfolding sort_in
constant-fits {T} scope sorts terms truth are =
    let is : map (expr_of Whole) terms ≡ Constant (values.Truth truth) ∷ [] = ap (map (expr_of Whole)) are ∙ ap (λ (e : Expr). e ∷ []) (expr_of-Const T Whole (Truth truth)) in
    subst (All (IsBoolean scope sorts)) (sym is) (All-cons (IsBoolean scope sorts) (Constant (values.Truth truth)) [] refl (All-nil (IsBoolean scope sorts)))

pub constants-fit : {T : Type 0} (problem : Problem T ℤ) (a b : Bool) → problem.defs ≡ [] → problem.vars ≡ [] → problem.wanted ≡ [] → problem.assumptions ≡ Const (Truth a) ∷ [] → problem.constraints ≡ Const (Truth b) ∷ []
    → QuestionFits lia.owned lia.numeric (question_of Whole problem)
constants-fit {T} problem a b defs vars wanted assumptions constraints = record {
  definitions = rw defs tt;
  variables = rw vars refl;
  goals = rw wanted (All-nil (GoalFits lia.owned lia.numeric (map signature problem.defs)));
  assumptions = constant-fits (with_functions lia.owned (map signature problem.defs) []) problem.vars problem.assumptions a assumptions;
  constraints = constant-fits (with_functions lia.owned (map signature problem.defs) (wanted_of (question_of Whole problem))) problem.vars problem.constraints b constraints;
}

one-assigned : {T N : Type 0} (number : N → Val) (question : Question) (pair : List (Value N) × List (Term T N)) → question.variables ≡ [] → pair.0 ≡ [] → AreAssignments question (counterexample_of number pair ∷ [])
one-assigned number question pair none empty zero c at =
    subst (λ (k : Counterexample). AreValues question.variables k.assignment) (same_Some (counterexample_of number pair) c at)
    (rw (none, empty) (record { sorted = refl; valid = All-nil (λ v. valid v ≡ true) }))
one-assigned number question pair none empty (suc place) c at = absurd (none-some c at)

pub assigned-fit : {T N : Type 0} (number : N → Val) (question : Question) (items : List (List (Value N) × List (Term T N))) → question.variables ≡ [] → (items ≡ []) ⊎ (items ≡ ([], []) ∷ [])
    → AreAssignments question (map (counterexample_of number) items)
assigned-fit {T} {N} number question items none cases = ⊎_elim
    (λ (e : items ≡ []). subst (λ (ps : List (List (Value N) × List (Term T N))). AreAssignments question (map (counterexample_of number) ps)) (sym e) (λ place c at. absurd (none-some c at)))
    (λ (e : items ≡ ([], []) ∷ []). subst (λ (ps : List (List (Value N) × List (Term T N))). AreAssignments question (map (counterexample_of number) ps)) (sym e) (one-assigned {T = T} number question ([], []) none refl))
    cases

-- no functions, no bodies, no rows, no tuples
pub no-bodies : {T : Type 0} (problem : Problem T ℤ) (chosen : List (Bor (Kept T ℤ))) → chosen ≡ [] → problem.wanted ≡ [] → AreBodies lia.owned problem.defs (bodies_of Whole chosen) (signatures problem)
no-bodies problem chosen none wanted = rw (none, wanted) tt

pub no-rows : {T : Type 0} (defs : List (Def T ℤ)) (points : Asked) (chosen : List (Bor (Kept T ℤ))) → chosen ≡ [] → KeptHaveRows lia.owned Whole defs points chosen
no-rows {T} defs points chosen none = subst (λ (all : List (Bor (Kept T ℤ))). KeptHaveRows lia.owned Whole defs points all) (sym none) (λ function kept at. absurd (none-some kept at))

pub no-functions : {T : Type 0} (problem : Problem T ℤ) (points : Asked) → points.tuples ≡ [] → problem.wanted ≡ [] → length points.tuples ≡ length (question_of Whole problem).goals
no-functions problem points none wanted = rw (none, wanted) refl

pub no-tuples : (question : Question) (points : Asked) → points.tuples ≡ [] → AreTaken question points
no-tuples question points none function tuple at = let nowhere = rw none at at in absurd (omega (arith, nowhere.1))
