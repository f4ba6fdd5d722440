-- What rows tell of a problem's terms.
use Rattle.std.proofs.Common.{◌≡◌, ◌≤◌, ◌∷◌, refl, sym, subst, ◌∙◌, ℕ, Bool, true, List, [], length, arith, Some, slice_get}
use Rattle.std.specs.List.{Contains, All}
use Rattle.std.proofs.lemmas.List.{length-map}
use Rattle.std.proofs.lemmas.List.Elements.{All-contains_itself, All-weaker}
use denote.Ref.{Bor}
use Rattle.sy_terms.specs.Values.{Val, Truth}
use Rattle.sy_terms.specs.Expr.{Expr}
use Rattle.sy_terms.specs.Denoted.{expr_of, vals_of}
use Rattle.sy_terms.specs.Definitions.{bodies}
use Rattle.sy_terms.specs.Fitting.{Signature, sort_in}
use Rattle.sy_terms.specs.Meaning.{functions, meaning}
use Rattle.sy_terms.specs.declared.op.Op.{Op}
use Rattle.sy_terms.specs.declared.sort.Sort.TheVariants as sorts
use Rattle.sy_terms.specs.declared.sort.Value.{Value}
use Rattle.sy_terms.specs.declared.term.Def.{Def}
use Rattle.sy_terms.specs.declared.term.Term.{Term}
use Rattle.sy_terms_operators.specs.Evaluation.{TermFits, scope_with}
use Rattle.sy_meaning.specs.Calls.{IsCallOf}
use Rattle.sy_grammar_base.specs.Questions.{Question, goal_of, question_of, signatures, wanted_signature}
use Rattle.sy_grammar_base.specs.Solving.{AreValues, IsTrueUnder}
use Rattle.sy_grammar_base.specs.declared.problem.Problem.{Problem}
use Rattle.sy_points.specs.Asked.{Asked}
use Rattle.sy_points.specs.declared.stored.Stored.{Stored}
use Rattle.sy_bank_level.specs.declared.kept.Kept.{Kept}
use Rattle.sy_loop_spec.specs.Stored.{counterexample_of, history_of}
use Rattle.sy_loop_spec.specs.Trials.{IsRefuted}
use Rattle.sy_loop_spec.specs.Truths.{asked_by}
use Rattle.sy_loop_truth.proofs.Places.{place_of}
use Rattle.sy_loop_truth.proofs.Items.{has_place}
use Rattle.sy_loop_candidate.specs.Bodies.{AreBodies, bodies_of, functions_by, FitsUnder}
use Rattle.sy_loop_candidate.specs.Observing.{IsTold, IsUntold}
use Rattle.sy_loop_candidate.specs.Refuting.{AreAssignments, AreReady, IsHidden, IsShownFalse, IsOne, IsShown}
use Rattle.sy_loop_candidate.proofs.Told.{bodies-length}
use Rattle.sy_grammar_base.specs.Fits.{IsTruth, wanted_of}

-- as many bodies as signatures
as_many : {T N : Type 0} (owned : Op → Bool) (defs : List (Def T N)) (all : List Expr) (wanted : List Signature) → AreBodies owned defs all wanted → length all ≡ length wanted
as_many owned defs [] [] fit = refl
as_many owned defs [] (s ∷ wanted) fit = absurd fit
as_many owned defs (t ∷ all) [] fit = absurd fit
as_many owned defs (t ∷ all) (s ∷ wanted) fit = omega (arith, as_many owned defs all wanted fit.1)

module _ {T N : Type 0} (owned : Op → Bool) (number : N → Val) (problem : Problem T N) (points : Asked) (chosen : List (Bor (Kept T N))) (ready : AreReady owned number problem points chosen) where
  -- each of the chosen terms has its function's tuples
  pub few : length chosen ≤ length points.tuples
  few = omega (
    arith,
    as_many owned problem.defs (bodies_of number chosen) (signatures problem) ready.fit,
    bodies-length number chosen,
    length-map problem.wanted wanted_signature,
    length-map problem.wanted (goal_of number),
    ready.functions,
  )

  module _ (values : List Val) (term : Term T N) (are : AreValues problem.vars values) (truth : IsTruth owned number problem term) where
    term_fits : TermFits (scope_with owned problem.defs (signatures problem)) values (expr_of number term)
    term_fits = record {
      sort = sorts.Bool;
      is = subst (λ ss. sort_in (scope_with owned problem.defs (signatures problem)) ss (expr_of number term) ≡ Some sorts.Bool) (sym are.sorted) truth;
    }

    -- what is asked of a term that is observed
    pub fits_with : FitsUnder owned problem.defs (bodies_of number chosen) values (expr_of number term)
    fits_with = record { wanted = signatures problem; bodies = ready.fit; fits = term_fits }

    means : (value : Val) → IsTold owned number problem.defs (bodies_of number chosen) points values (expr_of number term) value →
        value ≡ meaning (functions (bodies number problem.defs)) (functions_by number problem.defs (bodies_of number chosen)) values (expr_of number term)
    means value told = (told.gives (signatures problem) ready.fit term_fits).meaning

    pub tells_true : (value : Val) → IsTold owned number problem.defs (bodies_of number chosen) points values (expr_of number term) value → value ≡ Truth true →
        IsTrueUnder (question_of number problem) (bodies_of number chosen) values (expr_of number term)
    tells_true value told is = sym (means value told) ∙ is

    pub tells_false : (value : Val) → IsTold owned number problem.defs (bodies_of number chosen) points values (expr_of number term) value → (value ≡ Truth true → ⊥) →
        IsShownFalse (question_of number problem) points (bodies_of number chosen) values (expr_of number term)
    tells_false value told untrue =
        let calls = asked_by (question_of number problem) (bodies_of number chosen) values (expr_of number term) in
        record {
          is = record {
            untrue = λ is. untrue (means value told ∙ is);
            all = λ call at. at;
            only = λ call at. at;
            taken = All-weaker (Contains calls) (IsCallOf (wanted_of (question_of number problem))) (λ call at. ready.taken call.0 call.1 (told.there call.0 call.1 at)) calls (All-contains_itself calls);
          };
          there = told.there;
        }

    pub tells_nothing : IsUntold number problem.defs (bodies_of number chosen) points values (expr_of number term) →
        IsHidden (question_of number problem) points (bodies_of number chosen) values (expr_of number term)
    tells_nothing untold = untold

-- a violation that is shown
pub shown : (question : Question) (points : Asked) (all : List Expr) (values : List Val) → All (IsTrueUnder question all values) question.assumptions → IsOne (IsShownFalse question points all values) question.constraints → IsShown question points all values
shown question points all values assumed one = record {
  calls = asked_by question all values one.term;
  violated = record { assumed = assumed; constraint = record { term = one.term; of = one.of; is = one.is.is } };
  there = one.is.there;
}

-- a stored pair at whose assignment a violation is shown
module _ {T N : Type 0} (number : N → Val) (question : Question) (stored : Stored T N) (place : ℕ) (pair : List (Value N) × List (Term T N)) (at : slice_get stored.items place ≡ Some pair) where
  pub assigned_at : AreAssignments question (history_of number stored) → AreValues question.variables (vals_of number pair.0)
  assigned_at assignments = assignments place (counterexample_of number pair) (place_of number stored place pair at)

  pub refuted_at : (points : Asked) (all : List Expr) → IsShown question points all (vals_of number pair.0) → IsRefuted question (history_of number stored) points all
  refuted_at points all shown = record {
    counterexample = counterexample_of number pair;
    stored = has_place (history_of number stored) place (counterexample_of number pair) (place_of number stored place pair at);
    calls = shown.calls;
    violated = shown.violated;
    there = shown.there;
  }
