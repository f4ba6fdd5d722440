-- The query of a problem and bodies that fit: it fits, and what it weighs.
use Rattle.std.specs.Prelude.{ℕ, ◌+◌, ◌<◌, Bool, true, List, ◌≡◌, length, map, All, Some}
use Rattle.std.proofs.Common.{arith, ap, ◌∙◌, sym}
use Rattle.std.proofs.lemmas.Bool.{leb-true}
use Rattle.std.proofs.lemmas.List.Elements.{All-weaker}
use Rattle.sy_terms.specs.Values.{Val}
use Rattle.sy_terms.specs.Expr.{Expr, Exprs}
use Rattle.sy_terms.specs.Denoted.{expr_of, exprs_of}
use Rattle.sy_terms.specs.Fitting.{sort_in, sorts_in}
use Rattle.sy_terms.specs.declared.op.Op.{Op}
use Rattle.sy_terms.specs.declared.op.Op.TheVariants as ops
use Rattle.sy_terms.specs.declared.sort.Sort.{Sort}
use Rattle.sy_terms.specs.declared.sort.Sort.TheVariants as sorts
use Rattle.sy_terms.specs.declared.term.Term.{Term}
use Rattle.sy_terms_operators.specs.Evaluation.{BodiesFit, scope_with}
use Rattle.sy_terms_operators.proofs.Equations.{both_true}
use Rattle.sy_grammar_base.specs.Fits.{QuestionFits, IsTruth}
use Rattle.sy_grammar_base.specs.Formed.{is_known}
use Rattle.sy_grammar_base.specs.Questions.{question_of, signatures}
use Rattle.sy_grammar_base.specs.declared.problem.Problem.{Problem}
use Rattle.sy_grammar_base.proofs.Problems.{problem_definitions, problem_variables, problem_assumptions, problem_constraints}
use Rattle.sy_query_base.specs.Queries.{violating, without_calls}
use Rattle.sy_query_base.specs.Weights.{weight, weights, query_scope}
use Rattle.sy_query_base.specs.Asked.{Query, QueryFits, query_weight}
use Rattle.sy_query.specs.declared.room.Left.{Left}
use Rattle.sy_query.specs.Placing.{all_placed_with, AllFitOver, AreBuilt}
use Rattle.sy_query.specs.Sized.{IsSized}
use Rattle.sy_query_violation.specs.Violating.{violated_by}
use Rattle.sy_query.proofs.Forms.{wholes-sort}
use Rattle.sy_query.proofs.Violation.{truths, all-truths, placed-row, violated-row, violated-sort, violated-weight}

-- what stands for terms of the problem
abbrev pub row : {T N : Type 0} → (N → Val) → Problem T N → List (Term T N) → List (Term T N) → Exprs
row number problem terms items = all_placed_with number problem.defs terms 0 (length problem.vars) (exprs_of number items)

pub body-is : {T N : Type 0} (number : N → Val) (problem : Problem T N) (terms : List (Term T N)) → (violating (question_of number problem) (map (expr_of number) terms)).body ≡ violated_by (row number problem terms problem.assumptions) (row number problem terms problem.constraints)
body-is number problem terms =
    sym ((λ k. violated_by (placed-row number problem.defs terms problem.assumptions 0 (length problem.vars) k) (placed-row number problem.defs terms problem.constraints 0 (length problem.vars) k))
    ∙ violated-row (map (without_calls (question_of number problem) (map (expr_of number) terms)) (map (expr_of number) problem.assumptions)) (map (without_calls (question_of number problem) (map (expr_of number) terms)) (map (expr_of number) problem.constraints)))

pub terms-fit : {T N : Type 0} (owned : Op → Bool) (number : N → Val) (problem : Problem T N) (terms items : List (Term T N)) → BodiesFit owned number problem.defs terms (signatures problem) → All (IsTruth owned number problem) items → AllFitOver owned number problem.defs terms problem.vars (exprs_of number items)
terms-fit owned number problem terms items fit all =
    record { wanted = signatures problem; bodies = fit; found = truths items; are = all-truths number (scope_with owned problem.defs (signatures problem)) problem.vars items all }

pub row-sorts : {T N : Type 0} (owned : Op → Bool) (numeric : Sort → Bool) (number : N → Val) (problem : Problem T N) (terms items : List (Term T N)) → QuestionFits owned numeric (question_of number problem) → BodiesFit owned number problem.defs terms (signatures problem) → All (IsTruth owned number problem) items → sorts_in (query_scope owned) problem.vars (row number problem terms items) ≡ Some (truths items)
row-sorts owned numeric number problem terms items problem_fits fit all =
    wholes-sort owned number problem.defs terms 0 problem.vars (exprs_of number items) (problem_definitions owned numeric number problem problem_fits) (omega arith)
    (record { wanted = signatures problem; bodies = fit; found = truths items; are = all-truths number (scope_with owned problem.defs (signatures problem)) problem.vars items all })

pub query-fits : {T N : Type 0} (owned : Op → Bool) (numeric : Sort → Bool) (number : N → Val) (problem : Problem T N) (terms : List (Term T N)) → owned ops.And ≡ true → owned ops.Not ≡ true → QuestionFits owned numeric (question_of number problem) → BodiesFit owned number problem.defs terms (signatures problem) → QueryFits owned numeric (violating (question_of number problem) (map (expr_of number) terms))
query-fits owned numeric number problem terms and not problem_fits fit = record {
  variables = (problem_variables owned numeric number problem problem_fits);
  body = ap (sort_in (query_scope owned) problem.vars) (body-is number problem terms) ∙ violated-sort owned problem.vars (row number problem terms problem.assumptions) (row number problem terms problem.constraints) problem.assumptions problem.constraints and not
      (row-sorts owned numeric number problem terms problem.assumptions problem_fits fit (problem_assumptions owned numeric number problem problem_fits)) (row-sorts owned numeric number problem terms problem.constraints problem_fits fit (problem_constraints owned numeric number problem problem_fits));
}

pub query-weight : {T N : Type 0} (owned : Op → Bool) (numeric : Sort → Bool) (number : N → Val) (problem : Problem T N) (terms : List (Term T N)) → owned ops.And ≡ true → owned ops.Not ≡ true → QuestionFits owned numeric (question_of number problem) → BodiesFit owned number problem.defs terms (signatures problem) → query_weight owned (violating (question_of number problem) (map (expr_of number) terms)) ≡ weights (query_scope owned) problem.vars (row number problem terms problem.assumptions) + weights (query_scope owned) problem.vars (row number problem terms problem.constraints) + 3
query-weight owned numeric number problem terms and not problem_fits fit =
    ap (weight (query_scope owned) problem.vars) (body-is number problem terms) ∙ violated-weight owned problem.vars (row number problem terms problem.assumptions) (row number problem terms problem.constraints) problem.assumptions problem.constraints and not
    (row-sorts owned numeric number problem terms problem.assumptions problem_fits fit (problem_assumptions owned numeric number problem problem_fits)) (row-sorts owned numeric number problem terms problem.constraints problem_fits fit (problem_constraints owned numeric number problem problem_fits))

-- the variables' sorts are of the kind that terms are built over
is_sort-sized : (numeric : Sort → Bool) (s : Sort) → is_known numeric s ≡ true → IsSized s
is_sort-sized numeric sorts.Bool e = tt
is_sort-sized numeric sorts.Int e = tt
is_sort-sized numeric (sorts.Bits w) e =
    let both = both_true (numeric (sorts.Bits w)) _ e in
    let widths = both_true _ _ both.1 in
    (leb-true 1 w widths.0, leb-true w 64 widths.1)

pub variables-sized : (numeric : Sort → Bool) (ss : List Sort) → All (λ sort. is_known numeric sort ≡ true) ss → All IsSized ss
variables-sized numeric ss all = All-weaker (λ (sort : Sort). is_known numeric sort ≡ true) IsSized (is_sort-sized numeric) ss all

-- ---- what the code has built
pub body-built : {T N : Type 0} (owned : Op → Bool) (number : N → Val) (problem : Problem T N) (terms : List (Term T N)) (first second : List Sort) (before mid after : Left) (assumptions constraints : Exprs) (found more_found : List Sort) (body : Expr) → first ≡ problem.vars → second ≡ first → AreBuilt (query_scope owned) first (all_placed_with number problem.defs terms 0 (length first) (exprs_of number problem.assumptions)) before mid assumptions found → AreBuilt (query_scope owned) second (all_placed_with number problem.defs terms 0 (length second) (exprs_of number problem.constraints)) mid after constraints more_found → after.counted ≡ true → body ≡ violated_by assumptions constraints → body ≡ (violating (question_of number problem) (map (expr_of number) terms)).body
body-built owned number problem terms first second before mid after assumptions constraints found more_found body at next are also counted is =
    let front = rw at at are.are (also.counted counted) in
    let back = rw (next ∙ at) at also.are counted in
    is ∙ ((λ k. violated_by (front k) (back k)) ∙ sym (body-is number problem terms))

pub query-is : (variables : List Sort) (copy : List Sort) (body whole : Expr) → copy ≡ variables → body ≡ whole → let q : Query = record { variables = copy; body = body } in let w : Query = record { variables = variables; body = whole } in q ≡ w
query-is variables copy body whole same is = λ k. record { variables = same k; body = is k }

-- the weights that were taken from the limit
pub taken : {T N : Type 0} (owned : Op → Bool) (number : N → Val) (problem : Problem T N) (terms items : List (Term T N)) (all : List Sort) (before after : Left) (built : Exprs) (found : List Sort) → all ≡ problem.vars → AreBuilt (query_scope owned) all (all_placed_with number problem.defs terms 0 (length all) (exprs_of number items)) before after built found → before.weight ≡ after.weight + weights (query_scope owned) problem.vars (row number problem terms items)
taken owned number problem terms items all before after built found at are = rw at at are.weight

pub taken-heavy : {T N : Type 0} (owned : Op → Bool) (number : N → Val) (problem : Problem T N) (terms items : List (Term T N)) (all : List Sort) (before : ℕ) → all ≡ problem.vars → before < weights (query_scope owned) all (all_placed_with number problem.defs terms 0 (length all) (exprs_of number items)) → before < weights (query_scope owned) problem.vars (row number problem terms items)
taken-heavy owned number problem terms items all before at heavy = rw at at heavy
