-- When bodies agree: they have the same values at the tuples that are asked of their functions.
use Rattle.std.specs.Prelude.{ℕ, Bool, true, List, [], ◌≡◌, length, slice_get, Some, All}
use Rattle.sy_terms.specs.Values.{Val}
use Rattle.sy_terms.specs.Expr.{Expr}
use Rattle.sy_terms.specs.Fitting.{sort_in}
use Rattle.sy_terms.specs.declared.op.Op.{Op}
use Rattle.sy_terms.specs.declared.sort.Sort.TheVariants as sorts
use Rattle.sy_terms.specs.Meaning.{functions, meaning, computable}
use Rattle.sy_grammar_base.specs.Questions.{Question}
use Rattle.sy_points.specs.Asked.{Asked}
use Rattle.sy_loop_spec.specs.Adding.{IsAsked}
use Rattle.sy_loop_spec.specs.Truths.{asked_by}

-- as many bodies, and the two of each function have the same value at each of its tuples
pub record BodiesAgree (question : Question) (asked : Asked) (bodies others : List Expr) : Type 0 where
  pub many : length bodies ≡ length others
  pub each : (function : ℕ) (body other : Expr) (tuple : List Val) → slice_get bodies function ≡ Some body → slice_get others function ≡ Some other → IsAsked asked function tuple →
      meaning (functions question.definitions) [] tuple body ≡ meaning (functions question.definitions) [] tuple other

-- each body is computable at each tuple of its function
abbrev pub AreComputable : Question → Asked → List Expr → Type 0
AreComputable question asked bodies = (function : ℕ) (body : Expr) (tuple : List Val) → slice_get bodies function ≡ Some body → IsAsked asked function tuple →
    computable (functions question.definitions) [] tuple body ≡ true

-- each assumption is a truth value where no function is to be found
abbrev pub AssumptionsFit : (Op → Bool) → Question → Type 0
AssumptionsFit owned question =
    All (λ term. sort_in (record { owned = owned; defined = question.signatures; wanted = [] }) question.variables term ≡ Some sorts.Bool) question.assumptions

-- no assumption asks for a value of a function to be found
abbrev pub AssumptionsAskNothing : Question → Type 0
AssumptionsAskNothing question = (bodies : List Expr) (values : List Val) → All (λ term. asked_by question bodies values term ≡ []) question.assumptions
