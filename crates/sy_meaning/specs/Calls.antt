-- The calls that a term asks for: each is at values that the called function takes.
use Rattle.std.specs.Prelude.{ℕ, Bool, true, List, ◌≡◌, Some, map, All, slice_get}
use Rattle.sy_terms.specs.Values.{Val}
use Rattle.sy_terms.specs.Expr.{Expr, Exprs}
use Rattle.sy_terms.specs.Theories.{sort_of_value, valid}
use Rattle.sy_terms.specs.Fitting.{Signature}
use Rattle.sy_terms.specs.declared.op.Op.{Op}
use Rattle.sy_terms.specs.declared.term.Def.{Def}
use Rattle.sy_terms.specs.declared.term.Term.{Term}
use Rattle.sy_terms_operators.specs.Evaluation.{BodiesFit, TermFits, TermsFit, scope_with}
use Rattle.sy_terms_operators.specs.Asking.{asks, all_asks}

-- a call of a function to be found, at values of the sorts that it takes
pub record IsCallOf (wanted : List Signature) (call : ℕ × List Val) : Type 0 where
  pub signature : Signature
  pub at : slice_get wanted call.0 ≡ Some signature
  pub sorted : map sort_of_value call.1 ≡ signature.takes
  pub valid : All (λ value. valid value ≡ true) call.1

-- each call that the term asks for is one, whatever signatures the functions to be found have for which bodies and term fit
abbrev pub AsksRightly : {T N : Type 0} → (Op → Bool) → (N → Val) → List (Def T N) → List (Term T N) → List Val → Expr → Type 0
AsksRightly owned number defs terms values term = (wanted : List Signature) → BodiesFit owned number defs terms wanted → TermFits (scope_with owned defs wanted) values term → All (IsCallOf wanted) (asks number defs terms values term)

abbrev pub AllAskRightly : {T N : Type 0} → (Op → Bool) → (N → Val) → List (Def T N) → List (Term T N) → List Val → Exprs → Type 0
AllAskRightly owned number defs terms values all = (wanted : List Signature) → BodiesFit owned number defs terms wanted → TermsFit (scope_with owned defs wanted) values all → All (IsCallOf wanted) (all_asks number defs terms values all)
