-- What terms are and ask for, where the functions to be found have given bodies.
use Rattle.std.specs.Prelude.{ℕ, Bool, ◌≡◌, List, [], ◌∷◌, map, Some}
use denote.Ref.{Bor}
use Rattle.sy_terms.specs.Values.{Val}
use Rattle.sy_terms.specs.Expr.{Expr, Exprs}
use Rattle.sy_terms.specs.Definitions.{scope_of, bodies}
use Rattle.sy_terms.specs.Fitting.{Signature, sort_in}
use Rattle.sy_terms.specs.Meaning.{Function, functions, function_from, computable, all_computable, asked, all_asked}
use Rattle.sy_terms.specs.declared.op.Op.{Op}
use Rattle.sy_terms.specs.declared.term.Def.{Def}
use Rattle.sy_terms_operators.specs.Evaluation.{TermFits, TermsFit, HasValue, HaveValues, scope_with}
use Rattle.sy_bank_level.specs.Covering.{terms}
use Rattle.sy_bank_level.specs.Stored.{entry_of}
use Rattle.sy_bank_level.specs.declared.kept.Kept.{Kept}

-- the bodies that kept terms are
abbrev pub bodies_of : {T N : Type 0} → (N → Val) → List (Bor (Kept T N)) → List Expr
bodies_of number chosen = terms (map (λ kept. entry_of number kept.now) chosen)

-- a body for each function to be found, which fits over its arguments and calls none of them
abbrev pub AreBodies : {T N : Type 0} → (Op → Bool) → List (Def T N) → List Expr → List Signature → Type 0
AreBodies owned defs [] [] = Unit {0}
AreBodies owned defs [] (s ∷ wanted) = ⊥
AreBodies owned defs (body ∷ all) [] = ⊥
AreBodies owned defs (body ∷ all) (s ∷ wanted) = (sort_in (scope_of owned defs) s.takes body ≡ Some s.gives) × AreBodies owned defs all wanted

-- the functions that the bodies give
abbrev pub functions_by : {T N : Type 0} → (N → Val) → List (Def T N) → List Expr → List Function
functions_by number defs all = map (function_from (functions (bodies number defs))) all

-- the bodies fit, and under them and the definitions the term does
pub record FitsUnder {T N : Type 0} (owned : Op → Bool) (defs : List (Def T N)) (all : List Expr) (values : List Val) (term : Expr) : Type 0 where
  pub wanted : List Signature
  pub bodies : AreBodies owned defs all wanted
  pub fits : TermFits (scope_with owned defs wanted) values term

pub record AllFitUnder {T N : Type 0} (owned : Op → Bool) (defs : List (Def T N)) (all : List Expr) (values : List Val) (terms : Exprs) : Type 0 where
  pub wanted : List Signature
  pub bodies : AreBodies owned defs all wanted
  pub fit : TermsFit (scope_with owned defs wanted) values terms

-- the value, whatever signatures the functions to be found have for which bodies and term fit
abbrev pub GivesUnder : {T N : Type 0} → (Op → Bool) → (N → Val) → List (Def T N) → List Expr → List Val → Expr → Val → Type 0
GivesUnder owned number defs all values term value = (wanted : List Signature) → AreBodies owned defs all wanted → TermFits (scope_with owned defs wanted) values term →
    HasValue (scope_with owned defs wanted) (functions (bodies number defs)) (functions_by number defs all) values term value

abbrev pub AllGiveUnder : {T N : Type 0} → (Op → Bool) → (N → Val) → List (Def T N) → List Expr → List Val → Exprs → List Val → Type 0
AllGiveUnder owned number defs all values terms found = (wanted : List Signature) → AreBodies owned defs all wanted → TermsFit (scope_with owned defs wanted) values terms →
    HaveValues (scope_with owned defs wanted) (functions (bodies number defs)) (functions_by number defs all) values terms found

abbrev pub can_compute_under : {T N : Type 0} → (N → Val) → List (Def T N) → List Expr → List Val → Expr → Bool
can_compute_under number defs all values term = computable (functions (bodies number defs)) (functions_by number defs all) values term

abbrev pub can_compute_all_under : {T N : Type 0} → (N → Val) → List (Def T N) → List Expr → List Val → Exprs → Bool
can_compute_all_under number defs all values terms = all_computable (functions (bodies number defs)) (functions_by number defs all) values terms

-- the calls that the term asks for, in order
abbrev pub asks_under : {T N : Type 0} → (N → Val) → List (Def T N) → List Expr → List Val → Expr → List (ℕ × List Val)
asks_under number defs all values term = asked (functions (bodies number defs)) (functions_by number defs all) values term

abbrev pub all_asks_under : {T N : Type 0} → (N → Val) → List (Def T N) → List Expr → List Val → Exprs → List (ℕ × List Val)
all_asks_under number defs all values terms = all_asked (functions (bodies number defs)) (functions_by number defs all) values terms
