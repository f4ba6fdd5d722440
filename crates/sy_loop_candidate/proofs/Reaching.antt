-- The definition or the body that a call reaches.
use Rattle.std.specs.Prelude.{ℕ, ◌<◌, Bool, false, List, [], ◌∷◌, ◌≡◌, refl, slice_get, Some, take, map, length}
use Rattle.std.specs.Option.{option_map}
use Rattle.std.proofs.Common.{ap, ◌∙◌, sym, get_or, subst, zero, suc}
use Rattle.std.proofs.lemmas.Option.{none-some, same_Some, slice_get-map, slice_get_within, get_or_from_slice_get}
use Rattle.sy_terms.specs.Values.{Val}
use Rattle.sy_terms.specs.Expr.{Expr}
use Rattle.sy_terms.specs.Denoted.{expr_of, exprs_of}
use Rattle.sy_terms.specs.Theories.{sort_of_value}
use Rattle.sy_terms.specs.Meaning.{Function, function_from, functions, computable}
use Rattle.sy_terms.specs.Fitting.{Signature, sort_in}
use Rattle.sy_terms.specs.Definitions.{scope_of, bodies, body, DefinitionsFit}
use Rattle.sy_terms.specs.declared.op.Op.{Op}
use Rattle.sy_terms.specs.declared.sort.Sort.{Sort}
use Rattle.sy_terms.specs.declared.term.Fun.{Fun}
use Rattle.sy_terms.specs.declared.term.Fun.TheVariants.{Defined, Wanted}
use Rattle.sy_terms.specs.declared.term.Term.{Term, Call}
use Rattle.sy_terms.specs.declared.term.Terms.{Terms}
use Rattle.sy_terms.specs.declared.term.Def.{Def}
use Rattle.sy_terms_operators.specs.Evaluation.{TermFits, HasValue, HaveValues, scope_with}
use Rattle.sy_terms_operators.proofs.Cases as cases
use Rattle.sy_terms_operators.proofs.Steps as step
use Rattle.sy_terms_operators.proofs.Reached.{calls, calls-fits, function-at}
use Rattle.sy_loop_candidate.specs.Bodies.{AreBodies, functions_by, GivesUnder, can_compute_under}

-- the body that is called
pub record CallsBody {T N : Type 0} (owned : Op → Bool) (defs : List (Def T N)) (all : List Expr) (n : ℕ) (found : List Val) (gives : Sort) : Type 0 where
  pub term : Expr
  pub is : slice_get all n ≡ Some term
  pub fits : sort_in (scope_of owned defs) (map sort_of_value found) term ≡ Some gives

body-at : {T N : Type 0} (owned : Op → Bool) (defs : List (Def T N)) (all : List Expr) (ss : List Signature) (n : ℕ) (s : Signature) → AreBodies owned defs all ss → slice_get ss n ≡ Some s →
    (term : Expr) × (slice_get all n ≡ Some term) × (sort_in (scope_of owned defs) s.takes term ≡ Some s.gives)
body-at owned defs [] [] n s fit e = absurd (none-some s e)
body-at owned defs [] (s' ∷ ss) n s fit e = absurd fit
body-at owned defs (t ∷ all) [] n s fit e = absurd fit
body-at owned defs (t ∷ all) (s' ∷ ss) zero s fit e =
    let same : s' ≡ s = cc in
    (t, refl, subst (λ (u : Signature). sort_in (scope_of owned defs) u.takes t ≡ Some u.gives) same fit.0)
body-at owned defs (t ∷ all) (s' ∷ ss) (suc n) s fit e = body-at owned defs all ss n s fit.1 e

pub calls-body : {T N : Type 0} (owned : Op → Bool) (defs : List (Def T N)) (all : List Expr) (ss : List Signature) (n : ℕ) (found : List Val) (gives : Sort) → AreBodies owned defs all ss → cases.Takes (scope_with owned defs ss) (Wanted n) found gives →
    CallsBody owned defs all n found gives
calls-body owned defs all ss n found gives fit takes =
    let at = body-at owned defs all ss n takes.signature fit takes.is in
    record {
      term = at.0;
      is = at.1;
      fits = subst (λ (sorts : List Sort). sort_in (scope_of owned defs) sorts at.0 ≡ Some gives) takes.takes (at.2 ∙ ap Some takes.gives_sort);
    }

pub body-within : {T N : Type 0} {owned : Op → Bool} {defs : List (Def T N)} {all : List Expr} {n : ℕ} {found : List Val} {gives : Sort} → CallsBody owned defs all n found gives → n < length all
body-within {all = all} {n = n} called = slice_get_within all n called.term called.is

body-function : {T N : Type 0} (number : N → Val) (defs : List (Def T N)) (all : List Expr) (n : ℕ) (term : Expr) → slice_get all n ≡ Some term → slice_get (functions_by number defs all) n ≡ Some (function_from (functions (bodies number defs)) term)
body-function number defs all n term e = slice_get-map (function_from (functions (bodies number defs))) all n ∙ ap (option_map (function_from (functions (bodies number defs)))) e

module _ {T N : Type 0} (owned : Op → Bool) (number : N → Val) (defs : List (Def T N)) (wanted : List Signature) (values : List Val) (term : Term T N) (function : Fun) (arguments : Terms T N) (found : List Val) (n : ℕ) (is : term ≡ Call function arguments)
    (fit : TermFits (scope_with owned defs wanted) values (expr_of number term)) where
  -- what a call of a definition finds, whatever the functions to be found are
  pub defined-ok : (others : List Function) (d : Def T N) (value : Val) → function ≡ Defined n → DefinitionsFit owned number defs → HaveValues (scope_with owned defs wanted) (functions (bodies number defs)) others values (exprs_of number arguments.items.items) found →
      GivesUnder owned number (take n defs) [] found (body number (get_or defs n d)) value → HasValue (scope_with owned defs wanted) (functions (bodies number defs)) others values (expr_of number term) value
  defined-ok others d value defined definitions have gives =
      let takes = step.call-takes (scope_with owned defs wanted) (functions (bodies number defs)) others number values term function arguments found (Defined n) is defined fit have in
      let called = calls owned number defs wanted n found fit.sort definitions takes in
      let has = gives [] tt (calls-fits called d) in
      let def_is = get_or_from_slice_get defs n called.def d called.is in
      let has' : HasValue (scope_of owned (take n defs)) (functions (bodies number (take n defs))) [] found (body number called.def) value = rw def_is at has in
      let sorted : sort_of_value value ≡ fit.sort = same_Some (sort_of_value value) fit.sort (sym has'.sort ∙ called.fits) in
      step.call-ok (scope_with owned defs wanted) (functions (bodies number defs)) others number values term function arguments found (Defined n) (function_from (functions (bodies number (take n defs))) (body number called.def)) value is defined fit have
      (function-at number defs n called.def called.is) has'.valid sorted has'.computable has'.meaning

  pub defined-unfit : (others : List Function) (d : Def T N) → function ≡ Defined n → DefinitionsFit owned number defs → HaveValues (scope_with owned defs wanted) (functions (bodies number defs)) others values (exprs_of number arguments.items.items) found →
      can_compute_under number (take n defs) [] found (body number (get_or defs n d)) ≡ false → computable (functions (bodies number defs)) others values (expr_of number term) ≡ false
  defined-unfit others d defined definitions have unfit =
      let takes = step.call-takes (scope_with owned defs wanted) (functions (bodies number defs)) others number values term function arguments found (Defined n) is defined fit have in
      let called = calls owned number defs wanted n found fit.sort definitions takes in
      let def_is = get_or_from_slice_get defs n called.def d called.is in
      step.call-unfit (scope_with owned defs wanted) (functions (bodies number defs)) others number values term function arguments found (Defined n) (function_from (functions (bodies number (take n defs))) (body number called.def)) is defined have
      (function-at number defs n called.def called.is) (rw def_is at unfit)

  -- what a call of a function to be found finds
  pub wanted-ok : (all : List Expr) (t : Expr) (value : Val) → function ≡ Wanted n → slice_get all n ≡ Some t → AreBodies owned defs all wanted →
      HaveValues (scope_with owned defs wanted) (functions (bodies number defs)) (functions_by number defs all) values (exprs_of number arguments.items.items) found →
      HasValue (scope_of owned defs) (functions (bodies number defs)) [] found t value → HasValue (scope_with owned defs wanted) (functions (bodies number defs)) (functions_by number defs all) values (expr_of number term) value
  wanted-ok all t value is_wanted at bodies_fit have has =
      let takes = step.call-takes (scope_with owned defs wanted) (functions (bodies number defs)) (functions_by number defs all) number values term function arguments found (Wanted n) is is_wanted fit have in
      let called = calls-body owned defs all wanted n found fit.sort bodies_fit takes in
      let same : t ≡ called.term = same_Some t called.term (sym at ∙ called.is) in
      let sorted : sort_of_value value ≡ fit.sort = same_Some (sort_of_value value) fit.sort (sym (subst (λ u. sort_in (scope_of owned defs) (map sort_of_value found) u ≡ Some (sort_of_value value)) same has.sort) ∙ called.fits) in
      step.call-ok (scope_with owned defs wanted) (functions (bodies number defs)) (functions_by number defs all) number values term function arguments found (Wanted n) (function_from (functions (bodies number defs)) t) value is is_wanted fit have
      (body-function number defs all n t at) has.valid sorted has.computable has.meaning
