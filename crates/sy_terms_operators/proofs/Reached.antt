-- The definition or the body that a call reaches.
use Rattle.std.specs.Prelude.{ℕ, zero, suc, ◌+◌, ◌*◌, ◌<◌, Bool, false, List, [], ◌∷◌, ◌≡◌, refl, slice_get, Some, map, length}
use Rattle.std.specs.Option.{option_map}
use Rattle.std.proofs.Common.{arith, ap, ◌∙◌, sym, get_or, subst, take}
use Rattle.std.proofs.lemmas.Option.{none-some, same_Some, slice_get-map, slice_get_within, get_or_from_slice_get}
use Rattle.sy_terms.specs.Values.{Val}
use Rattle.sy_terms.specs.Expr.{Expr, nodes}
use Rattle.sy_terms.specs.Denoted.{expr_of, exprs_of}
use Rattle.sy_terms.specs.Theories.{sort_of_value}
use Rattle.sy_terms.specs.Meaning.{function_from, functions, asked}
use Rattle.sy_terms.specs.Fitting.{Signature, sort_in}
use Rattle.sy_terms.specs.Definitions.{scope_of, signature, bodies, body, DefinitionsFit}
use Rattle.sy_terms.specs.declared.op.Op.{Op}
use Rattle.sy_terms.specs.declared.sort.Sort.{Sort}
use Rattle.sy_terms.specs.declared.term.Fun.{Fun}
use Rattle.sy_terms.specs.declared.term.Fun.TheVariants.{Defined, Wanted}
use Rattle.sy_terms.specs.declared.term.Term.{Term, Call}
use Rattle.sy_terms.specs.declared.term.Terms.{Terms}
use Rattle.sy_terms.specs.declared.term.Def.{Def}
use Rattle.sy_terms_operators.specs.Evaluation.{TermFits, HasValue, HaveValues, BodiesFit, scope_with, wanted_functions, GivesValue, can_compute}
use Rattle.sy_terms_operators.proofs.Cases as cases
use Rattle.sy_terms_operators.proofs.Steps as step
use Rattle.sy_terms_operators.proofs.Asked.{asks_nothing}
use Rattle.sy_terms_operators.proofs.Called.{functions_after-at, FitAfter-at}
use Rattle.sy_terms_operators.proofs.Lists.{weight, weight-at}

-- the definition that is called: its place, its signature, that its body fits
pub record Calls {T N : Type 0} (owned : Op → Bool) (number : N → Val) (defs : List (Def T N)) (n : ℕ) (found : List Val) (gives : Sort) : Type 0 where
  pub def : Def T N
  pub is : slice_get defs n ≡ Some def
  pub before : DefinitionsFit owned number (take n defs)
  pub fits : sort_in (scope_of owned (take n defs)) (map sort_of_value found) (body number def) ≡ Some gives

signature-at : {T N : Type 0} (defs : List (Def T N)) (n : ℕ) (s : Signature) → slice_get (map signature defs) n ≡ Some s → (def : Def T N) × (slice_get defs n ≡ Some def) × (signature def ≡ s)
signature-at [] n s e = absurd (none-some s e)
signature-at (x ∷ defs) zero s e =
    let same : signature x ≡ s = cc in
    (x, refl, same)
signature-at (x ∷ defs) (suc n) s e = signature-at defs n s e

pub calls : {T N : Type 0} (owned : Op → Bool) (number : N → Val) (defs : List (Def T N)) (wanted : List Signature) (n : ℕ) (found : List Val) (gives : Sort) → DefinitionsFit owned number defs → cases.Takes (scope_with owned defs wanted) (Defined n) found gives → Calls owned number defs n found gives
calls {T} {N} owned number defs wanted n found gives fit takes =
    let at = signature-at defs n takes.signature takes.is in
    let there = FitAfter-at owned number [] defs n at.0 fit at.1 in
    let args : at.0.args ≡ map sort_of_value found = ap (λ (s : Signature). s.takes) at.2 ∙ takes.takes in
    let sort : at.0.sort ≡ gives = ap (λ (s : Signature). s.gives) at.2 ∙ takes.gives_sort in
    record {
      def = at.0;
      is = at.1;
      before = there.before_fit;
      fits = subst (λ (ss : List Sort). sort_in (scope_of owned (take n defs)) ss (body number at.0) ≡ Some gives) args (there.fits ∙ ap Some sort);
    }

pub calls-within : {T N : Type 0} {owned : Op → Bool} (number : N → Val) {defs : List (Def T N)} {n : ℕ} {found : List Val} {gives : Sort} → Calls owned number defs n found gives → n < length defs
calls-within number {defs} {n} called = slice_get_within defs n called.def called.is

pub calls-fits : {T N : Type 0} {owned : Op → Bool} {number : N → Val} {defs : List (Def T N)} {n : ℕ} {found : List Val} {gives : Sort} (called : Calls owned number defs n found gives) (d : Def T N) → TermFits (scope_of owned (take n defs)) found (body number (get_or defs n d))
calls-fits {owned = owned} {number = number} {defs = defs} {n = n} {gives = gives} called d = rw (get_or_from_slice_get defs n called.def d called.is) (record { sort = gives; is = called.fits })

pub calls-falls : {T N : Type 0} {owned : Op → Bool} {number : N → Val} {defs : List (Def T N)} {n : ℕ} {found : List Val} {gives : Sort} (called : Calls owned number defs n found gives) (d : Def T N) (k : ℕ) → 2 * (nodes (body number (get_or defs n d)) + weight number (take n defs)) < 2 * (k + weight number defs)
calls-falls {number = number} {defs = defs} {n = n} called d k = rw (get_or_from_slice_get defs n called.def d called.is) (omega (arith, weight-at number defs n called.def called.is))

take-bodies : {T N : Type 0} (number : N → Val) (defs : List (Def T N)) (n : ℕ) → take n (bodies number defs) ≡ bodies number (take n defs)
take-bodies number [] zero = refl
take-bodies number [] (suc n) = refl
take-bodies number (x ∷ defs) zero = refl
take-bodies number (x ∷ defs) (suc n) = ap (λ (rest : List Expr). body number x ∷ rest) (take-bodies number defs n)

pub function-at : {T N : Type 0} (number : N → Val) (defs : List (Def T N)) (n : ℕ) (def : Def T N) → slice_get defs n ≡ Some def → slice_get (functions (bodies number defs)) n ≡ Some (function_from (functions (bodies number (take n defs))) (body number def))
function-at number defs n def e =
    functions_after-at [] (bodies number defs) n n (body number def) (omega arith) (slice_get-map (body number) defs n ∙ ap (option_map (body number)) e) ∙ ap (λ (bs : List Expr). Some (function_from (functions bs) (body number def))) (take-bodies number defs n)

-- the body of a function to be found that is called
pub record CallsBody {T N : Type 0} (owned : Op → Bool) (number : N → Val) (defs : List (Def T N)) (terms : List (Term T N)) (n : ℕ) (found : List Val) (gives : Sort) : Type 0 where
  pub term : Term T N
  pub is : slice_get terms n ≡ Some term
  pub fits : sort_in (scope_of owned defs) (map sort_of_value found) (expr_of number term) ≡ Some gives

body-at : {T N : Type 0} (owned : Op → Bool) (number : N → Val) (defs : List (Def T N)) (terms : List (Term T N)) (ss : List Signature) (n : ℕ) (s : Signature) → BodiesFit owned number defs terms ss → slice_get ss n ≡ Some s → (term : Term T N) × (slice_get terms n ≡ Some term) × (sort_in (scope_of owned defs) s.takes (expr_of number term) ≡ Some s.gives)
body-at owned number defs [] [] n s fit e = absurd (none-some s e)
body-at owned number defs [] (s' ∷ ss) n s fit e = absurd fit
body-at owned number defs (t ∷ terms) [] n s fit e = absurd fit
body-at owned number defs (t ∷ terms) (s' ∷ ss) zero s fit e =
    let same : s' ≡ s = cc in
    (t, refl, subst (λ (u : Signature). sort_in (scope_of owned defs) u.takes (expr_of number t) ≡ Some u.gives) same fit.0)
body-at owned number defs (t ∷ terms) (s' ∷ ss) (suc n) s fit e = body-at owned number defs terms ss n s fit.1 e

pub calls-body : {T N : Type 0} (owned : Op → Bool) (number : N → Val) (defs : List (Def T N)) (terms : List (Term T N)) (ss : List Signature) (n : ℕ) (found : List Val) (gives : Sort) → BodiesFit owned number defs terms ss → cases.Takes (scope_with owned defs ss) (Wanted n) found gives → CallsBody owned number defs terms n found gives
calls-body owned number defs terms ss n found gives fit takes =
    let at = body-at owned number defs terms ss n takes.signature fit takes.is in
    record {
      term = at.0;
      is = at.1;
      fits = subst (λ (sorts : List Sort). sort_in (scope_of owned defs) sorts (expr_of number at.0) ≡ Some gives) takes.takes (at.2 ∙ ap Some takes.gives_sort);
    }

pub body-within : {T N : Type 0} {owned : Op → Bool} (number : N → Val) {defs : List (Def T N)} {terms : List (Term T N)} {n : ℕ} {found : List Val} {gives : Sort} → CallsBody owned number defs terms n found gives → n < length terms
body-within number {terms = terms} {n = n} called = slice_get_within terms n called.term called.is

pub body-function : {T N : Type 0} (number : N → Val) (defs : List (Def T N)) (terms : List (Term T N)) (n : ℕ) (term : Term T N) → slice_get terms n ≡ Some term → slice_get (wanted_functions number defs terms) n ≡ Some (function_from (functions (bodies number defs)) (expr_of number term))
body-function {T} {N} number defs terms n term e = slice_get-map (λ (t : Term T N). function_from (functions (bodies number defs)) (expr_of number t)) terms n ∙ ap (option_map (λ (t : Term T N). function_from (functions (bodies number defs)) (expr_of number t))) e

-- the nodes of the bodies, and one for each
abbrev pub weight_of : {T N : Type 0} → (N → Val) → List (Term T N) → ℕ
weight_of number [] = 0
weight_of number (term ∷ terms) = nodes (expr_of number term) + 1 + weight_of number terms

weight_of-at : {T N : Type 0} (number : N → Val) (terms : List (Term T N)) (n : ℕ) (term : Term T N) → slice_get terms n ≡ Some term → nodes (expr_of number term) < weight_of number terms
weight_of-at number [] n term e = absurd (none-some term e)
weight_of-at number (x ∷ terms) zero term e =
    let same : x ≡ term = cc in
    rw same (omega arith)
weight_of-at number (x ∷ terms) (suc n) term e = omega (arith, weight_of-at number terms n term e)

pub defined-falls : {T N : Type 0} {owned : Op → Bool} {number : N → Val} {defs : List (Def T N)} {n : ℕ} {found : List Val} {gives : Sort} (called : Calls owned number defs n found gives) (d : Def T N) (k b : ℕ) → 2 * (nodes (body number (get_or defs n d)) + (weight number (take n defs) + 0)) < 2 * (k + (weight number defs + b))
defined-falls {number = number} {defs = defs} {n = n} called d k b = rw (get_or_from_slice_get defs n called.def d called.is) (omega (arith, weight-at number defs n called.def called.is))

body-is : {T N : Type 0} {owned : Op → Bool} {number : N → Val} {defs : List (Def T N)} {terms : List (Term T N)} {n : ℕ} {found : List Val} {gives : Sort} (called : CallsBody owned number defs terms n found gives) (d : Term T N) → d ≡ get_or terms n d → d ≡ called.term
body-is {terms = terms} {n = n} called d at = at ∙ get_or_from_slice_get terms n called.term d called.is

pub body-falls : {T N : Type 0} {owned : Op → Bool} {number : N → Val} {defs : List (Def T N)} {terms : List (Term T N)} {n : ℕ} {found : List Val} {gives : Sort} (called : CallsBody owned number defs terms n found gives) (d : Term T N) (k w : ℕ) → d ≡ get_or terms n d → 2 * (nodes (expr_of number d) + (w + 0)) < 2 * (k + (w + weight_of number terms))
body-falls {number = number} {terms = terms} {n = n} called d k w at = rw (body-is called d at) (omega (arith, weight_of-at number terms n called.term called.is))

pub body-fits : {T N : Type 0} {owned : Op → Bool} {number : N → Val} {defs : List (Def T N)} {terms : List (Term T N)} {n : ℕ} {found : List Val} {gives : Sort} (called : CallsBody owned number defs terms n found gives) (d : Term T N) → d ≡ get_or terms n d → TermFits (scope_of owned defs) found (expr_of number d)
body-fits {terms = terms} {n = n} {gives = gives} called d at = rw (body-is called d at) (record { sort = gives; is = called.fits })

-- what a call of a definition finds
pub defined-ok : {T N : Type 0} (owned : Op → Bool) (number : N → Val) (defs : List (Def T N)) (terms : List (Term T N)) (values : List Val) (term : Term T N) (function : Fun) (arguments : Terms T N) (found : List Val) (n : ℕ) (d : Def T N) (value : Val) (wanted : List Signature) → term ≡ Call function arguments → function ≡ Defined n → DefinitionsFit owned number defs → TermFits (scope_with owned defs wanted) values (expr_of number term) → HaveValues (scope_with owned defs wanted) (functions (bodies number defs)) (wanted_functions number defs terms) values (exprs_of number arguments.items.items) found → GivesValue owned number (take n defs) [] found (body number (get_or defs n d)) value → HasValue (scope_with owned defs wanted) (functions (bodies number defs)) (wanted_functions number defs terms) values (expr_of number term) value
defined-ok {T} {N} owned number defs terms values term function arguments found n d value wanted is defined definitions fit have gives =
    let takes = step.call-takes (scope_with owned defs wanted) (functions (bodies number defs)) (wanted_functions number defs terms) number values term function arguments found (Defined n) is defined fit have in
    let called = calls owned number defs wanted n found fit.sort definitions takes in
    let has = gives [] tt (calls-fits called d) in
    let def_is = get_or_from_slice_get defs n called.def d called.is in
    let has' : HasValue (scope_of owned (take n defs)) (functions (bodies number (take n defs))) [] found (body number called.def) value = rw def_is at has in
    let sorted : sort_of_value value ≡ fit.sort = same_Some (sort_of_value value) fit.sort (sym has'.sort ∙ called.fits) in
    step.call-ok (scope_with owned defs wanted) (functions (bodies number defs)) (wanted_functions number defs terms) number values term function arguments found (Defined n) (function_from (functions (bodies number (take n defs))) (body number called.def)) value is defined fit have (function-at number defs n called.def called.is) has'.valid sorted has'.computable has'.meaning

pub defined-unfit : {T N : Type 0} (owned : Op → Bool) (number : N → Val) (defs : List (Def T N)) (terms : List (Term T N)) (values : List Val) (term : Term T N) (function : Fun) (arguments : Terms T N) (found : List Val) (n : ℕ) (d : Def T N) (wanted : List Signature) → term ≡ Call function arguments → function ≡ Defined n → DefinitionsFit owned number defs → TermFits (scope_with owned defs wanted) values (expr_of number term) → HaveValues (scope_with owned defs wanted) (functions (bodies number defs)) (wanted_functions number defs terms) values (exprs_of number arguments.items.items) found → can_compute number (take n defs) [] found (body number (get_or defs n d)) ≡ false → can_compute number defs terms values (expr_of number term) ≡ false
defined-unfit owned number defs terms values term function arguments found n d wanted is defined definitions fit have unfit =
    let takes = step.call-takes (scope_with owned defs wanted) (functions (bodies number defs)) (wanted_functions number defs terms) number values term function arguments found (Defined n) is defined fit have in
    let called = calls owned number defs wanted n found fit.sort definitions takes in
    let def_is = get_or_from_slice_get defs n called.def d called.is in
    step.call-unfit (scope_with owned defs wanted) (functions (bodies number defs)) (wanted_functions number defs terms) number values term function arguments found (Defined n) (function_from (functions (bodies number (take n defs))) (body number called.def)) is defined have (function-at number defs n called.def called.is) (rw def_is at unfit)

-- what a call of a function to be found finds
pub wanted-ok : {T N : Type 0} (owned : Op → Bool) (number : N → Val) (defs : List (Def T N)) (terms : List (Term T N)) (values : List Val) (term : Term T N) (function : Fun) (arguments : Terms T N) (found : List Val) (n : ℕ) (d : Term T N) (value : Val) (wanted : List Signature) → term ≡ Call function arguments → function ≡ Wanted n → d ≡ get_or terms n d → BodiesFit owned number defs terms wanted → TermFits (scope_with owned defs wanted) values (expr_of number term) → HaveValues (scope_with owned defs wanted) (functions (bodies number defs)) (wanted_functions number defs terms) values (exprs_of number arguments.items.items) found → GivesValue owned number defs [] found (expr_of number d) value → HasValue (scope_with owned defs wanted) (functions (bodies number defs)) (wanted_functions number defs terms) values (expr_of number term) value
wanted-ok {T} {N} owned number defs terms values term function arguments found n d value wanted is is_wanted at bodies_fit fit have gives =
    let takes = step.call-takes (scope_with owned defs wanted) (functions (bodies number defs)) (wanted_functions number defs terms) number values term function arguments found (Wanted n) is is_wanted fit have in
    let called = calls-body owned number defs terms wanted n found fit.sort bodies_fit takes in
    let has = gives [] tt (body-fits called d at) in
    let term_is = body-is called d at in
    let has' : HasValue (scope_of owned defs) (functions (bodies number defs)) [] found (expr_of number called.term) value = rw term_is at has in
    let sorted : sort_of_value value ≡ fit.sort = same_Some (sort_of_value value) fit.sort (sym has'.sort ∙ called.fits) in
    step.call-ok (scope_with owned defs wanted) (functions (bodies number defs)) (wanted_functions number defs terms) number values term function arguments found (Wanted n) (function_from (functions (bodies number defs)) (expr_of number called.term)) value is is_wanted fit have (body-function number defs terms n called.term called.is) has'.valid sorted has'.computable has'.meaning

pub wanted-unfit : {T N : Type 0} (owned : Op → Bool) (number : N → Val) (defs : List (Def T N)) (terms : List (Term T N)) (values : List Val) (term : Term T N) (function : Fun) (arguments : Terms T N) (found : List Val) (n : ℕ) (d : Term T N) (wanted : List Signature) → term ≡ Call function arguments → function ≡ Wanted n → d ≡ get_or terms n d → BodiesFit owned number defs terms wanted → TermFits (scope_with owned defs wanted) values (expr_of number term) → HaveValues (scope_with owned defs wanted) (functions (bodies number defs)) (wanted_functions number defs terms) values (exprs_of number arguments.items.items) found → can_compute number defs [] found (expr_of number d) ≡ false → can_compute number defs terms values (expr_of number term) ≡ false
wanted-unfit owned number defs terms values term function arguments found n d wanted is is_wanted at bodies_fit fit have unfit =
    let takes = step.call-takes (scope_with owned defs wanted) (functions (bodies number defs)) (wanted_functions number defs terms) number values term function arguments found (Wanted n) is is_wanted fit have in
    let called = calls-body owned number defs terms wanted n found fit.sort bodies_fit takes in
    let term_is = body-is called d at in
    step.call-unfit (scope_with owned defs wanted) (functions (bodies number defs)) (wanted_functions number defs terms) number values term function arguments found (Wanted n) (function_from (functions (bodies number defs)) (expr_of number called.term)) is is_wanted have (body-function number defs terms n called.term called.is) (rw term_is at unfit)

-- the body of a definition asks for nothing, and so does a body that is handed in
pub defined-asks : {T N : Type 0} (owned : Op → Bool) (number : N → Val) (defs : List (Def T N)) {n : ℕ} {found : List Val} {gives : Sort} (called : Calls owned number defs n found gives) (d : Def T N) → asked (functions (bodies number (take n defs))) [] found (body number (get_or defs n d)) ≡ []
defined-asks owned number defs {n} {found} called d =
    let fit = calls-fits called d in
    asks_nothing (scope_of owned (take n defs)) refl (functions (bodies number (take n defs))) [] (map sort_of_value found) found (body number (get_or defs n d)) fit.sort fit.is

pub body-asks : {T N : Type 0} (owned : Op → Bool) (number : N → Val) (defs : List (Def T N)) {terms : List (Term T N)} {n : ℕ} {found : List Val} {gives : Sort} (called : CallsBody owned number defs terms n found gives) (d : Term T N) → d ≡ get_or terms n d → asked (functions (bodies number defs)) [] found (expr_of number d) ≡ []
body-asks owned number defs {terms} {n} {found} called d at =
    let fit = body-fits called d at in
    asks_nothing (scope_of owned defs) refl (functions (bodies number defs)) [] (map sort_of_value found) found (expr_of number d) fit.sort fit.is
