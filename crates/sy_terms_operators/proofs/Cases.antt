-- What evaluation finds of each form of a term, from what it finds of its parts.
use Rattle.std.specs.Prelude.{ℕ, ◌<◌, true, false, List, [], ◌∷◌, ◌++◌, ◌≡◌, refl, slice_get, Some, map, length, All}
use Rattle.std.specs.Option.{option_map}
use Rattle.std.proofs.Common.{arith, ap, ◌∙◌, sym, get_or, subst}
use Rattle.std.proofs.lemmas.List.{length-map}
use Rattle.std.proofs.lemmas.Option.{slice_get-map, slice_get_within, slice_get-get_or, get_or_from_slice_get}
use Rattle.std.proofs.lemmas.List.Elements.{All-get_or}
use Rattle.sy_terms.specs.Values.{Val, Truth}
use Rattle.sy_terms.specs.Operators.{op_value}
use Rattle.sy_terms.specs.Sorts.{sort_of}
use Rattle.sy_terms.specs.Expr.{Expr, Exprs, Constant, Variable, Apply, Invoke, Bind}
use Rattle.sy_terms.specs.Denoted.{IsSorted}
use Rattle.sy_terms.specs.Theories.{fits, sort_of_value, valid}
use Rattle.sy_terms.specs.Meaning.{Function, meaning, computable, all_computable, function_of}
use Rattle.sy_terms.specs.Fitting.{Scope, Signature, sort_in, sorts_in, signature_of}
use Rattle.sy_terms.specs.declared.op.Op.{Op}
use Rattle.sy_terms.specs.declared.sort.Sort.{Sort}
use Rattle.sy_terms.specs.declared.sorts.Sorted.TheVariants.{Is}
use Rattle.sy_terms.specs.declared.term.Fun.{Fun}
use Rattle.sy_terms_operators.specs.Evaluation.{TermFits, TermsFit, HasValue, HaveValues}
use Rattle.sy_terms_operators.proofs.Equations.{if_Some, applied_sort_Some, called_sort_Some, after_Some, value_at_position_is}

-- a constant

pub HasValue-Constant : {scope : Scope} (defined wanted : List Function) {values : List Val} {value : Val} → TermFits scope values (Constant value) → HasValue scope defined wanted values (Constant value) value
unfolding sort_in computable meaning
HasValue-Constant defined wanted {values} {value} fit =
    let both = if_Some (valid value) (sort_of_value value) fit.sort fit.is in
    record { valid = both.0; sort = rw (both.0) refl; computable = refl; meaning = refl }

-- a variable

pub Variable-within : {scope : Scope} {values : List Val} {position : ℕ} → TermFits scope values (Variable position) → position < length values
unfolding sort_in
Variable-within {scope} {values} {position} fit = omega (arith, slice_get_within (map sort_of_value values) position fit.sort fit.is, length-map values sort_of_value)

pub HasValue-Variable : (scope : Scope) (defined wanted : List Function) {values : List Val} (position : ℕ) (value : Val) → All (λ v. valid v ≡ true) values → position < length values → value ≡ get_or values position value → HasValue scope defined wanted values (Variable position) value
unfolding sort_in computable meaning
HasValue-Variable scope defined wanted {values} position value each within is =
    let here = slice_get-get_or values position value within in
    let found : slice_get values position ≡ Some value = here ∙ ap Some (sym is) in
    record {
      valid = subst (λ (v : Val). valid v ≡ true) (sym is) (All-get_or (λ v. valid v ≡ true) values position value within each);
      sort = slice_get-map sort_of_value values position ∙ ap (option_map sort_of_value) found;
      computable = refl;
      meaning = sym (value_at_position_is values position ∙ get_or_from_slice_get values position value (Truth false) found);
    }

-- an application

pub Apply-owned : {scope : Scope} {values : List Val} {operator : Op} {arguments : Exprs} → TermFits scope values (Apply operator arguments) → scope.owned operator ≡ true
unfolding sort_in
Apply-owned {scope} {values} {operator} {arguments} fit = (applied_sort_Some scope operator (sorts_in scope (map sort_of_value values) arguments) fit.sort fit.is).owned

pub Apply-arguments : {scope : Scope} {values : List Val} {operator : Op} {arguments : Exprs} → TermFits scope values (Apply operator arguments) → TermsFit scope values arguments
unfolding sort_in
Apply-arguments {scope} {values} {operator} {arguments} fit =
    let found = applied_sort_Some scope operator (sorts_in scope (map sort_of_value values) arguments) fit.sort fit.is in
    record { sorts = found.sorts; is = found.is }

pub Apply-sorted : {scope : Scope} {defined wanted : List Function} {values : List Val} {operator : Op} {arguments : Exprs} {found : List Val} → TermFits scope values (Apply operator arguments) → HaveValues scope defined wanted values arguments found → IsSorted operator found
unfolding sort_in
Apply-sorted {scope} {values = values} {operator = operator} {arguments = arguments} {found = found} fit have =
    let applied = applied_sort_Some scope operator (sorts_in scope (map sort_of_value values) arguments) fit.sort fit.is in
    let same : applied.sorts ≡ map sort_of_value found = cc in
    record { sort = fit.sort; fits = ap (sort_of operator) (sym same) ∙ applied.fits; each = have.valid }

pub HasValue-Apply : {scope : Scope} {defined wanted : List Function} {values : List Val} {operator : Op} {arguments : Exprs} {found : List Val} {value : Val} → ((s : Sort) → sort_of operator (map sort_of_value found) ≡ Is s → sort_of_value (op_value operator found) ≡ s) → TermFits scope values (Apply operator arguments) → HaveValues scope defined wanted values arguments found → valid value ≡ true → fits operator found ≡ true → value ≡ op_value operator found → HasValue scope defined wanted values (Apply operator arguments) value
unfolding sort_in computable meaning
HasValue-Apply {scope} {values = values} {operator = operator} {arguments = arguments} {found = found} {value = value} sorted fit have ok fitting is =
    let applied = applied_sort_Some scope operator (sorts_in scope (map sort_of_value values) arguments) fit.sort fit.is in
    let same : applied.sorts ≡ map sort_of_value found = cc in
    let its_sort = sorted fit.sort (ap (sort_of operator) (sym same) ∙ applied.fits) in
    record {
      valid = ok;
      sort = fit.is ∙ ap Some (sym (ap sort_of_value is ∙ its_sort));
      computable = rw (have.computable, ← have.meanings) fitting;
      meaning = is ∙ ap (op_value operator) have.meanings;
    }

pub Apply-unfit-arguments : (defined wanted : List Function) (values : List Val) (operator : Op) (arguments : Exprs) → all_computable defined wanted values arguments ≡ false → computable defined wanted values (Apply operator arguments) ≡ false
unfolding computable
Apply-unfit-arguments defined wanted values operator arguments e = rw e refl

pub Apply-unfit : {scope : Scope} {defined wanted : List Function} {values : List Val} (operator : Op) {arguments : Exprs} {found : List Val} → HaveValues scope defined wanted values arguments found → fits operator found ≡ false → computable defined wanted values (Apply operator arguments) ≡ false
unfolding computable
Apply-unfit operator have unfit = rw (have.computable, ← have.meanings) unfit

-- a call

pub Invoke-arguments : {scope : Scope} {values : List Val} {function : Fun} {arguments : Exprs} → TermFits scope values (Invoke function arguments) → TermsFit scope values arguments
unfolding sort_in
Invoke-arguments {scope} {values} {function} {arguments} fit =
    let found = called_sort_Some (signature_of scope function) (sorts_in scope (map sort_of_value values) arguments) fit.sort fit.is in
    record { sorts = found.function.takes; is = found.takes }

-- the called function's signature, where the arguments have values
pub record Takes (scope : Scope) (function : Fun) (found : List Val) (gives : Sort) : Type 0 where
  pub signature : Signature
  pub is : signature_of scope function ≡ Some signature
  pub takes : signature.takes ≡ map sort_of_value found
  pub gives_sort : signature.gives ≡ gives

pub Invoke-takes : {scope : Scope} {defined wanted : List Function} {values : List Val} {function : Fun} {arguments : Exprs} {found : List Val} (fit : TermFits scope values (Invoke function arguments)) → HaveValues scope defined wanted values arguments found → Takes scope function found fit.sort
unfolding sort_in
Invoke-takes {scope} {values = values} {function = function} {arguments = arguments} {found = found} fit have =
    let called = called_sort_Some (signature_of scope function) (sorts_in scope (map sort_of_value values) arguments) fit.sort fit.is in
    record { signature = called.function; is = called.is; takes = cc; gives_sort = called.gives }

pub HasValue-Invoke : {scope : Scope} {defined wanted : List Function} {values : List Val} {function : Fun} {arguments : Exprs} {found : List Val} {value : Val} (fit : TermFits scope values (Invoke function arguments)) → HaveValues scope defined wanted values arguments found → (f : Function) → function_of defined wanted function ≡ Some f → valid value ≡ true → sort_of_value value ≡ fit.sort → f.computable found ≡ true → value ≡ f.value found → HasValue scope defined wanted values (Invoke function arguments) value
unfolding sort_in computable meaning
HasValue-Invoke fit have f is ok sorted fitting means = record {
  valid = ok;
  sort = fit.is ∙ ap Some (sym sorted);
  computable = rw (have.computable, is, ← have.meanings) fitting;
  meaning = rw (is, ← have.meanings) means;
}

pub Invoke-unfit-arguments : (defined wanted : List Function) (values : List Val) (function : Fun) (arguments : Exprs) → all_computable defined wanted values arguments ≡ false → computable defined wanted values (Invoke function arguments) ≡ false
unfolding computable
Invoke-unfit-arguments defined wanted values function arguments e = rw e refl

pub Invoke-unfit : {scope : Scope} {defined wanted : List Function} {values : List Val} (function : Fun) {arguments : Exprs} {found : List Val} → HaveValues scope defined wanted values arguments found → (f : Function) → function_of defined wanted function ≡ Some f → f.computable found ≡ false → computable defined wanted values (Invoke function arguments) ≡ false
unfolding computable
Invoke-unfit function have f is unfit = rw (have.computable, is, ← have.meanings) unfit

-- a binding

pub Bind-bound : {scope : Scope} {values : List Val} {bound : Exprs} {inner : Expr} → TermFits scope values (Bind bound inner) → TermsFit scope values bound
unfolding sort_in
Bind-bound {scope} {values} {bound} {inner} fit =
    let found = after_Some (sorts_in scope (map sort_of_value values) bound) (λ found. sort_in scope (map sort_of_value values ++ found) inner) fit.sort fit.is in
    record { sorts = found.sorts; is = found.is }

map-joined : (xs ys : List Val) → map sort_of_value (xs ++ ys) ≡ map sort_of_value xs ++ map sort_of_value ys
map-joined [] ys = refl
map-joined (x ∷ xs) ys = ap (λ (rest : List Sort). sort_of_value x ∷ rest) (map-joined xs ys)

pub Bind-inner : {scope : Scope} {defined wanted : List Function} {values : List Val} {bound : Exprs} {inner : Expr} {found : List Val} → TermFits scope values (Bind bound inner) → HaveValues scope defined wanted values bound found → TermFits scope (values ++ found) inner
unfolding sort_in
Bind-inner {scope} {values = values} {bound = bound} {inner = inner} {found = found} fit have =
    let after = after_Some (sorts_in scope (map sort_of_value values) bound) (λ found. sort_in scope (map sort_of_value values ++ found) inner) fit.sort fit.is in
    let same : after.sorts ≡ map sort_of_value found = cc in
    record { sort = fit.sort; is = rw (map-joined values found, ← same) after.next_is }

pub HasValue-Bind : {scope : Scope} {defined wanted : List Function} {values : List Val} {bound : Exprs} {inner : Expr} {found : List Val} {value : Val} → HaveValues scope defined wanted values bound found → HasValue scope defined wanted (values ++ found) inner value → HasValue scope defined wanted values (Bind bound inner) value
unfolding sort_in computable meaning
HasValue-Bind {values = values} {found = found} have has = record {
  valid = has.valid;
  sort = rw (have.sorts, ← map-joined values found) has.sort;
  computable = rw (have.computable, ← have.meanings) has.computable;
  meaning = rw (← have.meanings) has.meaning;
}

pub Bind-unfit-bound : (defined wanted : List Function) (values : List Val) (bound : Exprs) (inner : Expr) → all_computable defined wanted values bound ≡ false → computable defined wanted values (Bind bound inner) ≡ false
unfolding computable
Bind-unfit-bound defined wanted values bound inner e = rw e refl

pub Bind-unfit-inner : {scope : Scope} {defined wanted : List Function} {values : List Val} {bound : Exprs} (inner : Expr) {found : List Val} → HaveValues scope defined wanted values bound found → computable defined wanted (values ++ found) inner ≡ false → computable defined wanted values (Bind bound inner) ≡ false
unfolding computable
Bind-unfit-inner inner have unfit = rw (have.computable, ← have.meanings) unfit
