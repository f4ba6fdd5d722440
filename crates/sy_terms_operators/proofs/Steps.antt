-- What evaluation under definitions finds at each form of a term, in the words of its code.
use Rattle.std.specs.Prelude.{ℕ, ◌+◌, ◌*◌, ◌<◌, true, false, List, [], ◌∷◌, ◌++◌, ◌≡◌, refl, Some, length}
use Rattle.std.proofs.Common.{arith, ap, ◌∙◌, sym, get_or, take}
use Rattle.std.proofs.lemmas.Option.{slice_get-get_or}
use Rattle.std.proofs.lemmas.List.{length-map, get_or-map, take_more}
use Rattle.std.proofs.lemmas.List.Elements.{All-append}
use Rattle.sy_terms.specs.Values.{Val}
use Rattle.sy_terms.specs.Operators.{op_value}
use Rattle.sy_terms.specs.Expr.{Apply, Invoke, Bind, nodes, nodes_of}
use Rattle.sy_terms.specs.Denoted.{expr_of, exprs_of, val_of, vals_of, AreValid, IsSorted, expr_of-Const, expr_of-Var, expr_of-App, expr_of-Call, expr_of-Let}
use Rattle.sy_terms.specs.Theories.{fits, sort_of_value, valid}
use Rattle.sy_terms.specs.Meaning.{Function, computable, all_computable, function_of}
use Rattle.sy_terms.specs.Fitting.{Scope}
use Rattle.sy_terms.specs.declared.op.Op.{Op}
use Rattle.sy_terms.specs.declared.sort.Value.{Value}
use Rattle.sy_terms.specs.declared.term.Fun.{Fun}
use Rattle.sy_terms.specs.declared.term.Term.{Term, Const, Var, App, Call, Let}
use Rattle.sy_terms.specs.declared.term.Terms.{Terms}
use Rattle.std.specs.declared.boxed.Box.{Box}
use Rattle.std.specs.declared.alloc.Global.{Global}
use Rattle.sy_terms_operators.specs.Evaluation.{TermFits, TermsFit, HasValue, HaveValues}
use Rattle.sy_terms_operators.proofs.Cases as cases
use Rattle.sy_terms_operators.proofs.Lists.{HaveValues-last, TermsFit-at, all_computable-not, nodes_of-at}
use Rattle.sy_terms_operators.proofs.OperatorSorts.{op_value-sort}

-- a constant

pub const-ok : {T N : Type 0} (scope : Scope) (defined wanted : List Function) (number : N → Val) (values : List Val) (term : Term T N) (value : Value N) → term ≡ Const value → TermFits scope values (expr_of number term) → HasValue scope defined wanted values (expr_of number term) (val_of number value)
const-ok {T} scope defined wanted number values term value is fit = rw (is, expr_of-Const) (cases.HasValue-Constant defined wanted (rw (is, expr_of-Const) at fit))

-- a variable

pub var-within : {T N : Type 0} (scope : Scope) (defined wanted : List Function) (number : N → Val) (values : List (Value N)) (term : Term T N) (position : ℕ) → term ≡ Var position → TermFits scope (vals_of number values) (expr_of number term) → position < length values
var-within scope defined wanted number values term position is fit = omega (arith, cases.Variable-within (rw (is, expr_of-Var) at fit), length-map values (val_of number))

pub var-ok : {T N : Type 0} (scope : Scope) (defined wanted : List Function) (number : N → Val) (values : List (Value N)) (term : Term T N) (position : ℕ) (value : Value N) → term ≡ Var position → TermFits scope (vals_of number values) (expr_of number term) → AreValid number values → value ≡ get_or values position value → HasValue scope defined wanted (vals_of number values) (expr_of number term) (val_of number value)
var-ok scope defined wanted number values term position value is fit each found =
    let within = var-within scope defined wanted number values term position is fit in
    rw (is, expr_of-Var) (cases.HasValue-Variable scope defined wanted position (val_of number value) each (omega (arith, within, length-map values (val_of number))) (ap (val_of number) found ∙ sym (get_or-map (val_of number) values position value (val_of number value) within)))

-- an application

pub app-is : {T N : Type 0} (number : N → Val) (term : Term T N) (operator : Op) (arguments : Terms T N) → term ≡ App operator arguments → expr_of number term ≡ Apply operator (exprs_of number arguments.items.items)
app-is number term operator arguments is = ap (expr_of number) is ∙ expr_of-App number operator arguments

pub app-falls : {T N : Type 0} (number : N → Val) (term : Term T N) (operator : Op) (arguments : Terms T N) (w : ℕ) → term ≡ App operator arguments → 2 * (nodes_of (exprs_of number arguments.items.items) + w) + 1 < 2 * (nodes (expr_of number term) + w)
app-falls number term operator arguments w is = rw (app-is number term operator arguments is) (omega arith)

pub app-arguments : {T N : Type 0} (scope : Scope) (defined wanted : List Function) (number : N → Val) (values : List Val) (term : Term T N) (operator : Op) (arguments : Terms T N) → term ≡ App operator arguments → TermFits scope values (expr_of number term) → TermsFit scope values (exprs_of number arguments.items.items)
app-arguments scope defined wanted number values term operator arguments is fit = cases.Apply-arguments (rw (app-is number term operator arguments is) at fit)

pub app-owned : {T N : Type 0} (scope : Scope) (defined wanted : List Function) (number : N → Val) (values : List Val) (term : Term T N) (operator : Op) (arguments : Terms T N) → term ≡ App operator arguments → TermFits scope values (expr_of number term) → scope.owned operator ≡ true
app-owned scope defined wanted number values term operator arguments is fit = cases.Apply-owned (rw (app-is number term operator arguments is) at fit)

pub app-sorted : {T N : Type 0} (scope : Scope) (defined wanted : List Function) (number : N → Val) (values : List Val) (term : Term T N) (operator : Op) (arguments : Terms T N) (found : List Val) → term ≡ App operator arguments → TermFits scope values (expr_of number term) → HaveValues scope defined wanted values (exprs_of number arguments.items.items) found → IsSorted operator found
app-sorted scope defined wanted number values term operator arguments found is fit have = cases.Apply-sorted (rw (app-is number term operator arguments is) at fit) have

pub app-ok : {T N : Type 0} (scope : Scope) (defined wanted : List Function) (number : N → Val) (values : List Val) (term : Term T N) (operator : Op) (arguments : Terms T N) (found : List Val) (value : Val) → term ≡ App operator arguments → TermFits scope values (expr_of number term) → HaveValues scope defined wanted values (exprs_of number arguments.items.items) found → (valid value ≡ true) × (fits operator found ≡ true) × (value ≡ op_value operator found) → HasValue scope defined wanted values (expr_of number term) value
app-ok scope defined wanted number values term operator arguments found value is fit have applied = rw (app-is number term operator arguments is) (cases.HasValue-Apply (op_value-sort operator found) (rw (app-is number term operator arguments is) at fit) have applied.0 applied.1 applied.2)

pub app-unfit-arguments : {T N : Type 0} (defined wanted : List Function) (number : N → Val) (values : List Val) (term : Term T N) (operator : Op) (arguments : Terms T N) → term ≡ App operator arguments → all_computable defined wanted values (exprs_of number arguments.items.items) ≡ false → computable defined wanted values (expr_of number term) ≡ false
app-unfit-arguments defined wanted number values term operator arguments is e = rw (app-is number term operator arguments is) (cases.Apply-unfit-arguments defined wanted values operator (exprs_of number arguments.items.items) e)

pub app-unfit : {T N : Type 0} (scope : Scope) (defined wanted : List Function) (number : N → Val) (values : List Val) (term : Term T N) (operator : Op) (arguments : Terms T N) (found : List Val) → term ≡ App operator arguments → HaveValues scope defined wanted values (exprs_of number arguments.items.items) found → fits operator found ≡ false → computable defined wanted values (expr_of number term) ≡ false
app-unfit scope defined wanted number values term operator arguments found is have unfit = rw (app-is number term operator arguments is) (cases.Apply-unfit operator have unfit)

-- a call

pub call-is : {T N : Type 0} (number : N → Val) (term : Term T N) (function : Fun) (arguments : Terms T N) → term ≡ Call function arguments → expr_of number term ≡ Invoke function (exprs_of number arguments.items.items)
call-is number term function arguments is = ap (expr_of number) is ∙ expr_of-Call number function arguments

pub call-falls : {T N : Type 0} (number : N → Val) (term : Term T N) (function : Fun) (arguments : Terms T N) (w : ℕ) → term ≡ Call function arguments → 2 * (nodes_of (exprs_of number arguments.items.items) + w) + 1 < 2 * (nodes (expr_of number term) + w)
call-falls number term function arguments w is = rw (call-is number term function arguments is) (omega arith)

pub call-arguments : {T N : Type 0} (scope : Scope) (defined wanted : List Function) (number : N → Val) (values : List Val) (term : Term T N) (function : Fun) (arguments : Terms T N) → term ≡ Call function arguments → TermFits scope values (expr_of number term) → TermsFit scope values (exprs_of number arguments.items.items)
call-arguments scope defined wanted number values term function arguments is fit = cases.Invoke-arguments (rw (call-is number term function arguments is) at fit)

pub call-takes : {T N : Type 0} (scope : Scope) (defined wanted : List Function) (number : N → Val) (values : List Val) (term : Term T N) (function : Fun) (arguments : Terms T N) (found : List Val) (which : Fun) → term ≡ Call function arguments → function ≡ which → (fit : TermFits scope values (expr_of number term)) → HaveValues scope defined wanted values (exprs_of number arguments.items.items) found → cases.Takes scope which found fit.sort
call-takes scope defined wanted number values term function arguments found which is same fit have =
    let fit' : TermFits scope values (Invoke which (exprs_of number arguments.items.items)) = record { sort = fit.sort; is = rw (← same, ← call-is number term function arguments is) fit.is } in
    cases.Invoke-takes fit' have

pub call-ok : {T N : Type 0} (scope : Scope) (defined wanted : List Function) (number : N → Val) (values : List Val) (term : Term T N) (function : Fun) (arguments : Terms T N) (found : List Val) (which : Fun) (f : Function) (value : Val) → term ≡ Call function arguments → function ≡ which → (fit : TermFits scope values (expr_of number term)) → HaveValues scope defined wanted values (exprs_of number arguments.items.items) found → function_of defined wanted which ≡ Some f → valid value ≡ true → sort_of_value value ≡ fit.sort → f.computable found ≡ true → value ≡ f.value found → HasValue scope defined wanted values (expr_of number term) value
call-ok scope defined wanted number values term function arguments found which f value is same fit have f_is ok sorted fitting means =
    let fit' : TermFits scope values (Invoke which (exprs_of number arguments.items.items)) = record { sort = fit.sort; is = rw (← same, ← call-is number term function arguments is) fit.is } in
    rw (call-is number term function arguments is, same) (cases.HasValue-Invoke fit' have f f_is ok sorted fitting means)

pub call-unfit-arguments : {T N : Type 0} (defined wanted : List Function) (number : N → Val) (values : List Val) (term : Term T N) (function : Fun) (arguments : Terms T N) → term ≡ Call function arguments → all_computable defined wanted values (exprs_of number arguments.items.items) ≡ false → computable defined wanted values (expr_of number term) ≡ false
call-unfit-arguments defined wanted number values term function arguments is e = rw (call-is number term function arguments is) (cases.Invoke-unfit-arguments defined wanted values function (exprs_of number arguments.items.items) e)

pub call-unfit : {T N : Type 0} (scope : Scope) (defined wanted : List Function) (number : N → Val) (values : List Val) (term : Term T N) (function : Fun) (arguments : Terms T N) (found : List Val) (which : Fun) (f : Function) → term ≡ Call function arguments → function ≡ which → HaveValues scope defined wanted values (exprs_of number arguments.items.items) found → function_of defined wanted which ≡ Some f → f.computable found ≡ false → computable defined wanted values (expr_of number term) ≡ false
call-unfit scope defined wanted number values term function arguments found which f is same have f_is unfit =
    rw (call-is number term function arguments is, same) (cases.Invoke-unfit which have f f_is unfit)

-- a binding

pub let-is : {T N : Type 0} (number : N → Val) (term : Term T N) (bound : Terms T N) (inner : Box (Term T N) Global) → term ≡ Let bound inner → expr_of number term ≡ Bind (exprs_of number bound.items.items) (expr_of number inner.value)
let-is number term bound inner is = ap (expr_of number) is ∙ expr_of-Let number bound inner

pub let-falls : {T N : Type 0} (number : N → Val) (term : Term T N) (bound : Terms T N) (inner : Box (Term T N) Global) (w : ℕ) → term ≡ Let bound inner → (2 * (nodes_of (exprs_of number bound.items.items) + w) + 1 < 2 * (nodes (expr_of number term) + w)) × (2 * (nodes (expr_of number inner.value) + w) < 2 * (nodes (expr_of number term) + w))
let-falls number term bound inner w is = rw (let-is number term bound inner is) (omega arith, omega arith)

pub let-bound : {T N : Type 0} (scope : Scope) (defined wanted : List Function) (number : N → Val) (values : List Val) (term : Term T N) (bound : Terms T N) (inner : Box (Term T N) Global) → term ≡ Let bound inner → TermFits scope values (expr_of number term) → TermsFit scope values (exprs_of number bound.items.items)
let-bound scope defined wanted number values term bound inner is fit = cases.Bind-bound (rw (let-is number term bound inner is) at fit)

pub map-both : {N : Type 0} (number : N → Val) (xs ys : List (Value N)) → vals_of number (xs ++ ys) ≡ vals_of number xs ++ vals_of number ys
map-both number [] ys = refl
map-both number (x ∷ xs) ys = ap (λ (rest : List Val). val_of number x ∷ rest) (map-both number xs ys)

pub let-valid : {N : Type 0} (number : N → Val) (values found : List (Value N)) → AreValid number values → AreValid number found → AreValid number (values ++ found)
let-valid number values found h k = rw (map-both number values found) (All-append (λ v. valid v ≡ true) (vals_of number values) (vals_of number found) h k)

pub let-inner : {T N : Type 0} (scope : Scope) (defined wanted : List Function) (number : N → Val) (values found : List (Value N)) (term : Term T N) (bound : Terms T N) (inner : Box (Term T N) Global) → term ≡ Let bound inner → TermFits scope (vals_of number values) (expr_of number term) → HaveValues scope defined wanted (vals_of number values) (exprs_of number bound.items.items) (vals_of number found) → TermFits scope (vals_of number (values ++ found)) (expr_of number inner.value)
let-inner scope defined wanted number values found term bound inner is fit have = rw (map-both number values found) (cases.Bind-inner (rw (let-is number term bound inner is) at fit) have)

pub let-ok : {T N : Type 0} (scope : Scope) (defined wanted : List Function) (number : N → Val) (values found : List (Value N)) (term : Term T N) (bound : Terms T N) (inner : Box (Term T N) Global) (value : Val) → term ≡ Let bound inner → HaveValues scope defined wanted (vals_of number values) (exprs_of number bound.items.items) (vals_of number found) → HasValue scope defined wanted (vals_of number (values ++ found)) (expr_of number inner.value) value → HasValue scope defined wanted (vals_of number values) (expr_of number term) value
let-ok scope defined wanted number values found term bound inner value is have has = rw (let-is number term bound inner is) (cases.HasValue-Bind have (rw (map-both number values found) at has))

pub let-unfit-bound : {T N : Type 0} (defined wanted : List Function) (number : N → Val) (values : List Val) (term : Term T N) (bound : Terms T N) (inner : Box (Term T N) Global) → term ≡ Let bound inner → all_computable defined wanted values (exprs_of number bound.items.items) ≡ false → computable defined wanted values (expr_of number term) ≡ false
let-unfit-bound defined wanted number values term bound inner is e = rw (let-is number term bound inner is) (cases.Bind-unfit-bound defined wanted values (exprs_of number bound.items.items) (expr_of number inner.value) e)

pub let-unfit : {T N : Type 0} (scope : Scope) (defined wanted : List Function) (number : N → Val) (values found : List (Value N)) (term : Term T N) (bound : Terms T N) (inner : Box (Term T N) Global) → term ≡ Let bound inner → HaveValues scope defined wanted (vals_of number values) (exprs_of number bound.items.items) (vals_of number found) → computable defined wanted (vals_of number (values ++ found)) (expr_of number inner.value) ≡ false → computable defined wanted (vals_of number values) (expr_of number term) ≡ false
let-unfit scope defined wanted number values found term bound inner is have unfit = rw (let-is number term bound inner is) (cases.Bind-unfit-inner (expr_of number inner.value) have (rw (map-both number values found) at unfit))

-- a list of terms, from the first on

pub all-more : {T N : Type 0} (scope : Scope) (defined wanted : List Function) (number : N → Val) (values : List Val) (terms : List (Term T N)) (i : ℕ) (term : Term T N) (found : List (Value N)) (value : Value N) → i < length terms → term ≡ get_or terms i term → HaveValues scope defined wanted values (exprs_of number (take i terms)) (vals_of number found) → HasValue scope defined wanted values (expr_of number term) (val_of number value) → HaveValues scope defined wanted values (exprs_of number (take (i + 1) terms)) (vals_of number (found ++ value ∷ []))
all-more scope defined wanted number values terms i term found value within is have has =
    rw (take_more terms i term within, ← is, map-both number found (value ∷ [])) (HaveValues-last number (take i terms) term have has)

pub all-at : {T N : Type 0} (scope : Scope) (defined wanted : List Function) (number : N → Val) (values : List Val) (terms : List (Term T N)) (i : ℕ) (term : Term T N) → i < length terms → term ≡ get_or terms i term → TermsFit scope values (exprs_of number terms) → TermFits scope values (expr_of number term)
all-at scope defined wanted number values terms i term within is fit = TermsFit-at number terms i term fit (slice_get-get_or terms i term within ∙ ap Some (sym is))

pub all-falls : {T N : Type 0} (number : N → Val) (terms : List (Term T N)) (i : ℕ) (term : Term T N) (w : ℕ) → i < length terms → term ≡ get_or terms i term → 2 * (nodes (expr_of number term) + w) < 2 * (nodes_of (exprs_of number terms) + w) + 1
all-falls number terms i term w within is = omega (arith, nodes_of-at number terms i term (slice_get-get_or terms i term within ∙ ap Some (sym is)))

pub all-unfit : {T N : Type 0} (defined wanted : List Function) (number : N → Val) (values : List Val) (terms : List (Term T N)) (i : ℕ) (term : Term T N) → i < length terms → term ≡ get_or terms i term → computable defined wanted values (expr_of number term) ≡ false → all_computable defined wanted values (exprs_of number terms) ≡ false
all-unfit defined wanted number values terms i term within is e = all_computable-not number defined wanted values terms i term (slice_get-get_or terms i term within ∙ ap Some (sym is)) e
