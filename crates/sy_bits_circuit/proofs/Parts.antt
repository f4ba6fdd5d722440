-- What is known of a term's parts where the term fits, and what the circuits of its parts cost.
use Rattle.std.specs.Prelude.{ℕ, ◌+◌, ◌*◌, ◌≤◌, ◌<◌, ◌≡◌, true, List, [], ◌∷◌, ◌++◌, refl, Some, length, slice_get}
use Rattle.std.proofs.Common.{arith, ap, sym, ◌∙◌, get_or, zero, suc}
use Rattle.sy_terms.specs.Values.{Val}
use Rattle.sy_terms.specs.Expr.{Expr, Exprs, Constant, Variable, Apply, Invoke, Bind, none, more}
use Rattle.sy_terms.specs.Fitting.{Signature, signature_of, sort_in, sorts_in, after}
use Rattle.sy_terms.specs.Meaning.{meaning, meanings, value_at_position}
use Rattle.sy_terms.specs.Operators.{op_value}
use Rattle.sy_terms.specs.Sorts.{sort_of}
use Rattle.sy_terms.specs.Theories.{sort_of_value, valid}
use Rattle.sy_terms.specs.declared.op.Op.{Op}
use Rattle.sy_terms.specs.declared.sort.Sort.{Sort}
use Rattle.sy_terms.specs.declared.sorts.Sorted.TheVariants.{Is}
use Rattle.sy_terms.specs.declared.term.Fun.{Fun}
use Rattle.sy_terms.specs.declared.term.Fun.TheVariants.{Defined, Wanted}
use Rattle.sy_meaning_words.specs.Vectors.{owned, TakesSorts, has_a_sort}
use Rattle.sy_query_base.specs.Placed.{count}
use Rattle.sy_query_base.specs.Weights.{weight, weights, operator_weight, sort_weight, with_sorts}
use Rattle.sy_terms_operators.proofs.Equations.{if_Some, applied_sort_Some, after_Some, with_sort_Some, called_sort_Some}
use Rattle.sy_bits_operators.specs.Signals.{has_signals, AllHaveSignals, sort_width, total_width}
use Rattle.sy_bits_operators.specs.Costs.{gates}
use Rattle.sy_bits_circuit.specs.Fitting.{scope, TermHasSort, HaveSorts, most_gates, all_most_gates}
use Rattle.sy_bits_circuit.proofs.Bounded.{few, weighs, lightest}

-- a constant

pub constant-valid : (sorts : List Sort) (value : Val) → TermHasSort sorts (Constant value) → valid value ≡ true
unfolding sort_in
constant-valid sorts value fit = (if_Some (valid value) (sort_of_value value) fit.sort fit.is).0

pub constant-sort : (sorts : List Sort) (value : Val) → TermHasSort sorts (Constant value) → sort_in scope sorts (Constant value) ≡ Some (sort_of_value value)
unfolding sort_in
constant-sort sorts value fit = fit.is ∙ ap Some (sym (if_Some (valid value) (sort_of_value value) fit.sort fit.is).1)

-- a variable

some-within : {X : Type 0} (xs : List X) (i : ℕ) (x : X) → slice_get xs i ≡ Some x → i < length xs
some-within [] i x e = cc
some-within (y ∷ xs) zero x e = omega arith
some-within (y ∷ xs) (suc i) x e = omega (arith, some-within xs i x e)

pub variable-within : (sorts : List Sort) (position : ℕ) → TermHasSort sorts (Variable position) → position < length sorts
unfolding sort_in
variable-within sorts position fit = some-within sorts position fit.sort fit.is

get-is : {X : Type 0} (xs : List X) (i : ℕ) (d : X) → i < length xs → slice_get xs i ≡ Some (get_or xs i d)
get-is [] i d h = absurd (omega arith)
get-is (x ∷ xs) zero d h = refl
get-is (x ∷ xs) (suc i) d h = get-is xs i d (omega arith)

pub variable-sort : (sorts : List Sort) (position : ℕ) (d : Sort) → position < length sorts → sort_in scope sorts (Variable position) ≡ Some (get_or sorts position d)
unfolding sort_in
variable-sort sorts position d h = get-is sorts position d h

position-is : (values : List Val) (i : ℕ) (d : Val) → i < length values → value_at_position values i ≡ get_or values i d
position-is [] i d h = absurd (omega arith)
position-is (v ∷ values) zero d h = refl
position-is (v ∷ values) (suc i) d h = position-is values i d (omega arith)

pub variable-meaning : (values : List Val) (position : ℕ) (d : Val) → position < length values → meaning [] [] values (Variable position) ≡ get_or values position d
unfolding meaning
variable-meaning values position d h = position-is values position d h

-- an application

pub arguments-fit : (sorts : List Sort) (op : Op) (arguments : Exprs) → TermHasSort sorts (Apply op arguments) → HaveSorts sorts arguments
unfolding sort_in
arguments-fit sorts op arguments fit =
    let a = applied_sort_Some scope op (sorts_in scope sorts arguments) fit.sort fit.is in
    record { found = a.sorts; are = a.is }

pub record Accepts (op : Op) (found : List Sort) (sort : Sort) : Type 0 where
  pub owned : owned op ≡ true
  pub fits : sort_of op found ≡ Is sort

some-same : {X : Type 0} (x y : X) → Some x ≡ Some y → x ≡ y
some-same x y e = cc

pub accepts : (sorts : List Sort) (op : Op) (arguments : Exprs) (found : List Sort) → sorts_in scope sorts arguments ≡ Some found → (fit : TermHasSort sorts (Apply op arguments)) → Accepts op found fit.sort
unfolding sort_in
accepts sorts op arguments found e fit =
    let a = applied_sort_Some scope op (sorts_in scope sorts arguments) fit.sort fit.is in
    let same : a.sorts ≡ found = some-same a.sorts found (sym a.is ∙ e) in
    record { owned = a.owned; fits = ap (sort_of op) (sym same) ∙ a.fits }

pub is-taken : (op : Op) (found : List Sort) (sort : Sort) → Accepts op found sort → TakesSorts op found
is-taken op found sort a = ap has_a_sort a.fits

-- as many sorts as terms
pub counted : (sorts : List Sort) (terms : Exprs) (found : List Sort) → sorts_in scope sorts terms ≡ Some found → count terms ≡ length found
unfolding sorts_in
counted sorts none found e = let same : [] ≡ found = some-same [] found e in rw (← same) refl
counted sorts (more first rest) found e =
    let w = with_sort_Some (sort_in scope sorts first) (sorts_in scope sorts rest) found e in
    let tail = counted sorts rest w.sorts w.rest_is in
    rw (← w.whole_is) (omega (arith, tail))

pub weight-Apply : (sorts : List Sort) (op : Op) (arguments : Exprs) (found : List Sort) (sort : Sort) → sorts_in scope sorts arguments ≡ Some found → sort_in scope sorts (Apply op arguments) ≡ Some sort → weight scope sorts (Apply op arguments) ≡ weights scope sorts arguments + operator_weight op (length found) (sort_weight (Some sort))
unfolding weight
weight-Apply sorts op arguments found sort e f =
    ap (λ n. weights scope sorts arguments + operator_weight op n (sort_weight (sort_in scope sorts (Apply op arguments)))) (counted sorts arguments found e)
    ∙ ap (λ s. weights scope sorts arguments + operator_weight op (length found) (sort_weight s)) f

pub arguments-room : (sorts : List Sort) (op : Op) (arguments : Exprs) (found : List Sort) (sort : Sort) (old most : ℕ) → sorts_in scope sorts arguments ≡ Some found → sort_in scope sorts (Apply op arguments) ≡ Some sort → old + most_gates sorts (Apply op arguments) < most → old + all_most_gates sorts arguments < most
arguments-room sorts op arguments found sort old most e f h =
    let w = weight-Apply sorts op arguments found sort e f in
    omega (arith, w, h)

-- room for the gates of the operator, and what the application costs
pub record Afforded (sorts : List Sort) (term : Expr) (old now cost width : ℕ) : Type 0 where
  pub room : now + cost + 5 * width ≤ old + most_gates sorts term

pub afforded : (sorts : List Sort) (op : Op) (arguments : Exprs) (found : List Sort) (sort : Sort) (old now : ℕ) → sorts_in scope sorts arguments ≡ Some found → sort_in scope sorts (Apply op arguments) ≡ Some sort → Accepts op found sort → AllHaveSignals found → has_signals sort ≡ true → now + 5 * total_width found ≤ old + all_most_gates sorts arguments → Afforded sorts (Apply op arguments) old now (gates op found) (sort_width sort)
afforded sorts op arguments found sort old now e f a all has h =
    let w = weight-Apply sorts op arguments found sort e f in
    let cost = few op found sort a.owned a.fits all in
    let light = weighs op found sort a.fits has in
    record { room = omega (arith, w, cost, light, h) }

-- a call

unsigned : (function : Fun) (f : Signature) → signature_of scope function ≡ Some f → ⊥
unsigned (Defined zero) f e = absurd cc
unsigned (Defined (suc n)) f e = absurd cc
unsigned (Wanted zero) f e = absurd cc
unsigned (Wanted (suc n)) f e = absurd cc

pub no-call : (sorts : List Sort) (function : Fun) (arguments : Exprs) → TermHasSort sorts (Invoke function arguments) → ⊥
unfolding sort_in
no-call sorts function arguments fit =
    let c = called_sort_Some (signature_of scope function) (sorts_in scope sorts arguments) fit.sort fit.is in
    unsigned function c.function c.is

-- a binding

pub bound-fit : (sorts : List Sort) (bound : Exprs) (inner : Expr) → TermHasSort sorts (Bind bound inner) → HaveSorts sorts bound
unfolding sort_in
bound-fit sorts bound inner fit =
    let a = after_Some (sorts_in scope sorts bound) (λ found. sort_in scope (sorts ++ found) inner) fit.sort fit.is in
    record { found = a.sorts; are = a.is }

pub inner-fit : (sorts : List Sort) (bound : Exprs) (inner : Expr) (found : List Sort) → sorts_in scope sorts bound ≡ Some found → TermHasSort sorts (Bind bound inner) → TermHasSort (sorts ++ found) inner
unfolding sort_in
inner-fit sorts bound inner found e fit =
    let a = after_Some (sorts_in scope sorts bound) (λ found. sort_in scope (sorts ++ found) inner) fit.sort fit.is in
    let same : a.sorts ≡ found = some-same a.sorts found (sym a.is ∙ e) in
    record { sort = fit.sort; is = ap (λ more. sort_in scope (sorts ++ more) inner) (sym same) ∙ a.next_is }

pub sort-Bind : (sorts : List Sort) (bound : Exprs) (inner : Expr) (found : List Sort) (sort : Sort) → sorts_in scope sorts bound ≡ Some found → sort_in scope (sorts ++ found) inner ≡ Some sort → sort_in scope sorts (Bind bound inner) ≡ Some sort
unfolding sort_in
sort-Bind sorts bound inner found sort e f = ap (λ more. after more (λ found. sort_in scope (sorts ++ found) inner)) e ∙ f

pub weight-Bind : (sorts : List Sort) (bound : Exprs) (inner : Expr) (found : List Sort) → sorts_in scope sorts bound ≡ Some found → weights scope sorts bound + weight scope (sorts ++ found) inner ≤ weight scope sorts (Bind bound inner)
unfolding weight
weight-Bind sorts bound inner found e =
    let same : weight scope (with_sorts sorts (sorts_in scope sorts bound)) inner ≡ weight scope (sorts ++ found) inner = ap (λ more. weight scope (with_sorts sorts more) inner) e in
    omega (arith, same)

pub bound-room : (sorts : List Sort) (bound : Exprs) (inner : Expr) (found : List Sort) (old most : ℕ) → sorts_in scope sorts bound ≡ Some found → old + most_gates sorts (Bind bound inner) < most → old + all_most_gates sorts bound < most
bound-room sorts bound inner found old most e h = let w = weight-Bind sorts bound inner found e in omega (arith, w, h)

pub inner-room : (sorts : List Sort) (bound : Exprs) (inner : Expr) (found : List Sort) (old now most : ℕ) → sorts_in scope sorts bound ≡ Some found → now + 5 * total_width found ≤ old + all_most_gates sorts bound → old + most_gates sorts (Bind bound inner) < most → now + most_gates (sorts ++ found) inner < most
inner-room sorts bound inner found old now most e k h = let w = weight-Bind sorts bound inner found e in omega (arith, w, k, h)

pub bind-cost : (sorts : List Sort) (bound : Exprs) (inner : Expr) (found : List Sort) (old now new width : ℕ) → sorts_in scope sorts bound ≡ Some found → now + 5 * total_width found ≤ old + all_most_gates sorts bound → new + 5 * width ≤ now + most_gates (sorts ++ found) inner → new + 5 * width ≤ old + most_gates sorts (Bind bound inner)
bind-cost sorts bound inner found old now new width e k h = let w = weight-Bind sorts bound inner found e in omega (arith, w, k, h)

pub bind-meaning : (values : List Val) (bound : Exprs) (inner : Expr) (found : List Val) → found ≡ meanings [] [] values bound → meaning [] [] (values ++ found) inner ≡ meaning [] [] values (Bind bound inner)
unfolding meaning
bind-meaning values bound inner found e = ap (λ more. meaning [] [] (values ++ more) inner) e

pub apply-meaning : (values : List Val) (op : Op) (arguments : Exprs) (found : List Val) → found ≡ meanings [] [] values arguments → op_value op found ≡ meaning [] [] values (Apply op arguments)
unfolding meaning
apply-meaning values op arguments found e = ap (op_value op) e

-- leaves weigh their width

pub leaf-Constant : (sorts : List Sort) (value : Val) (sort : Sort) → sort_in scope sorts (Constant value) ≡ Some sort → 5 * sort_width sort ≤ most_gates sorts (Constant value)
unfolding weight
leaf-Constant sorts value sort e =
    let w : weight scope sorts (Constant value) ≡ sort_weight (Some sort) = ap sort_weight e in
    omega (arith, w, lightest sort)

pub leaf-Variable : (sorts : List Sort) (position : ℕ) (sort : Sort) → sort_in scope sorts (Variable position) ≡ Some sort → 5 * sort_width sort ≤ most_gates sorts (Variable position)
unfolding weight
leaf-Variable sorts position sort e =
    let w : weight scope sorts (Variable position) ≡ sort_weight (Some sort) = ap sort_weight e in
    omega (arith, w, lightest sort)
