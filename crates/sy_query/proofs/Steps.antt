-- What the walk over a term finds at each form of a term.
use Rattle.std.specs.Prelude.{ℕ, zero, suc, ◌+◌, ◌*◌, ◌<◌, ◌≤◌, Bool, true, List, [], ◌∷◌, ◌++◌, ◌≡◌, refl, Some, length, drop, map, slice_get, All}
use Rattle.std.proofs.Common.{arith, ap, ◌∙◌, sym, take, subst, get_or}
use Rattle.std.proofs.lemmas.Option.{none-some, same_Some, slice_get-get_or, slice_get_within, get_or_from_slice_get}
use Rattle.std.proofs.lemmas.List.{drop-append-le, take_more}
use Rattle.sy_terms.specs.Values.{Val}
use Rattle.sy_terms.specs.Expr as expr
use Rattle.sy_terms.specs.Expr.{Expr, Exprs, Constant, Apply, Bind, nodes}
use Rattle.sy_terms.specs.Denoted.{expr_of, exprs_of, val_of, expr_of-Const, exprs_of-append}
use Rattle.sy_terms.specs.Theories.{valid, sort_of_value}
use Rattle.sy_terms.specs.Definitions.{DefinitionsFit, scope_of, body, signature}
use Rattle.sy_terms.specs.Fitting.{Scope, Signature, signature_of, sort_in, sorts_in, after, given_by}
use Rattle.sy_terms.specs.Sorts.{sort_of}
use Rattle.sy_terms.specs.declared.op.Op.{Op}
use Rattle.sy_terms.specs.declared.sort.Sort.{Sort}
use Rattle.sy_terms.specs.declared.sort.Value.{Value}
use Rattle.sy_terms.specs.declared.term.Fun.{Fun}
use Rattle.sy_terms.specs.declared.term.Fun.TheVariants.{Defined, Wanted}
use Rattle.sy_terms.specs.declared.term.Term.{Term, Const, Var, App, Call, Let}
use Rattle.sy_terms.specs.declared.term.Terms.{Terms}
use Rattle.sy_terms.specs.declared.term.Def.{Def}
use Rattle.std.specs.declared.boxed.Box.{Box}
use Rattle.std.specs.declared.alloc.Global.{Global}
use Rattle.sy_terms_operators.specs.Evaluation.{scope_with}
use Rattle.sy_terms_operators.proofs.Equations.{if_Some, applied_sort_Some, called_sort_Some, after_Some, with_sort_Some}
use Rattle.sy_terms_operators.proofs.Steps.{app-is, call-is, let-is}
use Rattle.sy_query_base.specs.Placed.{count, all_placed}
use Rattle.sy_query_base.specs.Weights.{weight, weights, sort_weight, operator_weight, with_sorts, query_scope}
use Rattle.sy_query.specs.declared.room.Left.{Left}
use Rattle.sy_query.specs.Placing.{placed_with, all_placed_with, called_with, FunctionTakes, FitsOver, AllFitOver, TermIsBuilt, AreBuilt, IsBound, bound_weight, OperatorHasSort, ApplicationIsBuilt, applied_weight}
use Rattle.sy_query.specs.Sized.{IsSized}
use Rattle.sy_query.proofs.Forms.{var-placed, app-placed, defined-called, wanted-called, whole-sort, wholes-sort}
use Rattle.sy_query.proofs.Reaching.{defines, fills, weight_of-at}
use Rattle.sy_terms_operators.proofs.Lists.{weight-at}
use Rattle.sy_terms_operators.proofs.Lists as counted
use Rattle.sy_terms_operators.proofs.Reached.{weight_of}
use Rattle.std.proofs.Math.Seq.{drop-append_seam}
use Rattle.sy_query.proofs.Sorted.{sorts_in-length}
use Rattle.sy_query.proofs.Weighing.{all-weigh, count-nodes}
use Rattle.sy_query.proofs.Leaves.{count-terms}

-- ---- what is built is what stands for the term
built-as : (scope : Scope) (sorts : List Sort) (whole e : Expr) (before after : Left) (built : Expr) (sort : Sort) → whole ≡ e → (after.counted ≡ true → built ≡ e) → sort_in scope sorts e ≡ Some sort → before.weight ≡ after.weight + weight scope sorts e → (after.counted ≡ true → before.counted ≡ true) → TermIsBuilt scope sorts whole before after built sort
built-as scope sorts whole e before after built sort at is sorted weighs counted = rw at (record { is = is; has = sorted; weight = weighs; counted = counted })

-- the same, in other words
pub rebuilt : (scope : Scope) (sorts : List Sort) (whole e : Expr) (before after : Left) (built : Expr) (sort : Sort) → whole ≡ e → TermIsBuilt scope sorts e before after built sort → TermIsBuilt scope sorts whole before after built sort
rebuilt scope sorts whole e before after built sort at is = rw at is

-- a constant
pub const-valid : {T N : Type 0} (owned : Op → Bool) (number : N → Val) (defs : List (Def T N)) (terms : List (Term T N)) (own : List Sort) (term : Term T N) (value : Value N) → term ≡ Const value → FitsOver owned number defs terms own (expr_of number term) → valid (val_of number value) ≡ true
unfolding sort_in
const-valid {T} {N} owned number defs terms own term value is fit =
    let at : expr_of number term ≡ Constant (val_of number value) = ap (expr_of number) is ∙ expr_of-Const T number value in
    (if_Some (valid (val_of number value)) (sort_of_value (val_of number value)) fit.sort (rw at at fit.is)).0

-- a variable
pub var-within : {T N : Type 0} (owned : Op → Bool) (number : N → Val) (defs : List (Def T N)) (terms : List (Term T N)) (first : ℕ) (all : List Sort) (term : Term T N) (position : ℕ) → term ≡ Var position → DefinitionsFit owned number defs → first ≤ length all → FitsOver owned number defs terms (drop first all) (expr_of number term) → first + position < length all
unfolding sort_in
var-within owned number defs terms first all term position is definitions within fit =
    let whole = whole-sort owned number defs terms first all (expr_of number term) definitions within fit in
    slice_get_within all (first + position) fit.sort (rw (var-placed number defs terms first (length all) term position is) at whole)

-- an application
pub app-fits : {T N : Type 0} (owned : Op → Bool) (number : N → Val) (defs : List (Def T N)) (terms : List (Term T N)) (own : List Sort) (term : Term T N) (operator : Op) (arguments : Terms T N) → term ≡ App operator arguments → FitsOver owned number defs terms own (expr_of number term) → AllFitOver owned number defs terms own (exprs_of number arguments.items.items)
unfolding sort_in
app-fits owned number defs terms own term operator arguments is fit =
    let parts = applied_sort_Some (scope_with owned defs fit.wanted) operator (sorts_in (scope_with owned defs fit.wanted) own (exprs_of number arguments.items.items)) fit.sort (rw (app-is number term operator arguments is) at fit.is) in
    record { wanted = fit.wanted; bodies = fit.bodies; found = parts.sorts; are = parts.is }

-- the operator has a value, at arguments as many as they weigh at most
pub app-sorted : {T N : Type 0} (owned : Op → Bool) (number : N → Val) (defs : List (Def T N)) (terms : List (Term T N)) (first : ℕ) (all : List Sort) (term : Term T N) (operator : Op) (arguments : Terms T N) (before after : Left) (built : Exprs) (found : List Sort) → term ≡ App operator arguments → DefinitionsFit owned number defs → first ≤ length all → FitsOver owned number defs terms (drop first all) (expr_of number term) → AreBuilt (query_scope owned) all (all_placed_with number defs terms first (length all) (exprs_of number arguments.items.items)) before after built found → (owned operator ≡ true) × OperatorHasSort operator found
unfolding sort_in
app-sorted owned number defs terms first all term operator arguments before after built found is definitions within fit are =
    let whole = whole-sort owned number defs terms first all (expr_of number term) definitions within fit in
    let here = rw (app-placed number defs terms first (length all) term operator arguments is) at whole in
    let parts = applied_sort_Some (query_scope owned) operator (sorts_in (query_scope owned) all (all_placed_with number defs terms first (length all) (exprs_of number arguments.items.items))) fit.sort here in
    let same = same_Some parts.sorts found (sym parts.is ∙ are.have) in
    (parts.owned, record { sort = fit.sort; is = rw same at parts.fits })

pub applied-built : (owned : Op → Bool) (all : List Sort) (whole : Expr) (operator : Op) (arguments : Exprs) (before mid after : Left) (built : Exprs) (found : List Sort) (result : Expr) (sort : Sort) → whole ≡ Apply operator arguments → owned operator ≡ true → AreBuilt (query_scope owned) all arguments before mid built found → ApplicationIsBuilt operator built found mid after result sort → TermIsBuilt (query_scope owned) all whole before after result sort
unfolding sort_in weight
applied-built owned all whole operator arguments before mid after built found result sort at own are is =
    let here : sort_in (query_scope owned) all (Apply operator arguments) ≡ Some sort = rw (are.have, own, is.has) refl in
    let itself : applied_weight operator built found ≡ operator_weight operator (count arguments) (sort_weight (Some sort)) = rw (are.many, is.has) refl in
    let first = are.weight in
    let second = is.weight in
    built-as (query_scope owned) all whole (Apply operator arguments) before after result sort at (λ all. is.is ∙ ap (Apply operator) (are.are (is.counted all))) here (rw here (omega (arith, first, second, itself))) (λ all. are.counted (is.counted all))

pub applied-heavy : (owned : Op → Bool) (all : List Sort) (whole : Expr) (operator : Op) (arguments : Exprs) (before mid : Left) (built : Exprs) (found : List Sort) → whole ≡ Apply operator arguments → owned operator ≡ true → AreBuilt (query_scope owned) all arguments before mid built found → mid.weight < applied_weight operator built found → before.weight < weight (query_scope owned) all whole
unfolding sort_in weight
applied-heavy owned all whole operator arguments before mid built found at own are heavy =
    let here : sort_in (query_scope owned) all (Apply operator arguments) ≡ given_by (sort_of operator found) = rw (are.have, own) refl in
    let first = are.weight in
    rw (at, here) (omega (arith, first, rw are.many at heavy))

pub arguments-heavy : (scope : Scope) (all : List Sort) (whole : Expr) (operator : Op) (arguments : Exprs) (before : ℕ) → whole ≡ Apply operator arguments → before < weights scope all arguments → before < weight scope all whole
unfolding weight
arguments-heavy scope all whole operator arguments before at heavy = rw at (omega (arith, heavy))

-- what is built has sizes as the list has, and there are no more terms than they weigh
pub found-small : {T N : Type 0} (owned : Op → Bool) (number : N → Val) (all : List Sort) (arguments : Exprs) (before after : Left) (built : List (Term T N)) (found : List Sort) → All IsSized all → AreBuilt (query_scope owned) all arguments before after (exprs_of number built) found → All IsSized found × (length built + after.weight ≤ before.weight) × (length found ≡ length built)
found-small owned number all arguments before after built found sized are =
    let weighed = all-weigh owned all sized arguments found are.have in
    let many = sorts_in-length (query_scope owned) all arguments found are.have in
    let same = are.many in
    let length_is = count-terms number built in
    let nodes_are = count-nodes arguments in
    let weight_is = are.weight in
    let least = weighed.1 in
    (weighed.0, omega (arith, same, length_is, nodes_are, weight_is, least), omega (arith, many, same, length_is))

-- a binding
pub bound-built : (owned : Op → Bool) (all : List Sort) (whole : Expr) (arguments : Exprs) (inner : Expr) (before mid after : Left) (built : Exprs) (found : List Sort) (result : Expr) (sort : Sort) → whole ≡ Bind arguments inner → AreBuilt (query_scope owned) all arguments before mid built found → IsBound (query_scope owned) (all ++ found) built inner mid after result sort → TermIsBuilt (query_scope owned) all whole before after result sort
unfolding sort_in weight
bound-built owned all whole arguments inner before mid after built found result sort at are is =
    let here : sort_in (query_scope owned) all (Bind arguments inner) ≡ Some sort = rw are.have is.has in
    let longer : with_sorts all (sorts_in (query_scope owned) all arguments) ≡ all ++ found = rw are.have refl in
    let first = are.weight in
    let second : mid.weight ≡ after.weight + (weight (query_scope owned) (all ++ found) inner + sort_weight (Some sort)) = rw is.has at is.weight in
    built-as (query_scope owned) all whole (Bind arguments inner) before after result sort at (λ each. is.is each ∙ ap (λ (es : Exprs). Bind es inner) (are.are (is.counted each))) here (rw (here, longer) (omega (arith, first, second))) (λ each. are.counted (is.counted each))

pub bound-heavy : (owned : Op → Bool) (all : List Sort) (whole : Expr) (arguments : Exprs) (inner : Expr) (before mid : Left) (built : Exprs) (found : List Sort) → whole ≡ Bind arguments inner → AreBuilt (query_scope owned) all arguments before mid built found → mid.weight < bound_weight (query_scope owned) (all ++ found) inner → before.weight < weight (query_scope owned) all whole
unfolding sort_in weight
bound-heavy owned all whole arguments inner before mid built found at are heavy =
    let here : sort_in (query_scope owned) all (Bind arguments inner) ≡ sort_in (query_scope owned) (all ++ found) inner = rw are.have refl in
    let longer : with_sorts all (sorts_in (query_scope owned) all arguments) ≡ all ++ found = rw are.have refl in
    let first = are.weight in
    rw (at, here, longer) (omega (arith, first, heavy))

pub bound-arguments-heavy : (scope : Scope) (all : List Sort) (whole : Expr) (arguments : Exprs) (inner : Expr) (before : ℕ) → whole ≡ Bind arguments inner → before < weights scope all arguments → before < weight scope all whole
unfolding weight
bound-arguments-heavy scope all whole arguments inner before at heavy = rw at (omega (arith, heavy))

-- ---- bindings of terms
pub let-fits : {T N : Type 0} (owned : Op → Bool) (number : N → Val) (defs : List (Def T N)) (terms : List (Term T N)) (own : List Sort) (term : Term T N) (bound : Terms T N) (inner : Box (Term T N) Global) → term ≡ Let bound inner → FitsOver owned number defs terms own (expr_of number term) → AllFitOver owned number defs terms own (exprs_of number bound.items.items)
unfolding sort_in
let-fits owned number defs terms own term bound inner is fit =
    let scope = scope_with owned defs fit.wanted in
    let parts = after_Some (sorts_in scope own (exprs_of number bound.items.items)) (λ (more : List Sort). sort_in scope (own ++ more) (expr_of number inner.value)) fit.sort (rw (let-is number term bound inner is) at fit.is) in
    record { wanted = fit.wanted; bodies = fit.bodies; found = parts.sorts; are = parts.is }

pub let-inner-fits : {T N : Type 0} (owned : Op → Bool) (number : N → Val) (defs : List (Def T N)) (terms : List (Term T N)) (first : ℕ) (all : List Sort) (term : Term T N) (bound : Terms T N) (inner : Box (Term T N) Global) (before after : Left) (built : Exprs) (found : List Sort) → term ≡ Let bound inner → DefinitionsFit owned number defs → first ≤ length all → FitsOver owned number defs terms (drop first all) (expr_of number term) → AreBuilt (query_scope owned) all (all_placed_with number defs terms first (length all) (exprs_of number bound.items.items)) before after built found → FitsOver owned number defs terms (drop first (all ++ found)) (expr_of number inner.value)
unfolding sort_in
let-inner-fits owned number defs terms first all term bound inner before after built found is definitions within fit are =
    let scope = scope_with owned defs fit.wanted in
    let parts = after_Some (sorts_in scope (drop first all) (exprs_of number bound.items.items)) (λ (more : List Sort). sort_in scope (drop first all ++ more) (expr_of number inner.value)) fit.sort (rw (let-is number term bound inner is) at fit.is) in
    let each = wholes-sort owned number defs terms first all (exprs_of number bound.items.items) definitions within (record { wanted = fit.wanted; bodies = fit.bodies; found = parts.sorts; are = parts.is }) in
    let same = same_Some parts.sorts found (sym each ∙ are.have) in
    let longer : drop first (all ++ found) ≡ drop first all ++ found = drop-append-le first all found within in
    record { wanted = fit.wanted; bodies = fit.bodies; sort = fit.sort; is = rw longer (rw same at parts.next_is) }

-- ---- calls
pub call-fits : {T N : Type 0} (owned : Op → Bool) (number : N → Val) (defs : List (Def T N)) (terms : List (Term T N)) (own : List Sort) (term : Term T N) (function : Fun) (arguments : Terms T N) → term ≡ Call function arguments → FitsOver owned number defs terms own (expr_of number term) → AllFitOver owned number defs terms own (exprs_of number arguments.items.items)
unfolding sort_in
call-fits owned number defs terms own term (Defined n) arguments is fit =
    let scope = scope_with owned defs fit.wanted in
    let parts = called_sort_Some (slice_get (map signature defs) n) (sorts_in scope own (exprs_of number arguments.items.items)) fit.sort (rw (call-is number term (Defined n) arguments is) at fit.is) in
    record { wanted = fit.wanted; bodies = fit.bodies; found = parts.function.takes; are = parts.takes }
call-fits owned number defs terms own term (Wanted n) arguments is fit =
    let scope = scope_with owned defs fit.wanted in
    let parts = called_sort_Some (slice_get fit.wanted n) (sorts_in scope own (exprs_of number arguments.items.items)) fit.sort (rw (call-is number term (Wanted n) arguments is) at fit.is) in
    record { wanted = fit.wanted; bodies = fit.bodies; found = parts.function.takes; are = parts.takes }

pub call-takes : {T N : Type 0} (owned : Op → Bool) (number : N → Val) (defs : List (Def T N)) (terms : List (Term T N)) (first : ℕ) (all : List Sort) (term : Term T N) (function : Fun) (arguments : Terms T N) (before after : Left) (built : Exprs) (found : List Sort) → term ≡ Call function arguments → DefinitionsFit owned number defs → first ≤ length all → FitsOver owned number defs terms (drop first all) (expr_of number term) → AreBuilt (query_scope owned) all (all_placed_with number defs terms first (length all) (exprs_of number arguments.items.items)) before after built found → FunctionTakes owned number defs terms function found
unfolding sort_in
call-takes owned number defs terms first all term function arguments before after built found is definitions within fit are =
    let scope = scope_with owned defs fit.wanted in
    let parts = called_sort_Some (signature_of scope function) (sorts_in scope (drop first all) (exprs_of number arguments.items.items)) fit.sort (rw (call-is number term function arguments is) at fit.is) in
    let each = wholes-sort owned number defs terms first all (exprs_of number arguments.items.items) definitions within (record { wanted = fit.wanted; bodies = fit.bodies; found = parts.function.takes; are = parts.takes }) in
    record { wanted = fit.wanted; bodies = fit.bodies; signature = parts.function; is = parts.is; takes = same_Some parts.function.takes found (sym each ∙ are.have) }

-- the definition that a call reaches: its body fits over arguments of these sorts
pub record Calls {T N : Type 0} (owned : Op → Bool) (number : N → Val) (defs : List (Def T N)) (n : ℕ) (found : List Sort) : Type 0 where
  pub def : Def T N
  pub is : slice_get defs n ≡ Some def
  pub before : DefinitionsFit owned number (take n defs)
  pub sort : Sort
  pub fits : sort_in (scope_of owned (take n defs)) found (body number def) ≡ Some sort

pub calls : {T N : Type 0} (owned : Op → Bool) (number : N → Val) (defs : List (Def T N)) (terms : List (Term T N)) (function : Fun) (n : ℕ) (found : List Sort) → function ≡ Defined n → DefinitionsFit owned number defs → FunctionTakes owned number defs terms function found → Calls owned number defs n found
calls owned number defs terms function n found which definitions takes =
    let reached = defines owned number defs n takes.signature definitions (rw which at takes.is) in
    record { def = reached.def; is = reached.is; before = reached.before; sort = takes.signature.gives; fits = subst (λ (ss : List Sort). sort_in (scope_of owned (take n defs)) ss (body number reached.def) ≡ Some takes.signature.gives) takes.takes reached.fits }

-- the body that a call reaches
pub record CallsBody {T N : Type 0} (owned : Op → Bool) (number : N → Val) (defs : List (Def T N)) (terms : List (Term T N)) (n : ℕ) (found : List Sort) : Type 0 where
  pub term : Term T N
  pub is : slice_get terms n ≡ Some term
  pub sort : Sort
  pub fits : sort_in (scope_of owned defs) found (expr_of number term) ≡ Some sort

pub calls-body : {T N : Type 0} (owned : Op → Bool) (number : N → Val) (defs : List (Def T N)) (terms : List (Term T N)) (function : Fun) (n : ℕ) (found : List Sort) → function ≡ Wanted n → FunctionTakes owned number defs terms function found → CallsBody owned number defs terms n found
calls-body owned number defs terms function n found which takes =
    let reached = fills owned number defs terms takes.wanted n takes.signature takes.bodies (rw which at takes.is) in
    record { term = reached.term; is = reached.is; sort = takes.signature.gives; fits = subst (λ (ss : List Sort). sort_in (scope_of owned defs) ss (expr_of number reached.term) ≡ Some takes.signature.gives) takes.takes reached.fits }

pub defined-within : {T N : Type 0} {owned : Op → Bool} {number : N → Val} {defs : List (Def T N)} {n : ℕ} {found : List Sort} → Calls owned number defs n found → n < length defs
defined-within {defs = defs} {n = n} called = slice_get_within defs n called.def called.is

pub defined-falls : {T N : Type 0} {owned : Op → Bool} {number : N → Val} {defs : List (Def T N)} {n : ℕ} {found : List Sort} (called : Calls owned number defs n found) (d : Def T N) (b : ℕ) → 3 * (nodes (body number (get_or defs n d)) + (counted.weight number (take n defs) + 0)) + 1 < 3 * (counted.weight number defs + b)
defined-falls {number = number} {defs = defs} {n = n} called d b = rw (get_or_from_slice_get defs n called.def d called.is) (omega (arith, weight-at number defs n called.def called.is))

-- the body of the definition fits over the arguments, which stand at the end of the list in force
pub defined-fits : {T N : Type 0} {owned : Op → Bool} {number : N → Val} {defs : List (Def T N)} {n : ℕ} {found : List Sort} (called : Calls owned number defs n found) (d : Def T N) (all : List Sort) → let none : List (Term T N) = [] in FitsOver owned number (take n defs) none (drop (length all) (all ++ found)) (body number (get_or defs n d))
defined-fits {defs = defs} {n = n} {found = found} called d all =
    rw (drop-append_seam all found, get_or_from_slice_get defs n called.def d called.is) (record { wanted = []; bodies = tt; sort = called.sort; is = called.fits })

pub defined-is : {T N : Type 0} {owned : Op → Bool} (number : N → Val) (defs : List (Def T N)) (terms : List (Term T N)) (function : Fun) (first long n : ℕ) {found : List Sort} (called : Calls owned number defs n found) (d : Def T N) → function ≡ Defined n → let none : List (Term T N) = [] in called_with number defs terms function first long ≡ placed_with number (take n defs) none first long (body number (get_or defs n d))
defined-is number defs terms function first long n called d which =
    rw (which, get_or_from_slice_get defs n called.def d called.is) (defined-called number defs terms first long n called.def called.is)

pub wanted-within : {T N : Type 0} {owned : Op → Bool} {number : N → Val} {defs : List (Def T N)} {terms : List (Term T N)} {n : ℕ} {found : List Sort} → CallsBody owned number defs terms n found → n < length terms
wanted-within {terms = terms} {n = n} called = slice_get_within terms n called.term called.is

pub wanted-falls : {T N : Type 0} {owned : Op → Bool} {number : N → Val} {defs : List (Def T N)} {terms : List (Term T N)} {n : ℕ} {found : List Sort} (called : CallsBody owned number defs terms n found) (d : Term T N) (w : ℕ) → d ≡ get_or terms n d → 3 * (nodes (expr_of number d) + (w + 0)) + 1 < 3 * (w + weight_of number terms)
wanted-falls {number = number} {terms = terms} {n = n} called d w read = rw (read ∙ get_or_from_slice_get terms n called.term d called.is) (omega (arith, weight_of-at number terms n called.term called.is))

pub wanted-fits : {T N : Type 0} {owned : Op → Bool} {number : N → Val} {defs : List (Def T N)} {terms : List (Term T N)} {n : ℕ} {found : List Sort} (called : CallsBody owned number defs terms n found) (d : Term T N) (all : List Sort) → d ≡ get_or terms n d → let none : List (Term T N) = [] in FitsOver owned number defs none (drop (length all) (all ++ found)) (expr_of number d)
wanted-fits {terms = terms} {n = n} {found = found} called d all read =
    rw (drop-append_seam all found, read ∙ get_or_from_slice_get terms n called.term d called.is) (record { wanted = []; bodies = tt; sort = called.sort; is = called.fits })

pub wanted-is : {T N : Type 0} {owned : Op → Bool} (number : N → Val) (defs : List (Def T N)) (terms : List (Term T N)) (function : Fun) (first long n : ℕ) {found : List Sort} (called : CallsBody owned number defs terms n found) (d : Term T N) → d ≡ get_or terms n d → function ≡ Wanted n → let none : List (Term T N) = [] in called_with number defs terms function first long ≡ placed_with number defs none first long (expr_of number d)
wanted-is number defs terms function first long n called d read which =
    rw (which, read ∙ get_or_from_slice_get terms n called.term d called.is) (wanted-called number defs terms first long n called.term called.is)

-- ---- lists
placed-append : {T N : Type 0} (number : N → Val) (defs : List (Def T N)) (terms : List (Term T N)) (first long : ℕ) (front back : Exprs) → all_placed_with number defs terms first long (expr.append front back) ≡ expr.append (all_placed_with number defs terms first long front) (all_placed_with number defs terms first long back)
unfolding all_placed
placed-append number defs terms first long expr.none back = refl
placed-append number defs terms first long (expr.more e front) back = ap (expr.more (placed_with number defs terms first long e)) (placed-append number defs terms first long front back)

pub sorts-last : (scope : Scope) (all : List Sort) (front : Exprs) (last : Expr) (found : List Sort) (sort : Sort) → sorts_in scope all front ≡ Some found → sort_in scope all last ≡ Some sort → sorts_in scope all (expr.append front (expr.more last expr.none)) ≡ Some (found ++ sort ∷ [])
unfolding sorts_in
sorts-last scope all expr.none last found sort e h =
    let empty : [] ≡ found = cc in
    rw (h, ← empty) refl
sorts-last scope all (expr.more e front) last found sort each h =
    let parts = with_sort_Some (sort_in scope all e) (sorts_in scope all front) found each in
    rw (parts.first_is, sorts-last scope all front last parts.sorts sort parts.rest_is h) (ap (λ (ss : List Sort). Some (ss ++ sort ∷ [])) parts.whole_is)

pub weights-last : (scope : Scope) (all : List Sort) (front : Exprs) (last : Expr) → weights scope all (expr.append front (expr.more last expr.none)) ≡ weights scope all front + weight scope all last
unfolding weights
weights-last scope all expr.none last = omega arith
weights-last scope all (expr.more e front) last = omega (arith, weights-last scope all front last)

pub none-built : {T N : Type 0} (number : N → Val) (scope : Scope) (defs : List (Def T N)) (terms : List (Term T N)) (first : ℕ) (all : List Sort) (before : Left) → let nothing : List (Term T N) = [] in AreBuilt scope all (all_placed_with number defs terms first (length all) (exprs_of number nothing)) before before (exprs_of number nothing) []
unfolding all_placed sorts_in weights
none-built number scope defs terms first all before = record { are = λ each. refl; many = refl; have = refl; weight = omega arith; counted = λ each. each }

count-last : (front : Exprs) (last : Expr) → count (expr.append front (expr.more last expr.none)) ≡ count front + 1
count-last expr.none last = refl
count-last (expr.more e front) last = omega (arith, count-last front last)

-- one term more
pub more-built : {T N : Type 0} (number : N → Val) (scope : Scope) (defs : List (Def T N)) (terms : List (Term T N)) (first : ℕ) (all : List Sort) (items : List (Term T N)) (i : ℕ) (before mid after : Left) (built : List (Term T N)) (found : List Sort) (term result : Term T N) (sort : Sort) → i < length items → term ≡ get_or items i term → AreBuilt scope all (all_placed_with number defs terms first (length all) (exprs_of number (take i items))) before mid (exprs_of number built) found → TermIsBuilt scope all (placed_with number defs terms first (length all) (expr_of number term)) mid after (expr_of number result) sort → AreBuilt scope all (all_placed_with number defs terms first (length all) (exprs_of number (take (i + 1) items))) before after (exprs_of number (built ++ result ∷ [])) (found ++ sort ∷ [])
unfolding all_placed
more-built {T} {N} number scope defs terms first all items i before mid after built found term result sort within read are is =
    let longer : take (i + 1) items ≡ take i items ++ term ∷ [] = take_more items i term within ∙ ap (λ (t : Term T N). take i items ++ t ∷ []) (sym read) in
    let whole : all_placed_with number defs terms first (length all) (exprs_of number (take (i + 1) items)) ≡ expr.append (all_placed_with number defs terms first (length all) (exprs_of number (take i items))) (expr.more (placed_with number defs terms first (length all) (expr_of number term)) expr.none) =
    ap (λ (ts : List (Term T N)). all_placed_with number defs terms first (length all) (exprs_of number ts)) longer
    ∙ (ap (all_placed_with number defs terms first (length all)) (exprs_of-append number (take i items) (term ∷ []))
    ∙ placed-append number defs terms first (length all) (exprs_of number (take i items)) (exprs_of number (term ∷ []))) in
    let first_weight = are.weight in
    let second_weight = is.weight in
    rw whole (record {
      are = λ each. exprs_of-append number built (result ∷ []) ∙ (λ k. expr.append (are.are (is.counted each) k) (expr.more (is.is each k) expr.none));
      many = ap count (exprs_of-append number built (result ∷ [])) ∙ (count-last (exprs_of number built) (expr_of number result) ∙ (ap (λ n. n + 1) are.many
          ∙ sym (count-last (all_placed_with number defs terms first (length all) (exprs_of number (take i items))) (placed_with number defs terms first (length all) (expr_of number term)))));
      have = sorts-last scope all (all_placed_with number defs terms first (length all) (exprs_of number (take i items))) (placed_with number defs terms first (length all) (expr_of number term)) found sort are.have is.has;
      weight = omega (arith, first_weight, second_weight, weights-last scope all (all_placed_with number defs terms first (length all) (exprs_of number (take i items))) (placed_with number defs terms first (length all) (expr_of number term)));
      counted = λ each. are.counted (is.counted each);
    })

part-weighs : {T N : Type 0} (number : N → Val) (scope : Scope) (defs : List (Def T N)) (terms : List (Term T N)) (first long : ℕ) (all : List Sort) (items : List (Term T N)) (i : ℕ) (term : Term T N) → slice_get items i ≡ Some term → weights scope all (all_placed_with number defs terms first long (exprs_of number (take i items))) + weight scope all (placed_with number defs terms first long (expr_of number term)) ≤ weights scope all (all_placed_with number defs terms first long (exprs_of number items))
unfolding all_placed weights
part-weighs number scope defs terms first long all [] i term e = absurd (none-some term e)
part-weighs number scope defs terms first long all (x ∷ items) zero term e =
    let same : x ≡ term = cc in
    rw same (omega arith)
part-weighs number scope defs terms first long all (x ∷ items) (suc i) term e = omega (arith, part-weighs number scope defs terms first long all items i term e)

-- where one term is too heavy, so are all
pub part-heavy : {T N : Type 0} (number : N → Val) (scope : Scope) (defs : List (Def T N)) (terms : List (Term T N)) (first : ℕ) (all : List Sort) (items : List (Term T N)) (i : ℕ) (before mid : Left) (built : Exprs) (found : List Sort) (term : Term T N) → i < length items → term ≡ get_or items i term → AreBuilt scope all (all_placed_with number defs terms first (length all) (exprs_of number (take i items))) before mid built found → mid.weight < weight scope all (placed_with number defs terms first (length all) (expr_of number term)) → before.weight < weights scope all (all_placed_with number defs terms first (length all) (exprs_of number items))
part-heavy number scope defs terms first all items i before mid built found term within read are heavy =
    let least = part-weighs number scope defs terms first (length all) all items i term (slice_get-get_or items i term within ∙ ap Some (sym read)) in
    let before_is = are.weight in
    omega (arith, least, before_is, heavy)

-- what is left after some of the terms
pub part-left : {T N : Type 0} (number : N → Val) (scope : Scope) (defs : List (Def T N)) (terms : List (Term T N)) (first : ℕ) (all : List Sort) (each : Exprs) (before mid : Left) (built : Exprs) (found : List Sort) → AreBuilt scope all each before mid built found → mid.weight ≤ before.weight
part-left number scope defs terms first all each before mid built found are =
    let is = are.weight in
    omega (arith, is)

fit-at : {T N : Type 0} (owned : Op → Bool) (number : N → Val) (defs : List (Def T N)) (terms : List (Term T N)) (wanted : List Signature) (own : List Sort) (items : List (Term T N)) (found : List Sort) (i : ℕ) (term : Term T N) → sorts_in (scope_with owned defs wanted) own (exprs_of number items) ≡ Some found → slice_get items i ≡ Some term → (sort : Sort) × (sort_in (scope_with owned defs wanted) own (expr_of number term) ≡ Some sort)
unfolding sorts_in
fit-at owned number defs terms wanted own [] found i term each e = absurd (none-some term e)
fit-at {T} {N} owned number defs terms wanted own (x ∷ items) found zero term each e =
    let parts = with_sort_Some (sort_in (scope_with owned defs wanted) own (expr_of number x)) (sorts_in (scope_with owned defs wanted) own (exprs_of number items)) found each in
    let same : x ≡ term = cc in
    (parts.sort, subst (λ (t : Term T N). sort_in (scope_with owned defs wanted) own (expr_of number t) ≡ Some parts.sort) same parts.first_is)
fit-at owned number defs terms wanted own (x ∷ items) found (suc i) term each e =
    let parts = with_sort_Some (sort_in (scope_with owned defs wanted) own (expr_of number x)) (sorts_in (scope_with owned defs wanted) own (exprs_of number items)) found each in
    fit-at owned number defs terms wanted own items parts.sorts i term parts.rest_is e

-- each of the terms fits
pub one-fits : {T N : Type 0} (owned : Op → Bool) (number : N → Val) (defs : List (Def T N)) (terms : List (Term T N)) (own : List Sort) (items : List (Term T N)) (i : ℕ) (term : Term T N) → i < length items → term ≡ get_or items i term → AllFitOver owned number defs terms own (exprs_of number items) → FitsOver owned number defs terms own (expr_of number term)
one-fits owned number defs terms own items i term within read fit =
    let at = fit-at owned number defs terms fit.wanted own items fit.found i term fit.are (slice_get-get_or items i term within ∙ ap Some (sym read)) in
    record { wanted = fit.wanted; bodies = fit.bodies; sort = at.0; is = at.1 }

-- ---- the same, in other words
pub reheavy : (scope : Scope) (sorts : List Sort) (whole e : Expr) (left : ℕ) → whole ≡ e → left < weight scope sorts e → left < weight scope sorts whole
reheavy scope sorts whole e left at heavy = rw at heavy
