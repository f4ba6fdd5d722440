-- What each step of the walk over a term leaves, in the words of its code.
use Rattle.std.specs.Prelude.{ℕ, ◌+◌, ◌<◌, ◌≤◌, ◌^◌, Bool, List, ◌++◌, ◌≡◌, refl, Some, length, drop, All, Result, Ok, Err, IfOk, OnOk, OnErr}
use Rattle.std.specs.Result.{IsErrAnd}
use Rattle.std.proofs.Common.{arith, ap, ◌∙◌, sym, length-append}
use Rattle.std.proofs.lemmas.List.Elements.{All-append}
use Rattle.sy_terms.specs.Values.{Val}
use Rattle.sy_terms.specs.Expr as expr
use Rattle.sy_terms.specs.Expr.{Expr, Exprs, Bind}
use Rattle.sy_terms.specs.Denoted.{expr_of, exprs_of, expr_of-Let}
use Rattle.sy_terms.specs.Definitions.{DefinitionsFit}
use Rattle.sy_terms.specs.Fitting.{Scope}
use Rattle.sy_terms.specs.declared.op.Op.{Op}
use Rattle.sy_terms.specs.declared.sort.Sort.{Sort}
use Rattle.sy_terms.specs.declared.term.Fun.{Fun}
use Rattle.sy_terms.specs.declared.term.Term.{Term, App, Call, Let}
use Rattle.sy_terms.specs.declared.term.Terms.{Terms}
use Rattle.sy_terms.specs.declared.term.Def.{Def}
use Rattle.std.specs.declared.boxed.Box.{Box}
use Rattle.std.specs.declared.alloc.Global.{Global}
use Rattle.sy_query_base.specs.Placed.{count, all_placed}
use Rattle.sy_query_base.specs.Weights.{weight, weights, sort_weight, query_scope}
use Rattle.sy_query.specs.declared.room.Left.{Left}
use Rattle.sy_query.specs.Placing.{placed_with, all_placed_with, called_with, FitsOver, TermIsBuilt, AreBuilt, IsBound, bound_weight, ApplicationIsBuilt, applied_weight}
use Rattle.sy_query.specs.Sized.{IsSized}
use Rattle.sy_query.proofs.Forms.{app-placed, let-placed, call-placed}
use Rattle.sy_query.proofs.Sorted.{sorts_in-length}
use Rattle.sy_query.proofs.Steps as step

-- ---- results
pub ok_then : {X E : Type 0} {P Q : X → Type 0} (r : Result X E) → IfOk r P → ((x : X) → P x → Q x) → IfOk r Q
ok_then (Ok x) h f = f x h
ok_then (Err e) h f = tt

pub any_ok : {X E P : Type 0} (r : Result X E) → P → OnOk r P
any_ok (Ok x) h = h
any_ok (Err e) h = tt

pub on_ok : {X E P Q : Type 0} (r : Result X E) → OnOk r P → (P → Q) → OnOk r Q
on_ok (Ok x) h f = f h
on_ok (Err e) h f = tt

pub err_of : {X E P : Type 0} (r : Result X E) (e : E) → OnErr r P → r ≡ Err e → P
err_of (Ok x) e h same = cc
err_of (Err y) e h same = h

-- an error that `?` hands on is the same
pub kept-error : {X E : Type 0} (r : Result X E) (e f : E) → IsErrAnd r (λ end. end ≡ e) → r ≡ Err f → e ≡ f
kept-error (Ok x) e f told h = absurd told
kept-error (Err y) e f told h = cc

-- an error that isn't this one
pub not-error : {X E P : Type 0} (r : Result X E) (e f : E) → IsErrAnd r (λ end. end ≡ e) → (e ≡ f → ⊥) → r ≡ Err f → P
not-error r e f told not h = absurd (not (kept-error r e f told h))

-- ---- the list in force
pub longer-sized : (old new found : List Sort) → new ≡ old → All IsSized old → All IsSized found → All IsSized (new ++ found)
longer-sized old new found same first second = rw same (All-append IsSized old found first second)

pub less-left : (before after many : ℕ) → many + after ≤ before → before < 2 ^ 32 → after < 2 ^ 32
less-left before after many most small = omega (arith, most, small)

pub few-terms : (before after many : ℕ) → many + after ≤ before → before < 2 ^ 32 → many < 2 ^ 32
few-terms before after many most small = omega (arith, most, small)

long-is : (owned : Op → Bool) (all : List Sort) (arguments : Exprs) (before mid : Left) (built : Exprs) (found : List Sort) → AreBuilt (query_scope owned) all arguments before mid built found → length (all ++ found) ≡ length all + count arguments
long-is owned all arguments before mid built found are = length-append all found ∙ ap (λ n. length all + n) (sorts_in-length (query_scope owned) all arguments found are.have)

count-placed : {T N : Type 0} (number : N → Val) (defs : List (Def T N)) (terms : List (Term T N)) (first long : ℕ) (each : Exprs) → count (all_placed_with number defs terms first long each) ≡ count each
unfolding all_placed
count-placed number defs terms first long expr.none = refl
count-placed number defs terms first long (expr.more e rest) = omega (arith, count-placed number defs terms first long rest)

-- ---- applications
pub app-built : {T N : Type 0} (owned : Op → Bool) (number : N → Val) (defs : List (Def T N)) (terms : List (Term T N)) (first : ℕ) (all : List Sort) (term : Term T N) (operator : Op) (arguments : Terms T N) (before mid after : Left) (built : Exprs) (found : List Sort) (result : Expr) (sort : Sort) → term ≡ App operator arguments → DefinitionsFit owned number defs → first ≤ length all → FitsOver owned number defs terms (drop first all) (expr_of number term) → AreBuilt (query_scope owned) all (all_placed_with number defs terms first (length all) (exprs_of number arguments.items.items)) before mid built found → ApplicationIsBuilt operator built found mid after result sort → TermIsBuilt (query_scope owned) all (placed_with number defs terms first (length all) (expr_of number term)) before after result sort
app-built owned number defs terms first all term operator arguments before mid after built found result sort is definitions within fit are applied =
    step.applied-built owned all (placed_with number defs terms first (length all) (expr_of number term)) operator (all_placed_with number defs terms first (length all) (exprs_of number arguments.items.items)) before mid after built found result sort (app-placed number defs terms first (length all) term operator arguments is)
    (step.app-sorted owned number defs terms first all term operator arguments before mid built found is definitions within fit are).0 are applied

pub app-heavy : {T N : Type 0} (owned : Op → Bool) (number : N → Val) (defs : List (Def T N)) (terms : List (Term T N)) (first : ℕ) (all : List Sort) (term : Term T N) (operator : Op) (arguments : Terms T N) (before mid : Left) (built : Exprs) (found : List Sort) → term ≡ App operator arguments → DefinitionsFit owned number defs → first ≤ length all → FitsOver owned number defs terms (drop first all) (expr_of number term) → AreBuilt (query_scope owned) all (all_placed_with number defs terms first (length all) (exprs_of number arguments.items.items)) before mid built found → mid.weight < applied_weight operator built found → before.weight < weight (query_scope owned) all (placed_with number defs terms first (length all) (expr_of number term))
app-heavy owned number defs terms first all term operator arguments before mid built found is definitions within fit are heavy =
    step.applied-heavy owned all (placed_with number defs terms first (length all) (expr_of number term)) operator (all_placed_with number defs terms first (length all) (exprs_of number arguments.items.items)) before mid built found (app-placed number defs terms first (length all) term operator arguments is)
    (step.app-sorted owned number defs terms first all term operator arguments before mid built found is definitions within fit are).0 are heavy

pub app-arguments-heavy : {T N : Type 0} (owned : Op → Bool) (number : N → Val) (defs : List (Def T N)) (terms : List (Term T N)) (first : ℕ) (all : List Sort) (term : Term T N) (operator : Op) (arguments : Terms T N) (before : ℕ) → term ≡ App operator arguments → before < weights (query_scope owned) all (all_placed_with number defs terms first (length all) (exprs_of number arguments.items.items)) → before < weight (query_scope owned) all (placed_with number defs terms first (length all) (expr_of number term))
app-arguments-heavy owned number defs terms first all term operator arguments before is heavy =
    step.arguments-heavy (query_scope owned) all (placed_with number defs terms first (length all) (expr_of number term)) operator (all_placed_with number defs terms first (length all) (exprs_of number arguments.items.items)) before (app-placed number defs terms first (length all) term operator arguments is) heavy

-- ---- calls
pub call-built : {T N : Type 0} (owned : Op → Bool) (number : N → Val) (defs : List (Def T N)) (terms : List (Term T N)) (first : ℕ) (all new : List Sort) (term : Term T N) (function : Fun) (arguments : Terms T N) (before mid after : Left) (built : Exprs) (found : List Sort) (result : Expr) (sort : Sort) → term ≡ Call function arguments → new ≡ all → AreBuilt (query_scope owned) all (all_placed_with number defs terms first (length all) (exprs_of number arguments.items.items)) before mid built found → IsBound (query_scope owned) (new ++ found) built (called_with number defs terms function (length new) (length (new ++ found))) mid after result sort → TermIsBuilt (query_scope owned) all (placed_with number defs terms first (length all) (expr_of number term)) before after result sort
call-built owned number defs terms first all new term function arguments before mid after built found result sort is same are bound =
    let counted : length (all ++ found) ≡ length all + count (exprs_of number arguments.items.items) = long-is owned all (all_placed_with number defs terms first (length all) (exprs_of number arguments.items.items)) before mid built found are ∙ ap (λ n. length all + n) (count-placed number defs terms first (length all) (exprs_of number arguments.items.items)) in
    step.bound-built owned all (placed_with number defs terms first (length all) (expr_of number term)) (all_placed_with number defs terms first (length all) (exprs_of number arguments.items.items)) (called_with number defs terms function (length all) (length (all ++ found))) before mid after built found result sort
    (call-placed number defs terms first (length all) term function arguments is ∙ ap (λ n. Bind (all_placed_with number defs terms first (length all) (exprs_of number arguments.items.items)) (called_with number defs terms function (length all) n)) (sym counted))
    are (rw same at bound)

pub call-heavy : {T N : Type 0} (owned : Op → Bool) (number : N → Val) (defs : List (Def T N)) (terms : List (Term T N)) (first : ℕ) (all new : List Sort) (term : Term T N) (function : Fun) (arguments : Terms T N) (before mid : Left) (built : Exprs) (found : List Sort) → term ≡ Call function arguments → new ≡ all → AreBuilt (query_scope owned) all (all_placed_with number defs terms first (length all) (exprs_of number arguments.items.items)) before mid built found → mid.weight < bound_weight (query_scope owned) (new ++ found) (called_with number defs terms function (length new) (length (new ++ found))) → before.weight < weight (query_scope owned) all (placed_with number defs terms first (length all) (expr_of number term))
call-heavy owned number defs terms first all new term function arguments before mid built found is same are heavy =
    let counted : length (all ++ found) ≡ length all + count (exprs_of number arguments.items.items) = long-is owned all (all_placed_with number defs terms first (length all) (exprs_of number arguments.items.items)) before mid built found are ∙ ap (λ n. length all + n) (count-placed number defs terms first (length all) (exprs_of number arguments.items.items)) in
    step.bound-heavy owned all (placed_with number defs terms first (length all) (expr_of number term)) (all_placed_with number defs terms first (length all) (exprs_of number arguments.items.items)) (called_with number defs terms function (length all) (length (all ++ found))) before mid built found
    (call-placed number defs terms first (length all) term function arguments is ∙ ap (λ n. Bind (all_placed_with number defs terms first (length all) (exprs_of number arguments.items.items)) (called_with number defs terms function (length all) n)) (sym counted))
    are (rw same at heavy)

pub call-arguments-heavy : {T N : Type 0} (owned : Op → Bool) (number : N → Val) (defs : List (Def T N)) (terms : List (Term T N)) (first : ℕ) (all : List Sort) (term : Term T N) (function : Fun) (arguments : Terms T N) (before : ℕ) → term ≡ Call function arguments → before < weights (query_scope owned) all (all_placed_with number defs terms first (length all) (exprs_of number arguments.items.items)) → before < weight (query_scope owned) all (placed_with number defs terms first (length all) (expr_of number term))
call-arguments-heavy owned number defs terms first all term function arguments before is heavy =
    step.bound-arguments-heavy (query_scope owned) all (placed_with number defs terms first (length all) (expr_of number term)) (all_placed_with number defs terms first (length all) (exprs_of number arguments.items.items)) _ before (call-placed number defs terms first (length all) term function arguments is) heavy

-- ---- bindings
pub let-built : {T N : Type 0} (owned : Op → Bool) (number : N → Val) (defs : List (Def T N)) (terms : List (Term T N)) (first : ℕ) (all new : List Sort) (term : Term T N) (bound : Terms T N) (inner : Box (Term T N) Global) (before mid after : Left) (built : Exprs) (found : List Sort) (result : Expr) (sort : Sort) → term ≡ Let bound inner → new ≡ all → AreBuilt (query_scope owned) all (all_placed_with number defs terms first (length all) (exprs_of number bound.items.items)) before mid built found → IsBound (query_scope owned) (new ++ found) built (placed_with number defs terms first (length (new ++ found)) (expr_of number inner.value)) mid after result sort → TermIsBuilt (query_scope owned) all (placed_with number defs terms first (length all) (expr_of number term)) before after result sort
let-built owned number defs terms first all new term bound inner before mid after built found result sort is same are bound_is =
    let counted : length (all ++ found) ≡ length all + count (exprs_of number bound.items.items) = long-is owned all (all_placed_with number defs terms first (length all) (exprs_of number bound.items.items)) before mid built found are ∙ ap (λ n. length all + n) (count-placed number defs terms first (length all) (exprs_of number bound.items.items)) in
    step.bound-built owned all (placed_with number defs terms first (length all) (expr_of number term)) (all_placed_with number defs terms first (length all) (exprs_of number bound.items.items)) (placed_with number defs terms first (length (all ++ found)) (expr_of number inner.value)) before mid after built found result sort
    (let-placed number defs terms first (length all) term bound inner is ∙ ap (λ n. Bind (all_placed_with number defs terms first (length all) (exprs_of number bound.items.items)) (placed_with number defs terms first n (expr_of number inner.value))) (sym counted))
    are (rw same at bound_is)

pub let-heavy : {T N : Type 0} (owned : Op → Bool) (number : N → Val) (defs : List (Def T N)) (terms : List (Term T N)) (first : ℕ) (all new : List Sort) (term : Term T N) (bound : Terms T N) (inner : Box (Term T N) Global) (before mid : Left) (built : Exprs) (found : List Sort) → term ≡ Let bound inner → new ≡ all → AreBuilt (query_scope owned) all (all_placed_with number defs terms first (length all) (exprs_of number bound.items.items)) before mid built found → mid.weight < bound_weight (query_scope owned) (new ++ found) (placed_with number defs terms first (length (new ++ found)) (expr_of number inner.value)) → before.weight < weight (query_scope owned) all (placed_with number defs terms first (length all) (expr_of number term))
let-heavy owned number defs terms first all new term bound inner before mid built found is same are heavy =
    let counted : length (all ++ found) ≡ length all + count (exprs_of number bound.items.items) = long-is owned all (all_placed_with number defs terms first (length all) (exprs_of number bound.items.items)) before mid built found are ∙ ap (λ n. length all + n) (count-placed number defs terms first (length all) (exprs_of number bound.items.items)) in
    step.bound-heavy owned all (placed_with number defs terms first (length all) (expr_of number term)) (all_placed_with number defs terms first (length all) (exprs_of number bound.items.items)) (placed_with number defs terms first (length (all ++ found)) (expr_of number inner.value)) before mid built found
    (let-placed number defs terms first (length all) term bound inner is ∙ ap (λ n. Bind (all_placed_with number defs terms first (length all) (exprs_of number bound.items.items)) (placed_with number defs terms first n (expr_of number inner.value))) (sym counted))
    are (rw same at heavy)

pub let-bound-heavy : {T N : Type 0} (owned : Op → Bool) (number : N → Val) (defs : List (Def T N)) (terms : List (Term T N)) (first : ℕ) (all : List Sort) (term : Term T N) (bound : Terms T N) (inner : Box (Term T N) Global) (before : ℕ) → term ≡ Let bound inner → before < weights (query_scope owned) all (all_placed_with number defs terms first (length all) (exprs_of number bound.items.items)) → before < weight (query_scope owned) all (placed_with number defs terms first (length all) (expr_of number term))
let-bound-heavy owned number defs terms first all term bound inner before is heavy =
    step.bound-arguments-heavy (query_scope owned) all (placed_with number defs terms first (length all) (expr_of number term)) (all_placed_with number defs terms first (length all) (exprs_of number bound.items.items)) _ before (let-placed number defs terms first (length all) term bound inner is) heavy

-- ---- what a binding leaves
pub longer-own : (first : ℕ) (old new found : List Sort) → new ≡ old → first ≤ length old → first ≤ length (new ++ found)
longer-own first old new found same own = rw (same, length-append old found) (omega (arith, own))

pub inner-heavy : (scope : Scope) (sorts : List Sort) (inner : Expr) (before mid : Left) (w : ℕ) (built : Expr) (sort : Sort) → TermIsBuilt scope sorts inner before mid built sort → w ≡ sort_weight (Some sort) → mid.weight < w → before.weight < bound_weight scope sorts inner
inner-heavy scope sorts inner before mid w built sort is weighs heavy =
    let first = is.weight in
    rw is.has (omega (arith, first, weighs, heavy))

pub inner-bound : {T N : Type 0} (number : N → Val) (scope : Scope) (sorts : List Sort) (inner : Expr) (before mid after : Left) (w : ℕ) (bound : Terms T N) (built : Term T N) (box : Box (Term T N) Global) (sort : Sort) → TermIsBuilt scope sorts inner before mid (expr_of number built) sort → w ≡ sort_weight (Some sort) → mid.weight ≡ after.weight + w → after.counted ≡ mid.counted → box.value ≡ built → IsBound scope sorts (exprs_of number bound.items.items) inner before after (expr_of number (Let bound box)) sort
inner-bound number scope sorts inner before mid after w bound built box sort is weighs taken counted holds =
    let first = is.weight in
    record {
      is = λ all. expr_of-Let number bound box ∙ ap (λ e. Bind (exprs_of number bound.items.items) e) (ap (expr_of number) holds ∙ is.is (sym counted ∙ all));
      has = is.has;
      weight = rw is.has (omega (arith, first, weighs, taken));
      counted = λ all. is.counted (sym counted ∙ all);
    }
