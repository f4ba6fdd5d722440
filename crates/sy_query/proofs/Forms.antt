-- What stands for each form of a term, and the sort that it has.
use Rattle.std.specs.Prelude.{ℕ, ◌+◌, ◌≤◌, Bool, List, [], ◌≡◌, refl, Some, length, drop, map, slice_get}
use Rattle.std.proofs.Common.{ap, ◌∙◌, sym, take}
use Rattle.std.proofs.lemmas.List.{take-append-drop, length-take-le, length-append}
use Rattle.sy_terms.specs.Values.{Val}
use Rattle.sy_terms.specs.Expr.{Expr, Exprs, Constant, Variable, Apply, Bind}
use Rattle.sy_terms.specs.Denoted.{expr_of, exprs_of, val_of, expr_of-Const, expr_of-Var}
use Rattle.sy_terms.specs.Definitions.{DefinitionsFit, bodies, body, signature}
use Rattle.sy_terms.specs.Fitting.{sort_in, sorts_in}
use Rattle.sy_terms.specs.declared.op.Op.{Op}
use Rattle.sy_terms.specs.declared.sort.Sort.{Sort}
use Rattle.sy_terms.specs.declared.sort.Value.{Value}
use Rattle.sy_terms.specs.declared.term.Fun.{Fun}
use Rattle.sy_terms.specs.declared.term.Fun.TheVariants.{Defined, Wanted}
use Rattle.sy_terms.specs.declared.term.Term.{Term, Const, Var, App, Call, Let}
use Rattle.sy_terms.specs.declared.term.Terms.{Terms}
use Rattle.sy_terms.specs.declared.term.Def.{Def}
use Rattle.std.specs.declared.boxed.Box.{Box}
use Rattle.std.specs.declared.alloc.Global.{Global}
use Rattle.sy_terms_operators.proofs.Steps.{app-is, call-is, let-is}
use Rattle.sy_query_base.specs.Placed.{placed, called_at, count, placements}
use Rattle.sy_query_base.specs.Weights.{query_scope}
use Rattle.sy_query.specs.Placing.{placed_with, all_placed_with, called_with, wanted_placements, FitsOver, AllFitOver}
use Rattle.sy_query.proofs.Sorted.{placed-sort, all_placed-sorts, definitions-sort, bodies-sort}
use Rattle.sy_query.proofs.Reaching.{definition-at, body-at}

pub const-placed : {T N : Type 0} (number : N → Val) (defs : List (Def T N)) (terms : List (Term T N)) (first long : ℕ) (term : Term T N) (value : Value N) → term ≡ Const value → placed_with number defs terms first long (expr_of number term) ≡ Constant (val_of number value)
unfolding placed
const-placed {T} {N} number defs terms first long term value is = rw (is, expr_of-Const) refl

pub var-placed : {T N : Type 0} (number : N → Val) (defs : List (Def T N)) (terms : List (Term T N)) (first long : ℕ) (term : Term T N) (position : ℕ) → term ≡ Var position → placed_with number defs terms first long (expr_of number term) ≡ Variable (first + position)
unfolding placed
var-placed number defs terms first long term position is = rw (is, expr_of-Var) refl

pub app-placed : {T N : Type 0} (number : N → Val) (defs : List (Def T N)) (terms : List (Term T N)) (first long : ℕ) (term : Term T N) (operator : Op) (arguments : Terms T N) → term ≡ App operator arguments → placed_with number defs terms first long (expr_of number term) ≡ Apply operator (all_placed_with number defs terms first long (exprs_of number arguments.items.items))
unfolding placed
app-placed number defs terms first long term operator arguments is = rw (app-is number term operator arguments is) refl

pub let-placed : {T N : Type 0} (number : N → Val) (defs : List (Def T N)) (terms : List (Term T N)) (first long : ℕ) (term : Term T N) (bound : Terms T N) (inner : Box (Term T N) Global) → term ≡ Let bound inner → placed_with number defs terms first long (expr_of number term) ≡ Bind (all_placed_with number defs terms first long (exprs_of number bound.items.items)) (placed_with number defs terms first (long + count (exprs_of number bound.items.items)) (expr_of number inner.value))
unfolding placed
let-placed number defs terms first long term bound inner is = rw (let-is number term bound inner is) refl

-- a call is a binding around what stands for the function
pub call-placed : {T N : Type 0} (number : N → Val) (defs : List (Def T N)) (terms : List (Term T N)) (first long : ℕ) (term : Term T N) (function : Fun) (arguments : Terms T N) → term ≡ Call function arguments → placed_with number defs terms first long (expr_of number term) ≡ Bind (all_placed_with number defs terms first long (exprs_of number arguments.items.items)) (called_with number defs terms function long (long + count (exprs_of number arguments.items.items)))
unfolding placed
call-placed number defs terms first long term function arguments is = rw (call-is number term function arguments is) refl

-- for a definition its body, over those before it
pub defined-called : {T N : Type 0} (number : N → Val) (defs : List (Def T N)) (terms : List (Term T N)) (first long : ℕ) (n : ℕ) (def : Def T N) → slice_get defs n ≡ Some def → called_with number defs terms (Defined n) first long ≡ placed_with number (take n defs) [] first long (body number def)
defined-called {T} {N} number defs terms first long n def e = ap (λ (found : _). called_at found first long) (definition-at number defs n def e)

-- for a function to be found its body
pub wanted-called : {T N : Type 0} (number : N → Val) (defs : List (Def T N)) (terms : List (Term T N)) (first long : ℕ) (n : ℕ) (found : Term T N) → slice_get terms n ≡ Some found → called_with number defs terms (Wanted n) first long ≡ placed_with number defs [] first long (expr_of number found)
wanted-called {T} {N} number defs terms first long n found e = ap (λ (found : _). called_at found first long) (body-at number defs terms n found e)

-- where a term fits over its own list, what stands for it has its sort over the whole list
pub whole-sort : {T N : Type 0} (owned : Op → Bool) (number : N → Val) (defs : List (Def T N)) (terms : List (Term T N)) (first : ℕ) (all : List Sort) (term : Expr) → DefinitionsFit owned number defs → first ≤ length all → (fit : FitsOver owned number defs terms (drop first all) term) → sort_in (query_scope owned) all (placed_with number defs terms first (length all) term) ≡ Some fit.sort
whole-sort owned number defs terms first all term definitions within fit =
    let front = length-take-le first all within in
    let whole = take-append-drop first all in
    let long : length (take first all) + length (drop first all) ≡ length all = sym (length-append (take first all) (drop first all)) ∙ ap length whole in
    let here = placed-sort owned (placements (bodies number defs)) (wanted_placements number defs terms) (map signature defs) fit.wanted (definitions-sort owned number defs definitions) (bodies-sort owned number defs terms fit.wanted definitions fit.bodies) (take first all) (drop first all) term fit.sort fit.is in
    rw (long, front, whole) at here

pub wholes-sort : {T N : Type 0} (owned : Op → Bool) (number : N → Val) (defs : List (Def T N)) (terms : List (Term T N)) (first : ℕ) (all : List Sort) (each : Exprs) → DefinitionsFit owned number defs → first ≤ length all → (fit : AllFitOver owned number defs terms (drop first all) each) → sorts_in (query_scope owned) all (all_placed_with number defs terms first (length all) each) ≡ Some fit.found
wholes-sort owned number defs terms first all each definitions within fit =
    let front = length-take-le first all within in
    let whole = take-append-drop first all in
    let long : length (take first all) + length (drop first all) ≡ length all = sym (length-append (take first all) (drop first all)) ∙ ap length whole in
    let here = all_placed-sorts owned (placements (bodies number defs)) (wanted_placements number defs terms) (map signature defs) fit.wanted (definitions-sort owned number defs definitions) (bodies-sort owned number defs terms fit.wanted definitions fit.bodies) (take first all) (drop first all) each fit.found fit.are in
    rw (long, front, whole) at here
