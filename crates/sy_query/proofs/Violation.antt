-- The query of a problem and bodies: its parts, its sort and its weight.
use Rattle.std.specs.Prelude.{ℕ, ◌+◌, ◌≤◌, Bool, true, ◌&&◌, List, [], ◌∷◌, ◌++◌, ◌≡◌, refl, length, map, All, Some}
use Rattle.std.specs.List.{list_all}
use Rattle.std.proofs.Common.{arith, ap, length-append}
use Rattle.std.proofs.lemmas.Bool.{le-leb}
use Rattle.std.proofs.lemmas.List.Elements.{All-head, All-tail}
use Rattle.sy_terms.specs.Values.{Val}
use Rattle.sy_terms.specs.Expr as expr
use Rattle.sy_terms.specs.Expr.{Expr, Exprs, Apply, append}
use Rattle.sy_terms.specs.Denoted.{expr_of, exprs_of}
use Rattle.sy_terms.specs.Fitting.{Scope, sort_in, sorts_in}
use Rattle.sy_terms.specs.Sorts.{sort_of, same_sort}
use Rattle.sy_terms.specs.declared.op.Op.{Op}
use Rattle.sy_terms.specs.declared.op.Op.TheVariants as ops
use Rattle.sy_terms.specs.declared.sort.Sort.{Sort}
use Rattle.sy_terms.specs.declared.sort.Sort.TheVariants as sorts
use Rattle.sy_terms.specs.declared.sorts.Sorted.TheVariants.{Is}
use Rattle.sy_terms.specs.declared.term.Term.{Term}
use Rattle.sy_terms.specs.declared.term.Def.{Def}
use Rattle.sy_query_base.specs.Placed.{all_placed}
use Rattle.sy_query_base.specs.Queries.{in_row, conjunction, violated}
use Rattle.sy_query_base.specs.Weights.{weight, weights, query_scope}
use Rattle.sy_query.specs.Placing.{all_placed_with, placed_with}
use Rattle.sy_query_violation.specs.Violating.{conjoined, violated_by}
use Rattle.sy_query.proofs.Steps.{sorts-last, weights-last}
use Rattle.sy_query.proofs.Sorted.{sorts_in-length}

-- ---- truth values' terms
abbrev pub truths : {X : Type 0} → List X → List Sort
truths [] = []
truths (x ∷ xs) = sorts.Bool ∷ truths xs

pub all-truths : {T N : Type 0} (number : N → Val) (scope : Scope) (own : List Sort) (items : List (Term T N)) → All (λ term. sort_in scope own (expr_of number term) ≡ Some sorts.Bool) items → sorts_in scope own (exprs_of number items) ≡ Some (truths items)
unfolding sorts_in
all-truths number scope own [] all = refl
all-truths {T} {N} number scope own (term ∷ items) all =
    let P : Term T N → Type 0 = λ term. sort_in scope own (expr_of number term) ≡ Some sorts.Bool in
    rw (All-head P term items all, all-truths number scope own items (All-tail P term items all)) refl

-- ---- the query, by what is built
pub placed-row : {T N : Type 0} (number : N → Val) (defs : List (Def T N)) (terms items : List (Term T N)) (first long : ℕ) → all_placed_with number defs terms first long (exprs_of number items) ≡ in_row (map (placed_with number defs terms first long) (map (expr_of number) items))
unfolding all_placed
placed-row number defs terms [] first long = refl
placed-row number defs terms (term ∷ items) first long = ap (expr.more (placed_with number defs terms first long (expr_of number term))) (placed-row number defs terms items first long)

conjoined-row : (terms : List Expr) → conjoined (in_row terms) ≡ conjunction terms
conjoined-row [] = refl
conjoined-row (term ∷ terms) = refl

pub violated-row : (assumptions constraints : List Expr) → violated_by (in_row assumptions) (in_row constraints) ≡ violated assumptions constraints
violated-row assumptions constraints = ap (λ (c : Expr). Apply ops.And (append (in_row assumptions) (expr.more (Apply ops.Not (expr.more c expr.none)) expr.none))) (conjoined-row constraints)

-- ---- its sort
both_hold : (a b : Bool) → a ≡ true → b ≡ true → (a && b) ≡ true
both_hold a b g h = rw (g, h) refl

truths-same : {X : Type 0} (xs : List X) → list_all (same_sort sorts.Bool) (truths xs) ≡ true
truths-same [] = refl
truths-same (x ∷ xs) = truths-same xs

and-sort : (ss : List Sort) → 1 ≤ length ss → list_all (same_sort sorts.Bool) ss ≡ true → sort_of ops.And ss ≡ Is sorts.Bool
unfolding sort_of
and-sort ss least same = rw (le-leb 1 (length ss) least, same) refl

truths-last : {X : Type 0} (xs : List X) → list_all (same_sort sorts.Bool) (truths xs ++ sorts.Bool ∷ []) ≡ true
truths-last [] = refl
truths-last (x ∷ xs) = truths-last xs

pub conjoined-sort : {X : Type 0} (owned : Op → Bool) (all : List Sort) (terms : Exprs) (xs : List X) → owned ops.And ≡ true → sorts_in (query_scope owned) all terms ≡ Some (truths xs) → sort_in (query_scope owned) all (conjoined terms) ≡ Some sorts.Bool
unfolding sort_in
conjoined-sort owned all expr.none xs own e = refl
conjoined-sort owned all (expr.more first rest) xs own e =
    let many = sorts_in-length (query_scope owned) all (expr.more first rest) (truths xs) e in
    rw (e, own, and-sort (truths xs) (omega (arith, many)) (truths-same xs)) refl

negated-sort : (owned : Op → Bool) (all : List Sort) (term : Expr) → owned ops.Not ≡ true → sort_in (query_scope owned) all term ≡ Some sorts.Bool → sort_in (query_scope owned) all (Apply ops.Not (expr.more term expr.none)) ≡ Some sorts.Bool
unfolding sort_in sorts_in sort_of
negated-sort owned all term own e = rw (e, own) refl

pub violated-sort : {X Y : Type 0} (owned : Op → Bool) (all : List Sort) (assumptions constraints : Exprs) (xs : List X) (ys : List Y) → owned ops.And ≡ true → owned ops.Not ≡ true → sorts_in (query_scope owned) all assumptions ≡ Some (truths xs) → sorts_in (query_scope owned) all constraints ≡ Some (truths ys) → sort_in (query_scope owned) all (violated_by assumptions constraints) ≡ Some sorts.Bool
unfolding sort_in
violated-sort owned all assumptions constraints xs ys and not first second =
    let inner = conjoined-sort owned all constraints ys and second in
    let last = negated-sort owned all (conjoined constraints) not inner in
    let each = sorts-last (query_scope owned) all assumptions (Apply ops.Not (expr.more (conjoined constraints) expr.none)) (truths xs) sorts.Bool first last in
    rw (each, and, and-sort (truths xs ++ sorts.Bool ∷ []) (omega (arith, length-append (truths xs) (sorts.Bool ∷ []))) (truths-last xs)) refl

-- ---- its weight
conjoined-weight : (scope : Scope) (all : List Sort) (terms : Exprs) → sort_in scope all (conjoined terms) ≡ Some sorts.Bool → weight scope all (conjoined terms) ≡ weights scope all terms + 1
unfolding weight weights
conjoined-weight scope all expr.none e = rw e refl
conjoined-weight scope all (expr.more first rest) e = rw e refl

negated-weight : (scope : Scope) (all : List Sort) (term : Expr) → sort_in scope all (Apply ops.Not (expr.more term expr.none)) ≡ Some sorts.Bool → weight scope all (Apply ops.Not (expr.more term expr.none)) ≡ weight scope all term + 1
unfolding weight weights
negated-weight scope all term e = rw e (omega arith)

pub violated-weight : {X Y : Type 0} (owned : Op → Bool) (all : List Sort) (assumptions constraints : Exprs) (xs : List X) (ys : List Y) → owned ops.And ≡ true → owned ops.Not ≡ true → sorts_in (query_scope owned) all assumptions ≡ Some (truths xs) → sorts_in (query_scope owned) all constraints ≡ Some (truths ys) → weight (query_scope owned) all (violated_by assumptions constraints) ≡ weights (query_scope owned) all assumptions + weights (query_scope owned) all constraints + 3
unfolding weight
violated-weight owned all assumptions constraints xs ys and not first second =
    let scope = query_scope owned in
    let inner = conjoined-sort owned all constraints ys and second in
    let last = negated-sort owned all (conjoined constraints) not inner in
    let whole = violated-sort owned all assumptions constraints xs ys and not first second in
    let negated = Apply ops.Not (expr.more (conjoined constraints) expr.none) in
    rw whole (omega (arith, weights-last scope all assumptions negated, negated-weight scope all (conjoined constraints) last, conjoined-weight scope all constraints inner))
