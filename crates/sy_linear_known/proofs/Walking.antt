-- The steps of a walk through a term.
use Rattle.std.specs.Prelude.{◌≡◌, ℕ, zero, suc, ◌+◌, ◌<◌, ◌≤◌, Bool, true, false, cond, ◌&&◌, List, [], ◌∷◌, ◌++◌, length, get_or, take, drop, ℤ, Some, None}
use Rattle.std.proofs.Common.{refl, sym, ◌∙◌, ap, ap₂, arith, add-one}
use Rattle.std.proofs.lemmas.List.{drop_all, drop_more, take_more, append_assoc}
use Rattle.sy_terms.specs.Values.{Whole}
use Rattle.sy_terms.specs.Expr.{Expr, Exprs, Constant, Variable, Apply, Invoke, Bind, none, more, nodes, nodes_of}
use Rattle.sy_terms.specs.Denoted.{val_of, expr_of, exprs_of, expr_of-Const, expr_of-Var, expr_of-App, expr_of-Call, expr_of-Let}
use Rattle.sy_terms.specs.declared.op.Op.{Op}
use Rattle.sy_terms.specs.declared.sort.Sort.{Sort}
use Rattle.sy_terms.specs.declared.sort.Value.{Value}
use Rattle.sy_terms.specs.declared.sort.Value.TheVariants as values
use Rattle.sy_terms.specs.declared.term.Fun.{Fun}
use Rattle.sy_terms.specs.declared.term.Term.{Term, Const, Var, App, Call, Let}
use Rattle.sy_terms.specs.declared.term.Terms.{Terms}
use Rattle.std.specs.declared.boxed.Box.{Box}
use Rattle.std.specs.declared.alloc.Global.{Global}
use Rattle.sy_linear_known.specs.declared.path.Fact.{Fact}
use Rattle.sy_linear_known.specs.declared.sight.Sight.{Sight}
use Rattle.sy_linear_known.specs.declared.sight.Sight.TheVariants.{Open}
use Rattle.sy_linear_known.specs.declared.sight.Node.{Node}
use Rattle.sy_linear_known.specs.declared.sight.Seen.{Seen}
use Rattle.sy_linear_known.specs.declared.sight.Found.{Found}
use Rattle.sy_linear_known.specs.declared.answer.Known.{Known}
use Rattle.sy_linear_known.specs.Sights.{operator_applied}
use Rattle.sy_linear_known.specs.Fitting.{sight_fits, all_fit}
use Rattle.sy_linear_known.specs.Seen.{of_value, value_seen, variable_sight, variable_sights, seen_as, sight_at, variable_seen, is_ite, live, nothing_found, with_next, node_noted, after_bound, seen, all_seen, known_of}
use Rattle.sy_linear_known.proofs.Steps.{drop_item}
use Rattle.sy_linear_known.proofs.Agreement.{and_parts}

-- ---- terms
pub const_is : {T : Type 0} (term : Term T ℤ) (value : Value ℤ) → term ≡ Const value → expr_of Whole term ≡ Constant (val_of Whole value)
const_is {T} term value is = ap (expr_of Whole) is ∙ expr_of-Const T Whole value

pub var_is : {T : Type 0} (term : Term T ℤ) (number : ℕ) → term ≡ Var number → expr_of Whole term ≡ Variable number
var_is {T} term number is = ap (expr_of Whole) is ∙ expr_of-Var T Whole number

pub app_is : {T : Type 0} (term : Term T ℤ) (operator : Op) (arguments : Terms T ℤ) → term ≡ App operator arguments → expr_of Whole term ≡ Apply operator (exprs_of Whole arguments.items.items)
app_is term operator arguments is = ap (expr_of Whole) is ∙ expr_of-App Whole operator arguments

pub call_is : {T : Type 0} (term : Term T ℤ) (function : Fun) (arguments : Terms T ℤ) → term ≡ Call function arguments → expr_of Whole term ≡ Invoke function (exprs_of Whole arguments.items.items)
call_is term function arguments is = ap (expr_of Whole) is ∙ expr_of-Call Whole function arguments

pub let_is : {T : Type 0} (term : Term T ℤ) (bound : Terms T ℤ) (inner : Box (Term T ℤ) Global) → term ≡ Let bound inner → expr_of Whole term ≡ Bind (exprs_of Whole bound.items.items) (expr_of Whole inner.value)
let_is term bound inner is = ap (expr_of Whole) is ∙ expr_of-Let Whole bound inner

pub nodes_positive : (e : Expr) → 0 < nodes e
nodes_positive (Constant v) = omega arith
nodes_positive (Variable i) = omega arith
nodes_positive (Apply operator es) = omega arith
nodes_positive (Invoke function es) = omega arith
nodes_positive (Bind es e) = omega arith

pub app_nodes : {T : Type 0} (term : Term T ℤ) (operator : Op) (arguments : Terms T ℤ) → term ≡ App operator arguments → nodes (expr_of Whole term) ≡ nodes_of (exprs_of Whole arguments.items.items) + 1
app_nodes term operator arguments is = ap nodes (app_is term operator arguments is)

pub let_nodes : {T : Type 0} (term : Term T ℤ) (bound : Terms T ℤ) (inner : Box (Term T ℤ) Global) → term ≡ Let bound inner → nodes (expr_of Whole term) ≡ nodes_of (exprs_of Whole bound.items.items) + nodes (expr_of Whole inner.value) + 1
let_nodes term bound inner is = ap nodes (let_is term bound inner is)

-- ---- the walk at each kind of term
value_is : (at : ℕ) (value : Value ℤ) → seen_as (of_value (val_of Whole value)) ≡ value_seen at (val_of Whole value)
value_is at (values.Truth b) = refl
value_is at (values.Num n) = refl

pub seen-const : {T : Type 0} (vars : List Sort) (path : List Fact) (names : List Sight) (at : ℕ) (term : Term T ℤ) (value : Value ℤ) → term ≡ Const value → seen_as (of_value (val_of Whole value)) ≡ seen vars path names at (expr_of Whole term)
unfolding seen
seen-const vars path names at term value is = value_is at value ∙ sym (ap (seen vars path names at) (const_is term value is))

pub seen-var : {T : Type 0} (vars : List Sort) (path : List Fact) (names : List Sight) (at : ℕ) (term : Term T ℤ) (number : ℕ) → term ≡ Var number → variable_seen vars names number ≡ seen vars path names at (expr_of Whole term)
unfolding seen
seen-var vars path names at term number is = sym (ap (seen vars path names at) (var_is term number is))

pub seen-app : {T : Type 0} (vars : List Sort) (path : List Fact) (names : List Sight) (at : ℕ) (term : Term T ℤ) (operator : Op) (arguments : Terms T ℤ) (below : Found) (n : Node) → term ≡ App operator arguments → below ≡ all_seen vars path names (is_ite operator) (at + 1) nothing_found (exprs_of Whole arguments.items.items) → n ≡ operator_applied path operator below.sights → node_noted at n below ≡ seen vars path names at (expr_of Whole term)
unfolding seen
seen-app vars path names at term operator arguments below n is e f =
    ap (λ m. node_noted at m below) f
    ∙ ap (λ b. node_noted at (operator_applied path operator b.sights) b) e
    ∙ sym (ap (seen vars path names at) (app_is term operator arguments is))

pub seen-call : {T : Type 0} (vars : List Sort) (path : List Fact) (names : List Sight) (at : ℕ) (term : Term T ℤ) (function : Fun) (arguments : Terms T ℤ) → term ≡ Call function arguments → record { sight = Open; unknown = None; misfit = Some at } ≡ seen vars path names at (expr_of Whole term)
unfolding seen
seen-call vars path names at term function arguments is = sym (ap (seen vars path names at) (call_is term function arguments is))

pub seen-let : {T : Type 0} (vars : List Sort) (path : List Fact) (names longer : List Sight) (at next : ℕ) (term : Term T ℤ) (bound : Terms T ℤ) (inner : Box (Term T ℤ) Global) (below : Found) (s : Seen) → term ≡ Let bound inner → below ≡ all_seen vars path names false (at + 1) nothing_found (exprs_of Whole bound.items.items) → longer ≡ names ++ below.sights → next ≡ at + 1 + nodes_of (exprs_of Whole bound.items.items) → s ≡ seen vars path longer next (expr_of Whole inner.value) → after_bound below s ≡ seen vars path names at (expr_of Whole term)
unfolding seen
seen-let vars path names longer at next term bound inner below s is e f g h =
    let es : Exprs = exprs_of Whole bound.items.items in
    let i : Expr = expr_of Whole inner.value in
    ap (after_bound below) (h ∙ ap₂ (λ ns k. seen vars path ns k i) f g)
    ∙ ap (λ b. after_bound b (seen vars path (names ++ b.sights) (at + 1 + nodes_of es) i)) e
    ∙ sym (ap (seen vars path names at) (let_is term bound inner is))

-- ---- arguments
pub exprs_left : {T : Type 0} (terms : List (Term T ℤ)) (i : ℕ) (term : Term T ℤ) → i < length terms → term ≡ get_or terms i term → exprs_of Whole (drop i terms) ≡ more (expr_of Whole term) (exprs_of Whole (drop (i + 1) terms))
exprs_left terms i term within is = ap (exprs_of Whole) (drop_item terms i term within is)

pub exprs_end : {T : Type 0} (terms : List (Term T ℤ)) (i : ℕ) → length terms ≤ i → exprs_of Whole (drop i terms) ≡ none
exprs_end terms i past = ap (exprs_of Whole) (drop_all i terms past)

pub nodes_left : {T : Type 0} (terms : List (Term T ℤ)) (i : ℕ) (term : Term T ℤ) → i < length terms → term ≡ get_or terms i term → nodes_of (exprs_of Whole (drop i terms)) ≡ nodes (expr_of Whole term) + nodes_of (exprs_of Whole (drop (i + 1) terms))
nodes_left terms i term within is = ap nodes_of (exprs_left terms i term within is)

pub nodes_end : {T : Type 0} (terms : List (Term T ℤ)) (i : ℕ) → length terms ≤ i → nodes_of (exprs_of Whole (drop i terms)) ≡ 0
nodes_end terms i past = ap nodes_of (exprs_end terms i past)

nodes_drop : {T : Type 0} (terms : List (Term T ℤ)) (i : ℕ) → nodes_of (exprs_of Whole (drop i terms)) ≤ nodes_of (exprs_of Whole terms)
nodes_drop [] zero = omega arith
nodes_drop [] (suc i) = omega arith
nodes_drop (t ∷ ts) zero = omega arith
nodes_drop (t ∷ ts) (suc i) = omega (arith, nodes_drop ts i)

-- one term has no more nodes than all
pub nodes_at : {T : Type 0} (terms : List (Term T ℤ)) (i : ℕ) (term : Term T ℤ) → i < length terms → term ≡ get_or terms i term → nodes (expr_of Whole term) ≤ nodes_of (exprs_of Whole terms)
nodes_at terms i term within is = omega (arith, nodes_left terms i term within is, nodes_drop terms i)

pub all_seen-next : {T : Type 0} (vars : List Sort) (path : List Fact) (names : List Sight) (choice : Bool) (next step : ℕ) (before found all : Found) (s : Seen) (terms : List (Term T ℤ)) (i : ℕ) (term : Term T ℤ) (alive : Bool) → i < length terms → term ≡ get_or terms i term → alive ≡ live choice before.sights → s ≡ cond alive (seen vars path names next (expr_of Whole term)) (seen_as Open) → found ≡ with_next before s → step ≡ next + nodes (expr_of Whole term) → all_seen vars path names choice next before (exprs_of Whole (drop i terms)) ≡ all → all_seen vars path names choice step found (exprs_of Whole (drop (i + 1) terms)) ≡ all
unfolding all_seen
all_seen-next vars path names choice next step before found all s terms i term alive within is a e f g kept =
    let rest : Exprs = exprs_of Whole (drop (i + 1) terms) in
    ap₂ (λ k b. all_seen vars path names choice k b rest) g (f ∙ ap (with_next before) (e ∙ ap (λ b. cond b (seen vars path names next (expr_of Whole term)) (seen_as Open)) a))
    ∙ sym (ap (all_seen vars path names choice next before) (exprs_left terms i term within is))
    ∙ kept

pub all_seen-end : {T : Type 0} (vars : List Sort) (path : List Fact) (names : List Sight) (choice : Bool) (next : ℕ) (found all : Found) (terms : List (Term T ℤ)) (i : ℕ) → length terms ≤ i → all_seen vars path names choice next found (exprs_of Whole (drop i terms)) ≡ all → found ≡ all
unfolding all_seen
all_seen-end vars path names choice next found all terms i past kept = sym (ap (all_seen vars path names choice next found) (exprs_end terms i past)) ∙ kept

-- ---- fits
pub fits-push : (ss : List Sight) (s : Sight) → all_fit ss ≡ true → sight_fits s ≡ true → all_fit (ss ++ s ∷ []) ≡ true
fits-push [] s h k = ap (λ b. b && true) k
fits-push (r ∷ ss) s h k = let p = and_parts (sight_fits r) (all_fit ss) h in ap₂ (λ a b. a && b) p.0 (fits-push ss s p.1 k)

pub fits-append : (ss ts : List Sight) → all_fit ss ≡ true → all_fit ts ≡ true → all_fit (ss ++ ts) ≡ true
fits-append [] ts h k = k
fits-append (r ∷ ss) ts h k = let p = and_parts (sight_fits r) (all_fit ss) h in ap₂ (λ a b. a && b) p.0 (fits-append ss ts p.1 k)

pub fits-at : (names : List Sight) (i : ℕ) → all_fit names ≡ true → sight_fits (sight_at names i) ≡ true
fits-at [] i h = refl
fits-at (s ∷ ss) zero h = (and_parts (sight_fits s) (all_fit ss) h).0
fits-at (s ∷ ss) (suc i) h = fits-at ss i (and_parts (sight_fits s) (all_fit ss) h).1

-- ---- variables
pub variables_next : (path : List Fact) (vars : List Sort) (names new all : List Sight) (number i : ℕ) (d : Sort) (s : Sight) → i < length vars → s ≡ variable_sight path (get_or vars i d) number → new ≡ names ++ s ∷ [] → names ++ variable_sights path number (drop i vars) ≡ all → new ++ variable_sights path (number + 1) (drop (i + 1) vars) ≡ all
variables_next path vars names new all number i d s within e f kept =
    ap (λ ns. ns ++ variable_sights path (number + 1) (drop (i + 1) vars)) f
    ∙ append_assoc names (s ∷ []) (variable_sights path (number + 1) (drop (i + 1) vars))
    ∙ ap₂ (λ r k. names ++ (r ∷ variable_sights path k (drop (i + 1) vars))) e (add-one number)
    ∙ sym (ap (λ vs. names ++ variable_sights path number vs) (drop_more vars i d within))
    ∙ kept

-- ---- bound terms
pub bound_more : (names new before bound : List Sight) (i : ℕ) (s copy : Sight) → i < length bound → s ≡ get_or bound i s → copy ≡ s → new ≡ names ++ copy ∷ [] → names ≡ before ++ take i bound → new ≡ before ++ take (i + 1) bound
bound_more names new before bound i s copy within is same pushed kept =
    pushed
    ∙ ap₂ (λ ns x. ns ++ x ∷ []) kept (same ∙ is)
    ∙ append_assoc before (take i bound) (get_or bound i s ∷ [])
    ∙ sym (ap (λ ts. before ++ ts) (take_more bound i s within))

-- ---- queries
pub known_is : (vars sorts : List Sort) (path facts : List Fact) (names : List Sight) (e : Expr) (s : Seen) (k : Known) → k ≡ known_of s → s ≡ seen vars path names 0 e → names ≡ variable_sights facts 0 vars → vars ≡ sorts → path ≡ facts → k ≡ known_of (seen sorts facts (variable_sights facts 0 sorts) 0 e)
known_is vars sorts path facts names e s k is found named same like =
    is ∙ ap known_of (found
    ∙ ap (λ fs. seen vars fs names 0 e) like
    ∙ ap (λ ns. seen vars facts ns 0 e) named
    ∙ ap (λ vs. seen vs facts (variable_sights facts 0 vs) 0 e) same)
