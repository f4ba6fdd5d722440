-- What a constant, a variable and an application of a query are, and what they weigh.
use Rattle.std.specs.Prelude.{ℕ, ◌+◌, ◌<◌, true, List, [], ◌∷◌, ◌≡◌, refl, Some, length, Result, Ok, Err, OnErr}
use Rattle.std.proofs.Common.{arith, ap, ◌∙◌, sym, get_or}
use Rattle.std.proofs.lemmas.Option.{slice_get-get_or}
use Rattle.sy_terms.specs.Values.{Val}
use Rattle.sy_terms.specs.Expr.{Constant, Variable}
use Rattle.sy_terms.specs.Denoted.{expr_of, exprs_of, val_of, expr_of-Const, expr_of-Var, expr_of-App}
use Rattle.sy_terms.specs.Fitting.{Scope, sort_in}
use Rattle.sy_terms.specs.Sorts.{sort_of}
use Rattle.sy_terms.specs.Theories.{valid, sort_of_value}
use Rattle.sy_terms.specs.declared.op.Op.{Op}
use Rattle.sy_terms.specs.declared.sort.Sort.{Sort}
use Rattle.sy_terms.specs.declared.sort.Value.{Value}
use Rattle.sy_terms.specs.declared.sorts.Sorted.TheVariants.{Is}
use Rattle.sy_terms.specs.declared.term.Term.{Term, Const, Var, App}
use Rattle.sy_terms.specs.declared.term.Terms.{Terms}
use Rattle.sy_query.specs.declared.room.Left.{Left}
use Rattle.sy_query_base.specs.Placed.{count}
use Rattle.sy_query_base.specs.Weights.{weight, sort_weight, operator_weight}
use Rattle.sy_query.specs.Placing.{TermIsBuilt, ApplicationIsBuilt, applied_weight}

pub any_err : {X E P : Type 0} (r : Result X E) → P → OnErr r P
any_err (Ok x) h = tt
any_err (Err e) h = h

const-sort : (scope : Scope) (sorts : List Sort) (v : Val) (sort : Sort) → valid v ≡ true → sort ≡ sort_of_value v → sort_in scope sorts (Constant v) ≡ Some sort
unfolding sort_in
const-sort scope sorts v sort is same = rw (is, same) refl

pub const-heavy : (scope : Scope) (sorts : List Sort) (v : Val) (left w : ℕ) (sort : Sort) → valid v ≡ true → sort ≡ sort_of_value v → w ≡ sort_weight (Some sort) → left < w → left < weight scope sorts (Constant v)
unfolding weight
const-heavy scope sorts v left w sort is same weighs heavy = rw (const-sort scope sorts v sort is same) (omega (arith, weighs, heavy))

pub const-built : (T : Type 0) {N : Type 0} (scope : Scope) (number : N → Val) (sorts : List Sort) (value : Value N) (before after : Left) (w : ℕ) (sort : Sort) → valid (val_of number value) ≡ true → sort ≡ sort_of_value (val_of number value) → w ≡ sort_weight (Some sort) → before.weight ≡ after.weight + w → after.counted ≡ before.counted → let t : Term T N = Const value in TermIsBuilt scope sorts (Constant (val_of number value)) before after (expr_of number t) sort
unfolding weight
const-built T scope number sorts value before after w sort is same weighs taken counted =
    let here = const-sort scope sorts (val_of number value) sort is same in
    record { is = λ all. expr_of-Const T number value; has = here; weight = rw here (omega (arith, weighs, taken)); counted = λ all. sym counted ∙ all }

var-sort : (scope : Scope) (sorts : List Sort) (place : ℕ) (sort : Sort) → place < length sorts → sort ≡ get_or sorts place sort → sort_in scope sorts (Variable place) ≡ Some sort
unfolding sort_in
var-sort scope sorts place sort within read = slice_get-get_or sorts place sort within ∙ ap Some (sym read)

pub var-heavy : (scope : Scope) (sorts : List Sort) (place left w : ℕ) (sort : Sort) → place < length sorts → sort ≡ get_or sorts place sort → w ≡ sort_weight (Some sort) → left < w → left < weight scope sorts (Variable place)
unfolding weight
var-heavy scope sorts place left w sort within read weighs heavy = rw (var-sort scope sorts place sort within read) (omega (arith, weighs, heavy))

pub var-built : (T : Type 0) {N : Type 0} (scope : Scope) (number : N → Val) (sorts : List Sort) (place position : ℕ) (before mid after : Left) (w : ℕ) (sort : Sort) → place < length sorts → sort ≡ get_or sorts place sort → w ≡ sort_weight (Some sort) → before.weight ≡ mid.weight + w → mid.counted ≡ before.counted
    → after.weight ≡ mid.weight → (after.counted ≡ true → mid.counted ≡ true) → (after.counted ≡ true → position ≡ place) → let t : Term T N = Var position in TermIsBuilt scope sorts (Variable place) before after (expr_of number t) sort
unfolding weight
var-built T scope number sorts place position before mid after w sort within read weighs taken same kept counted is =
    let here = var-sort scope sorts place sort within read in
    record { is = λ all. expr_of-Var T number position ∙ ap Variable (is all); has = here; weight = rw here (omega (arith, weighs, taken, kept)); counted = λ all. sym same ∙ counted all }

pub count-terms : {T N : Type 0} (number : N → Val) (terms : List (Term T N)) → count (exprs_of number terms) ≡ length terms
count-terms number [] = refl
count-terms number (term ∷ terms) = omega (arith, count-terms number terms)

applied-is : {T N : Type 0} (number : N → Val) (operator : Op) (terms : List (Term T N)) (found : List Sort) (w n own : ℕ) (sort : Sort) → sort_of operator found ≡ Is sort → n ≡ length terms → own ≡ sort_weight (Some sort) → w ≡ operator_weight operator n own → w ≡ applied_weight operator (exprs_of number terms) found
applied-is number operator terms found w n own sort is many weighs all = all ∙ rw (is, many, weighs, count-terms number terms) refl

pub applied-heavy : {T N : Type 0} (number : N → Val) (operator : Op) (terms : List (Term T N)) (found : List Sort) (left w n own : ℕ) (sort : Sort) → sort_of operator found ≡ Is sort → n ≡ length terms → own ≡ sort_weight (Some sort) → w ≡ operator_weight operator n own → left < w → left < applied_weight operator (exprs_of number terms) found
applied-heavy number operator terms found left w n own sort is many weighs all heavy = rw (← applied-is number operator terms found w n own sort is many weighs all) heavy

pub applied-built : {T N : Type 0} (number : N → Val) (operator : Op) (terms : Terms T N) (found : List Sort) (before after : Left) (w n own : ℕ) (sort : Sort) → sort_of operator found ≡ Is sort → n ≡ length terms.items.items → own ≡ sort_weight (Some sort) → w ≡ operator_weight operator n own → before.weight ≡ after.weight + w → after.counted ≡ before.counted → ApplicationIsBuilt operator (exprs_of number terms.items.items) found before after (expr_of number (App operator terms)) sort
applied-built number operator terms found before after w n own sort is many weighs all taken counted = record {
  is = expr_of-App number operator terms;
  has = is;
  weight = rw (← applied-is number operator terms.items.items found w n own sort is many weighs all) taken;
  counted = λ each. sym counted ∙ each;
}
