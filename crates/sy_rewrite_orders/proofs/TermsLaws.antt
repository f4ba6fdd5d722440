-- Constants, variables, lists of terms, and terms of parts that mean the same.
use Rattle.std.proofs.Common.{◌≡◌, ℕ, zero, suc, Bool, true, ◌^◌, ◌-◌, ◌<◌, ◌≤◌, List, [], ◌∷◌, ◌++◌, length, slice_get, get_or, map, take, drop, append_assoc, append-nil, Option, Some, None, arith, refl, ap, sym, subst, ◌∙◌}
use Rattle.std.specs.Prelude.{All, IfSome, ◌↔◌}
use Rattle.std.proofs.lemmas.Bool.Decides.{nat_tests}
use Rattle.std.proofs.lemmas.List.{take_all}
use Rattle.std.proofs.lemmas.List.Elements.{All-head, All-tail}
use Rattle.sy_terms.specs.Values.{Val, Truth, Whole, Bits, number}
use Rattle.sy_terms.specs.Theories.{sort_of_value, valid}
use Rattle.sy_terms.specs.Operators.{op_value}
use Rattle.sy_terms.specs.Expr.{Expr, Exprs, Apply, Bind, Constant, Variable, none}
use Rattle.sy_terms.specs.Denoted.{expr_of, exprs_of}
use Rattle.sy_terms.specs.Meaning.{meaning, meanings, value_at_position}
use Rattle.sy_terms.specs.declared.op.Op.{Op}
use Rattle.sy_terms.specs.declared.op.Op.TheVariants as ops
use Rattle.sy_terms.specs.declared.sort.Sort.{Sort}
use Rattle.sy_terms.specs.declared.sort.Sort.TheVariants as sorts
use Rattle.sy_terms.specs.declared.term.Term.{Term}
use Rattle.sy_meaning_words.specs.Vectors.{is_folded}
use Rattle.sy_grammar_base.specs.Solving.{AreValues}
use Rattle.sy_query_base.specs.Asked.{Query, Satisfies}
use Rattle.sy_bits_sums.specs.declared.sum.Sum.{Sum}
use Rattle.sy_bits_sums.specs.Polynomials.{total, Agree}
use Rattle.sy_rewrite_orders.specs.Sums.{HasSum, HaveSums, IsComparedAs, BeginWithSorts, IsSameOver, AreSameOver, number_at}

small-number : (w n : ℕ) → valid (Bits w n) ≡ true → n < 2 ^ w
small-number w n fits = grind (arith, nat_tests, fits)

-- a vector of its sort
pub constant-has : (values : List Val) (sum : Sum) (w n : ℕ) → sum.width ≡ w → Agree w (total (number_at values) sum.monomials.items) n → valid (Bits w n) ≡ true → HasSum values sum (Bits w n)
constant-has values sum w n width agrees fits = record {
  is = ap (λ k. Bits k n) (sym width);
  small = subst (λ k. n < 2 ^ k) (sym width) (small-number w n fits);
  agrees = subst (λ k. Agree k (total (number_at values) sum.monomials.items) n) (sym width) agrees;
}

-- the value of a variable

nothing-at : (sorts : List Sort) (i : ℕ) (sort : Sort) → [] ≡ sorts → slice_get sorts i ≡ Some sort → ⊥
nothing-at [] i sort same at = cc
nothing-at (s ∷ sorts) i sort same at = cc

sorted-at : (sorts : List Sort) (values : List Val) (i : ℕ) (sort : Sort) → map sort_of_value values ≡ sorts → slice_get sorts i ≡ Some sort → sort_of_value (value_at_position values i) ≡ sort
sorted-at sorts [] i sort same at = absurd (nothing-at sorts i sort same at)
sorted-at sorts (v ∷ values) zero sort same at =
    let first : slice_get (sort_of_value v ∷ map sort_of_value values) 0 ≡ Some sort = subst (λ ss. slice_get ss 0 ≡ Some sort) (sym same) at in
    cc
sorted-at sorts (v ∷ values) (suc i) sort same at =
    sorted-at (map sort_of_value values) values i sort refl (subst (λ ss. slice_get ss (suc i) ≡ Some sort) (sym same) at)

valid-at : (values : List Val) (i : ℕ) → All (λ v. valid v ≡ true) values → valid (value_at_position values i) ≡ true
valid-at [] i all = refl
valid-at (v ∷ values) zero all = All-head (λ v. valid v ≡ true) v values all
valid-at (v ∷ values) (suc i) all = valid-at values i (All-tail (λ v. valid v ≡ true) v values all)

first-at : (sorts : List Sort) (first rest : List Val) (i : ℕ) (sort : Sort) → map sort_of_value first ≡ sorts → slice_get sorts i ≡ Some sort → value_at_position (first ++ rest) i ≡ value_at_position first i
first-at sorts [] rest i sort same at = absurd (nothing-at sorts i sort same at)
first-at sorts (v ∷ first) rest zero sort same at = refl
first-at sorts (v ∷ first) rest (suc i) sort same at =
    first-at (map sort_of_value first) first rest i sort refl (subst (λ ss. slice_get ss (suc i) ≡ Some sort) (sym same) at)

vector-is : (w : ℕ) (value : Val) → sort_of_value value ≡ sorts.Bits w → value ≡ Bits w (number value)
vector-is w (Truth b) e = cc
vector-is w (Whole z) e = cc
vector-is w (Bits v n) e =
    let width : v ≡ w = cc in
    ap (λ k. Bits k n) width

pub variable-has : (ss : List Sort) (values : List Val) (sum : Sum) (w position : ℕ) → sum.width ≡ w → slice_get ss position ≡ Some (sorts.Bits w) → Agree w (total (number_at values) sum.monomials.items) (number_at values position) → BeginWithSorts ss values → HasSum values sum (value_at_position values position)
variable-has ss values sum w position width at agrees begin =
    let same : value_at_position values position ≡ value_at_position begin.first position =
    ap (λ vs. value_at_position vs position) begin.is ∙ first-at ss begin.first begin.rest position (sorts.Bits w) begin.are.sorted at in
    let is : value_at_position values position ≡ Bits w (number_at values position) =
    vector-is w (value_at_position values position) (ap sort_of_value same ∙ sorted-at ss begin.first position (sorts.Bits w) begin.are.sorted at) in
    let fits : valid (Bits w (number_at values position)) ≡ true = sym (ap valid is) ∙ ap valid same ∙ valid-at begin.first position begin.are.valid in
    subst (HasSum values sum) (sym is) (constant-has values sum w (number_at values position) width agrees fits)

-- lists of sums

pub one-more : {T N : Type 0} (number : N → Val) (values : List Val) (sums : List Sum) (sum : Sum) (terms : List (Term T N)) (term : Term T N) → HaveSums values sums (meanings [] [] values (exprs_of number terms)) → HasSum values sum (meaning [] [] values (expr_of number term)) → HaveSums values (sums ++ sum ∷ []) (meanings [] [] values (exprs_of number (terms ++ term ∷ [])))
unfolding meanings
one-more number values [] sum [] term all has = (has, tt)
one-more number values [] sum (t ∷ terms) term all has = absurd all
one-more number values (s ∷ sums) sum [] term all has = absurd all
one-more number values (s ∷ sums) sum (t ∷ terms) term all has = (all.0, one-more number values sums sum terms term all.1 has)

pub none-have : (values : List Val) (sums : List Sum) → sums ≡ [] → HaveSums values sums (meanings [] [] values none)
unfolding meanings
none-have values [] e = tt
none-have values (s ∷ sums) e = cc

-- lists of one argument and of two

one-argument : (values : List Val) (sum : Sum) (arguments : List Val) (P : List Val → Type 0) → HaveSums values (sum ∷ []) arguments → ((x : Val) → HasSum values sum x → P (x ∷ [])) → P arguments
one-argument values sum [] P all then = absurd all
one-argument values sum (x ∷ []) P all then = then x all.0
one-argument values sum (x ∷ y ∷ rest) P all then = absurd all.1

two-arguments : (values : List Val) (left right : Sum) (arguments : List Val) (P : List Val → Type 0) → HaveSums values (left ∷ right ∷ []) arguments → ((x y : Val) → HasSum values left x → HasSum values right y → P (x ∷ y ∷ [])) → P arguments
two-arguments values left right [] P all then = absurd all
two-arguments values left right (x ∷ []) P all then = absurd all.1
two-arguments values left right (x ∷ y ∷ []) P all then = then x y all.0 all.1.0
two-arguments values left right (x ∷ y ∷ z ∷ rest) P all then = absurd all.1.1

one-item : (sums : List Sum) (first : Sum) → length sums ≡ 1 → first ≡ get_or sums 0 first → sums ≡ first ∷ []
one-item [] first many at = absurd (omega (arith, many))
one-item (x ∷ []) first many at = ap (λ (s : Sum). s ∷ []) (sym at)
one-item (x ∷ y ∷ rest) first many at = absurd (omega (arith, many))

two-items : (sums : List Sum) (first second : Sum) → length sums ≡ 2 → first ≡ get_or sums 0 first → second ≡ get_or sums 1 second → sums ≡ first ∷ second ∷ []
two-items [] first second many at also = absurd (omega (arith, many))
two-items (x ∷ []) first second many at also = absurd (omega (arith, many))
two-items (x ∷ y ∷ []) first second many at also = ap (λ (s : Sum). s ∷ y ∷ []) (sym at) ∙ ap (λ (s : Sum). first ∷ s ∷ []) (sym also)
two-items (x ∷ y ∷ z ∷ rest) first second many at also = absurd (omega (arith, many))

pub one-found : (found : Option Sum) (operator : Op) (sums : List Sum) (of : Sum) → length sums ≡ 1 → of ≡ get_or sums 0 of → IfSome found (λ sum. (values : List Val) (x : Val) → HasSum values of x → HasSum values sum (op_value operator (x ∷ []))) → IfSome found (λ sum. (values arguments : List Val) → HaveSums values sums arguments → HasSum values sum (op_value operator arguments))
one-found None operator sums of many at has = has
one-found (Some sum) operator sums of many at has = λ values arguments have.
    one-argument values of arguments (λ (all : List Val). HasSum values sum (op_value operator all)) (subst (λ ss. HaveSums values ss arguments) (one-item sums of many at) have) (has values)

pub two-found : (found : Option Sum) (operator : Op) (sums : List Sum) (left right : Sum) → length sums ≡ 2 → left ≡ get_or sums 0 left → right ≡ get_or sums 1 right → IfSome found (λ sum. (values : List Val) (x y : Val) → HasSum values left x → HasSum values right y → HasSum values sum (op_value operator (x ∷ y ∷ []))) → IfSome found (λ sum. (values arguments : List Val) → HaveSums values sums arguments → HasSum values sum (op_value operator arguments))
two-found None operator sums left right many at also has = has
two-found (Some sum) operator sums left right many at also has = λ values arguments have.
    two-arguments values left right arguments (λ (all : List Val). HasSum values sum (op_value operator all)) (subst (λ ss. HaveSums values ss arguments) (two-items sums left right many at also) have) (has values)

-- lists of two arguments and more

first-two : (sums : List Sum) (first second : Sum) → 2 ≤ length sums → first ≡ get_or sums 0 first → second ≡ get_or sums 1 second → sums ≡ first ∷ second ∷ take (length sums - 2) (drop 2 sums)
first-two [] first second many at also = absurd (omega (arith, many))
first-two (x ∷ []) first second many at also = absurd (omega (arith, many))
first-two (x ∷ y ∷ rest) first second many at also =
    let all = take_all (length (x ∷ y ∷ rest) - 2) rest (omega arith) in
    rw all (ap (λ (s : Sum). s ∷ y ∷ rest) (sym at) ∙ ap (λ (s : Sum). first ∷ s ∷ rest) (sym also))

pub many-found : (found : Option Sum) (operator : Op) (sums : List Sum) (first second : Sum) → 2 ≤ length sums → first ≡ get_or sums 0 first → second ≡ get_or sums 1 second → IfSome found (λ sum. (values arguments : List Val) → HaveSums values (first ∷ second ∷ take (length sums - 2) (drop 2 sums)) arguments → HasSum values sum (op_value operator arguments)) → IfSome found (λ sum. (values arguments : List Val) → HaveSums values sums arguments → HasSum values sum (op_value operator arguments))
many-found None operator sums first second many at also has = has
many-found (Some sum) operator sums first second many at also has = λ values arguments have.
    has values arguments (subst (λ ss. HaveSums values ss arguments) (first-two sums first second many at also) have)

pub two-folded : (operator : Op) (first second whole : Sum) → ((values : List Val) (x y : Val) → HasSum values first x → HasSum values second y → HasSum values whole (op_value operator (x ∷ y ∷ []))) → (values arguments : List Val) → HaveSums values (first ∷ second ∷ []) arguments → HasSum values whole (op_value operator arguments)
two-folded operator first second whole has values arguments have =
    two-arguments values first second arguments (λ (all : List Val). HasSum values whole (op_value operator all)) have (has values)

-- an operator that takes its arguments from the left, at the first two and the rest
fold_step : (operator : Op) (x y : Val) (rest : List Val) → is_folded operator ≡ true → op_value operator (x ∷ y ∷ rest) ≡ op_value operator (op_value operator (x ∷ y ∷ []) ∷ rest)
unfolding op_value
fold_step ops.BvAnd x y rest folded = refl
fold_step ops.BvOr x y rest folded = refl
fold_step ops.BvXor x y rest folded = refl
fold_step ops.BvAdd x y rest folded = refl
fold_step ops.BvMul x y rest folded = refl
fold_step _ x y rest folded = absurd cc

-- and at the others and the last
pub last-folded : (operator : Op) (x y z : Val) (between : List Val) → is_folded operator ≡ true → op_value operator (x ∷ y ∷ (between ++ z ∷ [])) ≡ op_value operator (op_value operator (x ∷ y ∷ between) ∷ z ∷ [])
last-folded operator x y z [] folded = fold_step operator x y (z ∷ []) folded
last-folded operator x y z (u ∷ between) folded =
    fold_step operator x y (u ∷ (between ++ z ∷ [])) folded ∙ last-folded operator (op_value operator (x ∷ y ∷ [])) u z between folded
    ∙ ap (λ (v : Val). op_value operator (v ∷ z ∷ [])) (sym (fold_step operator x y (u ∷ between) folded))

last-argument : (values : List Val) (sums : List Sum) (last : Sum) (arguments : List Val) (P : List Val → Type 0) → HaveSums values (sums ++ last ∷ []) arguments → ((others : List Val) (z : Val) → HaveSums values sums others → HasSum values last z → P (others ++ z ∷ [])) → P arguments
last-argument values [] last [] P all then = absurd all
last-argument values [] last (x ∷ []) P all then = then [] x tt all.0
last-argument values [] last (x ∷ y ∷ rest) P all then = absurd all.1
last-argument values (s ∷ sums) last [] P all then = absurd all
last-argument values (s ∷ sums) last (x ∷ arguments) P all then =
    last-argument values sums last arguments (λ (rest : List Val). P (x ∷ rest)) all.1 (λ others z have has. then (x ∷ others) z (all.0, have) has)

pub one-more-folded : (operator : Op) (first second whole last next : Sum) (sums : List Sum) → is_folded operator ≡ true →
    ((values arguments : List Val) → HaveSums values (first ∷ second ∷ sums) arguments → HasSum values whole (op_value operator arguments)) →
    ((values : List Val) (x y : Val) → HasSum values whole x → HasSum values last y → HasSum values next (op_value operator (x ∷ y ∷ []))) →
    (values arguments : List Val) → HaveSums values (first ∷ second ∷ (sums ++ last ∷ [])) arguments → HasSum values next (op_value operator arguments)
one-more-folded operator first second whole last next sums folded before step values [] have = absurd have
one-more-folded operator first second whole last next sums folded before step values (x ∷ []) have = absurd have.1
one-more-folded operator first second whole last next sums folded before step values (x ∷ y ∷ rest) have =
    last-argument values sums last rest (λ (others : List Val). HasSum values next (op_value operator (x ∷ y ∷ others))) have.1.1
    (λ others z all has. subst (HasSum values next) (sym (last-folded operator x y z others folded)) (step values (op_value operator (x ∷ y ∷ others)) z (before values (x ∷ y ∷ others) (have.0, (have.1.0, all))) has))

-- terms, where their sums are found

pub constant-found : (ss : List Sort) (found : Option Sum) (term : Expr) (value : Val) → term ≡ Constant value → IfSome found (λ sum. (values : List Val) → HasSum values sum value) → IfSome found (λ sum. (values : List Val) → BeginWithSorts ss values → HasSum values sum (meaning [] [] values term))
unfolding meaning
constant-found ss None term value is has = has
constant-found ss (Some sum) term value is has = λ values sorted. subst (λ t. HasSum values sum (meaning [] [] values t)) (sym is) (has values)

pub variable-found : (ss : List Sort) (found : Option Sum) (term : Expr) (position : ℕ) → term ≡ Variable position → IfSome found (λ sum. (values : List Val) → BeginWithSorts ss values → HasSum values sum (value_at_position values position)) → IfSome found (λ sum. (values : List Val) → BeginWithSorts ss values → HasSum values sum (meaning [] [] values term))
unfolding meaning
variable-found ss None term position is has = has
variable-found ss (Some sum) term position is has = λ values sorted. subst (λ t. HasSum values sum (meaning [] [] values t)) (sym is) (has values sorted)

pub application-found : (ss : List Sort) (found : Option Sum) (term : Expr) (operator : Op) (arguments : Exprs) (sums : List Sum) → term ≡ Apply operator arguments → ((values : List Val) → BeginWithSorts ss values → HaveSums values sums (meanings [] [] values arguments)) → IfSome found (λ sum. (values others : List Val) → HaveSums values sums others → HasSum values sum (op_value operator others)) → IfSome found (λ sum. (values : List Val) → BeginWithSorts ss values → HasSum values sum (meaning [] [] values term))
unfolding meaning
application-found ss None term operator arguments sums is have has = has
application-found ss (Some sum) term operator arguments sums is have has = λ values sorted. subst (λ t. HasSum values sum (meaning [] [] values t)) (sym is) (has values (meanings [] [] values arguments) (have values sorted))

-- where a truth value is found

pub truth-found : (ss : List Sort) (found : Option Bool) (operator : Op) (left right : Expr) (arguments : Exprs) → ((values : List Val) → meanings [] [] values arguments ≡ meaning [] [] values left ∷ meaning [] [] values right ∷ []) →
    IfSome found (λ truth. (values : List Val) → BeginWithSorts ss values → op_value operator (meaning [] [] values left ∷ meaning [] [] values right ∷ []) ≡ Truth truth) →
    IfSome found (λ truth. (values : List Val) → BeginWithSorts ss values → op_value operator (meanings [] [] values arguments) ≡ Truth truth)
truth-found ss None operator left right arguments are has = has
truth-found ss (Some truth) operator left right arguments are has = λ values sorted. ap (op_value operator) (are values) ∙ has values sorted

pub compared-found : (ss : List Sort) (found : Option Bool) (operator : Op) (left right : Expr) (first second : Sum) (equal : Bool) →
    ((values : List Val) → BeginWithSorts ss values → HasSum values first (meaning [] [] values left)) → ((values : List Val) → BeginWithSorts ss values → HasSum values second (meaning [] [] values right)) →
    ((values : List Val) (x y : Val) → HasSum values first x → HasSum values second y → IsComparedAs equal x y) →
    IfSome found (λ truth. (x y : Val) → IsComparedAs equal x y → op_value operator (x ∷ y ∷ []) ≡ Truth truth) →
    IfSome found (λ truth. (values : List Val) → BeginWithSorts ss values → op_value operator (meaning [] [] values left ∷ meaning [] [] values right ∷ []) ≡ Truth truth)
compared-found ss None operator left right first second equal has also compared says = says
compared-found ss (Some truth) operator left right first second equal has also compared says = λ values sorted.
    let x : Val = meaning [] [] values left in
    let y : Val = meaning [] [] values right in
    says x y (compared values x y (has values sorted) (also values sorted))

-- terms that mean the same

pub applied-same : (sorts : List Sort) (operator : Op) (found : Expr) (arguments others : Exprs) → IsSameOver sorts found (Apply operator arguments) → AreSameOver sorts arguments others → IsSameOver sorts found (Apply operator others)
unfolding meaning
applied-same sorts operator found arguments others is are values sorted = is values sorted ∙ ap (op_value operator) (are values sorted)

-- values after the first ones
more-values : (sorts : List Sort) (values others : List Val) → BeginWithSorts sorts values → BeginWithSorts sorts (values ++ others)
more-values sorts values others begin = record {
  first = begin.first;
  rest = begin.rest ++ others;
  are = begin.are;
  is = ap (λ vs. vs ++ others) begin.is ∙ append_assoc begin.first begin.rest others;
}

pub bound-same : (sorts : List Sort) (bound others : Exprs) (inner other : Expr) → AreSameOver sorts bound others → IsSameOver sorts inner other → IsSameOver sorts (Bind bound inner) (Bind others other)
unfolding meaning
bound-same sorts bound others inner other are is values begin =
    is (values ++ meanings [] [] values bound) (more-values sorts values (meanings [] [] values bound) begin) ∙ ap (λ vs. meaning [] [] (values ++ vs) other) (are values begin)

pub truth-same : (sorts : List Sort) (operator : Op) (arguments : Exprs) (truth : Bool) → ((values : List Val) → BeginWithSorts sorts values → op_value operator (meanings [] [] values arguments) ≡ Truth truth) → IsSameOver sorts (Constant (Truth truth)) (Apply operator arguments)
unfolding meaning
truth-same sorts operator arguments truth is values sorted = sym (is values sorted)

last-meaning : {T N : Type 0} (number : N → Val) (values : List Val) (terms : List (Term T N)) (last : Term T N) → meanings [] [] values (exprs_of number (terms ++ last ∷ [])) ≡ meanings [] [] values (exprs_of number terms) ++ meaning [] [] values (expr_of number last) ∷ []
unfolding meanings
last-meaning number values [] last = refl
last-meaning number values (term ∷ terms) last = ap (λ (rest : List Val). meaning [] [] values (expr_of number term) ∷ rest) (last-meaning number values terms last)

pub next-same : {T N : Type 0} (number : N → Val) (sorts : List Sort) (found others : List (Term T N)) (term other : Term T N) → AreSameOver sorts (exprs_of number found) (exprs_of number others) → IsSameOver sorts (expr_of number term) (expr_of number other) → AreSameOver sorts (exprs_of number (found ++ term ∷ [])) (exprs_of number (others ++ other ∷ []))
next-same number sorts found others term other are is values sorted =
    rw (last-meaning number values found term, last-meaning number values others other, are values sorted, is values sorted) refl

-- lists of two terms
pub two-terms : {T N : Type 0} (number : N → Val) (values : List Val) (terms : List (Term T N)) (a b : Term T N) → length terms ≡ 2 → slice_get terms 0 ≡ Some a → slice_get terms 1 ≡ Some b →
    meanings [] [] values (exprs_of number terms) ≡ meaning [] [] values (expr_of number a) ∷ meaning [] [] values (expr_of number b) ∷ []
unfolding meanings
two-terms number values [] a b many first second = absurd (omega (arith, many))
two-terms number values (x ∷ []) a b many first second = absurd (omega (arith, many))
two-terms number values (x ∷ y ∷ []) a b many first second =
    let is_a : x ≡ a = cc in
    let is_b : y ≡ b = cc in
    rw (is_a, is_b) refl
two-terms number values (x ∷ y ∷ z ∷ rest) a b many first second = absurd (omega (arith, many))

-- queries

only-values : (sorts : List Sort) (values : List Val) → AreValues sorts values → BeginWithSorts sorts values
only-values sorts values are = record { first = values; rest = []; are = are; is = sym (append-nil values) }

pub satisfied-same : (query other : Query) → other.variables ≡ query.variables → IsSameOver query.variables other.body query.body → (values : List Val) → Satisfies other values ↔ Satisfies query values
satisfied-same query other same is values = (
  λ holds.
      let sorted : AreValues query.variables values = subst (λ ss. AreValues ss values) same holds.sorted in
      record { sorted = sorted; true = sym (is values (only-values query.variables values sorted)) ∙ holds.true },
  λ holds.
      record { sorted = subst (λ ss. AreValues ss values) (sym same) holds.sorted; true = is values (only-values query.variables values holds.sorted) ∙ holds.true },
)
