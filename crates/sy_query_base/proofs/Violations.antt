-- The query of a problem and bodies is true exactly where the bodies violate the problem.
use Rattle.std.specs.Prelude.{◌+◌, Bool, true, false, not, ◌&&◌, List, [], ◌∷◌, ◌++◌, ◌≡◌, refl, length, map, All}
use Rattle.std.specs.List.{list_all}
use Rattle.std.proofs.Common.{arith, ap, ◌∙◌, sym}
use Rattle.std.proofs.lemmas.List.{length-map}
use Rattle.std.proofs.lemmas.List.Elements.{All-nil, All-cons, All-head, All-tail}
use Rattle.sy_terms.specs.Values.{Val, Truth, truth, Whole, Bits}
use Rattle.sy_terms.specs.Operators.{op_value}
use Rattle.sy_terms.specs.Expr as expr
use Rattle.sy_terms.specs.declared.op.Op.TheVariants as ops
use Rattle.sy_terms.specs.Expr.{Expr, Exprs, append}
use Rattle.sy_terms.specs.Meaning.{meaning, meanings, function_from, functions}
use Rattle.sy_terms.specs.Theories.{sort_of_value}
use Rattle.sy_terms.specs.declared.sort.Sort.{Sort}
use Rattle.sy_grammar_base.specs.Questions.{Question}
use Rattle.sy_grammar_base.specs.Solving.{AreValues, IsTrueUnder}
use Rattle.sy_query_base.specs.Asked.{Satisfies}
use Rattle.sy_query_base.specs.Placed.{placement_from, placements}
use Rattle.sy_query_base.specs.Queries.{in_row, conjunction, violated, without_calls, violating, Violates, IsViolation}
use Rattle.sy_query_base.proofs.Unfolding.{placed-means, definitions-serve, bodies-serve}

and_true : (a b : Bool) → (a && b) ≡ true → (a ≡ true) × (b ≡ true)
and_true true b h = (refl, h)
and_true false b h = cc

clash : (b : Bool) → b ≡ true → b ≡ false → ⊥
clash true g h = cc
clash false g h = cc

and_both : (a b : Bool) → a ≡ true → b ≡ true → (a && b) ≡ true
and_both true b g h = h
and_both false b g h = cc

parted : (a b : Bool) → Truth (a && not b) ≡ Truth true → (a ≡ true) × (b ≡ false)
parted true false h = (refl, refl)
parted true true h = cc
parted false b h = cc

both_true : (a b : Bool) → a ≡ true → b ≡ false → (a && not b) ≡ true
both_true true false g h = refl
both_true true true g h = cc
both_true false b g h = cc

not_all : (b : Bool) → (b ≡ true → ⊥) → b ≡ false
not_all true h = absurd (h refl)
not_all false h = refl

true-of : (v : Val) → truth v ≡ true → v ≡ Truth true
true-of (Truth b) h = ap Truth h
true-of (Whole z) h = cc
true-of (Bits w n) h = cc

-- each term with its calls replaced is true
all-true : List Val → List Expr → Bool
all-true values terms = list_all truth (meanings [] [] values (in_row terms))

conjunction-is : (values : List Val) (terms : List Expr) → meaning [] [] values (conjunction terms) ≡ Truth (list_all truth (meanings [] [] values (in_row terms)))
unfolding meaning meanings op_value
conjunction-is values [] = refl
conjunction-is values (term ∷ terms) = refl

row-then : (values : List Val) (terms : List Expr) (rest : Exprs) → meanings [] [] values (append (in_row terms) rest) ≡ meanings [] [] values (in_row terms) ++ meanings [] [] values rest
unfolding meanings
row-then values [] rest = refl
row-then values (term ∷ terms) rest = ap (λ (vs : List Val). meaning [] [] values term ∷ vs) (row-then values terms rest)

truths-then : (front : List Val) (b : Bool) → list_all truth (front ++ Truth b ∷ []) ≡ (list_all truth front && b)
truths-then [] true = refl
truths-then [] false = refl
truths-then (v ∷ front) b = by_first (truth v) (list_all truth front) b (list_all truth (front ++ Truth b ∷ [])) (truths-then front b)
  where
    by_first : (x y b z : Bool) → z ≡ (y && b) → (x && z) ≡ ((x && y) && b)
    by_first true y b z h = h
    by_first false y b z h = refl

violated-is : (values : List Val) (assumptions constraints : List Expr) → meaning [] [] values (violated assumptions constraints) ≡ Truth (list_all truth (meanings [] [] values (in_row assumptions)) && not (list_all truth (meanings [] [] values (in_row constraints))))
unfolding meaning meanings op_value
violated-is values assumptions constraints =
    let last = expr.more (expr.Apply ops.Not (expr.more (conjunction constraints) expr.none)) expr.none in
    let whole_row = row-then values assumptions last in
    let inner = conjunction-is values constraints in
    rw (whole_row, inner) (ap Truth (with_rest (list_all truth (meanings [] [] values (in_row constraints))) (meanings [] [] values (in_row assumptions))))
  where
    with_rest : (b : Bool) (front : List Val) → list_all truth (front ++ Truth (not (b && true)) ∷ []) ≡ (list_all truth front && not b)
    with_rest true front = truths-then front false
    with_rest false front = truths-then front true

-- a term of the problem with its calls replaced means the same
without-means : (question : Question) (bodies : List Expr) (values : List Val) → length values ≡ length question.variables → (term : Expr) → meaning [] [] values (without_calls question bodies term) ≡ meaning (functions question.definitions) (map (function_from (functions question.definitions)) bodies) values term
without-means question bodies values long term =
    let ds = question.definitions in
    let here = placed-means (placements ds) (map (placement_from (placements ds)) bodies) (functions ds) (map (function_from (functions ds)) bodies) (definitions-serve ds) (bodies-serve ds bodies) [] values term in
    let start : length values ≡ 0 + length values = omega arith in
    rw (← long, start) here

-- all terms are true exactly where all are without their calls
each-true : (question : Question) (bodies : List Expr) (values : List Val) → length values ≡ length question.variables → (terms : List Expr) → list_all truth (meanings [] [] values (in_row (map (without_calls question bodies) terms))) ≡ true → All (IsTrueUnder question bodies values) terms
unfolding meanings
each-true question bodies values long [] h = All-nil (IsTrueUnder question bodies values)
each-true question bodies values long (term ∷ terms) h =
    let both = and_true _ _ h in
    All-cons (IsTrueUnder question bodies values) term terms (sym (without-means question bodies values long term) ∙ true-of _ both.0) (each-true question bodies values long terms both.1)

true-each : (question : Question) (bodies : List Expr) (values : List Val) → length values ≡ length question.variables → (terms : List Expr) → All (IsTrueUnder question bodies values) terms → list_all truth (meanings [] [] values (in_row (map (without_calls question bodies) terms))) ≡ true
unfolding meanings
true-each question bodies values long [] h = refl
true-each question bodies values long (term ∷ terms) h =
    let first = All-head (IsTrueUnder question bodies values) term terms h in
    let others = All-tail (IsTrueUnder question bodies values) term terms h in
    and_both _ _ (ap truth (without-means question bodies values long term ∙ first)) (true-each question bodies values long terms others)

values_length : (variables : List Sort) (values : List Val) → AreValues variables values → length values ≡ length variables
values_length variables values are = sym (length-map values sort_of_value) ∙ ap length are.sorted

query_says : (question : Question) (bodies : List Expr) (values : List Val) → Satisfies (violating question bodies) values → Violates question bodies values
query_says question bodies values satisfies =
    let long = values_length question.variables values satisfies.sorted in
    let both = parted _ _ (sym (violated-is values (map (without_calls question bodies) question.assumptions) (map (without_calls question bodies) question.constraints)) ∙ satisfies.true) in
    (each-true question bodies values long question.assumptions both.0, λ all. clash _ (true-each question bodies values long question.constraints all) both.1)

query_is : (question : Question) (bodies : List Expr) (values : List Val) → AreValues question.variables values → Violates question bodies values → Satisfies (violating question bodies) values
query_is question bodies values are violates =
    let long = values_length question.variables values are in
    record {
      sorted = are;
      true = violated-is values (map (without_calls question bodies) question.assumptions) (map (without_calls question bodies) question.constraints)
          ∙ ap Truth (both_true _ _ (true-each question bodies values long question.assumptions violates.0) (not_all _ (λ all. violates.1 (each-true question bodies values long question.constraints all))));
    }

-- a query is true exactly where the bodies violate the problem
pub says : (question : Question) (bodies : List Expr) → IsViolation question bodies (violating question bodies)
says question bodies values are = (query_says question bodies values, query_is question bodies values are)
