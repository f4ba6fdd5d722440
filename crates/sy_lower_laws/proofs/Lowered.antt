-- The lowering of a query has the query's solutions, with values for its fresh variables.
use Rattle.std.specs.Prelude.{ℕ, zero, suc, ◌≤◌, Bool, true, false, nat_le, List, [], ◌∷◌, ◌++◌, ◌≡◌, refl, length, map, take, slice_get, Some, get_or, if◌then◌else◌}
use Rattle.std.specs.List.{list_all}
use Rattle.std.proofs.Common.{ap, arith, ◌∙◌, sym, subst, length-append}
use Rattle.std.proofs.lemmas.Option.{slice_get-get_or}
use Rattle.std.proofs.lemmas.List.Elements.{All-take}
use Rattle.sy_terms.specs.Values.{Val, Truth}
use Rattle.sy_terms.specs.Operators.{op_value}
use Rattle.sy_terms.specs.Sorts.{sort_of, same_sort}
use Rattle.sy_terms.specs.Theories.{sort_of_value, valid}
use Rattle.sy_terms.specs.Expr.{Expr, Exprs, Variable, Apply, none, more, append}
use Rattle.sy_terms.specs.Fitting.{sort_in, sorts_in, applied_sort, given_by}
use Rattle.sy_terms.specs.Meaning.{meaning, meanings, value_at_position}
use Rattle.sy_terms.specs.declared.op.Op.TheVariants as ops
use Rattle.sy_terms.specs.declared.sort.Sort.{Sort}
use Rattle.sy_terms.specs.declared.sort.Sort.TheVariants as kinds
use Rattle.sy_terms.specs.declared.sorts.Sorted.TheVariants.{Is}
use Rattle.sy_terms_operators.specs.Plain.{is_plain, are_plain}
use Rattle.sy_terms_operators.proofs.Equations.{both_true, value_at_position_is}
use Rattle.sy_terms_operators.proofs.Plain.{plain_append}
use Rattle.sy_query_base.specs.Asked.{Query, QueryFits, Satisfies}
use Rattle.sy_meaning_integers.specs.Lia.{owned, numeric}
use Rattle.sy_lower_laws.specs.Lowering.{Progress, Lowered, has_divisions, first_variables, begun, with_sides, lowered, lowering}
use Rattle.sy_lower_laws.specs.Laws.{has_integers, IsLowering}
use Rattle.sy_lower_laws.proofs.Sorts.{integers, have_sorts, sorts_append, with_both}
use Rattle.sy_lower_laws.proofs.Sides.{and_both, AreTrue, true_append, true_first, true_last, true_each, each_true, AreOf, truth_sorts, truths_sorts, truths_all}
use Rattle.sy_lower_laws.proofs.Steps.{nil_last, many_values, Stands, Made}
use Rattle.sy_lower_laws.proofs.Walk.{Names, meanings_append, walked}

-- lists

take_all : {X : Type 0} (xs : List X) → take (length xs) xs ≡ xs
take_all [] = refl
take_all (x ∷ xs) = ap (λ rest. x ∷ rest) (take_all xs)

take_front : {X : Type 0} (xs ys : List X) → take (length xs) (xs ++ ys) ≡ xs
take_front [] [] = refl
take_front [] (y ∷ ys) = refl
take_front (x ∷ xs) ys = ap (λ rest. x ∷ rest) (take_front xs ys)

some_same : {X : Type 0} (x y : X) → Some x ≡ Some y → x ≡ y
some_same x y e = cc

take_next : {X : Type 0} (xs : List X) (n : ℕ) (x : X) → slice_get xs n ≡ Some x → take (suc n) xs ≡ take n xs ++ x ∷ []
take_next [] n x e = cc
take_next {X} (y ∷ []) zero x e = ap (λ (z : X). z ∷ []) (some_same y x e)
take_next {X} (y ∷ z ∷ xs) zero x e = ap (λ (z : X). z ∷ []) (some_same y x e)
take_next (y ∷ xs) (suc n) x e = ap (λ rest. y ∷ rest) (take_next xs n x e)

map_take : (n : ℕ) (values : List Val) → map sort_of_value (take n values) ≡ take n (map sort_of_value values)
map_take zero [] = refl
map_take zero (v ∷ values) = refl
map_take (suc n) [] = refl
map_take (suc n) (v ∷ values) = ap (λ (rest : List Sort). sort_of_value v ∷ rest) (map_take n values)

-- the first variables

variables_plain : (count n : ℕ) → n ≤ count → are_plain count (first_variables n) ≡ true
unfolding is_plain are_plain
variables_plain count zero h = refl
variables_plain count (suc n) h =
    plain_append count (first_variables n) (more (Variable n) none) (variables_plain count n (omega arith)) (and_both _ true (grind arith) refl)

variables_sorts : (ss : List Sort) (n : ℕ) → n ≤ length ss → sorts_in integers ss (first_variables n) ≡ Some (take n ss)
unfolding sorts_in sort_in
variables_sorts [] zero h = refl
variables_sorts (s ∷ ss) zero h = refl
variables_sorts ss (suc n) h =
    let sort : Sort = get_or ss n kinds.Bool in
    let at : slice_get ss n ≡ Some sort = slice_get-get_or ss n kinds.Bool (omega arith) in
    sorts_append ss (first_variables n) (more (Variable n) none) (take n ss) (sort ∷ []) (variables_sorts ss n (omega arith)) (with_both (slice_get ss n) (Some []) sort [] at refl) ∙
    ap Some (sym (take_next ss n sort at))

variables_mean : (values : List Val) (n : ℕ) → n ≤ length values → meanings [] [] values (first_variables n) ≡ take n values
unfolding meaning meanings
variables_mean [] zero h = refl
variables_mean (v ∷ values) zero h = refl
variables_mean values (suc n) h =
    let value : Val = get_or values n (Truth false) in
    let at : slice_get values n ≡ Some value = slice_get-get_or values n (Truth false) (omega arith) in
    meanings_append values (first_variables n) (more (Variable n) none) ∙
    (ap (λ (vs : List Val). vs ++ value_at_position values n ∷ []) (variables_mean values n (omega arith)) ∙
    (ap (λ (v : Val). take n values ++ v ∷ []) (value_at_position_is values n) ∙ sym (take_next values n value at)))

-- the conjunction of the side conditions and the term

more_than_none : (ss : List Sort) (s : Sort) → nat_le 1 (length (ss ++ s ∷ [])) ≡ true
more_than_none ss s = by_length (length (ss ++ s ∷ [])) (omega (arith, length-append ss (s ∷ [])))
  where
    by_length : (n : ℕ) → 1 ≤ n → nat_le 1 n ≡ true
    by_length n h = grind arith

all_last : (ss : List Sort) → list_all (same_sort kinds.Bool) ss ≡ true → list_all (same_sort kinds.Bool) (ss ++ kinds.Bool ∷ []) ≡ true
all_last [] h = refl
all_last (s ∷ ss) h =
    let both = both_true (same_sort kinds.Bool s) (list_all (same_sort kinds.Bool) ss) h in
    and_both _ _ both.0 (all_last ss both.1)

and_sort : (ss : List Sort) → list_all (same_sort kinds.Bool) ss ≡ true → sort_of ops.And (ss ++ kinds.Bool ∷ []) ≡ Is kinds.Bool
unfolding sort_of
and_sort ss h = rw (more_than_none ss kinds.Bool, all_last ss h) refl

body_sort : (progress : Progress) (term : Expr) → AreOf kinds.Bool progress.sorts progress.sides → sort_in integers progress.sorts term ≡ Some kinds.Bool →
    sort_in integers progress.sorts (Apply ops.And (append progress.sides (more term none))) ≡ Some kinds.Bool
unfolding sort_in sorts_in
body_sort progress term truths e =
    let all = sorts_append progress.sorts progress.sides (more term none) (truth_sorts progress.sides) (kinds.Bool ∷ []) (truths_sorts progress.sorts progress.sides truths) (with_both (sort_in integers progress.sorts term) (Some []) kinds.Bool [] e refl) in
    ap (applied_sort integers ops.And) all ∙ ap given_by (and_sort (truth_sorts progress.sides) (truths_all progress.sides))

body_true : (values : List Val) (sides : Exprs) (term : Expr) → AreTrue values sides → meaning [] [] values term ≡ Truth true → meaning [] [] values (Apply ops.And (append sides (more term none))) ≡ Truth true
unfolding meaning op_value
body_true values sides term all e = ap Truth (each_true values (append sides (more term none)) (true_append values sides (more term none) all (e, tt)))

true_body : (values : List Val) (sides : Exprs) (term : Expr) → meaning [] [] values (Apply ops.And (append sides (more term none))) ≡ Truth true → AreTrue values (append sides (more term none))
unfolding meaning op_value
true_body values sides term e = true_each values (append sides (more term none)) (truth_is _ true e)
  where
    truth_is : (a b : Bool) → Truth a ≡ Truth b → a ≡ b
    truth_is a b h = cc

-- queries

-- the query itself
itself : (query : Query) → QueryFits owned numeric query → IsLowering query query
itself query fits = record {
  fits = fits;
  begins = take_all query.variables;
  onto = λ values satisfies. ([], subst (Satisfies query) (nil_last values) satisfies);
  back = λ values satisfies.
      subst (Satisfies query) (sym (take_all values) ∙ ap (λ n. take n values) (many_values query.variables values satisfies.sorted)) satisfies;
}

-- the names at the start
pub names_begun : (variables : List Sort) → Names (begun variables) (first_variables (length variables)) variables
names_begun variables = record {
  plain = variables_plain (length variables) (length variables) (omega arith);
  sorted = variables_sorts variables (length variables) (omega arith) ∙ ap Some (take_all variables);
}

pub stands_begun : (query : Query) → QueryFits owned numeric query → Stands (begun query.variables)
unfolding are_plain
stands_begun query fits = record { known = fits.variables; plain = refl; truths = tt; pairs = tt }

with_sides_is : (query : Query) → QueryFits owned numeric query → (found : Lowered) →
    Made (begun query.variables) found kinds.Bool (λ values. meaning [] [] (meanings [] [] values (first_variables (length query.variables))) query.body) → IsLowering query (with_sides found)
with_sides_is query fits found made = record {
  fits = record { variables = made.stands.known; body = body_sort found.progress found.term made.stands.truths made.sorted };
  begins = begins;
  onto = onto;
  back = back;
}
  where
    n : ℕ
    n = length query.variables

    begins : take (length query.variables) found.progress.sorts ≡ query.variables
    begins = ap (take (length query.variables)) made.goes.sorts_are ∙ take_front query.variables made.goes.sorts

    onto : (values : List Val) → Satisfies query values → (more : List Val) × Satisfies (with_sides found) (values ++ more)
    onto values satisfies =
        let reached = made.exists values satisfies.sorted tt in
        let long = many_values query.variables values satisfies.sorted in
        let vs : List Val = values ++ reached.further in
        let within : length query.variables ≤ length vs = omega (arith, length-append values reached.further, long) in
        let own : meanings [] [] vs (first_variables (length query.variables)) ≡ values =
        variables_mean vs (length query.variables) within ∙ (ap (λ k. take k vs) (sym long) ∙ take_front values reached.further) in
        let sound = made.sound vs (have_sorts found.progress.sorts vs reached.are) reached.all in (
          reached.further,
          record {
            sorted = reached.are;
            true = body_true vs found.progress.sides found.term reached.all (sound ∙ (ap (λ (us : List Val). meaning [] [] us query.body) own ∙ satisfies.true));
          },
        )

    back : (values : List Val) → Satisfies (with_sides found) values → Satisfies query (take (length query.variables) values)
    back values satisfies =
        let all = true_body values found.progress.sides found.term satisfies.true in
        let sides = true_first values found.progress.sides (more found.term none) all in
        let term = (true_last values found.progress.sides (more found.term none) all).0 in
        let long = many_values found.progress.sorts values satisfies.sorted in
        let within : length query.variables ≤ length values = omega (arith, long, ap length made.goes.sorts_are, length-append query.variables made.goes.sorts) in
        let sound = made.sound values (have_sorts found.progress.sorts values satisfies.sorted) sides in
        record {
          sorted = record {
            sorted = map_take (length query.variables) values ∙ (ap (take (length query.variables)) satisfies.sorted.sorted ∙ begins);
            valid = All-take (λ v. valid v ≡ true) (length query.variables) values satisfies.sorted.valid;
          };
          true = ap (λ (us : List Val). meaning [] [] us query.body) (sym (variables_mean values (length query.variables) within)) ∙ (sym sound ∙ term);
        }

-- the lowering of a query has its solutions
pub lowering_is : (query : Query) → QueryFits owned numeric query → has_integers query.body ≡ true → IsLowering query (lowering query)
unfolding lowering
lowering_is query fits whole = by_test (has_divisions query.body)
  where
    by_test : (b : Bool) → IsLowering query (if b then with_sides (lowered (first_variables (length query.variables)) (begun query.variables) query.body) else query)
    by_test true = with_sides_is query fits (lowered (first_variables (length query.variables)) (begun query.variables) query.body)
        (walked (first_variables (length query.variables)) query.variables fits.variables (begun query.variables) (stands_begun query fits) (names_begun query.variables) query.body whole kinds.Bool fits.body)
    by_test false = itself query fits

-- without divisions a query is its own lowering
pub lowering_itself : (query : Query) → has_divisions query.body ≡ false → lowering query ≡ query
unfolding lowering
lowering_itself query e = ap (λ (b : Bool). if b then with_sides (lowered (first_variables (length query.variables)) (begun query.variables) query.body) else query) e
