-- The first open test of a query is on the variables of the query.
use Rattle.std.specs.Prelude.{◌≡◌, ℕ, zero, suc, ◌+◌, Bool, true, false, cond, ◌&&◌, List, [], ◌∷◌, ◌++◌, Option, Some, None, slice_get}
use Rattle.std.proofs.Common.{refl, sym, ◌∙◌, ap, arith, subst}
use Rattle.sy_terms.specs.Values.{Val, Truth, Whole, Bits}
use Rattle.sy_terms.specs.Expr.{Expr, Exprs, Constant, Variable, Apply, Invoke, Bind, none, more, nodes, nodes_of}
use Rattle.sy_terms.specs.declared.sort.Sort.{Sort}
use Rattle.sy_terms.specs.declared.sort.Sort.TheVariants as sorts
use Rattle.sy_linear_known.specs.declared.path.Fact.{Fact}
use Rattle.sy_linear_known.specs.declared.path.Test.{Test}
use Rattle.sy_linear_known.specs.declared.path.Test.TheVariants as test
use Rattle.sy_linear_known.specs.declared.answer.Known.TheVariants as known
use Rattle.sy_linear_known.specs.declared.sight.Sight.{Sight}
use Rattle.sy_linear_known.specs.declared.sight.Sight.TheVariants.{Linear, Settled, Open}
use Rattle.sy_linear_known.specs.declared.sight.Seen.{Seen}
use Rattle.sy_linear_known.specs.declared.sight.Found.{Found}
use Rattle.sy_linear_known.specs.Paths.{given}
use Rattle.sy_linear_known.specs.Trees.{IsOf}
use Rattle.sy_linear_known.specs.Sights.{is_open, operator_applied}
use Rattle.sy_linear_known.specs.Seen.{of_given, variable_sights, or_open, sight_at, is_truths, variable_test, is_ite, live, seen_as, value_seen, nothing_found, with_next, seen, all_seen, LinearQuery, query_seen, of_misfit, of_sight, of_open, query_known}
use Rattle.sy_linear_known.proofs.Ascending.{ascends-variable}
use Rattle.sy_linear_known.proofs.Suiting.{SightSuits, AllSuit, IsOpenTest, MaybeOpen, open-or_else, suits-applied}

record SeenSuits (vars : List Sort) (path : List Fact) (x : Seen) : Type 0 where
  sight : SightSuits vars x.sight
  unknown : MaybeOpen vars path x.unknown

record FoundSuits (vars : List Sort) (path : List Fact) (x : Found) : Type 0 where
  sights : AllSuit vars x.sights
  unknown : MaybeOpen vars path x.unknown

-- what is told of the names in force; a variable of truth values is told what the path gives
record NamesSuit (vars : List Sort) (path : List Fact) (names : List Sight) : Type 0 where
  each : AllSuit vars names
  truths : (i : ℕ) → IsOf sorts.Bool vars i → slice_get names i ≡ Some (of_given (given i path))

-- ---- names
suits-append : (vars : List Sort) (xs ys : List Sight) → AllSuit vars xs → AllSuit vars ys → AllSuit vars (xs ++ ys)
suits-append vars [] ys h k = k
suits-append vars (x ∷ xs) ys h k = (h.0, suits-append vars xs ys h.1 k)

get-append : (xs ys : List Sight) (i : ℕ) (x : Sight) → slice_get xs i ≡ Some x → slice_get (xs ++ ys) i ≡ Some x
get-append [] ys i x e = absurd cc
get-append (z ∷ xs) ys zero x e = e
get-append (z ∷ xs) ys (suc i) x e = get-append xs ys i x e

names-append : (vars : List Sort) (path : List Fact) (names ys : List Sight) → NamesSuit vars path names → AllSuit vars ys → NamesSuit vars path (names ++ ys)
names-append vars path names ys h k = record {
  each = suits-append vars names ys h.each k;
  truths = λ i o. get-append names ys i (of_given (given i path)) (h.truths i o);
}

suits-at : (vars : List Sort) (names : List Sight) (i : ℕ) → AllSuit vars names → SightSuits vars (sight_at names i)
suits-at vars [] i h = tt
suits-at vars (x ∷ names) zero h = h.0
suits-at vars (x ∷ names) (suc i) h = suits-at vars names i h.1

truths_of : (o : Option Sort) → is_truths o ≡ true → o ≡ Some sorts.Bool
truths_of (Some sorts.Bool) e = refl
truths_of (Some sorts.Int) e = absurd cc
truths_of (Some (sorts.Bits w)) e = absurd cc
truths_of None e = absurd cc

none_given : (o : Option Bool) → is_open (of_given o) ≡ true → o ≡ None
none_given (Some b) e = absurd cc
none_given None e = refl

and_parts : (a b : Bool) → (a && b) ≡ true → (a ≡ true) × (b ≡ true)
and_parts true b e = (refl, e)
and_parts false b e = absurd cc

open-variable : (vars : List Sort) (path : List Fact) (names : List Sight) (i : ℕ) → NamesSuit vars path names → MaybeOpen vars path (variable_test vars (sight_at names i) i)
open-variable vars path names i h = by (is_open (sight_at names i) && is_truths (slice_get vars i)) refl
  where
    by : (b : Bool) → (is_open (sight_at names i) && is_truths (slice_get vars i)) ≡ b → MaybeOpen vars path (cond b (Some (test.Holds i)) None)
    by false e = tt
    by true e =
        let p = and_parts (is_open (sight_at names i)) (is_truths (slice_get vars i)) e in
        let o : IsOf sorts.Bool vars i = truths_of (slice_get vars i) p.1 in
        (o, none_given (given i path) (sym (ap (λ s. is_open (or_open s)) (h.truths i o)) ∙ p.0))

-- ---- the walk
suits-live : (vars : List Sort) (path : List Fact) (b : Bool) (x : Seen) → SeenSuits vars path x → SeenSuits vars path (cond b x (seen_as Open))
suits-live vars path true x h = h
suits-live vars path false x h = record { sight = tt; unknown = tt }

suits-next : (vars : List Sort) (path : List Fact) (before : Found) (x : Seen) → FoundSuits vars path before → SeenSuits vars path x → FoundSuits vars path (with_next before x)
suits-next vars path before x h k = record {
  sights = suits-append vars before.sights (x.sight ∷ []) h.sights (k.sight, tt);
  unknown = open-or_else vars path before.unknown x.unknown h.unknown k.unknown;
}

suits-value : (vars : List Sort) (path : List Fact) (at : ℕ) (v : Val) → SeenSuits vars path (value_seen at v)
suits-value vars path at (Truth b) = record { sight = tt; unknown = tt }
suits-value vars path at (Whole z) = record { sight = tt; unknown = tt }
suits-value vars path at (Bits w n) = record { sight = tt; unknown = tt }

mutual
  unfolding seen all_seen

  suits-seen : (vars : List Sort) (path : List Fact) (names : List Sight) → NamesSuit vars path names → (at : ℕ) (e : Expr) → SeenSuits vars path (seen vars path names at e)
  suits-seen vars path names h at (Constant v) = suits-value vars path at v
  suits-seen vars path names h at (Variable i) = record { sight = suits-at vars names i h.each; unknown = open-variable vars path names i h }
  suits-seen vars path names h at (Apply operator arguments) =
      let below : Found = all_seen vars path names (is_ite operator) (at + 1) nothing_found arguments in
      let k : FoundSuits vars path below = suits-all_seen vars path names h (is_ite operator) (at + 1) nothing_found arguments (record { sights = tt; unknown = tt }) in
      let n = suits-applied vars path operator below.sights k.sights in
      record { sight = n.sight; unknown = open-or_else vars path (operator_applied path operator below.sights).unknown below.unknown n.unknown k.unknown }
  suits-seen vars path names h at (Invoke function arguments) = record { sight = tt; unknown = tt }
  suits-seen vars path names h at (Bind bound inner) =
      let below : Found = all_seen vars path names false (at + 1) nothing_found bound in
      let k : FoundSuits vars path below = suits-all_seen vars path names h false (at + 1) nothing_found bound (record { sights = tt; unknown = tt }) in
      let x : Seen = seen vars path (names ++ below.sights) (at + 1 + nodes_of bound) inner in
      let l : SeenSuits vars path x = suits-seen vars path (names ++ below.sights) (names-append vars path names below.sights h k.sights) (at + 1 + nodes_of bound) inner in
      record { sight = l.sight; unknown = open-or_else vars path below.unknown x.unknown k.unknown l.unknown }

  suits-all_seen : (vars : List Sort) (path : List Fact) (names : List Sight) → NamesSuit vars path names → (choice : Bool) (at : ℕ) (before : Found) (es : Exprs) → FoundSuits vars path before → FoundSuits vars path (all_seen vars path names choice at before es)
  suits-all_seen vars path names h choice at before none k = k
  suits-all_seen vars path names h choice at before (more first rest) k =
      let x : Seen = cond (live choice before.sights) (seen vars path names at first) (seen_as Open) in
      suits-all_seen vars path names h choice (at + nodes first) (with_next before x) rest
      (suits-next vars path before x k (suits-live vars path (live choice before.sights) (seen vars path names at first) (suits-seen vars path names h at first)))

-- ---- queries
suits-variables : (path : List Fact) (vars : List Sort) (i : ℕ) (rest : List Sort) → ((j k : ℕ) → k ≡ i + j → slice_get vars k ≡ slice_get rest j) → AllSuit vars (variable_sights path i rest)
suits-variables path vars i [] h = tt
suits-variables path vars i (sorts.Int ∷ rest) h = (ascends-variable vars i (h 0 i (omega arith)), suits-variables path vars (suc i) rest (λ j k e. h (suc j) k (omega (arith, e))))
suits-variables path vars i (sorts.Bool ∷ rest) h = (by (given i path), suits-variables path vars (suc i) rest (λ j k e. h (suc j) k (omega (arith, e))))
  where
    by : (o : Option Bool) → SightSuits vars (of_given o)
    by (Some b) = tt
    by None = tt
suits-variables path vars i (sorts.Bits w ∷ rest) h = (tt, suits-variables path vars (suc i) rest (λ j k e. h (suc j) k (omega (arith, e))))

truths-variables : (path : List Fact) (i : ℕ) (rest : List Sort) (j k : ℕ) → k ≡ i + j → slice_get rest j ≡ Some sorts.Bool → slice_get (variable_sights path i rest) j ≡ Some (of_given (given k path))
truths-variables path i [] j k e o = absurd cc
truths-variables path i (s ∷ rest) zero k e o =
    let same : i ≡ k = omega (arith, e) in
    let bool : s ≡ sorts.Bool = cc in
    rw (bool, same) refl
truths-variables path i (s ∷ rest) (suc j) k e o = truths-variables path (suc i) rest j k (omega (arith, e)) o

names-variables : (path : List Fact) (vars : List Sort) → NamesSuit vars path (variable_sights path 0 vars)
names-variables path vars = record {
  each = suits-variables path vars 0 vars (λ j k e. ap (slice_get vars) (e ∙ omega arith));
  truths = λ i o. truths-variables path 0 vars i i (omega arith) o;
}

-- the test that a query leaves open
pub open_test : (q : LinearQuery) (path : List Fact) (t : Test) → query_known q path ≡ known.Undecided t → IsOpenTest q.vars path t
open_test q path t = by (query_seen q path).misfit (query_seen q path).sight (query_seen q path).unknown (suits-seen q.vars path (variable_sights path 0 q.vars) (names-variables path q.vars) 0 q.body).unknown
  where
    by : (n : Option ℕ) (x : Sight) (o : Option Test) → MaybeOpen q.vars path o → of_misfit n (of_sight x (of_open o)) ≡ known.Undecided t → IsOpenTest q.vars path t
    by (Some n) x o h e = absurd cc
    by None (Settled true) o h e = absurd cc
    by None (Settled false) o h e = absurd cc
    by None (Linear f) None h e = absurd cc
    by None Open None h e = absurd cc
    by None (Linear f) (Some u) h e = let same : u ≡ t = cc in subst (IsOpenTest q.vars path) same h
    by None Open (Some u) h e = let same : u ≡ t = cc in subst (IsOpenTest q.vars path) same h
