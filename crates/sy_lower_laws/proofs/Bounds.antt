-- A lowering is at most so much larger than the query's weight.
use Rattle.std.specs.Prelude.{ℕ, zero, suc, ◌+◌, ◌-◌, ◌*◌, ◌≤◌, Bool, true, false, ◌&&◌, nat_le, List, [], ◌∷◌, ◌++◌, ◌≡◌, refl, length, All, ℤ, Option, Some, None, if◌then◌else◌}
use Rattle.std.specs.List.{list_all}
use Rattle.std.proofs.Common.{ap, arith, ◌∙◌, sym, subst, length-append}
use Rattle.std.proofs.lemmas.List.Elements.{All-append}
use Rattle.sy_terms.specs.Values.{Val}
use Rattle.sy_terms.specs.Sorts.{sort_of, same_sort, each_is, all_alike}
use Rattle.sy_terms.specs.Expr.{Expr, Exprs, Constant, Variable, Apply, Invoke, Bind, none, more, append, nodes, nodes_of}
use Rattle.sy_terms.specs.Fitting.{sort_in, sorts_in}
use Rattle.sy_terms.specs.declared.op.Op.{Op}
use Rattle.sy_terms.specs.declared.op.Op.TheVariants as ops
use Rattle.sy_terms.specs.declared.sort.Sort.{Sort}
use Rattle.sy_terms.specs.declared.sort.Sort.TheVariants as kinds
use Rattle.sy_terms.specs.declared.sorts.Sorted.TheVariants.{Is, Mismatch}
use Rattle.sy_terms_operators.proofs.Equations.{both_true, applied_sort_Some, after_Some, with_sort_Some}
use Rattle.sy_query_base.specs.Asked.{Query, QueryFits}
use Rattle.sy_query_base.specs.Placed.{count}
use Rattle.sy_query_base.specs.Weights.{sort_weight, operator_weight, with_sorts, weight, weights}
use Rattle.sy_meaning_integers.specs.Lia.{owned, numeric}
use Rattle.sy_lower_laws.specs.Lowering.{Step, Quotient, Remainder, Magnitude, Itself, step_of, has_divisions, is_name, is_variable, divisor, equation, equated, division_sides, pair_of, paired_by, paired, quotient_at, remainder_at, quotient_by, remainder_by, quotients, as_variable, absolute_of, divided, reduced, unsigned, applied_by, applied, equated_at, named, name_at, Progress, Lowered, AllLowered, Divided, lowered, all_lowered, bound_lowered, first_variables, begun, with_sides, lowering}
use Rattle.sy_lower_laws.specs.Laws.{has_integers, have_integers, IsSmall}
use Rattle.sy_lower_laws.proofs.Applications.{quotient_step, remainder_step, magnitude_step}
use Rattle.sy_lower_laws.proofs.Sorts.{integers, IsKnown, uncalled, sort_known, sorts_known}
use Rattle.sy_lower_laws.proofs.Steps.{Stands}
use Rattle.sy_lower_laws.proofs.Walk.{Names, names_on, names_more, walked, all_walked, bound_walked, named_made}
use Rattle.sy_lower_laws.proofs.Lowered.{names_begun, stands_begun}

-- weights

known_weight : (sort : Sort) → IsKnown sort → sort_weight (Some sort) ≡ 1
known_weight kinds.Bool known = refl
known_weight kinds.Int known = refl
known_weight (kinds.Bits w) known = cc

if_Is : (b : Bool) (x y : Sort) → (if b then Is x else Mismatch) ≡ Is y → b ≡ true
if_Is true x y e = refl
if_Is false x y e = cc

at_least : (m n : ℕ) → nat_le m n ≡ true → m ≤ n
at_least m n e = grind arith

two_each : (ss : List Sort) (s value t : Sort) → each_is 2 s ss value ≡ Is t → 2 ≤ length ss
two_each ss s value t e = at_least 2 (length ss) (both_true (nat_le 2 (length ss)) (list_all (same_sort s) ss) (if_Is (nat_le 2 (length ss) && list_all (same_sort s) ss) value t e)).0

two_alike : (ss : List Sort) (t : Sort) → all_alike ss ≡ Is t → 2 ≤ length ss
two_alike [] t e = cc
two_alike (s ∷ rest) t e =
    let one : 1 ≤ length rest = at_least 1 (length rest) (both_true (nat_le 1 (length rest)) (list_all (same_sort s) rest) (if_Is (nat_le 1 (length rest) && list_all (same_sort s) rest) kinds.Bool t e)).0 in
    omega arith

square : (n : ℕ) → 2 ≤ n → 1 ≤ n * n
square zero h = omega arith
square (suc n) h = omega arith

-- an application weighs 1 or more by itself
own_weight : (operator : Op) (ss : List Sort) (sort : Sort) (n : ℕ) → owned operator ≡ true → sort_of operator ss ≡ Is sort → n ≡ length ss → 1 ≤ operator_weight operator n 1
unfolding sort_of
own_weight ops.Not ss sort n own e long = omega arith
own_weight ops.And ss sort n own e long = omega arith
own_weight ops.Or ss sort n own e long = omega arith
own_weight ops.Xor ss sort n own e long = omega arith
own_weight ops.Implies ss sort n own e long = omega arith
own_weight ops.Equal ss sort n own e long = omega arith
own_weight ops.Distinct ss sort n own e long = square n (subst (λ m. 2 ≤ m) (sym long) (two_alike ss sort e))
own_weight ops.Ite ss sort n own e long = omega arith
own_weight ops.Neg ss sort n own e long = omega arith
own_weight ops.Sub ss sort n own e long = omega arith
own_weight ops.Add ss sort n own e long = omega arith
own_weight ops.Mul ss sort n own e long = omega arith
own_weight ops.Div ss sort n own e long = omega (arith, two_each ss kinds.Int kinds.Int sort e)
own_weight ops.Mod ss sort n own e long = omega arith
own_weight ops.Abs ss sort n own e long = omega arith
own_weight ops.Le ss sort n own e long = omega arith
own_weight ops.Lt ss sort n own e long = omega arith
own_weight ops.Ge ss sort n own e long = omega arith
own_weight ops.Gt ss sort n own e long = omega arith
own_weight operator ss sort n own e long = cc

count_sorts : (ss : List Sort) (terms : Exprs) (found : List Sort) → sorts_in integers ss terms ≡ Some found → count terms ≡ length found
unfolding sorts_in
count_sorts ss none found e = ap length (some_same [] found e)
  where
    some_same : (x y : List Sort) → Some x ≡ Some y → x ≡ y
    some_same x y h = cc
count_sorts ss (more term terms) found e =
    let parts = with_sort_Some (sort_in integers ss term) (sorts_in integers ss terms) found e in
    let rest : count terms ≡ length parts.sorts = count_sorts ss terms parts.sorts parts.rest_is in
    omega (arith, ap length parts.whole_is, rest)

-- a term weighs what its own sort does, and its parts
apply_weight : (ns : List Sort) (operator : Op) (arguments : Exprs) (sort : Sort) → IsKnown sort → sort_in integers ns (Apply operator arguments) ≡ Some sort →
    weight integers ns (Apply operator arguments) ≡ weights integers ns arguments + operator_weight operator (count arguments) 1
unfolding weight
apply_weight ns operator arguments sort known e =
    ap (λ (o : Option Sort). weights integers ns arguments + operator_weight operator (count arguments) (sort_weight o)) e ∙
    ap (λ n. weights integers ns arguments + operator_weight operator (count arguments) n) (known_weight sort known)

bind_weight : (ns : List Sort) (bound : Exprs) (inner : Expr) (found : List Sort) (sort : Sort) → IsKnown sort → sorts_in integers ns bound ≡ Some found → sort_in integers ns (Bind bound inner) ≡ Some sort →
    weight integers ns (Bind bound inner) ≡ weights integers ns bound + weight integers (ns ++ found) inner + 1
unfolding weight
bind_weight ns bound inner found sort known is e =
    ap (λ (o : Option Sort). weights integers ns bound + weight integers (with_sorts ns (sorts_in integers ns bound)) inner + sort_weight o) e ∙
    (ap (λ n. weights integers ns bound + weight integers (with_sorts ns (sorts_in integers ns bound)) inner + n) (known_weight sort known) ∙
    ap (λ (o : Option (List Sort)). weights integers ns bound + weight integers (with_sorts ns o) inner + 1) is)

constant_weight : (ns : List Sort) (value : Val) (sort : Sort) → IsKnown sort → sort_in integers ns (Constant value) ≡ Some sort → weight integers ns (Constant value) ≡ 1
unfolding weight
constant_weight ns value sort known e = ap sort_weight e ∙ known_weight sort known

variable_weight : (ns : List Sort) (i : ℕ) (sort : Sort) → IsKnown sort → sort_in integers ns (Variable i) ≡ Some sort → weight integers ns (Variable i) ≡ 1
unfolding weight
variable_weight ns i sort known e = ap sort_weight e ∙ known_weight sort known

-- a term has at most as many nodes as it weighs

mutual
  unfolding sort_in sorts_in has_integers have_integers weights

  nodes_weigh : (ns : List Sort) → All IsKnown ns → (term : Expr) → has_integers term ≡ true → (sort : Sort) → sort_in integers ns term ≡ Some sort → nodes term ≤ weight integers ns term
  nodes_weigh ns known (Constant value) whole sort e = omega (arith, constant_weight ns value sort (sort_known ns known (Constant value) whole sort e) e)
  nodes_weigh ns known (Variable i) whole sort e = omega (arith, variable_weight ns i sort (sort_known ns known (Variable i) whole sort e) e)
  nodes_weigh ns known (Apply operator arguments) whole sort e =
      let parts = applied_sort_Some integers operator (sorts_in integers ns arguments) sort e in
      let are = all_nodes_weigh ns known arguments whole parts.sorts parts.is in
      let own = own_weight operator parts.sorts sort (count arguments) parts.owned parts.fits (count_sorts ns arguments parts.sorts parts.is) in
      omega (arith, are, own, apply_weight ns operator arguments sort (sort_known ns known (Apply operator arguments) whole sort e) e)
  nodes_weigh ns known (Invoke function arguments) whole sort e = uncalled ns function arguments sort e
  nodes_weigh ns known (Bind bound inner) whole sort e =
      let both = both_true (have_integers bound) (has_integers inner) whole in
      let parts = after_Some (sorts_in integers ns bound) (λ found. sort_in integers (ns ++ found) inner) sort e in
      let first = all_nodes_weigh ns known bound both.0 parts.sorts parts.is in
      let second = nodes_weigh (ns ++ parts.sorts) (All-append IsKnown ns parts.sorts known (sorts_known ns known bound both.0 parts.sorts parts.is)) inner both.1 sort parts.next_is in
      omega (arith, first, second, bind_weight ns bound inner parts.sorts sort (sort_known ns known (Bind bound inner) whole sort e) parts.is e)

  all_nodes_weigh : (ns : List Sort) → All IsKnown ns → (terms : Exprs) → have_integers terms ≡ true → (found : List Sort) → sorts_in integers ns terms ≡ Some found → nodes_of terms ≤ weights integers ns terms
  all_nodes_weigh ns known none whole found e = omega arith
  all_nodes_weigh ns known (more term terms) whole found e =
      let both = both_true (has_integers term) (have_integers terms) whole in
      let parts = with_sort_Some (sort_in integers ns term) (sorts_in integers ns terms) found e in
      omega (arith, nodes_weigh ns known term both.0 parts.sort parts.first_is, all_nodes_weigh ns known terms both.1 parts.sorts parts.rest_is)

-- what the steps add

nodes_append : (terms others : Exprs) → nodes_of (append terms others) ≡ nodes_of terms + nodes_of others
nodes_append none others = omega arith
nodes_append (more term terms) others = omega (arith, nodes_append terms others)

-- the term and the new side conditions have at most so many nodes, and there are at most so many fresh variables
record Adds (before : Progress) (found : Lowered) (size extra : ℕ) : Type 0 where
  nodes : nodes found.term + nodes_of found.progress.sides ≤ size + nodes_of before.sides
  fresh : length found.progress.sorts ≤ extra + length before.sorts

equated_adds : (before : Progress) (sort : Sort) (term : Expr) → Adds before (equated before sort term) (nodes term + 3) 1
unfolding equated
equated_adds before sort term = record {
  nodes = omega (arith, nodes_append before.sides (more (equation (Variable (length before.sorts)) term) none));
  fresh = omega (arith, length-append before.sorts (sort ∷ []));
}

record AddsPair (before : Progress) (found : Divided) (dividend : Expr) : Type 0 where
  nodes : nodes_of found.progress.sides ≤ nodes dividend + 12 + nodes_of before.sides
  fresh : length found.progress.sorts ≤ 2 + length before.sorts

paired_adds : (before : Progress) (dividend : Expr) (k : ℤ) → AddsPair before (paired before dividend k) dividend
unfolding paired
paired_adds before dividend k = by_pair (pair_of before.pairs dividend k)
  where
    by_pair : (found : Option ℕ) → AddsPair before (paired_by found before dividend k) dividend
    by_pair (Some quotient) = record { nodes = omega arith; fresh = omega arith }
    by_pair None = record {
      nodes = omega (arith, nodes_append before.sides (division_sides dividend k (length before.sorts)));
      fresh = omega (arith, length-append before.sorts (kinds.Int ∷ kinds.Int ∷ []));
    }

quotient_adds : (before : Progress) (a b : Expr) → Adds before (quotient_by before a b) (nodes a + nodes b + 13) 2
unfolding quotient_by
quotient_adds before a b = by_divisor (divisor b)
  where
    by_divisor : (o : Option ℤ) → Adds before (quotient_at o before a b) (nodes a + nodes b + 13) 2
    by_divisor None = record { nodes = omega arith; fresh = omega arith }
    by_divisor (Some k) =
        let pair = paired_adds before a k in
        record { nodes = omega (arith, pair.nodes); fresh = omega (arith, pair.fresh) }

remainder_adds : (before : Progress) (a b : Expr) → Adds before (remainder_by before a b) (nodes a + nodes b + 13) 2
unfolding remainder_by
remainder_adds before a b = by_divisor (divisor b)
  where
    by_divisor : (o : Option ℤ) → Adds before (remainder_at o before a b) (nodes a + nodes b + 13) 2
    by_divisor None = record { nodes = omega arith; fresh = omega arith }
    by_divisor (Some k) =
        let pair = paired_adds before a k in
        record { nodes = omega (arith, pair.nodes); fresh = omega (arith, pair.fresh) }

quotients_add : (before : Progress) (a : Expr) (divisors : Exprs) → Adds before (quotients before a divisors) (nodes a + nodes_of divisors + 13 * count divisors) (2 * count divisors)
unfolding quotients
quotients_add before a none = record { nodes = omega arith; fresh = omega arith }
quotients_add before a (more b rest) =
    let one = quotient_adds before a b in
    let found : Lowered = quotient_by before a b in
    let others = quotients_add found.progress found.term rest in
    record { nodes = omega (arith, one.nodes, others.nodes); fresh = omega (arith, one.fresh, others.fresh) }

variable_nodes : (term : Expr) → is_variable term ≡ true → nodes term ≡ 1
variable_nodes (Variable i) e = refl
variable_nodes (Constant v) e = cc
variable_nodes (Apply f us) e = cc
variable_nodes (Invoke f us) e = cc
variable_nodes (Bind us u) e = cc

-- the variable is one node
record AddsVariable (before : Progress) (found : Lowered) (term : Expr) : Type 0 where
  one : nodes found.term ≡ 1
  nodes : nodes_of found.progress.sides ≤ nodes term + 2 + nodes_of before.sides
  fresh : length found.progress.sorts ≤ 1 + length before.sorts

variable_adds : (before : Progress) (a : Expr) → AddsVariable before (as_variable before a) a
unfolding equated
variable_adds before a = by_test (is_variable a) refl
  where
    by_test : (b : Bool) → is_variable a ≡ b → AddsVariable before (if b then record { term = a; progress = before } else equated before kinds.Int a) a
    by_test true e = record { one = variable_nodes a e; nodes = omega arith; fresh = omega arith }
    by_test false e = record {
      one = refl;
      nodes = omega (arith, nodes_append before.sides (more (equation (Variable (length before.sorts)) a) none));
      fresh = omega (arith, length-append before.sorts (kinds.Int ∷ []));
    }

absolute_adds : (before : Progress) (a : Expr) → Adds before (absolute_of before a) (nodes a + 9) 1
unfolding absolute_of
absolute_adds before a =
    let found = variable_adds before a in
    record { nodes = omega (arith, found.one, found.nodes); fresh = omega (arith, found.fresh) }

divided_adds : (before : Progress) (terms : Exprs) → 2 ≤ count terms → Adds before (divided before terms) (nodes_of terms + 13 * (count terms - 1)) (2 * (count terms - 1))
divided_adds before none h = absurd (omega arith)
divided_adds before (more a rest) h =
    let found = quotients_add before a rest in
    record { nodes = omega (arith, found.nodes); fresh = omega (arith, found.fresh) }

reduced_adds : (before : Progress) (terms : Exprs) → Adds before (reduced before terms) (nodes_of terms + 13) 2
reduced_adds before none = record { nodes = omega arith; fresh = omega arith }
reduced_adds before (more a none) = record { nodes = omega arith; fresh = omega arith }
reduced_adds before (more a (more b (more c rest))) = record { nodes = omega arith; fresh = omega arith }
reduced_adds before (more a (more b none)) =
    let found = remainder_adds before a b in
    record { nodes = omega (arith, found.nodes); fresh = omega (arith, found.fresh) }

unsigned_adds : (before : Progress) (terms : Exprs) → Adds before (unsigned before terms) (nodes_of terms + 9) 1
unsigned_adds before none = record { nodes = omega arith; fresh = omega arith }
unsigned_adds before (more a (more b rest)) = record { nodes = omega arith; fresh = omega arith }
unsigned_adds before (more a none) =
    let found = absolute_adds before a in
    record { nodes = omega (arith, found.nodes); fresh = omega (arith, found.fresh) }

-- small terms

record SmallTerm (before : Progress) (found : Lowered) (weight : ℕ) : Type 0 where
  nodes : nodes found.term + nodes_of found.progress.sides + 2 ≤ 20 * weight + nodes_of before.sides
  fresh : length found.progress.sorts + 1 ≤ 4 * weight + length before.sorts

record SmallTerms (before : Progress) (found : AllLowered) (weight : ℕ) : Type 0 where
  nodes : nodes_of found.terms + nodes_of found.progress.sides ≤ 20 * weight + nodes_of before.sides
  fresh : length found.progress.sorts ≤ 4 * weight + length before.sorts

-- each is one node
abbrev AreNames : Exprs → Type 0
AreNames none = Unit {0}
AreNames (more name names) = (nodes name ≡ 1) × AreNames names

names_append : (names others : Exprs) → AreNames names → AreNames others → AreNames (append names others)
names_append none others first second = second
names_append (more name names) others first second = (first.0, names_append names others first.1 second)

name_nodes : (names : Exprs) (i : ℕ) → AreNames names → nodes (name_at names i) ≡ 1
name_nodes none i all = refl
name_nodes (more name names) zero all = all.0
name_nodes (more name names) (suc i) all = name_nodes names i all.1

record SmallNames (before : Progress) (found : AllLowered) (weight : ℕ) : Type 0 where
  names : AreNames found.terms
  nodes : nodes_of found.progress.sides ≤ 20 * weight + nodes_of before.sides
  fresh : length found.progress.sorts ≤ 4 * weight + length before.sorts

applied_small : (before : Progress) (operator : Op) (found : AllLowered) (ss : List Sort) (sort : Sort) (w : ℕ) → owned operator ≡ true → sort_of operator ss ≡ Is sort → count found.terms ≡ length ss → SmallTerms before found w →
    SmallTerm before (applied operator found) (w + operator_weight operator (count found.terms) 1)
unfolding applied sort_of
applied_small before operator found ss sort w own e long small = by_step (step_of operator) refl
  where
    by_step : (step : Step) → step_of operator ≡ step → SmallTerm before (applied_by step operator found) (w + operator_weight operator (count found.terms) 1)
    by_step Itself h =
        let least = own_weight operator ss sort (count found.terms) own e long in
        record { nodes = omega (arith, least, small.nodes); fresh = omega (arith, least, small.fresh) }
    by_step Quotient h =
        let is = quotient_step operator h in
        let weighs : operator_weight operator (count found.terms) 1 ≡ 8 * (count found.terms - 1) = ap (λ (f : Op). operator_weight f (count found.terms) 1) is in
        let two : 2 ≤ count found.terms = omega (arith, long, two_each ss kinds.Int kinds.Int sort (ap (λ (f : Op). sort_of f ss) (sym is) ∙ e)) in
        let adds = divided_adds found.progress found.terms two in
        record { nodes = omega (arith, weighs, two, adds.nodes, small.nodes); fresh = omega (arith, weighs, two, adds.fresh, small.fresh) }
    by_step Remainder h =
        let is = remainder_step operator h in
        let weighs : operator_weight operator (count found.terms) 1 ≡ 8 = ap (λ (f : Op). operator_weight f (count found.terms) 1) is in
        let adds = reduced_adds found.progress found.terms in
        record { nodes = omega (arith, weighs, adds.nodes, small.nodes); fresh = omega (arith, weighs, adds.fresh, small.fresh) }
    by_step Magnitude h =
        let is = magnitude_step operator h in
        let weighs : operator_weight operator (count found.terms) 1 ≡ 4 = ap (λ (f : Op). operator_weight f (count found.terms) 1) is in
        let adds = unsigned_adds found.progress found.terms in
        record { nodes = omega (arith, weighs, adds.nodes, small.nodes); fresh = omega (arith, weighs, adds.fresh, small.fresh) }

is_one : (term : Expr) → is_name term ≡ true → nodes term ≡ 1
is_one (Variable i) e = refl
is_one (Constant v) e = refl
is_one (Apply f us) e = cc
is_one (Invoke f us) e = cc
is_one (Bind us u) e = cc

-- what a name stands for is one node
record SmallName (before : Progress) (found : Lowered) (weight : ℕ) : Type 0 where
  one : nodes found.term ≡ 1
  nodes : nodes_of found.progress.sides ≤ 20 * weight + nodes_of before.sides
  fresh : length found.progress.sorts ≤ 4 * weight + length before.sorts

named_small : (before : Progress) (found : Lowered) (sort : Sort) (w : ℕ) → sort_in integers found.progress.sorts found.term ≡ Some sort → SmallTerm before found w → SmallName before (named found) w
unfolding named equated
named_small before found sort w sorted small = by_test (is_name found.term) refl
  where
    by_sort : (o : Option Sort) → o ≡ Some sort → SmallName before (equated_at o found) w
    by_sort None e = cc
    by_sort (Some other) e = record {
      one = refl;
      nodes = omega (arith, small.nodes, nodes_append found.progress.sides (more (equation (Variable (length found.progress.sorts)) found.term) none));
      fresh = omega (arith, small.fresh, length-append found.progress.sorts (other ∷ []));
    }

    by_test : (b : Bool) → is_name found.term ≡ b → SmallName before (if b then found else equated_at (sort_in integers found.progress.sorts found.term) found) w
    by_test true e = record { one = is_one found.term e; nodes = omega (arith, small.nodes); fresh = omega (arith, small.fresh) }
    by_test false e = by_sort (sort_in integers found.progress.sorts found.term) sorted

-- the walk

mutual
  unfolding lowered all_lowered bound_lowered sort_in sorts_in has_integers have_integers weights

  small_walked : (names : Exprs) → AreNames names → (ns : List Sort) → All IsKnown ns → (before : Progress) → Stands before → Names before names ns → (term : Expr) → has_integers term ≡ true → (sort : Sort) → sort_in integers ns term ≡ Some sort →
      SmallTerm before (lowered names before term) (weight integers ns term)
  small_walked names all ns known before stands own (Constant value) whole sort e =
      let weighs = constant_weight ns value sort (sort_known ns known (Constant value) whole sort e) e in
      record { nodes = omega (arith, weighs); fresh = omega (arith, weighs) }
  small_walked names all ns known before stands own (Variable i) whole sort e =
      let weighs = variable_weight ns i sort (sort_known ns known (Variable i) whole sort e) e in
      record { nodes = omega (arith, weighs, name_nodes names i all); fresh = omega (arith, weighs) }
  small_walked names all ns known before stands own (Apply operator arguments) whole sort e =
      let parts = applied_sort_Some integers operator (sorts_in integers ns arguments) sort e in
      let found : AllLowered = all_lowered names before arguments in
      let made = all_walked names ns known before stands own arguments whole parts.sorts parts.is in
      let small = small_all names all ns known before stands own arguments whole parts.sorts parts.is in
      let long = count_sorts found.progress.sorts found.terms parts.sorts made.sorted in
      let same : count found.terms ≡ count arguments = long ∙ sym (count_sorts ns arguments parts.sorts parts.is) in
      let weighs = apply_weight ns operator arguments sort (sort_known ns known (Apply operator arguments) whole sort e) e in
      subst (SmallTerm before (applied operator found)) (ap (λ n. weights integers ns arguments + operator_weight operator n 1) same ∙ sym weighs)
      (applied_small before operator found parts.sorts sort (weights integers ns arguments) parts.owned parts.fits long small)
  small_walked names all ns known before stands own (Invoke function arguments) whole sort e = uncalled ns function arguments sort e
  small_walked names all ns known before stands own (Bind bound inner) whole sort e =
      let both = both_true (have_integers bound) (has_integers inner) whole in
      let parts = after_Some (sorts_in integers ns bound) (λ found. sort_in integers (ns ++ found) inner) sort e in
      let found : AllLowered = bound_lowered names before bound in
      let made = bound_walked names ns known before stands own bound both.0 parts.sorts parts.is in
      let first = small_bound names all ns known before stands own bound both.0 parts.sorts parts.is in
      let later = names_more found.progress names found.terms ns parts.sorts (names_on before found.progress made.goes names ns own) made.plain made.sorted in
      let second = small_walked (append names found.terms) (names_append names found.terms all first.names) (ns ++ parts.sorts) (All-append IsKnown ns parts.sorts known (sorts_known ns known bound both.0 parts.sorts parts.is)) found.progress made.stands later inner both.1 sort parts.next_is in
      let weighs = bind_weight ns bound inner parts.sorts sort (sort_known ns known (Bind bound inner) whole sort e) parts.is e in
      record { nodes = omega (arith, first.nodes, second.nodes, weighs); fresh = omega (arith, first.fresh, second.fresh, weighs) }

  small_all : (names : Exprs) → AreNames names → (ns : List Sort) → All IsKnown ns → (before : Progress) → Stands before → Names before names ns → (terms : Exprs) → have_integers terms ≡ true → (found : List Sort) → sorts_in integers ns terms ≡ Some found →
      SmallTerms before (all_lowered names before terms) (weights integers ns terms)
  small_all names all ns known before stands own none whole found e = record { nodes = omega arith; fresh = omega arith }
  small_all names all ns known before stands own (more term terms) whole found e =
      let both = both_true (has_integers term) (have_integers terms) whole in
      let parts = with_sort_Some (sort_in integers ns term) (sorts_in integers ns terms) found e in
      let first : Lowered = lowered names before term in
      let made = walked names ns known before stands own term both.0 parts.sort parts.first_is in
      let one = small_walked names all ns known before stands own term both.0 parts.sort parts.first_is in
      let others = small_all names all ns known first.progress made.stands (names_on before first.progress made.goes names ns own) terms both.1 parts.sorts parts.rest_is in
      record { nodes = omega (arith, one.nodes, others.nodes); fresh = omega (arith, one.fresh, others.fresh) }

  small_bound : (names : Exprs) → AreNames names → (ns : List Sort) → All IsKnown ns → (before : Progress) → Stands before → Names before names ns → (terms : Exprs) → have_integers terms ≡ true → (found : List Sort) → sorts_in integers ns terms ≡ Some found →
      SmallNames before (bound_lowered names before terms) (weights integers ns terms)
  small_bound names all ns known before stands own none whole found e = record { names = tt; nodes = omega arith; fresh = omega arith }
  small_bound names all ns known before stands own (more term terms) whole found e =
      let both = both_true (has_integers term) (have_integers terms) whole in
      let parts = with_sort_Some (sort_in integers ns term) (sorts_in integers ns terms) found e in
      let walked_first : Lowered = lowered names before term in
      let first : Lowered = named walked_first in
      let made = walked names ns known before stands own term both.0 parts.sort parts.first_is in
      let after_name = named_made before walked_first parts.sort _ (sort_known ns known term both.0 parts.sort parts.first_is) made in
      let one = named_small before walked_first parts.sort (weight integers ns term) made.sorted (small_walked names all ns known before stands own term both.0 parts.sort parts.first_is) in
      let others = small_bound names all ns known first.progress after_name.stands (names_on before first.progress after_name.goes names ns own) terms both.1 parts.sorts parts.rest_is in
      record { names = (one.one, others.names); nodes = omega (arith, one.nodes, others.nodes); fresh = omega (arith, one.fresh, others.fresh) }

-- queries

variables_names : (n : ℕ) → AreNames (first_variables n)
variables_names zero = tt
variables_names (suc n) = names_append (first_variables n) (more (Variable n) none) (variables_names n) (refl, tt)

pub lowering_small : (query : Query) → QueryFits owned numeric query → has_integers query.body ≡ true → IsSmall query (lowering query)
unfolding lowering
lowering_small query fits whole = by_test (has_divisions query.body)
  where
    by_test : (b : Bool) → IsSmall query (if b then with_sides (lowered (first_variables (length query.variables)) (begun query.variables) query.body) else query)
    by_test true =
        let found : Lowered = lowered (first_variables (length query.variables)) (begun query.variables) query.body in
        let small = small_walked (first_variables (length query.variables)) (variables_names (length query.variables)) query.variables fits.variables (begun query.variables) (stands_begun query fits) (names_begun query.variables) query.body whole kinds.Bool fits.body in
        record {
          nodes = omega (arith, small.nodes, nodes_append found.progress.sides (more found.term none));
          variables = omega (arith, small.fresh);
        }
    by_test false =
        record { nodes = omega (arith, nodes_weigh query.variables fits.variables query.body whole kinds.Bool fits.body); variables = omega arith }
