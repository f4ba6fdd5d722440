-- Each node of a term without calls weighs 1 or more.
use Rattle.std.specs.Prelude.{ℕ, zero, suc, ◌*◌, ◌-◌, ◌≤◌, Bool, true, ◌&&◌, nat_le, nat_lt, ◌^◌, List, [], ◌∷◌, ◌++◌, ◌≡◌, length, slice_get, All, Some}
use Rattle.std.proofs.Common.{arith, subst}
use Rattle.std.proofs.lemmas.Bool.{leb-true}
use Rattle.std.proofs.lemmas.Option.{none-some}
use Rattle.std.proofs.lemmas.List.Elements.{All-nil, All-cons, All-head, All-tail, All-append}
use Rattle.sy_terms.specs.Values.{Val, Truth, Whole, Bits}
use Rattle.sy_terms.specs.Expr as expr
use Rattle.sy_terms.specs.Expr.{Expr, Exprs, Constant, Variable, Apply, Invoke, Bind, nodes, nodes_of}
use Rattle.sy_terms.specs.Fitting.{sort_in, sorts_in}
use Rattle.sy_terms.specs.Sorts.{sort_of}
use Rattle.sy_terms.specs.Theories.{valid, sort_of_value}
use Rattle.sy_terms.specs.declared.op.Op.{Op}
use Rattle.sy_terms.specs.declared.op.Op.TheVariants as ops
use Rattle.sy_terms.specs.declared.sort.Sort.{Sort}
use Rattle.sy_terms.specs.declared.sort.Sort.TheVariants as sorts
use Rattle.sy_terms.specs.declared.sorts.Sorted.TheVariants.{Is}
use Rattle.sy_terms.specs.declared.term.Fun.TheVariants.{Defined, Wanted}
use Rattle.sy_terms_operators.proofs.Equations.{both_true, if_Some, applied_sort_Some, after_Some, with_sort_Some}
use Rattle.sy_query_base.specs.Placed.{count}
use Rattle.sy_query_base.specs.Weights.{weight, weights, sort_weight, operator_weight, query_scope}
use Rattle.sy_query.specs.Sized.{IsSized}
use Rattle.sy_query.proofs.Sizes.{sort_of-sized, distinct-two, product-two, division-two}
use Rattle.sy_query.proofs.Sorted.{sorts_in-length}

pub sort_weight-least : (s : Sort) → IsSized s → 1 ≤ sort_weight (Some s)
sort_weight-least sorts.Bool sized = omega arith
sort_weight-least sorts.Int sized = omega arith
sort_weight-least (sorts.Bits w) sized = sized.0

product-least : (a b : ℕ) → 1 ≤ a → 1 ≤ b → 1 ≤ a * b
product-least zero b g h = absurd (omega (arith, g))
product-least (suc a) b g h = omega (arith, h)

-- products, `distinct` and `div` have two arguments or more
abbrev TakesTwo : Op → ℕ → Type 0
TakesTwo ops.BvMul n = 2 ≤ n
TakesTwo ops.Distinct n = 2 ≤ n
TakesTwo ops.Div n = 2 ≤ n
TakesTwo _ n = Unit {0}

takes_two : (op : Op) (ss : List Sort) (t : Sort) → sort_of op ss ≡ Is t → TakesTwo op (length ss)
takes_two ops.BvMul ss t e = product-two ss t e
takes_two ops.Distinct ss t e = distinct-two ss t e
takes_two ops.Div ss t e = division-two ss t e
takes_two _ ss t e = tt

operator-least : (op : Op) (n own : ℕ) → TakesTwo op n → 1 ≤ own → 1 ≤ operator_weight op n own
operator-least ops.BvUdiv n own two least = product-least own own least least
operator-least ops.BvUrem n own two least = product-least own own least least
operator-least ops.BvSdiv n own two least = product-least own own least least
operator-least ops.BvSrem n own two least = product-least own own least least
operator-least ops.BvSmod n own two least = product-least own own least least
operator-least ops.BvShl n own two least = product-least own own least least
operator-least ops.BvLshr n own two least = product-least own own least least
operator-least ops.BvAshr n own two least = product-least own own least least
operator-least ops.BvMul n own two least = product-least (n - 1) (own * own) (omega (arith, two)) (product-least own own least least)
operator-least ops.Distinct n own two least = product-least n n (omega (arith, two)) (omega (arith, two))
operator-least ops.Div n own two least = omega (arith, two)
operator-least ops.Mod n own two least = omega arith
operator-least ops.Abs n own two least = omega arith
operator-least _ n own two least = least

valid-sized : (v : Val) → valid v ≡ true → IsSized (sort_of_value v)
valid-sized (Truth b) e = tt
valid-sized (Whole z) e = tt
valid-sized (Bits w n) e =
    let first = both_true (nat_le 1 w) (nat_le w 64 && nat_lt n (2 ^ w)) e in
    let second = both_true (nat_le w 64) (nat_lt n (2 ^ w)) first.1 in
    (leb-true 1 w first.0, leb-true w 64 second.0)

at-sized : (ss : List Sort) (i : ℕ) (s : Sort) → All IsSized ss → slice_get ss i ≡ Some s → IsSized s
at-sized [] i s all e = absurd (none-some s e)
at-sized (t ∷ ss) zero s all e =
    let same : t ≡ s = cc in
    subst IsSized same (All-head IsSized t ss all)
at-sized (t ∷ ss) (suc i) s all e = at-sized ss i s (All-tail IsSized t ss all) e

mutual
  unfolding sort_in sorts_in weight weights

  -- a term without calls over such sorts has such a sort, and weighs no less than it has nodes
  pub weighs : (owned : Op → Bool) (ss : List Sort) → All IsSized ss → (term : Expr) (s : Sort) → sort_in (query_scope owned) ss term ≡ Some s → IsSized s × (nodes term ≤ weight (query_scope owned) ss term)
  weighs owned ss all (Constant value) s e =
      let parts = if_Some (valid value) (sort_of_value value) s e in
      let sized = subst IsSized parts.1 (valid-sized value parts.0) in
      (sized, rw e (sort_weight-least s sized))
  weighs owned ss all (Variable position) s e =
      let sized = at-sized ss position s all e in
      (sized, rw e (sort_weight-least s sized))
  weighs owned ss all (Apply operator arguments) s e =
      let parts = applied_sort_Some (query_scope owned) operator (sorts_in (query_scope owned) ss arguments) s e in
      let below = all-weigh owned ss all arguments parts.sorts parts.is in
      let sized = sort_of-sized operator parts.sorts s below.0 parts.fits in
      let many = sorts_in-length (query_scope owned) ss arguments parts.sorts parts.is in
      let two = subst (TakesTwo operator) many (takes_two operator parts.sorts s parts.fits) in
      let own = operator-least operator (count arguments) (sort_weight (Some s)) two (sort_weight-least s sized) in
      let under = below.1 in
      (sized, rw e (omega (arith, under, own)))
  weighs owned ss all (Invoke (Defined f) arguments) s e = absurd (none-some s e)
  weighs owned ss all (Invoke (Wanted f) arguments) s e = absurd (none-some s e)
  weighs owned ss all (Bind bound inner) s e =
      let parts = after_Some (sorts_in (query_scope owned) ss bound) (λ (more : List Sort). sort_in (query_scope owned) (ss ++ more) inner) s e in
      let below = all-weigh owned ss all bound parts.sorts parts.is in
      let within = weighs owned (ss ++ parts.sorts) (All-append IsSized ss parts.sorts all below.0) inner s parts.next_is in
      let own = sort_weight-least s within.0 in
      let under = below.1 in
      let inside = within.1 in
      (within.0, rw (e, parts.is) (omega (arith, under, inside, own)))

  pub all-weigh : (owned : Op → Bool) (ss : List Sort) → All IsSized ss → (terms : Exprs) (found : List Sort) → sorts_in (query_scope owned) ss terms ≡ Some found → All IsSized found × (nodes_of terms ≤ weights (query_scope owned) ss terms)
  all-weigh owned ss all expr.none found e =
      let empty : [] ≡ found = cc in
      (subst (All IsSized) empty (All-nil IsSized), omega arith)
  all-weigh owned ss all (expr.more first rest) found e =
      let parts = with_sort_Some (sort_in (query_scope owned) ss first) (sorts_in (query_scope owned) ss rest) found e in
      let one = weighs owned ss all first parts.sort parts.first_is in
      let others = all-weigh owned ss all rest parts.sorts parts.rest_is in
      let here = one.1 in
      let there = others.1 in
      (subst (All IsSized) parts.whole_is (All-cons IsSized parts.sort parts.sorts one.0 others.0), omega (arith, here, there))

-- a list has no more terms than nodes
pub count-nodes : (terms : Exprs) → count terms ≤ nodes_of terms
count-nodes expr.none = omega arith
count-nodes (expr.more first rest) = omega (arith, count-nodes rest, nodes-least first)
  where
    nodes-least : (term : Expr) → 1 ≤ nodes term
    nodes-least (Constant value) = omega arith
    nodes-least (Variable position) = omega arith
    nodes-least (Apply operator arguments) = omega arith
    nodes-least (Invoke function arguments) = omega arith
    nodes-least (Bind bound inner) = omega arith
