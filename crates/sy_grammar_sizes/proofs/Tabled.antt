-- Tables that grow until no rule gives more.
use Rattle.std.proofs.Common.{◌≡◌, ℕ, zero, suc, ◌+◌, ◌<◌, ◌≤◌, List, [], ◌∷◌, length, refl, ap, sym, ◌∙◌, arith, subst, Option, Some, None, slice_get, set, min, ◌⊎◌, inl, inr}
use Rattle.std.specs.Option.{MatchOption}
use Rattle.std.proofs.lemmas.List.{length-set}
use Rattle.sy_terms.specs.Values.{Val}
use Rattle.sy_terms.specs.Expr.{Expr}
use Rattle.sy_grammar_base.specs.Patterns.{Pattern, occurring, own_size}
use Rattle.sy_grammar_base.specs.Trees as trees
use Rattle.sy_grammar_base.specs.Trees.{Syntax, Tree, Trees, Template, Derives, rule_at, yield_from, yields_from, tree_size, tree_sizes}
use Rattle.sy_grammar_sizes.specs.Greatest.{IsSize, DerivesNothing, IsLargest, IsExceeded}
use Rattle.sy_grammar_sizes.specs.Tables.{table_entry, entry_in_table, sizes_plus, entries_total, cut, pattern_size, Exceeds, IsImproved, IsStable, IsTable, slack}
use Rattle.sy_grammar_sizes.proofs.Derived.{constant_leaf, variable_leaf, node_is, node_derives, joined_from, joined_to}
use Rattle.sy_grammar_sizes.proofs.Lists.{get-set, get-set_kept}

plus_Some : (first rest : Option ℕ) (sum : ℕ) → sizes_plus first rest ≡ Some sum → (m n : ℕ) × (first ≡ Some m) × (rest ≡ Some n) × (sum ≡ m + n)
plus_Some None rest sum e = absurd cc
plus_Some (Some m) None sum e = absurd cc
plus_Some (Some m) (Some n) sum e = (m, n, refl, refl, cc)

plus_of : (first rest : Option ℕ) (m n : ℕ) → first ≡ Some m → rest ≡ Some n → sizes_plus first rest ≡ Some (m + n)
plus_of first rest m n e f = rw (e, f) refl

-- derivations from the nonterminals, with the sum of their sizes
record AreDerived (syntax : Syntax) (pool : List Val) (limit : ℕ) (nonterminals : List ℕ) (sum : ℕ) : Type 0 where
  pub children : Trees
  pub terms : List Expr
  pub yields : yields_from syntax nonterminals children ≡ Some terms
  pub is : min limit (tree_sizes syntax pool nonterminals children) ≡ min limit sum

derived_total : (syntax : Syntax) (pool : List Val) (limit : ℕ) (table : List (Option ℕ)) → IsTable syntax pool limit table → (nonterminals : List ℕ) (sum : ℕ) → entries_total table nonterminals ≡ Some sum → AreDerived syntax pool limit nonterminals sum
unfolding entries_total yields_from yield_from tree_sizes tree_size
derived_total syntax pool limit table is [] sum e = let none : 0 ≡ sum = cc in record { children = trees.none; terms = []; yields = refl; is = ap (min limit) none }
derived_total syntax pool limit table is (n ∷ ns) sum e =
    let parts = plus_Some (table_entry table n) (entries_total table ns) sum e in
    let first = is.sound n parts.0 parts.2 in
    let rest = derived_total syntax pool limit table is ns parts.1 parts.3 in
    record {
      children = trees.more first.1.tree rest.children;
      terms = first.1.term ∷ rest.terms;
      yields = joined_to (yield_from syntax n first.1.tree) (yields_from syntax ns rest.children) first.1.term rest.terms first.1.derives rest.yields;
      is = let size = first.1.is in let below = rest.is in let cut = first.2 in let whole = parts.4 in omega (arith, size, below, cut, whole);
    }

cut_Some : (limit own : ℕ) (sum : Option ℕ) (size : ℕ) → cut limit own sum ≡ Some size → (n : ℕ) × (sum ≡ Some n) × (size ≡ min limit (own + n))
cut_Some limit own None size e = absurd cc
cut_Some limit own (Some n) size e = (n, refl, cc)

improved_size : (syntax : Syntax) (pool : List Val) (limit : ℕ) (table : List (Option ℕ)) (nonterminal size : ℕ) → IsTable syntax pool limit table → IsImproved syntax limit table nonterminal size →
    (found : ℕ) × IsSize syntax pool nonterminal found × (min limit found ≡ size)
improved_size syntax pool limit table nonterminal size is improved =
    let sum = cut_Some limit (own_size improved.pattern) (entries_total table (occurring improved.pattern)) size improved.is in
    let derived = derived_total syntax pool limit table is (occurring improved.pattern) sum.0 sum.1 in (
      own_size improved.pattern + tree_sizes syntax pool (occurring improved.pattern) derived.children,
      node_derives syntax pool nonterminal improved.rule improved.pattern derived.children derived.terms improved.at derived.yields,
      let below = derived.is in let size_is = sum.2 in omega (arith, below, size_is),
    )

entry_at : (table : List (Option ℕ)) (n best : ℕ) → table_entry table n ≡ Some best → slice_get table n ≡ Some (Some best)
entry_at table n best e = found (slice_get table n) e
  where
    found : (o : Option (Option ℕ)) → entry_in_table o ≡ Some best → o ≡ Some (Some best)
    found None e = absurd cc
    found (Some None) e = absurd cc
    found (Some (Some m)) e = ap Some e

entry_from : (table : List (Option ℕ)) (n best : ℕ) → slice_get table n ≡ Some (Some best) → table_entry table n ≡ Some best
entry_from table n best at = ap entry_in_table at

exceeded : (known : Option ℕ) (size best : ℕ) → Exceeds known size → known ≡ Some best → best < size
exceeded None size best larger e = absurd cc
exceeded (Some m) size best larger e = let same : m ≡ best = cc in omega (arith, larger, same)

-- a larger size is entered
pub table_more : (syntax : Syntax) (pool : List Val) (limit : ℕ) (table : List (Option ℕ)) (nonterminal size : ℕ) → IsTable syntax pool limit table → nonterminal < length table → IsImproved syntax limit table nonterminal size →
    IsTable syntax pool limit (set table nonterminal (Some size))
table_more syntax pool limit table nonterminal size is within improved = record {
  sized = length-set table nonterminal (Some size) ∙ is.sized;
  sound = λ n best e. elim (get-set table nonterminal n (Some size) (Some best) (entry_at (set table nonterminal (Some size)) n best e)) [
    | inl new ↦
        let same : best ≡ size = (let two = new.1 in cc) in
        let found = improved_size syntax pool limit table nonterminal size is improved in
        (found.0, subst (λ m. IsSize syntax pool m found.0) (sym new.0) found.1, found.2 ∙ sym same)
    | inr old ↦ is.sound n best (entry_from table n best old)
  ];
  leaves = λ n rule production leaf at gives.
      let old = is.leaves n rule production leaf at gives in
      elim (get-set_kept table nonterminal n (Some size) (Some old.0) (entry_at table n old.0 old.1)) [
        | inl new ↦
            let rises = exceeded (table_entry table nonterminal) size old.0 improved.larger (ap (table_entry table) (sym new.0) ∙ old.1) in
            (size, entry_from (set table nonterminal (Some size)) n size new.1, let bound = old.2 in omega (arith, rises, bound))
        | inr kept ↦ (old.0, entry_from (set table nonterminal (Some size)) n old.0 kept, old.2)
      ];
}

slack_here : (limit : ℕ) (table : List (Option ℕ)) (n size : ℕ) → n < length table → size ≤ limit → Exceeds (table_entry table n) size → slack limit (set table n (Some size)) < slack limit table
slack_here limit [] n size within le larger = absurd (omega arith)
slack_here limit (None ∷ table) zero size within le larger = omega arith
slack_here limit (Some best ∷ table) zero size within le larger = omega (arith, larger)
slack_here limit (None ∷ table) (suc n) size within le larger = let h = slack_here limit table n size (omega arith) le larger in omega (arith, h)
slack_here limit (Some best ∷ table) (suc n) size within le larger = let h = slack_here limit table n size (omega arith) le larger in omega (arith, h)

pub slack_less : (syntax : Syntax) (limit : ℕ) (table : List (Option ℕ)) (nonterminal size : ℕ) → nonterminal < length table → IsImproved syntax limit table nonterminal size → slack limit (set table nonterminal (Some size)) < slack limit table
slack_less syntax limit table nonterminal size within improved =
    let sum = cut_Some limit (own_size improved.pattern) (entries_total table (occurring improved.pattern)) size improved.is in
    slack_here limit table nonterminal size within (let is = sum.2 in omega (arith, is)) improved.larger

-- the entry bounds each size, as far as the limit
record IsBound (limit : ℕ) (table : List (Option ℕ)) (nonterminal size : ℕ) : Type 0 where
  pub best : ℕ
  pub at : table_entry table nonterminal ≡ Some best
  pub bounds : min limit size ≤ best

record AreBounds (limit : ℕ) (table : List (Option ℕ)) (nonterminals : List ℕ) (sizes : ℕ) : Type 0 where
  pub sum : ℕ
  pub is : entries_total table nonterminals ≡ Some sum
  pub bounds : min limit sizes ≤ sum

stable_bound : (syntax : Syntax) (limit : ℕ) (table : List (Option ℕ)) (nonterminal rule : ℕ) (pattern : Pattern) (size : ℕ) → IsStable syntax limit table → rule_at syntax nonterminal rule ≡ Some (Template pattern) → pattern_size limit table pattern ≡ Some size →
    (known : Option ℕ) → table_entry table nonterminal ≡ known → (best : ℕ) × (table_entry table nonterminal ≡ Some best) × (size ≤ best)
stable_bound syntax limit table nonterminal rule pattern size stable at is None e =
    absurd (stable nonterminal size (record { rule = rule; pattern = pattern; at = at; is = is; larger = subst (λ k. Exceeds k size) (sym e) tt }))
stable_bound syntax limit table nonterminal rule pattern size stable at is (Some best) e = elim (order best size) [
  | inl less ↦ absurd (stable nonterminal size (record { rule = rule; pattern = pattern; at = at; is = is; larger = subst (λ k. Exceeds k size) (sym e) less }))
  | inr le ↦ (best, e, le)
]
  where
    order : (a b : ℕ) → (a < b) ⊎ (b ≤ a)
    order a b = grind arith

mutual
  unfolding entries_total yields_from yield_from tree_sizes tree_size

  bound : (syntax : Syntax) (pool : List Val) (limit : ℕ) (table : List (Option ℕ)) → IsTable syntax pool limit table → IsStable syntax limit table → (tree : Tree) (nonterminal : ℕ) (term : Expr) →
      Derives syntax nonterminal tree term → IsBound limit table nonterminal (tree_size syntax pool nonterminal tree)
  bound syntax pool limit table is stable (trees.Node rule children) nonterminal term derives =
      let node = node_is syntax pool nonterminal rule children term derives in
      let below = bounds syntax pool limit table is stable children (occurring node.pattern) node.terms node.yields in
      let known = stable_bound syntax limit table nonterminal rule node.pattern (min limit (own_size node.pattern + below.sum)) stable node.at (ap (cut limit (own_size node.pattern)) below.is) (table_entry table nonterminal) refl in
      record { best = known.0; at = known.1; bounds = let size = node.is in let inner = below.bounds in let outer = known.2 in omega (arith, size, inner, outer) }
  bound syntax pool limit table is stable (trees.ConstantLeaf rule value) nonterminal term derives =
      let leaf = constant_leaf syntax pool nonterminal rule value term derives in
      let known = is.leaves nonterminal rule leaf.production _ leaf.at leaf.gives in
      record { best = known.0; at = known.1; bounds = known.2 }
  bound syntax pool limit table is stable (trees.VariableLeaf rule position) nonterminal term derives =
      let leaf = variable_leaf syntax pool nonterminal rule position term derives in
      let known = is.leaves nonterminal rule leaf.production _ leaf.at leaf.gives in
      record { best = known.0; at = known.1; bounds = known.2 }

  bounds : (syntax : Syntax) (pool : List Val) (limit : ℕ) (table : List (Option ℕ)) → IsTable syntax pool limit table → IsStable syntax limit table → (children : Trees) (nonterminals : List ℕ) (terms : List Expr) →
      yields_from syntax nonterminals children ≡ Some terms → AreBounds limit table nonterminals (tree_sizes syntax pool nonterminals children)
  bounds syntax pool limit table is stable trees.none [] terms yields = record { sum = 0; is = refl; bounds = omega arith }
  bounds syntax pool limit table is stable trees.none (n ∷ ns) terms yields = absurd cc
  bounds syntax pool limit table is stable (trees.more child children) [] terms yields = absurd cc
  bounds syntax pool limit table is stable (trees.more child children) (n ∷ ns) terms yields =
      let parts = joined_from (yield_from syntax n child) (yields_from syntax ns children) terms yields in
      let first = bound syntax pool limit table is stable child n parts.head parts.head_is in
      let rest = bounds syntax pool limit table is stable children ns parts.tail parts.tail_is in
      record { sum = first.best + rest.sum; is = plus_of (table_entry table n) (entries_total table ns) first.best rest.sum first.at rest.is; bounds = let one = first.bounds in let others = rest.bounds in omega (arith, one, others) }

size_bound : (syntax : Syntax) (pool : List Val) (limit : ℕ) (table : List (Option ℕ)) → IsTable syntax pool limit table → IsStable syntax limit table → (nonterminal size : ℕ) → IsSize syntax pool nonterminal size → IsBound limit table nonterminal size
size_bound syntax pool limit table is stable nonterminal size of = subst (IsBound limit table nonterminal) of.is (bound syntax pool limit table is stable of.tree nonterminal of.term of.derives)

-- what the start symbol's entry says at the end
pub largest_met : (syntax : Syntax) (pool : List Val) (limit : ℕ) (table : List (Option ℕ)) (best : ℕ) → IsTable syntax pool limit table → IsStable syntax limit table → table_entry table 0 ≡ Some best → best < limit → IsLargest syntax pool best
largest_met syntax pool limit table best is stable at below =
    let found = is.sound 0 best at in
    let exact : found.0 ≡ best = (let cut = found.2 in omega (arith, cut, below)) in
    record {
      bounds = λ other of.
          let b = size_bound syntax pool limit table is stable 0 other of in
          let same : b.best ≡ best = (let one = b.at in cc) in
          let inner = b.bounds in
          omega (arith, same, inner, below);
      met = inl (subst (IsSize syntax pool 0) exact found.1);
    }

pub largest_none : (syntax : Syntax) (pool : List Val) (limit : ℕ) (table : List (Option ℕ)) → IsTable syntax pool limit table → IsStable syntax limit table → table_entry table 0 ≡ None → IsLargest syntax pool 0
largest_none syntax pool limit table is stable none = record {
  bounds = λ other of. absurd (empty other of);
  met = inr (empty, refl);
}
  where
    empty : DerivesNothing syntax pool 0
    empty other of = let b = size_bound syntax pool limit table is stable 0 other of in let one = b.at in cc

pub largest_exceeded : (syntax : Syntax) (pool : List Val) (limit : ℕ) (table : List (Option ℕ)) (cap best : ℕ) → limit ≡ cap + 1 → IsTable syntax pool limit table → table_entry table 0 ≡ Some best → cap < best → IsExceeded syntax pool cap
largest_exceeded syntax pool limit table cap best limit_is is at more =
    let found = is.sound 0 best at in
    (found.0, (let cut = found.2 in omega (arith, cut, more, limit_is)), found.1)

-- what the start symbol's entry says, against the cap
pub largest_is : (syntax : Syntax) (pool : List Val) (limit cap : ℕ) (table : List (Option ℕ)) (start found : Option ℕ) → limit ≡ cap + 1 → IsTable syntax pool limit table → IsStable syntax limit table → start ≡ table_entry table 0 →
    MatchOption found ((size : ℕ) × (start ≡ Some size) × (cap < size)) (λ size. (size ≤ cap) × ((start ≡ Some size) ⊎ ((start ≡ None) × (size ≡ 0)))) →
    MatchOption found (IsExceeded syntax pool cap) (λ size. IsLargest syntax pool size × (size ≤ cap))
largest_is syntax pool limit cap table start None limit_is is stable start_is said =
    largest_exceeded syntax pool limit table cap said.0 limit_is is (sym start_is ∙ said.1) said.2
largest_is syntax pool limit cap table start (Some n) limit_is is stable start_is said = (largest said.1, said.0)
  where
    largest : (start ≡ Some n) ⊎ ((start ≡ None) × (n ≡ 0)) → IsLargest syntax pool n
    largest (inl met) = largest_met syntax pool limit table n is stable (sym start_is ∙ met) (let le = said.0 in omega (arith, limit_is, le))
    largest (inr none) = subst (IsLargest syntax pool) (sym none.1) (largest_none syntax pool limit table is stable (sym start_is ∙ none.0))
