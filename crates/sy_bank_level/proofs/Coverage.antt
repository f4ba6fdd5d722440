-- A saturated bank covers: by induction over derivations, each of which is matched by one of kept terms.
use Rattle.std.proofs.Common.{◌≡◌, ◌≤◌, ◌+◌, ℕ, List, [], ◌∷◌, refl, sym, Option, Some, None, All, arith, subst}
use Rattle.std.specs.Option.{option_map}
use Rattle.sy_terms.specs.Values.{Val}
use Rattle.sy_terms.specs.Expr.{Expr}
use Rattle.sy_terms.specs.Meaning.{Function}
use Rattle.sy_grammar_base.specs.Patterns.{Pattern, occurring, filled, own_size}
use Rattle.sy_grammar_base.specs.Trees as trees
use Rattle.sy_grammar_base.specs.Trees.{Syntax, Production, Template, EachConstant, EachVariable, Tree, Trees, Node, ConstantLeaf, VariableLeaf, rule_at, node_yield, constant_yield, variable_yield, terms_joined, yield_from, yields_from, tree_size, tree_sizes, node_size, constant_size}
use Rattle.sy_bank_level.specs.Rows.{IsRow}
use Rattle.sy_bank_level.specs.Banks.{Entry, Merged, IsKept, IsHonestBank}
use Rattle.sy_bank_level.specs.Covering.{IsCovered, Covers, AreKept, sizes, terms, Offers, IsSaturated}
use Rattle.sy_bank_level.proofs.Alike.{AllAlike, filled_alike, rows_alike, row_of_alike}

-- a kept term for each nonterminal, with the rows of these terms
pub record AreCovered (syntax : Syntax) (defined : List Function) (bank : Merged) (nonterminals : List ℕ) (size : ℕ) (found : List Expr) : Type 0 where
  pub chosen : List Entry
  pub kept : AreKept bank.levels nonterminals chosen
  pub small : sizes chosen ≤ size
  pub alike : All (λ point. AllAlike defined point found (terms chosen)) bank.points

record IsJoined (first : Option Expr) (rest : Option (List Expr)) (found : List Expr) : Type 0 where
  pub term : Expr
  pub more : List Expr
  pub first_is : first ≡ Some term
  pub rest_is : rest ≡ Some more
  pub whole : found ≡ term ∷ more

parted : (first : Option Expr) (rest : Option (List Expr)) (found : List Expr) → terms_joined first rest ≡ Some found → IsJoined first rest found
parted None rest found e = cc
parted (Some term) None found e = cc
parted (Some term) (Some more) found e = record { term = term; more = more; first_is = refl; rest_is = refl; whole = cc }

record IsFilled (pattern : Pattern) (parts : Option (List Expr)) (term : Expr) : Type 0 where
  pub found : List Expr
  pub parts_are : parts ≡ Some found
  pub whole : term ≡ filled pattern found

filled_by : (pattern : Pattern) (parts : Option (List Expr)) (term : Expr) → option_map (filled pattern) parts ≡ Some term → IsFilled pattern parts term
filled_by pattern None term e = cc
filled_by pattern (Some found) term e = record { found = found; parts_are = refl; whole = cc }

-- a kept term has its row
kept_row : (syntax : Syntax) (defined : List Function) (pool : List Val) (bank : Merged) (nonterminal : ℕ) (entry : Entry) → IsHonestBank syntax defined pool bank → IsKept bank.levels nonterminal entry → IsRow defined bank.points entry.term entry.row
kept_row syntax defined pool bank nonterminal entry honest kept = (honest.each nonterminal kept.size kept.place entry kept.at).1.row

-- where kept terms match the parts of a template, what the rule gives of the kept terms matches what it gives of the parts
matched : (syntax : Syntax) (defined : List Function) (pool : List Val) (bank : Merged) (nonterminal rule : ℕ) (pattern : Pattern) (size : ℕ) (found : List Expr) →
    IsSaturated syntax defined pool bank → rule_at syntax nonterminal rule ≡ Some (Template pattern) → own_size pattern + size ≤ bank.upto →
    AreCovered syntax defined bank (occurring pattern) size found →
    IsCovered defined bank.points bank.levels nonterminal (own_size pattern + size) (filled pattern found)
matched syntax defined pool bank nonterminal rule pattern size found saturated at small covered =
    let less = covered.small in
    let made = saturated nonterminal rule (own_size pattern + sizes covered.chosen) (filled pattern (terms covered.chosen))
    (subst (λ (p : Option Production). Offers syntax pool bank.levels p (own_size pattern + sizes covered.chosen) (filled pattern (terms covered.chosen))) (sym at) (covered.chosen, covered.kept, refl, refl))
    (omega (arith, less, small)) in
    let smaller = made.small in
    record {
      entry = made.entry;
      kept = made.kept;
      small = omega (arith, less, smaller);
      row = row_of_alike defined bank.points (filled pattern found) (filled pattern (terms covered.chosen)) made.entry.row
          (λ k d within. filled_alike defined _ pattern found (terms covered.chosen) (covered.alike k d within)) made.row;
    }

-- one part more
also_covered : (syntax : Syntax) (defined : List Function) (pool : List Val) (bank : Merged) (nonterminal : ℕ) (nonterminals : List ℕ) (size others : ℕ) (term : Expr) (more : List Expr) →
    IsHonestBank syntax defined pool bank → IsCovered defined bank.points bank.levels nonterminal size term → AreCovered syntax defined bank nonterminals others more →
    AreCovered syntax defined bank (nonterminal ∷ nonterminals) (size + others) (term ∷ more)
also_covered syntax defined pool bank nonterminal nonterminals size others term more honest one rest =
    let a = one.small in
    let b = rest.small in
    let alike = rows_alike defined bank.points term one.entry.term one.entry.row one.row (kept_row syntax defined pool bank nonterminal one.entry honest one.kept) in
    record {
      chosen = one.entry ∷ rest.chosen;
      kept = (one.kept, rest.kept);
      small = omega (arith, a, b);
      alike = λ k d within. (alike k d within, rest.alike k d within);
    }

-- what a leaf gives, its rule offers
constant_offered : (syntax : Syntax) (pool : List Val) (bank : Merged) (production : Option Production) (value : Val) (term : Expr) →
    constant_yield production value ≡ Some term → Offers syntax pool bank.levels production (constant_size pool value) term
constant_offered syntax pool bank None value term e = cc
constant_offered syntax pool bank (Some (Template pattern)) value term e = cc
constant_offered syntax pool bank (Some (EachConstant sort)) value term e = (value, e, refl)
constant_offered syntax pool bank (Some (EachVariable sort)) value term e = cc

variable_offered : (syntax : Syntax) (pool : List Val) (bank : Merged) (production : Option Production) (position : ℕ) (term : Expr) →
    variable_yield production syntax.arguments position ≡ Some term → Offers syntax pool bank.levels production 1 term
variable_offered syntax pool bank None position term e = cc
variable_offered syntax pool bank (Some (Template pattern)) position term e = cc
variable_offered syntax pool bank (Some (EachConstant sort)) position term e = cc
variable_offered syntax pool bank (Some (EachVariable sort)) position term e = (position, e, refl)

-- where the children are covered, whatever nonterminals they derive from, the node is
node_covered : (syntax : Syntax) (defined : List Function) (pool : List Val) (bank : Merged) → IsSaturated syntax defined pool bank →
    (nonterminal rule : ℕ) (production : Option Production) → rule_at syntax nonterminal rule ≡ production → (children : Trees) (term : Expr) →
    ((nonterminals : List ℕ) (found : List Expr) → yields_from syntax nonterminals children ≡ Some found → tree_sizes syntax pool nonterminals children ≤ bank.upto →
    AreCovered syntax defined bank nonterminals (tree_sizes syntax pool nonterminals children) found) →
    node_yield production (λ occurrences. yields_from syntax occurrences children) ≡ Some term →
    node_size production (λ occurrences. tree_sizes syntax pool occurrences children) ≤ bank.upto →
    IsCovered defined bank.points bank.levels nonterminal (node_size production (λ occurrences. tree_sizes syntax pool occurrences children)) term
node_covered syntax defined pool bank saturated nonterminal rule None at children term each e small = cc
node_covered syntax defined pool bank saturated nonterminal rule (Some (EachConstant sort)) at children term each e small = cc
node_covered syntax defined pool bank saturated nonterminal rule (Some (EachVariable sort)) at children term each e small = cc
node_covered syntax defined pool bank saturated nonterminal rule (Some (Template pattern)) at children term each e small =
    let whole = filled_by pattern (yields_from syntax (occurring pattern) children) term e in
    let parts = each (occurring pattern) whole.found whole.parts_are (omega (arith, small)) in
    subst (λ (t : Expr). IsCovered defined bank.points bank.levels nonterminal (own_size pattern + tree_sizes syntax pool (occurring pattern) children) t) (sym whole.whole)
    (matched syntax defined pool bank nonterminal rule pattern (tree_sizes syntax pool (occurring pattern) children) whole.found saturated at small parts)

mutual
  unfolding yield_from yields_from tree_size tree_sizes

  covered : (syntax : Syntax) (defined : List Function) (pool : List Val) (bank : Merged) → IsHonestBank syntax defined pool bank → IsSaturated syntax defined pool bank →
      (nonterminal : ℕ) (tree : Tree) (term : Expr) → yield_from syntax nonterminal tree ≡ Some term → tree_size syntax pool nonterminal tree ≤ bank.upto →
      IsCovered defined bank.points bank.levels nonterminal (tree_size syntax pool nonterminal tree) term
  covered syntax defined pool bank honest saturated nonterminal (Node rule children) term e small =
      node_covered syntax defined pool bank saturated nonterminal rule (rule_at syntax nonterminal rule) refl children term
      (λ nonterminals found derived less. all_covered syntax defined pool bank honest saturated nonterminals children found derived less) e small
  covered syntax defined pool bank honest saturated nonterminal (ConstantLeaf rule value) term e small =
      saturated nonterminal rule _ term (constant_offered syntax pool bank (rule_at syntax nonterminal rule) value term e) small
  covered syntax defined pool bank honest saturated nonterminal (VariableLeaf rule position) term e small =
      saturated nonterminal rule _ term (variable_offered syntax pool bank (rule_at syntax nonterminal rule) position term e) small

  all_covered : (syntax : Syntax) (defined : List Function) (pool : List Val) (bank : Merged) → IsHonestBank syntax defined pool bank → IsSaturated syntax defined pool bank →
      (nonterminals : List ℕ) (children : Trees) (found : List Expr) → yields_from syntax nonterminals children ≡ Some found → tree_sizes syntax pool nonterminals children ≤ bank.upto →
      AreCovered syntax defined bank nonterminals (tree_sizes syntax pool nonterminals children) found
  all_covered syntax defined pool bank honest saturated [] trees.none found e small =
      let same : [] ≡ found = cc in
      subst (AreCovered syntax defined bank [] 0) same (record { chosen = []; kept = tt; small = omega arith; alike = λ k d within. tt })
  all_covered syntax defined pool bank honest saturated [] (trees.more first rest) found e small = cc
  all_covered syntax defined pool bank honest saturated (nonterminal ∷ nonterminals) trees.none found e small = cc
  all_covered syntax defined pool bank honest saturated (nonterminal ∷ nonterminals) (trees.more first rest) found e small =
      let parts = parted (yield_from syntax nonterminal first) (yields_from syntax nonterminals rest) found e in
      let one = covered syntax defined pool bank honest saturated nonterminal first parts.term parts.first_is (omega (arith, small)) in
      let more = all_covered syntax defined pool bank honest saturated nonterminals rest parts.more parts.rest_is (omega (arith, small)) in
      subst (AreCovered syntax defined bank (nonterminal ∷ nonterminals) (tree_size syntax pool nonterminal first + tree_sizes syntax pool nonterminals rest)) (sym parts.whole)
      (also_covered syntax defined pool bank nonterminal nonterminals _ _ parts.term parts.more honest one more)

-- what is saturated covers every derivation up to the greatest size
pub saturated_covers : (syntax : Syntax) (defined : List Function) (pool : List Val) (bank : Merged) →
    IsHonestBank syntax defined pool bank → IsSaturated syntax defined pool bank → Covers syntax defined pool bank
saturated_covers syntax defined pool bank honest saturated nonterminal tree term derives small =
    covered syntax defined pool bank honest saturated nonterminal tree term derives small
