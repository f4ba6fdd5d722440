-- The derivations by each kind of rule, and their sizes.
use Rattle.std.proofs.Common.{◌≡◌, ℕ, ◌+◌, List, ◌∷◌, refl, ap, sym, ◌∙◌, Bool, true, false, Option, Some, None, slice_get}
use Rattle.std.specs.Prelude.{◌&&◌, if◌then◌else◌}
use Rattle.std.specs.Option.{option_map}
use Rattle.sy_terms.specs.Values.{Val}
use Rattle.sy_terms.specs.Expr as expr
use Rattle.sy_terms.specs.Expr.{Expr}
use Rattle.sy_terms.specs.Sorts.{same_sort}
use Rattle.sy_terms.specs.Theories.{sort_of_value}
use Rattle.sy_terms.specs.declared.sort.Sort.{Sort}
use Rattle.sy_grammar_base.specs.Patterns.{Pattern, occurring, filled, own_size}
use Rattle.sy_grammar_base.specs.Trees as trees
use Rattle.sy_grammar_base.specs.Trees.{Syntax, Trees, Production, Template, EachConstant, EachVariable, Derives, rule_at, is_written, is_sort, literal, node_yield, constant_yield, variable_yield, terms_joined, node_size, yield_from, yields_from, tree_size, tree_sizes}
use Rattle.sy_grammar_sizes.proofs.PoolMembers.{both_true}
use Rattle.sy_grammar_sizes.specs.Constants.{IsConstantOf}
use Rattle.sy_grammar_sizes.specs.Greatest.{IsSize}
use Rattle.sy_grammar_sizes.specs.Tables.{GivesLeaf}

if_Some : {X : Type 0} (b : Bool) (x y : X) → (if b then Some x else None) ≡ Some y → b ≡ true
if_Some true x y e = refl
if_Some false x y e = absurd cc

-- a leaf by a rule for all of a sort
pub leaf_is : (syntax : Syntax) (pool : List Val) (nonterminal rule : ℕ) (production : Production) (size : ℕ) → rule_at syntax nonterminal rule ≡ Some production → GivesLeaf syntax.arguments pool production size → IsSize syntax pool nonterminal size
unfolding yield_from tree_size
leaf_is syntax pool nonterminal rule (Template pattern) size at gives = absurd gives
leaf_is syntax pool nonterminal rule (EachConstant sort) size at gives = record {
  tree = trees.ConstantLeaf rule gives.0;
  term = literal gives.0;
  derives = ap (λ p. constant_yield p gives.0) at ∙ rw (gives.1.sorted, gives.1.written) refl;
  is = gives.2;
}
leaf_is syntax pool nonterminal rule (EachVariable sort) size at gives = record {
  tree = trees.VariableLeaf rule gives.0;
  term = expr.Variable gives.0;
  derives = ap (λ p. variable_yield p syntax.arguments gives.0) at ∙ rw (gives.1) refl;
  is = sym gives.2;
}

-- a leaf by the rule of this number
pub record IsLeaf (syntax : Syntax) (pool : List Val) (nonterminal rule size : ℕ) : Type 0 where
  pub production : Production
  pub at : rule_at syntax nonterminal rule ≡ Some production
  pub gives : GivesLeaf syntax.arguments pool production size

constant_from : (found : Option Production) (value : Val) (term : Expr) → constant_yield found value ≡ Some term → (sort : Sort) × (found ≡ Some (EachConstant sort)) × IsConstantOf sort value
constant_from None value term e = absurd cc
constant_from (Some (Template pattern)) value term e = absurd cc
constant_from (Some (EachConstant sort)) value term e =
    let both = both_true (same_sort sort (sort_of_value value)) (is_written value) (if_Some (same_sort sort (sort_of_value value) && is_written value) (literal value) term e) in
    (sort, refl, record { sorted = both.0; written = both.1 })
constant_from (Some (EachVariable sort)) value term e = absurd cc

pub constant_leaf : (syntax : Syntax) (pool : List Val) (nonterminal rule : ℕ) (value : Val) (term : Expr) → Derives syntax nonterminal (trees.ConstantLeaf rule value) term →
    IsLeaf syntax pool nonterminal rule (tree_size syntax pool nonterminal (trees.ConstantLeaf rule value))
unfolding yield_from tree_size
constant_leaf syntax pool nonterminal rule value term derives =
    let found = constant_from (rule_at syntax nonterminal rule) value term derives in
    record { production = EachConstant found.0; at = found.1; gives = (value, found.2, refl) }

variable_from : (found : Option Production) (arguments : List Sort) (position : ℕ) (term : Expr) → variable_yield found arguments position ≡ Some term → (sort : Sort) × (found ≡ Some (EachVariable sort)) × (is_sort sort (slice_get arguments position) ≡ true)
variable_from None arguments position term e = absurd cc
variable_from (Some (Template pattern)) arguments position term e = absurd cc
variable_from (Some (EachConstant sort)) arguments position term e = absurd cc
variable_from (Some (EachVariable sort)) arguments position term e = (sort, refl, if_Some (is_sort sort (slice_get arguments position)) (expr.Variable position) term e)

pub variable_leaf : (syntax : Syntax) (pool : List Val) (nonterminal rule position : ℕ) (term : Expr) → Derives syntax nonterminal (trees.VariableLeaf rule position) term →
    IsLeaf syntax pool nonterminal rule (tree_size syntax pool nonterminal (trees.VariableLeaf rule position))
unfolding yield_from tree_size
variable_leaf syntax pool nonterminal rule position term derives =
    let found = variable_from (rule_at syntax nonterminal rule) syntax.arguments position term derives in
    record { production = EachVariable found.0; at = found.1; gives = (position, found.2, refl) }

-- a node by a rule's pattern
pub record IsNode (syntax : Syntax) (pool : List Val) (nonterminal rule : ℕ) (children : Trees) : Type 0 where
  pub pattern : Pattern
  pub at : rule_at syntax nonterminal rule ≡ Some (Template pattern)
  pub terms : List Expr
  pub yields : yields_from syntax (occurring pattern) children ≡ Some terms
  pub is : tree_size syntax pool nonterminal (trees.Node rule children) ≡ own_size pattern + tree_sizes syntax pool (occurring pattern) children

mapped_Some : {X Y : Type 0} (f : X → Y) (found : Option X) (y : Y) → option_map f found ≡ Some y → (x : X) × (found ≡ Some x)
mapped_Some f None y e = absurd cc
mapped_Some f (Some x) y e = (x, refl)

node_from : (found : Option Production) (children : List ℕ → Option (List Expr)) (term : Expr) → node_yield found children ≡ Some term → (pattern : Pattern) × (found ≡ Some (Template pattern)) × (terms : List Expr) × (children (occurring pattern) ≡ Some terms)
node_from None children term e = absurd cc
node_from (Some (Template pattern)) children term e = let found = mapped_Some (filled pattern) (children (occurring pattern)) term e in (pattern, refl, found.0, found.1)
node_from (Some (EachConstant sort)) children term e = absurd cc
node_from (Some (EachVariable sort)) children term e = absurd cc

pub node_is : (syntax : Syntax) (pool : List Val) (nonterminal rule : ℕ) (children : Trees) (term : Expr) → Derives syntax nonterminal (trees.Node rule children) term → IsNode syntax pool nonterminal rule children
unfolding yield_from yields_from tree_size tree_sizes
node_is syntax pool nonterminal rule children term derives =
    let found = node_from (rule_at syntax nonterminal rule) (λ occurrences. yields_from syntax occurrences children) term derives in
    record {
      pattern = found.0;
      at = found.1;
      terms = found.2;
      yields = found.3;
      is = ap (λ p. node_size p (λ occurrences. tree_sizes syntax pool occurrences children)) found.1;
    }

pub node_derives : (syntax : Syntax) (pool : List Val) (nonterminal rule : ℕ) (pattern : Pattern) (children : Trees) (terms : List Expr) → rule_at syntax nonterminal rule ≡ Some (Template pattern) → yields_from syntax (occurring pattern) children ≡ Some terms →
    IsSize syntax pool nonterminal (own_size pattern + tree_sizes syntax pool (occurring pattern) children)
unfolding yield_from yields_from tree_size tree_sizes
node_derives syntax pool nonterminal rule pattern children terms at yields = record {
  tree = trees.Node rule children;
  term = filled pattern terms;
  derives = ap (λ p. node_yield p (λ occurrences. yields_from syntax occurrences children)) at ∙ ap (option_map (filled pattern)) yields;
  is = ap (λ p. node_size p (λ occurrences. tree_sizes syntax pool occurrences children)) at;
}

-- both parts of a list of yields
pub record Joined (first : Option Expr) (rest : Option (List Expr)) (terms : List Expr) : Type 0 where
  pub head : Expr
  pub tail : List Expr
  pub head_is : first ≡ Some head
  pub tail_is : rest ≡ Some tail
  pub is : terms ≡ head ∷ tail

pub joined_from : (first : Option Expr) (rest : Option (List Expr)) (terms : List Expr) → terms_joined first rest ≡ Some terms → Joined first rest terms
joined_from None rest terms e = absurd cc
joined_from (Some head) None terms e = absurd cc
joined_from (Some head) (Some tail) terms e = record { head = head; tail = tail; head_is = refl; tail_is = refl; is = cc }

pub joined_to : (first : Option Expr) (rest : Option (List Expr)) (head : Expr) (tail : List Expr) → first ≡ Some head → rest ≡ Some tail → terms_joined first rest ≡ Some (head ∷ tail)
joined_to None rest head tail e f = absurd cc
joined_to (Some x) None head tail e f = absurd cc
joined_to (Some x) (Some xs) head tail e f = cc
