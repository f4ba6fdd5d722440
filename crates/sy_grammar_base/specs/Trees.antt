-- Grammars and derivation trees.
use Rattle.std.specs.Prelude.{ℕ, zero, suc, ◌+◌, ◌^◌, ◌/◌, not, ◌≤◌, ◌≡◌, ◌<◌, Bool, true, false, ◌&&◌, ◌||◌, ◌==◌, nat_le, nat_lt, pos, negsuc, List, [], ◌∷◌, length, slice_get, Option, Some, None, if◌then◌else◌, take, All}
use Rattle.std.specs.Option.{option_map}
use Rattle.std.specs.List.{list_any}
use Rattle.sy_terms.specs.Values.{Val, Truth, Whole, Bits, same}
use Rattle.sy_terms.specs.Expr as expr
use Rattle.sy_terms.specs.Expr.{Expr}
use Rattle.sy_terms.specs.Sorts.{same_sort}
use Rattle.sy_terms.specs.Theories.{sort_of_value, valid}
use Rattle.sy_terms.specs.declared.op.Op.TheVariants as ops
use Rattle.sy_terms.specs.declared.sort.Sort.{Sort}
use Rattle.sy_grammar_base.specs.Patterns as pattern
use Rattle.sy_grammar_base.specs.Patterns.{Pattern, Patterns, occurring, filled, own_size}

-- a rule gives a pattern, every constant of a sort, or every argument of a sort
pub data Production : Type 0 where
  Template : (pattern : Pattern) → Production
  EachConstant : (sort : Sort) → Production
  EachVariable : (sort : Sort) → Production

-- the rules of one nonterminal
pub record Nonterminal : Type 0 where
  pub sort : Sort
  pub rules : List Production

-- a grammar over arguments of these sorts
pub record Syntax : Type 0 where
  pub arguments : List Sort
  pub nonterminals : List Nonterminal

-- fewer than 2 ^ 31 nonterminals, each with fewer than 2 ^ 31 rules
pub record IsNumbered (syntax : Syntax) : Type 0 where
  pub nonterminals : length syntax.nonterminals < 2 ^ 31
  pub rules : (place : ℕ) → (nonterminal : Nonterminal) → slice_get syntax.nonterminals place ≡ Some nonterminal → length nonterminal.rules < 2 ^ 31

-- a derivation tree: a rule's number, and what replaces the rule's occurrences or is chosen of its sort
mutual
  pub data Tree : Type 0 where
    Node : (rule : ℕ) → (children : Trees) → Tree
    ConstantLeaf : (rule : ℕ) → (value : Val) → Tree
    VariableLeaf : (rule : ℕ) → (position : ℕ) → Tree

  pub data Trees : Type 0 where
    none : Trees
    more : (first : Tree) → (rest : Trees) → Trees

abbrev pub rule_of : Option Nonterminal → ℕ → Option Production
rule_of None rule = None
rule_of (Some nonterminal) rule = slice_get nonterminal.rules rule

-- the rule of this number of a nonterminal
abbrev pub rule_at : Syntax → ℕ → ℕ → Option Production
rule_at syntax nonterminal rule = rule_of (slice_get syntax.nonterminals nonterminal) rule

-- the values that a rule for every constant gives: a whole number's magnitude is below 2 ^ 127
abbrev pub is_written : Val → Bool
is_written (Whole (pos n)) = nat_lt n (2 ^ 127)
is_written (Whole (negsuc n)) = nat_lt (n + 1) (2 ^ 127)
is_written (Truth truth) = true
is_written (Bits width number) = valid (Bits width number)

-- the term that writes a value: a negative number is the negation of a positive one
abbrev pub literal : Val → Expr
literal (Whole (negsuc n)) = expr.Apply ops.Neg (expr.more (expr.Constant (Whole (pos (n + 1)))) expr.none)
literal (Whole (pos n)) = expr.Constant (Whole (pos n))
literal (Truth truth) = expr.Constant (Truth truth)
literal (Bits width number) = expr.Constant (Bits width number)

-- the terms that replace occurrences, where each child derives one from its nonterminal
abbrev pub node_yield : Option Production → (List ℕ → Option (List Expr)) → Option Expr
node_yield None children = None
node_yield (Some (Template pattern)) children = option_map (filled pattern) (children (occurring pattern))
node_yield (Some (EachConstant sort)) children = None
node_yield (Some (EachVariable sort)) children = None

abbrev pub constant_yield : Option Production → Val → Option Expr
constant_yield None value = None
constant_yield (Some (Template pattern)) value = None
constant_yield (Some (EachConstant sort)) value = if same_sort sort (sort_of_value value) && is_written value then Some (literal value) else None
constant_yield (Some (EachVariable sort)) value = None

abbrev pub is_sort : Sort → Option Sort → Bool
is_sort sort None = false
is_sort sort (Some found) = same_sort sort found

abbrev pub variable_yield : Option Production → List Sort → ℕ → Option Expr
variable_yield None arguments position = None
variable_yield (Some (Template pattern)) arguments position = None
variable_yield (Some (EachConstant sort)) arguments position = None
variable_yield (Some (EachVariable sort)) arguments position = if is_sort sort (slice_get arguments position) then Some (expr.Variable position) else None

abbrev pub terms_joined : Option Expr → Option (List Expr) → Option (List Expr)
terms_joined None terms = None
terms_joined (Some term) None = None
terms_joined (Some term) (Some terms) = Some (term ∷ terms)

unfoldable mutual
  -- the term that a tree derives from a nonterminal; None where it isn't a derivation from it
  pub yield_from : Syntax → ℕ → Tree → Option Expr
  yield_from syntax nonterminal (Node rule children) = node_yield (rule_at syntax nonterminal rule) (λ occurrences. yields_from syntax occurrences children)
  yield_from syntax nonterminal (ConstantLeaf rule value) = constant_yield (rule_at syntax nonterminal rule) value
  yield_from syntax nonterminal (VariableLeaf rule position) = variable_yield (rule_at syntax nonterminal rule) syntax.arguments position

  -- the same for one tree for each nonterminal
  pub yields_from : Syntax → List ℕ → Trees → Option (List Expr)
  yields_from syntax [] none = Some []
  yields_from syntax (nonterminal ∷ nonterminals) (more first rest) = terms_joined (yield_from syntax nonterminal first) (yields_from syntax nonterminals rest)
  yields_from syntax [] (more first rest) = None
  yields_from syntax (nonterminal ∷ nonterminals) none = None

-- a tree is a derivation of the term from the nonterminal
abbrev pub Derives : Syntax → ℕ → Tree → Expr → Type 0
Derives syntax nonterminal tree term = yield_from syntax nonterminal tree ≡ Some term

-- some tree is
pub record IsDerived (syntax : Syntax) (nonterminal : ℕ) (term : Expr) : Type 0 where
  pub tree : Tree
  pub derives : Derives syntax nonterminal tree term

-- a term is a member of a grammar where the start symbol derives it
abbrev pub IsMember : Syntax → Expr → Type 0
IsMember syntax term = IsDerived syntax 0 term

abbrev pub digits_within : ℕ → ℕ → ℕ
digits_within zero n = 0
digits_within (suc fuel) n = if n == 0 then 0 else suc (digits_within fuel (n / 2))

-- how many binary digits a number has, none where it is 0
abbrev pub digits : ℕ → ℕ
digits n = digits_within n n

-- a value's size without its sign
abbrev pub value_magnitude : Val → ℕ
value_magnitude (Whole (pos n)) = n
value_magnitude (Whole (negsuc n)) = n + 1
value_magnitude (Bits width number) = number
value_magnitude (Truth truth) = 0

abbrev pub is_negative : Val → Bool
is_negative (Whole (negsuc n)) = true
is_negative _ = false

-- true, false, 0 or 1
abbrev pub is_small : Val → Bool
is_small value = not (is_negative value) && nat_le (value_magnitude value) 1

-- a chosen constant counts as one whole: 1 where it is small or in the pool, else by its digits
abbrev pub constant_size : List Val → Val → ℕ
constant_size pool value = if is_small value || list_any (same value) pool then 1 else digits (value_magnitude value) + 1

abbrev pub node_size : Option Production → (List ℕ → ℕ) → ℕ
node_size None children = 0
node_size (Some (Template pattern)) children = own_size pattern + children (occurring pattern)
node_size (Some (EachConstant sort)) children = 0
node_size (Some (EachVariable sort)) children = 0

unfoldable mutual
  -- the size of a derivation, relative to a pool of values
  pub tree_size : Syntax → List Val → ℕ → Tree → ℕ
  tree_size syntax pool nonterminal (Node rule children) = node_size (rule_at syntax nonterminal rule) (λ occurrences. tree_sizes syntax pool occurrences children)
  tree_size syntax pool nonterminal (ConstantLeaf rule value) = constant_size pool value
  tree_size syntax pool nonterminal (VariableLeaf rule position) = 1

  pub tree_sizes : Syntax → List Val → List ℕ → Trees → ℕ
  tree_sizes syntax pool [] children = 0
  tree_sizes syntax pool (nonterminal ∷ nonterminals) none = 0
  tree_sizes syntax pool (nonterminal ∷ nonterminals) (more first rest) = tree_size syntax pool nonterminal first + tree_sizes syntax pool nonterminals rest

-- the size of a member: some derivation of it has this size, and none has a lesser one
pub record HasSize (syntax : Syntax) (pool : List Val) (term : Expr) (size : ℕ) : Type 0 where
  pub tree : Tree
  pub derives : Derives syntax 0 tree term
  pub is : tree_size syntax pool 0 tree ≡ size
  pub least : (other : Tree) → Derives syntax 0 other term → size ≤ tree_size syntax pool 0 other

abbrev pub is_place : Pattern → Bool
is_place (pattern.Occurrence nonterminal) = true
is_place _ = false

abbrev pub is_start : Pattern → Bool
is_start (pattern.Occurrence nonterminal) = nonterminal == 0
is_start _ = false

-- a nonterminal, and twice the start symbol
abbrev pub are_choices : Patterns → Bool
are_choices (pattern.more condition (pattern.more first (pattern.more second pattern.none))) = is_place condition && (is_start first && is_start second)
are_choices _ = false

-- a rule that is a choice between two terms of the start symbol
abbrev pub is_choice : Production → Bool
is_choice (Template (pattern.Apply ops.Ite arguments)) = are_choices arguments
is_choice _ = false

abbrev pub start_rules : List Nonterminal → List Production
start_rules [] = []
start_rules (start ∷ others) = start.rules

-- the pattern of a rule, where it gives one
abbrev pub template : Option Production → Option Pattern
template None = None
template (Some (Template pattern)) = Some pattern
template (Some (EachConstant sort)) = None
template (Some (EachVariable sort)) = None

abbrev pub template_at : Syntax → ℕ → ℕ → Option Pattern
template_at syntax nonterminal rule = template (rule_at syntax nonterminal rule)

-- the first item that a test accepts
pub record IsFirst {A : Type 0} (accepts : A → Bool) (items : List A) (place : ℕ) : Type 0 where
  pub item : A
  pub at : slice_get items place ≡ Some item
  pub accepted : accepts item ≡ true
  pub before : All (λ earlier. accepts earlier ≡ false) (take place items)
