-- What a well-formed grammar derives fits, and has its nonterminal's sort.
use Rattle.std.proofs.Common.{◌≡◌, ℕ, List, [], ◌∷◌, length, refl, ap, sym, ◌∙◌, Option, Some, None, slice_get, subst, Bool, true, ◌&&◌, nat_le}
use Rattle.std.specs.Prelude.{◌^◌, nat_lt, pos, negsuc}
use Rattle.std.specs.Option.{option_map}
use Rattle.std.specs.List.{list_all}
use Rattle.sy_terms.specs.Values.{Val, Truth, Whole, Bits}
use Rattle.sy_terms.specs.Theories.{sort_of_value}
use Rattle.sy_terms.specs.Sorts.{sort_of, same_sort}
use Rattle.sy_terms.specs.Expr as expr
use Rattle.sy_terms.specs.Expr.{Expr}
use Rattle.sy_terms.specs.Fitting.{Scope, sort_in, sorts_in}
use Rattle.sy_terms.specs.declared.op.Op.TheVariants as ops
use Rattle.sy_terms.specs.declared.sort.Sort.{Sort}
use Rattle.sy_terms.specs.declared.sort.Sort.TheVariants as sorts
use Rattle.sy_terms_operators.proofs.Equations.{if_Some, both_true, same_sort_is}
use Rattle.sy_grammar_base.specs.Patterns.{Pattern, occurring, filled}
use Rattle.sy_grammar_base.specs.Trees as trees
use Rattle.sy_grammar_base.specs.Trees.{Production, Template, EachConstant, EachVariable, Nonterminal, Syntax, Tree, Trees, Node, ConstantLeaf, VariableLeaf, IsMember, rule_at, rule_of, is_written, literal, is_sort, node_yield, constant_yield, variable_yield, terms_joined, yield_from, yields_from}
use Rattle.sy_grammar_base.specs.Formed.{is_known, is_formed, nonterminal_fits, rule_sort}
use Rattle.sy_grammar_base.proofs.Filling.{sort_at, AllFit, filled_fits}
use Rattle.sy_grammar_base.proofs.Numbering.{all_at}

-- what every logic with integers has
abbrev pub HasNegation : (Sort → Bool) → Scope → Type 0
HasNegation numeric scope = numeric sorts.Int ≡ true → scope.owned ops.Neg ≡ true

is_sort_is : (sort : Sort) (found : Option Sort) → is_sort sort found ≡ true → found ≡ Some sort
is_sort_is sort None e = cc
is_sort_is sort (Some other) e = ap Some (sym (same_sort_is sort other e))

-- a nonterminal of a well-formed grammar
pub record Fits (numeric : Sort → Bool) (scope : Scope) (syntax : Syntax) (nonterminal : Nonterminal) : Type 0 where
  pub known : is_known numeric nonterminal.sort ≡ true
  pub rules : (rule : ℕ) → (production : Production) → slice_get nonterminal.rules rule ≡ Some production → rule_sort scope syntax production ≡ Some nonterminal.sort

pub formed_fits : (numeric : Sort → Bool) (scope : Scope) (syntax : Syntax) → is_formed numeric scope syntax ≡ true → (n : ℕ) (nonterminal : Nonterminal) → slice_get syntax.nonterminals n ≡ Some nonterminal → Fits numeric scope syntax nonterminal
formed_fits numeric scope syntax formed n nonterminal at =
    let all = both_true (nat_le 1 (length syntax.nonterminals) && nat_lt (length syntax.nonterminals) (2 ^ 31)) (list_all (is_known numeric) syntax.arguments && list_all (nonterminal_fits numeric scope syntax) syntax.nonterminals) formed in
    let fit = both_true (list_all (is_known numeric) syntax.arguments) (list_all (nonterminal_fits numeric scope syntax) syntax.nonterminals) all.1 in
    let it = all_at (nonterminal_fits numeric scope syntax) syntax.nonterminals n nonterminal fit.1 at in
    let known = both_true (is_known numeric nonterminal.sort) (nat_lt (length nonterminal.rules) (2 ^ 31) && list_all (λ rule. is_sort nonterminal.sort (rule_sort scope syntax rule)) nonterminal.rules) it in
    let sorted = both_true (nat_lt (length nonterminal.rules) (2 ^ 31)) (list_all (λ rule. is_sort nonterminal.sort (rule_sort scope syntax rule)) nonterminal.rules) known.1 in
    record {
      known = known.0;
      rules = λ rule production found. is_sort_is nonterminal.sort (rule_sort scope syntax production) (all_at (λ r. is_sort nonterminal.sort (rule_sort scope syntax r)) nonterminal.rules rule production sorted.1 found);
    }

-- the term of a constant fits
literal_fits : (numeric : Sort → Bool) (scope : Scope) (arguments : List Sort) (value : Val) → HasNegation numeric scope → is_known numeric (sort_of_value value) ≡ true → is_written value ≡ true → sort_in scope arguments (literal value) ≡ Some (sort_of_value value)
unfolding sort_in sorts_in sort_of
literal_fits numeric scope arguments (Truth truth) negation known written = refl
literal_fits numeric scope arguments (Whole (pos n)) negation known written = refl
literal_fits numeric scope arguments (Whole (negsuc n)) negation known written = rw (negation known) refl
literal_fits numeric scope arguments (Bits width number) negation known written = rw written refl

constant_fits : (numeric : Sort → Bool) (scope : Scope) (syntax : Syntax) (sort : Sort) (value : Val) (term : Expr) → HasNegation numeric scope → is_known numeric sort ≡ true → constant_yield (Some (EachConstant sort)) value ≡ Some term → sort_in scope syntax.arguments term ≡ Some sort
constant_fits numeric scope syntax sort value term negation known e =
    let found = if_Some (same_sort sort (sort_of_value value) && is_written value) (literal value) term e in
    let both = both_true (same_sort sort (sort_of_value value)) (is_written value) found.0 in
    let same = same_sort_is sort (sort_of_value value) both.0 in
    ap (sort_in scope syntax.arguments) (sym found.1) ∙ literal_fits numeric scope syntax.arguments value negation (ap (is_known numeric) (sym same) ∙ known) both.1 ∙ ap Some (sym same)

variable_fits : (scope : Scope) (syntax : Syntax) (sort : Sort) (position : ℕ) (term : Expr) → variable_yield (Some (EachVariable sort)) syntax.arguments position ≡ Some term → sort_in scope syntax.arguments term ≡ Some sort
unfolding sort_in
variable_fits scope syntax sort position term e =
    let found = if_Some (is_sort sort (slice_get syntax.arguments position)) (expr.Variable position) term e in
    ap (sort_in scope syntax.arguments) (sym found.1) ∙ is_sort_is sort (slice_get syntax.arguments position) found.0

filled_by : (scope : Scope) (arguments : List Sort) (found : Option (List Expr)) (pattern : Pattern) (term : Expr) (sort : Sort) → ((terms : List Expr) → found ≡ Some terms → sort_in scope arguments (filled pattern terms) ≡ Some sort) →
    option_map (filled pattern) found ≡ Some term → sort_in scope arguments term ≡ Some sort
filled_by scope arguments None pattern term sort fits e = cc
filled_by scope arguments (Some terms) pattern term sort fits e = let same : filled pattern terms ≡ term = cc in ap (sort_in scope arguments) (sym same) ∙ fits terms refl

-- what the rule of a node, of a constant and of a variable gives
node_fits : (scope : Scope) (syntax : Syntax) (sort : Sort) (found : Option Production) (term : Expr) (children : List ℕ → Option (List Expr)) →
    ((production : Production) → found ≡ Some production → rule_sort scope syntax production ≡ Some sort) →
    ((occurrences : List ℕ) → (terms : List Expr) → children occurrences ≡ Some terms → AllFit scope syntax occurrences terms) →
    node_yield found children ≡ Some term → sort_in scope syntax.arguments term ≡ Some sort
node_fits scope syntax sort None term children sorted fit e = cc
node_fits scope syntax sort (Some (EachConstant other)) term children sorted fit e = cc
node_fits scope syntax sort (Some (EachVariable other)) term children sorted fit e = cc
node_fits scope syntax sort (Some (Template pattern)) term children sorted fit e =
    filled_by scope syntax.arguments (children (occurring pattern)) pattern term sort (λ terms is. filled_fits scope syntax pattern terms sort (fit (occurring pattern) terms is) (sorted (Template pattern) refl)) e

constant_leaf_fits : (numeric : Sort → Bool) (scope : Scope) (syntax : Syntax) (sort : Sort) (found : Option Production) (value : Val) (term : Expr) → HasNegation numeric scope → is_known numeric sort ≡ true →
    ((production : Production) → found ≡ Some production → rule_sort scope syntax production ≡ Some sort) → constant_yield found value ≡ Some term → sort_in scope syntax.arguments term ≡ Some sort
constant_leaf_fits numeric scope syntax sort None value term negation known sorted e = cc
constant_leaf_fits numeric scope syntax sort (Some (Template pattern)) value term negation known sorted e = cc
constant_leaf_fits numeric scope syntax sort (Some (EachVariable other)) value term negation known sorted e = cc
constant_leaf_fits numeric scope syntax sort (Some (EachConstant other)) value term negation known sorted e =
    let same : other ≡ sort = let is = sorted (EachConstant other) refl in cc in
    constant_fits numeric scope syntax other value term negation (ap (is_known numeric) same ∙ known) e ∙ ap Some same

variable_leaf_fits : (scope : Scope) (syntax : Syntax) (sort : Sort) (found : Option Production) (position : ℕ) (term : Expr) →
    ((production : Production) → found ≡ Some production → rule_sort scope syntax production ≡ Some sort) → variable_yield found syntax.arguments position ≡ Some term → sort_in scope syntax.arguments term ≡ Some sort
variable_leaf_fits scope syntax sort None position term sorted e = cc
variable_leaf_fits scope syntax sort (Some (Template pattern)) position term sorted e = cc
variable_leaf_fits scope syntax sort (Some (EachConstant other)) position term sorted e = cc
variable_leaf_fits scope syntax sort (Some (EachVariable other)) position term sorted e =
    let same : other ≡ sort = let is = sorted (EachVariable other) refl in cc in
    variable_fits scope syntax other position term e ∙ ap Some same

-- the nonterminal of this number, which has this sort
record At (syntax : Syntax) (n : ℕ) (sort : Sort) : Type 0 where
  nonterminal : Nonterminal
  at : slice_get syntax.nonterminals n ≡ Some nonterminal
  is : nonterminal.sort ≡ sort

found_at : (syntax : Syntax) (n : ℕ) (sort : Sort) (found : Option Nonterminal) → slice_get syntax.nonterminals n ≡ found → option_map (λ (x : Nonterminal). x.sort) found ≡ Some sort → At syntax n sort
found_at syntax n sort None at e = cc
found_at syntax n sort (Some x) at e = record { nonterminal = x; at = at; is = cc }

-- its rules have its sort
sorted_at : (numeric : Sort → Bool) (scope : Scope) (syntax : Syntax) → is_formed numeric scope syntax ≡ true → (n rule : ℕ) (sort : Sort) → At syntax n sort → (production : Production) → rule_at syntax n rule ≡ Some production → rule_sort scope syntax production ≡ Some sort
sorted_at numeric scope syntax formed n rule sort x production found =
    let fit = formed_fits numeric scope syntax formed n x.nonterminal x.at in
    fit.rules rule production (sym (ap (λ (o : Option Nonterminal). rule_of o rule) x.at) ∙ found) ∙ ap Some x.is

known_at : (numeric : Sort → Bool) (scope : Scope) (syntax : Syntax) → is_formed numeric scope syntax ≡ true → (n : ℕ) (sort : Sort) → At syntax n sort → is_known numeric sort ≡ true
known_at numeric scope syntax formed n sort x = ap (is_known numeric) (sym x.is) ∙ (formed_fits numeric scope syntax formed n x.nonterminal x.at).known

record Joined (first : Option Expr) (rest : Option (List Expr)) (whole : List Expr) : Type 0 where
  head : Expr
  tail : List Expr
  first_is : first ≡ Some head
  rest_is : rest ≡ Some tail
  whole_is : head ∷ tail ≡ whole

joined_Some : (first : Option Expr) (rest : Option (List Expr)) (whole : List Expr) → terms_joined first rest ≡ Some whole → Joined first rest whole
joined_Some None rest whole e = cc
joined_Some (Some x) None whole e = cc
joined_Some (Some x) (Some xs) whole e = record { head = x; tail = xs; first_is = refl; rest_is = refl; whole_is = cc }

mutual
  unfolding yield_from yields_from

  -- what is derived from a nonterminal has its sort
  pub derived_fits : (numeric : Sort → Bool) (scope : Scope) (syntax : Syntax) → HasNegation numeric scope → is_formed numeric scope syntax ≡ true → (n : ℕ) (sort : Sort) (tree : Tree) (term : Expr) → sort_at syntax n ≡ Some sort → yield_from syntax n tree ≡ Some term → sort_in scope syntax.arguments term ≡ Some sort
  derived_fits numeric scope syntax negation formed n sort (Node rule children) term at e =
      let x = found_at syntax n sort (slice_get syntax.nonterminals n) refl at in
      node_fits scope syntax sort (rule_at syntax n rule) term (λ occurrences. yields_from syntax occurrences children) (sorted_at numeric scope syntax formed n rule sort x)
      (λ occurrences terms is. all_fit numeric scope syntax negation formed occurrences children terms is) e
  derived_fits numeric scope syntax negation formed n sort (ConstantLeaf rule value) term at e =
      let x = found_at syntax n sort (slice_get syntax.nonterminals n) refl at in
      constant_leaf_fits numeric scope syntax sort (rule_at syntax n rule) value term negation (known_at numeric scope syntax formed n sort x) (sorted_at numeric scope syntax formed n rule sort x) e
  derived_fits numeric scope syntax negation formed n sort (VariableLeaf rule position) term at e =
      let x = found_at syntax n sort (slice_get syntax.nonterminals n) refl at in
      variable_leaf_fits scope syntax sort (rule_at syntax n rule) position term (sorted_at numeric scope syntax formed n rule sort x) e

  pub all_fit : (numeric : Sort → Bool) (scope : Scope) (syntax : Syntax) → HasNegation numeric scope → is_formed numeric scope syntax ≡ true → (occurrences : List ℕ) (children : Trees) (terms : List Expr) → yields_from syntax occurrences children ≡ Some terms → AllFit scope syntax occurrences terms
  all_fit numeric scope syntax negation formed [] trees.none terms e = let same : [] ≡ terms = cc in subst (AllFit scope syntax []) same tt
  all_fit numeric scope syntax negation formed [] (trees.more first rest) terms e = cc
  all_fit numeric scope syntax negation formed (n ∷ occurrences) trees.none terms e = cc
  all_fit numeric scope syntax negation formed (n ∷ occurrences) (trees.more first rest) terms e =
      let both = joined_Some (yield_from syntax n first) (yields_from syntax occurrences rest) terms e in
      subst (AllFit scope syntax (n ∷ occurrences)) both.whole_is
      (λ sort at. derived_fits numeric scope syntax negation formed n sort first both.head at both.first_is, all_fit numeric scope syntax negation formed occurrences rest both.tail both.rest_is)

-- a member of a well-formed grammar fits, and has the start symbol's sort
pub member_fits : (numeric : Sort → Bool) (scope : Scope) (syntax : Syntax) → HasNegation numeric scope → is_formed numeric scope syntax ≡ true → (sort : Sort) (term : Expr) → sort_at syntax 0 ≡ Some sort → IsMember syntax term → sort_in scope syntax.arguments term ≡ Some sort
member_fits numeric scope syntax negation formed sort term at member = derived_fits numeric scope syntax negation formed 0 sort member.tree term at member.derives
