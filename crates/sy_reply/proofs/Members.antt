-- Members of a well-formed grammar can be written.
use Rattle.std.proofs.Common.{◌≡◌, ◌<◌, ◌≤◌, refl, ap, subst, ℕ, suc, zero, List, [], ◌∷◌, length, take, drop, Bool, true, false, ◌&&◌, arith, pos, negsuc}
use Rattle.std.specs.Prelude.{◌^◌, nat_le, nat_lt, slice_get, Option, Some, None, All, if◌then◌else◌}
use Rattle.std.specs.Option.{option_map}
use Rattle.std.specs.List.{list_all}
use Rattle.std.specs.Cmp.{first_so, second_so}
use Rattle.std.proofs.lemmas.List.{length-append, length-take, length-drop}
use Rattle.std.proofs.lemmas.List.Elements.{All-head, All-tail}
use Rattle.std.proofs.lemmas.Option.{slice_get_within}
use Rattle.sy_terms.specs.Values.{Val, Truth, Whole, Bits}
use Rattle.sy_terms.specs.Theories.{sort_of_value, valid}
use Rattle.sy_terms.specs.Fitting.{Scope, applied_sort}
use Rattle.sy_terms.specs.Sorts.{same_sort}
use Rattle.sy_terms.specs.Expr.{Expr, Variable}
use Rattle.sy_terms.specs.declared.sort.Sort.{Sort}
use Rattle.sy_grammar_base.specs.Patterns as pattern
use Rattle.sy_grammar_base.specs.Patterns.{Pattern, Patterns, occurring, all_occurring, filled, all_filled}
use Rattle.sy_grammar_base.specs.Trees as trees
use Rattle.sy_grammar_base.specs.Trees.{Production, Template, EachConstant, EachVariable, Nonterminal, Syntax, Tree, Trees, Node, ConstantLeaf, VariableLeaf, rule_at, rule_of, is_written, literal, node_yield, constant_yield, variable_yield, is_sort, terms_joined, yield_from, yields_from, IsMember}
use Rattle.sy_grammar_base.specs.Formed.{is_known, is_plain, is_linear, pattern_sort, pattern_sorts, rule_sort, nonterminal_fits, is_formed}
use Rattle.sy_grammar_base.specs.Questions.{Goal}
use Rattle.sy_grammar_base.specs.Solving.{AreMembers}
use Rattle.sy_reply.specs.Writable.{is_plain_value, IsWritable, AreWritable, HaveBodies}
use Rattle.sy_reply.proofs.Fitting.{applied_some, called_some, with_some}

abbrev mutual
  -- a pattern over so many arguments that calls only so many definitions, and in which no negative constant stands
  pub PatternWritable : ℕ → ℕ → Pattern → Type 0
  PatternWritable arguments definitions (pattern.Constant value) = is_plain_value value ≡ true
  PatternWritable arguments definitions (pattern.Variable position) = position < arguments
  PatternWritable arguments definitions (pattern.Occurrence nonterminal) = Unit {0}
  PatternWritable arguments definitions (pattern.Apply operator parts) = PatternsWritable arguments definitions parts
  PatternWritable arguments definitions (pattern.Invoke number parts) = (number < definitions) × PatternsWritable arguments definitions parts

  pub PatternsWritable : ℕ → ℕ → Patterns → Type 0
  PatternsWritable arguments definitions pattern.none = Unit {0}
  PatternsWritable arguments definitions (pattern.more first rest) = PatternWritable arguments definitions first × PatternsWritable arguments definitions rest

abbrev pub RuleWritable : ℕ → ℕ → Production → Type 0
RuleWritable arguments definitions (Template pattern) = PatternWritable arguments definitions pattern
RuleWritable arguments definitions (EachConstant sort) = Unit {0}
RuleWritable arguments definitions (EachVariable sort) = Unit {0}

if_gives : {A : Type 0} (test : Bool) (x y : A) → (if test then Some x else None) ≡ Some y → (test ≡ true) × (x ≡ y)
if_gives true x y is = (refl, cc)
if_gives false x y is = cc

if_found : {A : Type 0} (test : Bool) (found : Option A) (y : A) → (if test then found else None) ≡ Some y → found ≡ Some y
if_found true found y is = is
if_found false found y is = cc

plain_literal : (value : Val) → is_plain value ≡ true → is_plain_value value ≡ true
plain_literal (Truth truth) ok = refl
plain_literal (Whole (pos n)) ok = refl
plain_literal (Whole (negsuc n)) ok = ok
plain_literal (Bits width n) ok = first_so (valid (Bits width n)) true ok

mutual
  unfolding pattern_sort pattern_sorts

  -- a pattern that fits
  pattern_written : (scope : Scope) (syntax : Syntax) (p : Pattern) (sort : Sort) → pattern_sort scope syntax p ≡ Some sort → PatternWritable (length syntax.arguments) (length scope.defined) p
  pattern_written scope syntax (pattern.Constant value) sort is = plain_literal value (if_gives (is_plain value) (sort_of_value value) sort is).0
  pattern_written scope syntax (pattern.Variable position) sort is = slice_get_within syntax.arguments position sort is
  pattern_written scope syntax (pattern.Occurrence nonterminal) sort is = tt
  pattern_written scope syntax (pattern.Apply operator parts) sort is =
      let sorts = applied_some scope operator (pattern_sorts scope syntax parts) sort (if_found (is_linear syntax.nonterminals operator parts) (applied_sort scope operator (pattern_sorts scope syntax parts)) sort is) in
      patterns_written scope syntax parts sorts.0 sorts.1
  pattern_written scope syntax (pattern.Invoke number parts) sort is =
      let called = called_some (slice_get scope.defined number) (pattern_sorts scope syntax parts) sort is in
      (slice_get_within scope.defined number called.0.0 called.0.1, patterns_written scope syntax parts called.1.0 called.1.1)

  patterns_written : (scope : Scope) (syntax : Syntax) (ps : Patterns) (sorts : List Sort) → pattern_sorts scope syntax ps ≡ Some sorts → PatternsWritable (length syntax.arguments) (length scope.defined) ps
  patterns_written scope syntax pattern.none sorts is = tt
  patterns_written scope syntax (pattern.more first rest) sorts is =
      let both = with_some (pattern_sort scope syntax first) (pattern_sorts scope syntax rest) sorts is in
      (pattern_written scope syntax first both.0.0 both.0.1, patterns_written scope syntax rest both.1.0 both.1.1)

has_sort : (sort : Sort) (found : Option Sort) → is_sort sort found ≡ true → (other : Sort) × (found ≡ Some other)
has_sort sort None is = cc
has_sort sort (Some other) is = (other, refl)

fitting_rule : (scope : Scope) (syntax : Syntax) (sort : Sort) (production : Production) → is_sort sort (rule_sort scope syntax production) ≡ true → RuleWritable (length syntax.arguments) (length scope.defined) production
fitting_rule scope syntax sort (Template p) is =
    let found = has_sort sort (pattern_sort scope syntax p) is in
    pattern_written scope syntax p found.0 found.1
fitting_rule scope syntax sort (EachConstant other) is = tt
fitting_rule scope syntax sort (EachVariable other) is = tt

-- what all items pass, one passes
passes : {X : Type 0} (test : X → Bool) (items : List X) (place : ℕ) (item : X) → list_all test items ≡ true → slice_get items place ≡ Some item → test item ≡ true
passes test [] place item all is = cc
passes test (first ∷ rest) zero item all is = let same : first ≡ item = cc in subst (λ x. test x ≡ true) same (first_so (test first) (list_all test rest) all)
passes test (first ∷ rest) (suc place) item all is = passes test rest place item (second_so (test first) (list_all test rest) all) is

fitting_group : (numeric : Sort → Bool) (scope : Scope) (syntax : Syntax) (group : Nonterminal) (rule : ℕ) (production : Production) → nonterminal_fits numeric scope syntax group ≡ true → slice_get group.rules rule ≡ Some production
    → RuleWritable (length syntax.arguments) (length scope.defined) production
fitting_group numeric scope syntax group rule production ok at =
    let sized = second_so (is_known numeric group.sort) (nat_lt (length group.rules) (2 ^ 31) && list_all (λ rule. is_sort group.sort (rule_sort scope syntax rule)) group.rules) ok in
    let all = second_so (nat_lt (length group.rules) (2 ^ 31)) (list_all (λ rule. is_sort group.sort (rule_sort scope syntax rule)) group.rules) sized in
    fitting_rule scope syntax group.sort production (passes (λ rule. is_sort group.sort (rule_sort scope syntax rule)) group.rules rule production all at)

all_fit : (numeric : Sort → Bool) (scope : Scope) (syntax : Syntax) → is_formed numeric scope syntax ≡ true → list_all (nonterminal_fits numeric scope syntax) syntax.nonterminals ≡ true
all_fit numeric scope syntax formed =
    let known = second_so (nat_le 1 (length syntax.nonterminals) && nat_lt (length syntax.nonterminals) (2 ^ 31)) (list_all (is_known numeric) syntax.arguments && list_all (nonterminal_fits numeric scope syntax) syntax.nonterminals) formed in
    second_so (list_all (is_known numeric) syntax.arguments) (list_all (nonterminal_fits numeric scope syntax) syntax.nonterminals) known

rule_written : (numeric : Sort → Bool) (scope : Scope) (syntax : Syntax) → is_formed numeric scope syntax ≡ true → (nonterminal rule : ℕ) (production : Production) → rule_at syntax nonterminal rule ≡ Some production
    → RuleWritable (length syntax.arguments) (length scope.defined) production
rule_written numeric scope syntax formed nonterminal rule production is = go (slice_get syntax.nonterminals nonterminal) refl is
  where
    go : (found : Option Nonterminal) → slice_get syntax.nonterminals nonterminal ≡ found → rule_of found rule ≡ Some production → RuleWritable (length syntax.arguments) (length scope.defined) production
    go None at e = cc
    go (Some group) at e = fitting_group numeric scope syntax group rule production (passes (nonterminal_fits numeric scope syntax) syntax.nonterminals nonterminal group (all_fit numeric scope syntax formed) at) e

abbrev EachWritable : ℕ → ℕ → List Expr → Type 0
EachWritable arguments definitions [] = Unit {0}
EachWritable arguments definitions (term ∷ terms) = IsWritable arguments definitions term × EachWritable arguments definitions terms

each_taken : (arguments definitions count : ℕ) (terms : List Expr) → EachWritable arguments definitions terms → EachWritable arguments definitions (take count terms)
each_taken arguments definitions zero terms each = tt
each_taken arguments definitions (suc count) [] each = tt
each_taken arguments definitions (suc count) (term ∷ terms) each = (each.0, each_taken arguments definitions count terms each.1)

each_dropped : (arguments definitions count : ℕ) (terms : List Expr) → EachWritable arguments definitions terms → EachWritable arguments definitions (drop count terms)
each_dropped arguments definitions zero terms each = each
each_dropped arguments definitions (suc count) [] each = tt
each_dropped arguments definitions (suc count) (term ∷ terms) each = each_dropped arguments definitions count terms each.1

first_written : (arguments definitions : ℕ) (terms : List Expr) → 1 ≤ length terms → EachWritable arguments definitions terms → IsWritable arguments definitions (pattern.first_of terms)
first_written arguments definitions [] some each = absurd (omega arith)
first_written arguments definitions (term ∷ terms) some each = each.0

mutual
  unfolding filled all_filled IsWritable AreWritable

  filled_written : (arguments definitions : ℕ) (p : Pattern) (terms : List Expr) → PatternWritable arguments definitions p → length (occurring p) ≤ length terms → EachWritable arguments definitions terms → IsWritable arguments definitions (filled p terms)
  filled_written arguments definitions (pattern.Constant value) terms fits enough each = fits
  filled_written arguments definitions (pattern.Variable position) terms fits enough each = fits
  filled_written arguments definitions (pattern.Occurrence nonterminal) terms fits enough each = first_written arguments definitions terms enough each
  filled_written arguments definitions (pattern.Apply operator parts) terms fits enough each = all_filled_written arguments definitions parts terms fits enough each
  filled_written arguments definitions (pattern.Invoke number parts) terms fits enough each = (fits.0, all_filled_written arguments definitions parts terms fits.1 enough each)

  all_filled_written : (arguments definitions : ℕ) (ps : Patterns) (terms : List Expr) → PatternsWritable arguments definitions ps → length (all_occurring ps) ≤ length terms → EachWritable arguments definitions terms → AreWritable arguments definitions (all_filled ps terms)
  all_filled_written arguments definitions pattern.none terms fits enough each = tt
  all_filled_written arguments definitions (pattern.more first rest) terms fits enough each =
      let sum = length-append (occurring first) (all_occurring rest) in
      let front = length-take (length (occurring first)) terms in
      let back = length-drop (length (occurring first)) terms in (
        filled_written arguments definitions first (take (length (occurring first)) terms) fits.0 (omega (arith, sum, front)) (each_taken arguments definitions (length (occurring first)) terms each),
        all_filled_written arguments definitions rest (drop (length (occurring first)) terms) fits.1 (omega (arith, sum, back)) (each_dropped arguments definitions (length (occurring first)) terms each),
      )

map_gives : {A B : Type 0} (f : A → B) (found : Option A) (y : B) → option_map f found ≡ Some y → (x : A) × (found ≡ Some x) × (f x ≡ y)
map_gives f None y is = cc
map_gives f (Some x) y is = (x, refl, cc)

literal_written : (arguments definitions : ℕ) (value : Val) → is_written value ≡ true → IsWritable arguments definitions (literal value)
unfolding IsWritable AreWritable
literal_written arguments definitions (Truth truth) ok = refl
literal_written arguments definitions (Whole (pos n)) ok = refl
literal_written arguments definitions (Whole (negsuc n)) ok = (refl, tt)
literal_written arguments definitions (Bits width number) ok = ok

constant_written : (arguments definitions : ℕ) (found : Option Production) (value : Val) (term : Expr) → constant_yield found value ≡ Some term → IsWritable arguments definitions term
constant_written arguments definitions None value term is = cc
constant_written arguments definitions (Some (Template p)) value term is = cc
constant_written arguments definitions (Some (EachConstant sort)) value term is =
    let given = if_gives (same_sort sort (sort_of_value value) && is_written value) (literal value) term is in
    subst (IsWritable arguments definitions) given.1 (literal_written arguments definitions value (second_so (same_sort sort (sort_of_value value)) (is_written value) given.0))
constant_written arguments definitions (Some (EachVariable sort)) value term is = cc

sorted_within : (sort : Sort) (sorts : List Sort) (position : ℕ) → is_sort sort (slice_get sorts position) ≡ true → position < length sorts
sorted_within sort sorts position is = go (slice_get sorts position) refl is
  where
    go : (found : Option Sort) → slice_get sorts position ≡ found → is_sort sort found ≡ true → position < length sorts
    go None at e = cc
    go (Some other) at e = slice_get_within sorts position other at

variable_written : (definitions : ℕ) (found : Option Production) (sorts : List Sort) (position : ℕ) (term : Expr) → variable_yield found sorts position ≡ Some term → IsWritable (length sorts) definitions term
unfolding IsWritable
variable_written definitions None sorts position term is = cc
variable_written definitions (Some (Template p)) sorts position term is = cc
variable_written definitions (Some (EachConstant sort)) sorts position term is = cc
variable_written definitions (Some (EachVariable sort)) sorts position term is =
    let given = if_gives (is_sort sort (slice_get sorts position)) (Variable position) term is in
    subst (IsWritable (length sorts) definitions) given.1 (sorted_within sort sorts position given.0)

node_written : (arguments definitions : ℕ) (found : Option Production) (children : List ℕ → Option (List Expr)) (term : Expr) → ((production : Production) → found ≡ Some production → RuleWritable arguments definitions production)
    → ((occurrences : List ℕ) (terms : List Expr) → children occurrences ≡ Some terms → EachWritable arguments definitions terms × (length terms ≡ length occurrences)) → node_yield found children ≡ Some term → IsWritable arguments definitions term
node_written arguments definitions None children term rule below is = cc
node_written arguments definitions (Some (Template p)) children term rule below is =
    let given = map_gives (filled p) (children (occurring p)) term is in
    let each = below (occurring p) given.0 given.1 in
    subst (IsWritable arguments definitions) given.2 (filled_written arguments definitions p given.0 (rule (Template p) refl) (omega (arith, each.1)) each.0)
node_written arguments definitions (Some (EachConstant sort)) children term rule below is = cc
node_written arguments definitions (Some (EachVariable sort)) children term rule below is = cc

joined_gives : (first : Option Expr) (rest : Option (List Expr)) (all : List Expr) → terms_joined first rest ≡ Some all → (term : Expr) × (terms : List Expr) × (first ≡ Some term) × (rest ≡ Some terms) × (all ≡ term ∷ terms)
joined_gives None rest all is = cc
joined_gives (Some term) None all is = cc
joined_gives (Some term) (Some terms) all is = (term, terms, refl, refl, cc)

module _ (numeric : Sort → Bool) (scope : Scope) (syntax : Syntax) (formed : is_formed numeric scope syntax ≡ true) where
  mutual
    unfolding yield_from yields_from

    derived_written : (nonterminal : ℕ) (tree : Tree) (term : Expr) → yield_from syntax nonterminal tree ≡ Some term → IsWritable (length syntax.arguments) (length scope.defined) term
    derived_written nonterminal (Node rule children) term is =
        node_written (length syntax.arguments) (length scope.defined) (rule_at syntax nonterminal rule) (λ occurrences. yields_from syntax occurrences children) term
        (λ production. rule_written numeric scope syntax formed nonterminal rule production)
        (λ occurrences terms. all_derived_written occurrences children terms) is
    derived_written nonterminal (ConstantLeaf rule value) term is = constant_written (length syntax.arguments) (length scope.defined) (rule_at syntax nonterminal rule) value term is
    derived_written nonterminal (VariableLeaf rule position) term is = variable_written (length scope.defined) (rule_at syntax nonterminal rule) syntax.arguments position term is

    all_derived_written : (nonterminals : List ℕ) (children : Trees) (terms : List Expr) → yields_from syntax nonterminals children ≡ Some terms → EachWritable (length syntax.arguments) (length scope.defined) terms × (length terms ≡ length nonterminals)
    all_derived_written [] trees.none [] is = (tt, refl)
    all_derived_written [] trees.none (term ∷ terms) is = cc
    all_derived_written [] (trees.more first rest) terms is = cc
    all_derived_written (nonterminal ∷ nonterminals) trees.none terms is = cc
    all_derived_written (nonterminal ∷ nonterminals) (trees.more first rest) terms is =
        let given = joined_gives (yield_from syntax nonterminal first) (yields_from syntax nonterminals rest) terms is in
        let others = all_derived_written nonterminals rest given.1 given.3 in
        rw given.4 ((derived_written nonterminal first given.0 given.2, others.0), ap suc others.1)

  pub member_written : (term : Expr) → IsMember syntax term → IsWritable (length syntax.arguments) (length scope.defined) term
  member_written term member = derived_written 0 member.tree term member.derives

-- a well-formed grammar over its function's arguments
pub record IsGiven (numeric : Sort → Bool) (scope : Scope) (goal : Goal) : Type 0 where
  pub arguments : length goal.grammar.arguments ≡ length goal.signature.takes
  pub formed : is_formed numeric scope goal.grammar ≡ true

-- members of well-formed grammars can be written
pub members_written : (numeric : Sort → Bool) (scope : Scope) (goals : List Goal) (bodies : List Expr) → All (IsGiven numeric scope) goals → AreMembers goals bodies → HaveBodies (length scope.defined) goals bodies
members_written numeric scope [] [] each members = tt
members_written numeric scope [] (body ∷ bodies) each members = absurd members
members_written numeric scope (goal ∷ goals) [] each members = absurd members
members_written numeric scope (goal ∷ goals) (body ∷ bodies) each members =
    let first = All-head (IsGiven numeric scope) goal goals each in
    let rest = All-tail (IsGiven numeric scope) goal goals each in
    (rw (← first.arguments) (member_written numeric scope goal.grammar first.formed body members.0), members_written numeric scope goals bodies rest members.1)
