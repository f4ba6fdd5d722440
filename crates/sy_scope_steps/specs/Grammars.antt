-- Written grammars: a predeclaration of nonterminals, and a group of rules for each.
use Rattle.std.specs.Prelude.{ℕ, ◌+◌, List, [], ◌∷◌, ◌++◌, length, Bool, ◌&&◌, nat_lt, nat_eq, is_some, Option, Some, None, Ok, if◌then◌else◌}
use Rattle.sy_text_items.specs.Items.{Item, leaf, group, Items, none, more, listed}
use Rattle.sy_text_items.specs.declared.atom.Place.{Place}
use Rattle.sy_terms.specs.Values.{Val}
use Rattle.sy_terms.specs.declared.sort.Logic.{Logic}
use Rattle.sy_terms.specs.declared.sort.Sort.{Sort}
use Rattle.sy_scope_causes.specs.declared.cause.Cause.TheVariants as cause
use Rattle.sy_grammar_base.specs.Trees.{Production, Syntax, Nonterminal}
use Rattle.sy_forms_items.specs.declared.names.Entity.{Entity}
use Rattle.sy_forms_items.specs.declared.names.Named.{Named}
use Rattle.sy_forms_items.specs.declared.names.Role.TheVariants as role
use Rattle.sy_forms_items.specs.Environments.{Environment}
use Rattle.sy_forms_items.specs.Measures.{literals_in}
use Rattle.sy_forms_items.specs.Parts.{symbol, place_of, has_no_items, is_symbol}
use Rattle.sy_forms_items.specs.Readings.{Reading, refuse, ◌>>=◌}
use Rattle.sy_forms_items.specs.Productions.{Ruling, Template, EachConstant, EachVariable, production_at}
use Rattle.sy_forms_linear.specs.Flags.{constant_groups, divisor_groups, has_sort}
use Rattle.sy_forms.specs.Rules.{read_rule}
use Rattle.sy_scope_names.specs.Requests.{Listed, Rulebook}
use Rattle.sy_scope_names.specs.Lists.{sorts_of_names, read_predeclared}

-- Rules of one group

-- how many rules the grammar has so far, those of the group, and the values that were written in the grammar
pub record Collected : Type 0 where
  pub count : ℕ
  pub rules : List Production
  pub values : List Val

abbrev pub values_in : Ruling → List Val
values_in (Template phrase) = literals_in phrase
values_in (EachConstant sort) = []
values_in (EachVariable sort) = []

-- with one rule more
abbrev pub with_rule : Collected → Ruling → Collected
with_rule collected rule = record {
  count = collected.count + 1;
  rules = collected.rules ++ production_at rule ∷ [];
  values = collected.values ++ values_in rule;
}

-- the rules from left to right, behind those before them; at most 1,024 in a grammar
unfoldable pub read_rules : Environment → Sort → Collected → Items → Reading Collected
read_rules env sort collected none = Ok collected
read_rules env sort collected (more first rest) =
    if nat_lt collected.count 1024 then (read_rule env sort first >>= λ rule. read_rules env sort (with_rule collected rule) rest)
    else refuse (place_of first) cause.TooMany

-- Groups

-- a group's name, its sort, and its rules
pub record Grouped : Type 0 where
  pub name : Item
  pub sort : Item
  pub rules : Items

-- a list of one item or more
abbrev pub nonempty : Item → Option Items
nonempty (leaf atom place) = None
nonempty (group items place) = if has_no_items items then None else Some items

abbrev pub group_with : Item → Item → Option Items → Option Grouped
group_with name sort None = None
group_with name sort (Some rules) = if is_some (symbol name) then Some (record { name = name; sort = sort; rules = rules }) else None

abbrev pub grouped_in : Items → Option Grouped
grouped_in (more name (more sort (more rules none))) = group_with name sort (nonempty rules)
grouped_in _ = None

-- a name, which is a symbol, a sort and a nonempty list of rules
abbrev pub grouped : Item → Option Grouped
grouped (leaf atom place) = None
grouped (group parts place) = grouped_in parts

-- how many rules there are so far, the nonterminals that are done, and the values that were written in them
pub record GrownGrammar : Type 0 where
  pub count : ℕ
  pub nonterminals : List Nonterminal
  pub values : List Val

-- before a nonterminal's first rule
abbrev pub opened : GrownGrammar → Collected
opened grown = record { count = grown.count; rules = []; values = grown.values }

-- with one nonterminal more
abbrev pub with_group : GrownGrammar → Sort → Collected → GrownGrammar
with_group grown sort collected = record {
  count = collected.count;
  nonterminals = grown.nonterminals ++ record { sort = sort; rules = collected.rules } ∷ [];
  values = collected.values;
}

-- the group is that of the nonterminal
abbrev pub is_group_of : Environment → Named → Grouped → Bool
is_group_of env named parts = is_symbol named.name parts.name && has_sort env named.sort parts.sort

-- with one nonterminal more, whose rules these are
abbrev pub grammar_extended : Environment → Sort → Items → GrownGrammar → Reading GrownGrammar
grammar_extended env sort rules grown = read_rules env sort (opened grown) rules >>= λ collected. Ok (with_group grown sort collected)

abbrev pub read_grouped : Environment → Named → Place → Option Grouped → GrownGrammar → Reading GrownGrammar
read_grouped env named place None grown = refuse place cause.Shape
read_grouped env named place (Some parts) grown =
    if is_group_of env named parts then grammar_extended env named.sort parts.rules grown else refuse place cause.Predeclared

unfoldable pub read_group : Environment → Named → Item → GrownGrammar → Reading GrownGrammar
read_group env named item grown = read_grouped env named (place_of item) (grouped item) grown

-- each nonterminal with its group
unfoldable pub read_groups : Environment → List Named → Items → GrownGrammar → Reading GrownGrammar
read_groups env (named ∷ rest) (more first groups) grown = read_group env named first grown >>= λ longer. read_groups env rest groups longer
read_groups env _ _ grown = Ok grown

-- Grammars

-- where rules are read, before the nonterminals are known
abbrev pub rules_under : List (List ℕ × Sort) → List (List ℕ × Entity) → Logic → List Named → Environment
rules_under sorts entities logic arguments = record {
  logic = logic;
  role = role.Grammar;
  sorts = sorts;
  entities = entities;
  arguments = arguments;
  nonterminals = [];
  constants = [];
  divisors = [];
}

-- where rules are read, with the nonterminals, and which of these derive numerals alone, or numerals other than 0 alone
abbrev pub among_nonterminals : Environment → List Named → Items → Environment
among_nonterminals env nonterminals groups = record env {
  nonterminals = nonterminals;
  constants = constant_groups env nonterminals groups;
  divisors = divisor_groups env nonterminals groups;
}

-- a grammar, and the values that were written in it
pub record Written : Type 0 where
  pub grammar : Syntax
  pub values : List Val

abbrev pub written_as : List Named → GrownGrammar → Written
written_as arguments grown = record { grammar = record { arguments = sorts_of_names arguments; nonterminals = grown.nonterminals }; values = grown.values }

abbrev pub nothing_grown : GrownGrammar
nothing_grown = record { count = 0; nonterminals = []; values = [] }

-- as many groups as nonterminals, one or more
unfoldable pub read_productions : Environment → List Named → Listed → Reading Written
read_productions env nonterminals groups =
    if has_no_items groups.items then refuse groups.place cause.Shape
    else if nat_eq (length (listed groups.items)) (length nonterminals) then
    (read_groups (among_nonterminals env nonterminals groups.items) nonterminals groups.items nothing_grown >>= λ grown. Ok (written_as env.arguments grown))
    else refuse groups.place cause.Predeclared

-- a grammar of a function with these arguments and this sort
abbrev pub read_rulebook : List (List ℕ × Sort) → List (List ℕ × Entity) → Logic → List Named → Sort → Rulebook → Reading Written
read_rulebook sorts entities logic arguments sort book =
    read_predeclared sorts logic arguments sort book.predeclared >>= λ nonterminals. read_productions (rules_under sorts entities logic arguments) nonterminals book.groups
