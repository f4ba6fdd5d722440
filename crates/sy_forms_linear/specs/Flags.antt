-- Which nonterminals derive constants alone, by the written form of their rules.
use Rattle.std.specs.Prelude.{ℕ, List, [], ◌∷◌, ◌≡◌, Bool, true, false, ◌&&◌, nat_le, Option, Some, None, is_some, Ok, Err, codes, if◌then◌else◌}
use Rattle.sy_text_items.specs.Items.{Item, leaf, group, Items, none, more, listed}
use Rattle.sy_terms.specs.Sorts.{same_sort}
use Rattle.sy_terms.specs.declared.sort.Sort.{Sort}
use Rattle.sy_terms.specs.declared.sort.Sort.TheVariants as sorts
use Rattle.sy_forms_items.specs.Parts.{numeral, is_symbol, has_no_items}
use Rattle.sy_forms_items.specs.Readings.{Reading}
use Rattle.sy_forms_items.specs.declared.names.Named.{Named}
use Rattle.sy_forms_items.specs.Environments.{Environment}
use Rattle.sy_forms_items.specs.Sorts.{read_sort}
use Rattle.sy_forms_linear.specs.declared.flags.Kind.{Kind}
use Rattle.sy_forms_linear.specs.declared.flags.Kind.TheVariants as kinds

-- the other item in a list of a word and an item
abbrev pub item_behind : List ℕ → Items → Option Item
item_behind word none = None
item_behind word (more head none) = None
item_behind word (more head (more item none)) = if is_symbol word head then Some item else None
item_behind word (more head (more item (more next rest))) = None

abbrev pub reads_sort : Sort → Reading Sort → Bool
reads_sort sort (Ok found) = same_sort found sort
reads_sort sort (Err fault) = false

-- the item is this sort
abbrev pub has_sort : Environment → Sort → Item → Bool
has_sort env sort item = reads_sort sort (read_sort env.logic env.sorts item)

-- Constants

-- `(- n)` with a numeral n
abbrev pub is_negated_numeral : Items → Bool
is_negated_numeral none = false
is_negated_numeral (more head none) = false
is_negated_numeral (more head (more n none)) = is_symbol (codes "-") head && is_some (numeral n)
is_negated_numeral (more head (more n (more next rest))) = false

abbrev pub is_int_rule : Environment → Option Item → Bool
is_int_rule env None = false
is_int_rule env (Some sort) = has_sort env sorts.Int sort

abbrev pub constant_list : Environment → Items → Bool
constant_list env parts = if is_negated_numeral parts then true else is_int_rule env (item_behind (codes "Constant") parts)

-- a numeral, `(- n)` with a numeral n, or `(Constant Int)`
abbrev pub is_constant_rule : Environment → Item → Bool
is_constant_rule env (leaf atom place) = is_some (numeral (leaf atom place))
is_constant_rule env (group parts place) = constant_list env parts

-- Divisors

abbrev pub at_least_one : Option ℕ → Bool
at_least_one None = false
at_least_one (Some n) = nat_le 1 n

-- a numeral of at least 1
abbrev pub is_positive_numeral : Item → Bool
is_positive_numeral item = at_least_one (numeral item)

abbrev pub is_positive_item : Option Item → Bool
is_positive_item None = false
is_positive_item (Some n) = is_positive_numeral n

-- a numeral of at least 1, or `(- n)` with such a numeral n
abbrev pub is_divisor_rule : Item → Bool
is_divisor_rule (leaf atom place) = is_positive_numeral (leaf atom place)
is_divisor_rule (group parts place) = is_positive_item (item_behind (codes "-") parts)

-- Groups

abbrev pub is_of_kind : Kind → Environment → Item → Bool
is_of_kind kinds.Constant env item = is_constant_rule env item
is_of_kind kinds.Divisor env item = is_divisor_rule item

-- each rule is of the kind
abbrev pub are_of_kind : Kind → Environment → Items → Bool
are_of_kind kind env none = true
are_of_kind kind env (more first rest) = is_of_kind kind env first && are_of_kind kind env rest

-- a list of one such rule or more
abbrev pub has_rules_of_kind : Kind → Environment → Item → Bool
has_rules_of_kind kind env (leaf atom place) = false
has_rules_of_kind kind env (group rules place) = if has_no_items rules then false else are_of_kind kind env rules

-- a well-formed group of the nonterminal, in which each rule is of the kind
abbrev pub has_parts_of_kind : Kind → Environment → Named → Items → Bool
has_parts_of_kind kind env named (more name (more sort (more rules none))) =
    is_symbol named.name name && has_sort env named.sort sort && has_rules_of_kind kind env rules
has_parts_of_kind kind env named _ = false

abbrev pub is_group_of_kind : Kind → Environment → Named → Item → Bool
is_group_of_kind kind env named (leaf atom place) = false
is_group_of_kind kind env named (group parts place) = has_parts_of_kind kind env named parts

-- which nonterminals have rules of the kind alone, by their groups in order; one without a group doesn't
abbrev pub groups_of_kind : Kind → Environment → List Named → List Item → List Bool
groups_of_kind kind env [] groups = []
groups_of_kind kind env (named ∷ rest) [] = false ∷ groups_of_kind kind env rest []
groups_of_kind kind env (named ∷ rest) (first ∷ groups) = is_group_of_kind kind env named first ∷ groups_of_kind kind env rest groups

abbrev pub flags_of_kind : Kind → Environment → List Named → Items → List Bool
flags_of_kind kind env nonterminals groups = groups_of_kind kind env nonterminals (listed groups)

-- what the first of the nonterminals is flagged as, by the first of the groups that are left, and the groups behind it
abbrev pub TakesOff : Kind → Environment → Named → Items → Bool → Items → Type 0
TakesOff kind env named left flag rest =
    (others : List Named) → groups_of_kind kind env (named ∷ others) (listed left) ≡ flag ∷ groups_of_kind kind env others (listed rest)

-- which nonterminals derive numerals alone
abbrev pub constant_groups : Environment → List Named → Items → List Bool
constant_groups env nonterminals groups = flags_of_kind kinds.Constant env nonterminals groups

-- which nonterminals derive numerals other than 0 alone
abbrev pub divisor_groups : Environment → List Named → Items → List Bool
divisor_groups env nonterminals groups = flags_of_kind kinds.Divisor env nonterminals groups
