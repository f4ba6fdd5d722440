-- A nonterminal that is flagged as constant gives constants alone.
use Rattle.std.proofs.Common.{◌≡◌, ◌∙◌, refl, sym, ap, subst, ℕ, zero, suc, List, [], ◌∷◌, Bool, true, false, Some, None, slice_get}
use Rattle.std.specs.Prelude.{codes, ◌&&◌, is_some, if◌then◌else◌}
use Rattle.std.specs.List.{list_all}
use Rattle.sy_text_items.specs.Items.{Item, leaf, group, Items, none, more}
use Rattle.sy_terms.specs.declared.sort.Logic.TheVariants.{Lia}
use Rattle.sy_terms.specs.declared.sort.Sort.{Sort}
use Rattle.sy_terms_operators.proofs.Equations.{both_true, if_Some}
use Rattle.sy_grammar_base.specs.Formed.{gives_constants, all_give_constants}
use Rattle.sy_grammar_base.specs.Trees.{Production, Nonterminal}
use Rattle.sy_forms_items.specs.declared.names.Named.{Named}
use Rattle.sy_forms_items.specs.Environments.{Environment, sense_of}
use Rattle.sy_forms_items.specs.Parts.{has_no_items, is_symbol, symbol}
use Rattle.sy_forms_items.specs.Productions.{production_at}
use Rattle.sy_forms_linear.specs.Flags.{is_constant_rule, are_of_kind, has_rules_of_kind, has_parts_of_kind, is_group_of_kind, constant_groups, has_sort}
use Rattle.sy_forms_linear.specs.Linear.{flag_at}
use Rattle.sy_forms_linear.specs.declared.flags.Kind.TheVariants.{Constant}
use Rattle.sy_scope_steps.specs.Grammars.{Grouped, nonempty, group_with, grouped_in, grouped}
use Rattle.sy_scope_steps.proofs.Read.{IsRule, AreRules, AreGroups}
use Rattle.sy_forms.proofs.Readings.{at_read}
use Rattle.sy_forms.proofs.Rules.{constant_rule}

both : (a b : Bool) → a ≡ true → b ≡ true → (a && b) ≡ true
both true true e f = refl
both true false e f = f
both false b e f = e

-- minus stands for nothing in the logic of integers
abbrev FreeMinus : Environment → Type 0
FreeMinus env = env.logic ≡ Lia → sense_of env [] (codes "-") ≡ None

rule_constant : (env : Environment) (sort : Sort) (item : Item) (p : Production) → FreeMinus env → IsRule env sort item p → is_constant_rule env item ≡ true → gives_constants p ≡ true
rule_constant env sort item p free is e =
    ap gives_constants (sym is.is) ∙ at_read (λ rule. gives_constants (production_at rule) ≡ true) _ is.ruling (constant_rule env free sort item e) is.read

rules_constant : (env : Environment) (sort : Sort) (items : Items) (ps : List Production) → FreeMinus env → AreRules env sort items ps → are_of_kind Constant env items ≡ true → list_all gives_constants ps ≡ true
rules_constant env sort none [] free are e = refl
rules_constant env sort none (p ∷ ps) free are e = absurd are
rules_constant env sort (more first rest) [] free are e = absurd are
rules_constant env sort (more first rest) (p ∷ ps) free are e =
    let each = both_true (is_constant_rule env first) (are_of_kind Constant env rest) e in
    both (gives_constants p) (list_all gives_constants ps) (rule_constant env sort first p free are.0 each.0) (rules_constant env sort rest ps free are.1 each.1)

-- the rules that a list of them holds
listed_rules : (b : Bool) (rs : Items) (name sort : Item) (parts : Grouped) → group_with name sort (if b then None else Some rs) ≡ Some parts → rs ≡ parts.rules
listed_rules true rs name sort parts e = absurd cc
listed_rules false rs name sort parts e = ap (λ (g : Grouped). g.rules) (if_Some (is_some (symbol name)) (record { name = name; sort = sort; rules = rs }) parts e).1

unless_empty : (b c : Bool) → (if b then false else c) ≡ true → c ≡ true
unless_empty true c e = absurd cc
unless_empty false c e = e

parts_constant : (env : Environment) (name sort rules : Item) (parts : Grouped) → group_with name sort (nonempty rules) ≡ Some parts → has_rules_of_kind Constant env rules ≡ true → are_of_kind Constant env parts.rules ≡ true
parts_constant env name sort (leaf atom place) parts is e = absurd cc
parts_constant env name sort (group rs place) parts is e =
    subst (λ items. are_of_kind Constant env items ≡ true) (listed_rules (has_no_items rs) rs name sort parts is) (unless_empty (has_no_items rs) (are_of_kind Constant env rs) e)

items_constant : (env : Environment) (named : Named) (items : Items) (parts : Grouped) → grouped_in items ≡ Some parts → has_parts_of_kind Constant env named items ≡ true → are_of_kind Constant env parts.rules ≡ true
items_constant env named none parts is e = absurd cc
items_constant env named (more name none) parts is e = absurd cc
items_constant env named (more name (more sort none)) parts is e = absurd cc
items_constant env named (more name (more sort (more rules none))) parts is e =
    parts_constant env name sort rules parts is (both_true (is_symbol named.name name && has_sort env named.sort sort) (has_rules_of_kind Constant env rules) e).1
items_constant env named (more name (more sort (more rules (more next rest)))) parts is e = absurd cc

group_constant : (env : Environment) (named : Named) (item : Item) (parts : Grouped) → grouped item ≡ Some parts → is_group_of_kind Constant env named item ≡ true → are_of_kind Constant env parts.rules ≡ true
group_constant env named (leaf atom place) parts is e = absurd cc
group_constant env named (group items place) parts is e = items_constant env named items parts is e

pub flags_right : (env : Environment) (named : List Named) (items : Items) (ns : List Nonterminal) → FreeMinus env → AreGroups env named items ns → (number : ℕ) → flag_at (constant_groups env named items) number ≡ true
    → all_give_constants (slice_get ns number) ≡ true
flags_right env [] none [] free are number e = absurd cc
flags_right env [] none (n ∷ ns) free are number e = absurd are
flags_right env [] (more first rest) ns free are number e = absurd are
flags_right env (x ∷ named) none ns free are number e = absurd are
flags_right env (x ∷ named) (more first rest) [] free are number e = absurd are
flags_right env (x ∷ named) (more first rest) (n ∷ ns) free are zero e =
    rules_constant env x.sort are.0.parts.rules n.rules free are.0.rules (group_constant env x first are.0.parts are.0.grouped e)
flags_right env (x ∷ named) (more first rest) (n ∷ ns) free are (suc number) e = flags_right env named rest ns free are.1 number e
