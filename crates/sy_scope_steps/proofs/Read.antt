-- What was read of a grammar, by its items.
use Rattle.std.proofs.Common.{◌≡◌, ◌≤◌, ◌+◌, ◌∙◌, refl, sym, ap, arith, List, [], ◌∷◌, ◌++◌, length, Bool, true, false, cond, Some, None}
use Rattle.std.specs.Prelude.{Ok, Err, nat_lt, Option}
use Rattle.std.proofs.lemmas.Bool.{ltb-true}
use Rattle.sy_text_items.specs.Items.{Item, Items, none, more, listed}
use Rattle.sy_text_items.specs.declared.atom.Place.{Place}
use Rattle.sy_terms.specs.declared.sort.Sort.{Sort}
use Rattle.sy_scope_causes.specs.declared.cause.Cause.{Cause}
use Rattle.sy_scope_causes.specs.declared.cause.Cause.TheVariants as cause
use Rattle.sy_grammar_base.specs.Trees.{Production, Nonterminal}
use Rattle.sy_forms_items.specs.declared.names.Named.{Named}
use Rattle.sy_forms_items.specs.Environments.{Environment}
use Rattle.sy_forms_items.specs.Parts.{place_of}
use Rattle.sy_forms_items.specs.Readings.{Reading, refuse, ◌>>=◌}
use Rattle.sy_forms_items.specs.Productions.{Ruling, production_at}
use Rattle.sy_forms.specs.Rules.{read_rule}
use Rattle.sy_scope_names.proofs.Earlier.{bind_ok, if_ok, unless_ok}
use Rattle.sy_scope_steps.specs.Grammars.{Collected, Grouped, GrownGrammar, with_rule, read_rules, grouped, is_group_of, opened, with_group, grammar_extended, read_grouped, read_group, read_groups}

-- the rule that an item is
pub record IsRule (env : Environment) (sort : Sort) (item : Item) (production : Production) : Type 0 where
  pub ruling : Ruling
  pub read : read_rule env sort item ≡ Ok ruling
  pub is : production_at ruling ≡ production

-- the rules that items are
abbrev pub AreRules : Environment → Sort → Items → List Production → Type 0
AreRules env sort none [] = Unit {0}
AreRules env sort none (p ∷ ps) = ⊥
AreRules env sort (more first rest) [] = ⊥
AreRules env sort (more first rest) (p ∷ ps) = IsRule env sort first p × AreRules env sort rest ps

-- the rules behind those before them, at most 1,024 in all
pub record Adds (env : Environment) (sort : Sort) (items : Items) (before after : Collected) : Type 0 where
  pub rules : List Production
  pub are : AreRules env sort items rules
  pub behind : after.rules ≡ before.rules ++ rules
  pub count : after.count ≡ before.count + length rules
  pub few : after.count ≤ 1024

nil_right : {A : Type 0} (xs : List A) → xs ++ [] ≡ xs
nil_right [] = refl
nil_right (x ∷ xs) = ap (λ zs. x ∷ zs) (nil_right xs)

push_assoc : {A : Type 0} (xs : List A) (x : A) (ys : List A) → (xs ++ x ∷ []) ++ ys ≡ xs ++ x ∷ ys
push_assoc [] x ys = refl
push_assoc (y ∷ xs) x ys = ap (λ zs. y ∷ zs) (push_assoc xs x ys)

pub rules_read : (env : Environment) (sort : Sort) (before : Collected) (items : Items) (after : Collected) → before.count ≤ 1024 → read_rules env sort before items ≡ Ok after → Adds env sort items before after
unfolding read_rules
rules_read env sort before none after few e =
    let same : before ≡ after = cc in
    record { rules = []; are = tt; behind = rw (sym same) (sym (nil_right before.rules)); count = rw (sym same) (omega arith); few = rw (sym same) few }
rules_read env sort before (more first rest) after few e =
    let room = if_ok (nat_lt before.count 1024) (place_of first) cause.TooMany (read_rule env sort first >>= λ rule. read_rules env sort (with_rule before rule) rest) after e in
    let one = bind_ok (read_rule env sort first) (λ rule. read_rules env sort (with_rule before rule) rest) after room.1 in
    let less = ltb-true before.count 1024 room.0 in
    let others = rules_read env sort (with_rule before one.0) rest after (omega (arith, less)) one.2 in
    record {
      rules = production_at one.0 ∷ others.rules;
      are = (record { ruling = one.0; read = one.1; is = refl }, others.are);
      behind = others.behind ∙ push_assoc before.rules (production_at one.0) others.rules;
      count = omega (arith, others.count);
      few = others.few;
    }

-- the nonterminal whose group an item is
pub record IsGroup (env : Environment) (named : Named) (item : Item) (nonterminal : Nonterminal) : Type 0 where
  pub parts : Grouped
  pub grouped : grouped item ≡ Some parts
  pub own : is_group_of env named parts ≡ true
  pub sort : nonterminal.sort ≡ named.sort
  pub rules : AreRules env named.sort parts.rules nonterminal.rules
  pub few : length nonterminal.rules ≤ 1024

-- the nonterminals whose groups items are
abbrev pub AreGroups : Environment → List Named → Items → List Nonterminal → Type 0
AreGroups env [] none [] = Unit {0}
AreGroups env (x ∷ named) (more first rest) (n ∷ ns) = IsGroup env x first n × AreGroups env named rest ns
AreGroups env _ _ _ = ⊥

-- the nonterminals behind those before them
pub record Extends (env : Environment) (named : List Named) (items : Items) (before after : GrownGrammar) : Type 0 where
  pub nonterminals : List Nonterminal
  pub are : AreGroups env named items nonterminals
  pub behind : after.nonterminals ≡ before.nonterminals ++ nonterminals
  pub few : after.count ≤ 1024

-- one nonterminal behind those before it
pub record ExtendsBy (env : Environment) (named : Named) (item : Item) (before after : GrownGrammar) : Type 0 where
  pub nonterminal : Nonterminal
  pub is : IsGroup env named item nonterminal
  pub behind : after.nonterminals ≡ before.nonterminals ++ nonterminal ∷ []
  pub few : after.count ≤ 1024

grouped_read : (env : Environment) (named : Named) (item : Item) (parts : Option Grouped) (before after : GrownGrammar) → grouped item ≡ parts → before.count ≤ 1024 → read_grouped env named (place_of item) parts before ≡ Ok after → ExtendsBy env named item before after
grouped_read env named item None before after at few e = absurd (cc)
grouped_read env named item (Some parts) before after at few e =
    let own = if_ok (is_group_of env named parts) (place_of item) cause.Predeclared (grammar_extended env named.sort parts.rules before) after e in
    let read = bind_ok (read_rules env named.sort (opened before) parts.rules) (λ collected. Ok (with_group before named.sort collected)) after own.1 in
    let added = rules_read env named.sort (opened before) parts.rules read.0 few read.1 in
    let same : with_group before named.sort read.0 ≡ after = cc in
    record {
      nonterminal = record { sort = named.sort; rules = read.0.rules };
      is = record { parts = parts; grouped = at; own = own.0; sort = refl; rules = rw (added.behind) added.are; few = rw (added.behind) (omega (arith, added.count, added.few)) };
      behind = ap (λ (g : GrownGrammar). g.nonterminals) (sym same);
      few = rw (sym same) added.few;
    }

pub group_read : (env : Environment) (named : Named) (item : Item) (before after : GrownGrammar) → before.count ≤ 1024 → read_group env named item before ≡ Ok after → ExtendsBy env named item before after
unfolding read_group
group_read env named item before after few e = grouped_read env named item (grouped item) before after refl few e

pub groups_read : (env : Environment) (named : List Named) (items : Items) (before after : GrownGrammar) → length (listed items) ≡ length named → before.count ≤ 1024 → read_groups env named items before ≡ Ok after → Extends env named items before after
unfolding read_groups
groups_read env [] none before after lengths few e =
    let same : before ≡ after = cc in
    record { nonterminals = []; are = tt; behind = rw (sym same) (sym (nil_right before.nonterminals)); few = rw (sym same) few }
groups_read env [] (more first rest) before after lengths few e = absurd (omega (arith, lengths))
groups_read env (x ∷ named) none before after lengths few e = absurd (omega (arith, lengths))
groups_read env (x ∷ named) (more first rest) before after lengths few e =
    let one = bind_ok (read_group env x first before) (λ longer. read_groups env named rest longer) after e in
    let own = group_read env x first before one.0 few one.1 in
    let others = groups_read env named rest one.0 after (omega (arith, lengths)) own.few one.2 in
    record {
      nonterminals = own.nonterminal ∷ others.nonterminals;
      are = (own.is, others.are);
      behind = others.behind ∙ ap (λ ns. ns ++ others.nonterminals) own.behind ∙ push_assoc before.nonterminals own.nonterminal others.nonterminals;
      few = others.few;
    }
