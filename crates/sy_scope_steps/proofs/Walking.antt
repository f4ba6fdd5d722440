-- Readers of rules and groups, at the end of the list and at one item more.
use Rattle.std.proofs.Common.{◌≡◌, ◌≤◌, refl, arith, ℕ, List, [], ◌∷◌, ◌++◌, length, drop, true, false, None, zero, suc}
use Rattle.std.specs.Prelude.{Ok, nat_lt}
use Rattle.sy_text_items.specs.Items.{Item, Items, none, more}
use Rattle.sy_terms.specs.declared.sort.Sort.{Sort}
use Rattle.sy_scope_causes.specs.declared.cause.Cause.TheVariants as cause
use Rattle.sy_forms_items.specs.declared.names.Named.{Named}
use Rattle.sy_forms_items.specs.Environments.{Environment}
use Rattle.sy_forms_items.specs.Parts.{place_of, has_no_items}
use Rattle.sy_forms_items.specs.Readings.{refuse, ◌>>=◌}
use Rattle.sy_forms.specs.Rules.{read_rule}
use Rattle.sy_scope_steps.specs.Grammars.{Collected, GrownGrammar, nonempty, group_with, grouped_in, with_rule, read_rules, read_groups, read_group}

pub rules_none : (env : Environment) (sort : Sort) (collected : Collected) (items : Items) → items ≡ none → read_rules env sort collected items ≡ Ok collected
unfolding read_rules
rules_none env sort collected items e = rw e refl

pub rules_many : (env : Environment) (sort : Sort) (collected : Collected) (items : Items) (first : Item) (rest : Items) → items ≡ more first rest → nat_lt collected.count 1024 ≡ false
    → read_rules env sort collected items ≡ refuse (place_of first) cause.TooMany
unfolding read_rules
rules_many env sort collected items first rest e full = rw (e, full) refl

pub rules_more : (env : Environment) (sort : Sort) (collected : Collected) (items : Items) (first : Item) (rest : Items) → items ≡ more first rest → nat_lt collected.count 1024 ≡ true
    → read_rules env sort collected items ≡ (read_rule env sort first >>= λ rule. read_rules env sort (with_rule collected rule) rest)
unfolding read_rules
rules_more env sort collected items first rest e room = rw (e, room) refl

pub groups_over : (env : Environment) (named : List Named) (items : Items) (grown : GrownGrammar) → named ≡ [] → read_groups env named items grown ≡ Ok grown
unfolding read_groups
groups_over env named items grown e = rw e refl

pub groups_none : (env : Environment) (named : List Named) (items : Items) (grown : GrownGrammar) → items ≡ none → read_groups env named items grown ≡ Ok grown
unfolding read_groups
groups_none env [] items grown e = refl
groups_none env (x ∷ named) items grown e = rw e refl

pub groups_more : (env : Environment) (named : List Named) (x : Named) (others : List Named) (items : Items) (first : Item) (rest : Items) (grown : GrownGrammar) → named ≡ x ∷ others → items ≡ more first rest
    → read_groups env named items grown ≡ (read_group env x first grown >>= λ longer. read_groups env others rest longer)
unfolding read_groups
groups_more env named x others items first rest grown e f = rw (e, f) refl

empty_none : (items : Items) → has_no_items items ≡ true → items ≡ none
empty_none none e = refl
empty_none (more first rest) e = absurd (cc)

pub group_three : (parts : Items) (name : Item) (rest : Items) (sort : Item) (next : Items) (rules : Item) (last : Items) → parts ≡ more name rest → rest ≡ more sort next → next ≡ more rules last → has_no_items last ≡ true
    → grouped_in parts ≡ group_with name sort (nonempty rules)
group_three parts name rest sort next rules last e f g h = rw (e, f, g, empty_none last h) refl

many_parts : (name sort rules : Item) (last : Items) → has_no_items last ≡ false → grouped_in (more name (more sort (more rules last))) ≡ None
many_parts name sort rules none e = absurd (cc)
many_parts name sort rules (more next rest) e = refl

pub group_many : (parts : Items) (name : Item) (rest : Items) (sort : Item) (next : Items) (rules : Item) (last : Items) → parts ≡ more name rest → rest ≡ more sort next → next ≡ more rules last → has_no_items last ≡ false
    → grouped_in parts ≡ None
group_many parts name rest sort next rules last e f g h = rw (e, f, g) (many_parts name sort rules last h)

-- behind the last item nothing is left
pub past : {A : Type 0} (i : ℕ) (xs : List A) → length xs ≤ i → drop i xs ≡ []
past zero [] le = refl
past zero (x ∷ xs) le = absurd (omega arith)
past (suc i) [] le = refl
past (suc i) (x ∷ xs) le = past i xs (omega arith)
