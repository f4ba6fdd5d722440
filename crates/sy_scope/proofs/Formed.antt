-- A grammar that was read is well formed.
use Rattle.std.proofs.Common.{◌≡◌, ◌≤◌, ◌∙◌, refl, sym, ap, subst, arith, ℕ, List, [], ◌∷◌, length, Bool, true, false, Some, None, All, map, slice_get}
use Rattle.std.proofs.lemmas.Option.{slice_get-map}
use Rattle.std.specs.Prelude.{Ok, Option, codes, ◌^◌, ◌&&◌, nat_eq, nat_le, nat_lt, if◌then◌else◌}
use Rattle.std.specs.List.{list_all}
use Rattle.std.proofs.lemmas.Bool.{eqb-true, lt-ltb, le-leb}
use Rattle.std.proofs.lemmas.List.Elements.{All-nil, All-head, All-tail, All-cons}
use Rattle.sy_text_items.specs.Items.{Item, leaf, group, Items, none, more, listed}
use Rattle.sy_text_items.specs.declared.atom.Place.{Place}
use Rattle.sy_terms.specs.Fitting.{Scope, Signature}
use Rattle.sy_terms.specs.Spelling.{spelling}
use Rattle.sy_terms.specs.declared.op.Op.{Op}
use Rattle.sy_terms.specs.Sorts.{same_sort}
use Rattle.sy_terms.specs.declared.sort.Logic.{Logic}
use Rattle.sy_terms.specs.declared.sort.Logic.TheVariants.{Lia, Bv}
use Rattle.sy_terms.specs.declared.sort.Sort.{Sort}
use Rattle.sy_scope_causes.specs.declared.cause.Cause.TheVariants as cause
use Rattle.sy_terms_operators.proofs.Equations.{same_sort_is}
use Rattle.sy_grammar.proofs.Sorting.{same_sort_self}
use Rattle.sy_grammar_base.specs.Formed.{is_known, nonterminal_fits, is_formed, rule_sort}
use Rattle.sy_grammar_base.specs.Trees.{Production, Nonterminal, Syntax, is_sort}
use Rattle.sy_forms_items.specs.declared.names.Entity.{Entity}
use Rattle.sy_forms_items.specs.declared.names.Named.{Named}
use Rattle.sy_forms_items.specs.Environments.{Environment}
use Rattle.sy_forms_items.specs.Operators.{is_reserved}
use Rattle.sy_forms_items.specs.Parts.{has_no_items, place_of}
use Rattle.sy_forms_items.specs.Readings.{refuse, ◌>>=◌}
use Rattle.sy_forms_linear.specs.Flags.{constant_groups}
use Rattle.sy_scope_names.specs.Requests.{Listed, Rulebook}
use Rattle.sy_scope_names.specs.Lists.{sorts_of_names, named_item, counted, sort_of_pair, first_sort, starts_with, read_named, read_predeclared}
use Rattle.sy_scope_steps.specs.Grammars.{Written, rules_under, among_nonterminals, written_as, nothing_grown, read_groups, read_productions, read_rulebook}
use Rattle.sy_scope_names.proofs.Named.{IsNamed, AreNamed, named_read}
use Rattle.sy_scope_names.proofs.Earlier.{bind_ok, if_ok, unless_ok}
use Rattle.sy_scope_steps.proofs.Read.{AreRules, IsGroup, AreGroups, groups_read}
use Rattle.sy_forms.specs.Fitting.{Setting}
use Rattle.sy_forms.specs.Right.{EnvironmentIsRight, IsOfGrammar}
use Rattle.sy_forms.proofs.Readings.{at_read}
use Rattle.sy_forms.proofs.Rules.{RuleFits, rule_fits}
use Rattle.sy_forms.proofs.Sorts.{sort_known}
use Rattle.sy_grammar_base.specs.Fits.{with_functions, GoalFits}
use Rattle.sy_scope.specs.Rightly.{ReadsRightly}
use Rattle.sy_scope.proofs.Flags.{flags_right}
use Rattle.sy_scope.proofs.Placing.{grammar_setting, right_among, reserved_among}

both : (a b : Bool) → a ≡ true → b ≡ true → (a && b) ≡ true
both true true e f = refl
both true false e f = f
both false b e f = e

weaken : {A : Type 0} (P Q : A → Type 0) (xs : List A) → ((x : A) → P x → Q x) → All P xs → All Q xs
weaken P Q [] implies all = All-nil Q
weaken P Q (x ∷ xs) implies all = All-cons Q x xs (implies x (All-head P x xs all)) (weaken P Q xs implies (All-tail P x xs all))

all_pass : {A : Type 0} (p : A → Bool) (xs : List A) → All (λ x. p x ≡ true) xs → list_all p xs ≡ true
all_pass p [] all = refl
all_pass p (x ∷ xs) all = both (p x) (list_all p xs) (All-head (λ x. p x ≡ true) x xs all) (all_pass p xs (All-tail (λ x. p x ≡ true) x xs all))

-- the sorts of names pass where each does
pub sorts_pass : (p : Sort → Bool) (named : List Named) → All (λ (x : Named). p x.sort ≡ true) named → list_all p (sorts_of_names named) ≡ true
sorts_pass p [] all = refl
sorts_pass p (x ∷ named) all =
    both (p x.sort) (list_all p (sorts_of_names named)) (All-head (λ (x : Named). p x.sort ≡ true) x named all) (sorts_pass p named (All-tail (λ (x : Named). p x.sort ≡ true) x named all))

-- each rule has the nonterminal's sort
rules_fit : (numeric : Sort → Bool) (setting : Setting) (env : Environment) (syntax : Syntax) → EnvironmentIsRight numeric setting env → IsOfGrammar setting syntax → (sort : Sort) (items : Items) (ps : List Production) → AreRules env sort items ps
    → list_all (λ rule. is_sort sort (rule_sort setting.scope syntax rule)) ps ≡ true
rules_fit numeric setting env syntax right of sort none [] are = refl
rules_fit numeric setting env syntax right of sort none (p ∷ ps) are = absurd are
rules_fit numeric setting env syntax right of sort (more first rest) [] are = absurd are
rules_fit numeric setting env syntax right of sort (more first rest) (p ∷ ps) are =
    let read = at_read (RuleFits setting syntax sort) _ are.0.ruling (rule_fits numeric setting env syntax right of sort first) are.0.read in
    let has = ap (rule_sort setting.scope syntax) (sym are.0.is) ∙ read in
    both (is_sort sort (rule_sort setting.scope syntax p)) _ (ap (is_sort sort) has ∙ same_sort_self sort) (rules_fit numeric setting env syntax right of sort rest ps are.1)

group_fits : (numeric : Sort → Bool) (setting : Setting) (env : Environment) (syntax : Syntax) → EnvironmentIsRight numeric setting env → IsOfGrammar setting syntax → (named : Named) (item : Item) (n : Nonterminal) → is_known numeric named.sort ≡ true
    → IsGroup env named item n → nonterminal_fits numeric setting.scope syntax n ≡ true
group_fits numeric setting env syntax right of named item n known is =
    let rules = subst (λ s. list_all (λ rule. is_sort s (rule_sort setting.scope syntax rule)) n.rules ≡ true) (sym is.sort) (rules_fit numeric setting env syntax right of named.sort is.parts.rules n.rules is.rules) in
    both (is_known numeric n.sort) _ (ap (is_known numeric) is.sort ∙ known) (both (nat_lt (length n.rules) (2 ^ 31)) _ (lt-ltb (length n.rules) (2 ^ 31) (omega (arith, is.few))) rules)

groups_fit : (numeric : Sort → Bool) (setting : Setting) (env : Environment) (syntax : Syntax) → EnvironmentIsRight numeric setting env → IsOfGrammar setting syntax → (named : List Named) (items : Items) (ns : List Nonterminal)
    → All (λ (x : Named). is_known numeric x.sort ≡ true) named → AreGroups env named items ns → list_all (nonterminal_fits numeric setting.scope syntax) ns ≡ true
groups_fit numeric setting env syntax right of [] none [] known are = refl
groups_fit numeric setting env syntax right of [] none (n ∷ ns) known are = absurd are
groups_fit numeric setting env syntax right of [] (more first rest) ns known are = absurd are
groups_fit numeric setting env syntax right of (x ∷ named) none ns known are = absurd are
groups_fit numeric setting env syntax right of (x ∷ named) (more first rest) [] known are = absurd are
groups_fit numeric setting env syntax right of (x ∷ named) (more first rest) (n ∷ ns) known are =
    both (nonterminal_fits numeric setting.scope syntax n) _
    (group_fits numeric setting env syntax right of x first n (All-head (λ (x : Named). is_known numeric x.sort ≡ true) x named known) are.0)
    (groups_fit numeric setting env syntax right of named rest ns (All-tail (λ (x : Named). is_known numeric x.sort ≡ true) x named known) are.1)

-- the nonterminals have the sorts that were predeclared
same_nonterminals : (env : Environment) (named : List Named) (items : Items) (ns : List Nonterminal) → AreGroups env named items ns → sorts_of_names named ≡ map (λ (n : Nonterminal). n.sort) ns
same_nonterminals env [] none [] are = refl
same_nonterminals env [] none (n ∷ ns) are = absurd are
same_nonterminals env [] (more first rest) ns are = absurd are
same_nonterminals env (x ∷ named) none ns are = absurd are
same_nonterminals env (x ∷ named) (more first rest) [] are = absurd are
same_nonterminals env (x ∷ named) (more first rest) (n ∷ ns) are =
    ap (λ s. s ∷ sorts_of_names named) (sym are.0.sort) ∙ ap (λ ss. n.sort ∷ ss) (same_nonterminals env named rest ns are.1)

as_many : (env : Environment) (named : List Named) (items : Items) (ns : List Nonterminal) → AreGroups env named items ns → length ns ≡ length named
as_many env [] none [] are = refl
as_many env [] none (n ∷ ns) are = absurd are
as_many env [] (more first rest) ns are = absurd are
as_many env (x ∷ named) none ns are = absurd are
as_many env (x ∷ named) (more first rest) [] are = absurd are
as_many env (x ∷ named) (more first rest) (n ∷ ns) are = omega (arith, as_many env named rest ns are.1)

not_empty : (items : Items) → has_no_items items ≡ false → 1 ≤ length (listed items)
not_empty none e = absurd cc
not_empty (more first rest) e = omega arith

syntax_formed : (numeric : Sort → Bool) (setting : Setting) (env : Environment) (syntax : Syntax) → EnvironmentIsRight numeric setting env → IsOfGrammar setting syntax → (named : List Named) (items : Items) → 1 ≤ length named → length named ≤ 64
    → list_all (is_known numeric) syntax.arguments ≡ true → All (λ (x : Named). is_known numeric x.sort ≡ true) named → AreGroups env named items syntax.nonterminals → is_formed numeric setting.scope syntax ≡ true
syntax_formed numeric setting env syntax right of named items some few arguments known are =
    let many = as_many env named items syntax.nonterminals are in
    both (nat_le 1 (length syntax.nonterminals) && nat_lt (length syntax.nonterminals) (2 ^ 31)) _
    (both (nat_le 1 (length syntax.nonterminals)) _ (le-leb 1 (length syntax.nonterminals) (omega (arith, many, some))) (lt-ltb (length syntax.nonterminals) (2 ^ 31) (omega (arith, many, few))))
    (both (list_all (is_known numeric) syntax.arguments) _ arguments (groups_fit numeric setting env syntax right of named items syntax.nonterminals known are))

same_by : (b : Bool) (place : Place) (found named : List Named) → (if b then Ok found else refuse place cause.SortMismatch) ≡ Ok named → found ≡ named
same_by true place found named e = cc
same_by false place found named e = absurd cc

starts_same : (sort : Sort) (first : Option Item) (found named : List Named) → starts_with sort first found ≡ Ok named → found ≡ named
starts_same sort None found named e = cc
starts_same sort (Some item) [] named e = cc
starts_same sort (Some item) (x ∷ found) named e = same_by (same_sort x.sort sort) (place_of item) (x ∷ found) named e

-- a list of a name and a sort
is_pair : (sorts : List (List ℕ × Sort)) (logic : Logic) (taken done : List Named) (item : Item) (x : Named) → named_item sorts logic taken done item ≡ Ok x → (s : Item) × (sort_of_pair item ≡ Some s)
unfolding named_item
is_pair sorts logic taken done (leaf atom place) x e = absurd cc
is_pair sorts logic taken done (group none place) x e = absurd cc
is_pair sorts logic taken done (group (more name none) place) x e = absurd cc
is_pair sorts logic taken done (group (more name (more sort none)) place) x e = (sort, refl)
is_pair sorts logic taken done (group (more name (more sort (more next rest))) place) x e = absurd cc

-- names that were read of one item or more begin with one
begins : (sorts : List (List ℕ × Sort)) (logic : Logic) (taken : List Named) (items : Items) (named : List Named) → has_no_items items ≡ false → read_named sorts logic taken [] items ≡ Ok named → (s : Item) × (first_sort items ≡ Some s)
unfolding read_named
begins sorts logic taken none named some e = absurd cc
begins sorts logic taken (more first rest) named some e =
    let one = bind_ok (named_item sorts logic taken [] first) (λ x. counted [] (place_of first) x >>= λ longer. read_named sorts logic taken longer rest) named e in
    is_pair sorts logic taken [] first one.0 one.1

first_by : (b : Bool) (place : Place) (x : Named) (found named : List Named) (sort : Sort) → (b ≡ true → x.sort ≡ sort) → (if b then Ok (x ∷ found) else refuse place cause.SortMismatch) ≡ Ok named → slice_get (sorts_of_names named) 0 ≡ Some sort
first_by true place x found named sort is e = let same : x ∷ found ≡ named = cc in subst (λ all. slice_get (sorts_of_names all) 0 ≡ Some sort) same (ap Some (is refl))
first_by false place x found named sort is e = absurd cc

first_has : (sort : Sort) (first : Option Item) (item : Item) (found named : List Named) → first ≡ Some item → 1 ≤ length found → starts_with sort first found ≡ Ok named → slice_get (sorts_of_names named) 0 ≡ Some sort
first_has sort None item found named is some e = absurd cc
first_has sort (Some s) item [] named is some e = absurd (omega (arith, some))
first_has sort (Some s) item (x ∷ found) named is some e = first_by (same_sort x.sort sort) (place_of s) x found named sort (same_sort_is x.sort sort) e

-- the names and sorts that were predeclared, of which the first has the function's sort
record IsPredeclared (sorts : List (List ℕ × Sort)) (logic : Logic) (sort : Sort) (list : Listed) (named : List Named) : Type 0 where
  are : AreNamed sorts logic [] list.items named
  first : slice_get (sorts_of_names named) 0 ≡ Some sort

predeclared_named : (sorts : List (List ℕ × Sort)) (logic : Logic) (arguments : List Named) (sort : Sort) (list : Listed) (named : List Named) → read_predeclared sorts logic arguments sort list ≡ Ok named → IsPredeclared sorts logic sort list named
predeclared_named sorts logic arguments sort list named e =
    let some = unless_ok (has_no_items list.items) list.place cause.Shape _ named e in
    let read = bind_ok (read_named sorts logic arguments [] list.items) (λ found. starts_with sort (first_sort list.items) found) named some.1 in
    let are = named_read sorts logic arguments [] list.items read.0 (All-nil (IsNamed sorts logic)) (omega arith) read.1 in
    let begun = begins sorts logic arguments list.items read.0 some.0 read.1 in
    record {
      are = subst (λ found. AreNamed sorts logic [] list.items found) (starts_same sort (first_sort list.items) read.0 named read.2) are;
      first = first_has sort (first_sort list.items) begun.0 read.0 named begun.1 (omega (arith, are.count, not_empty list.items some.0)) read.2;
    }

minus_reserved : (logic : Logic) → logic ≡ Lia → is_reserved logic (codes "-") ≡ true
unfolding spelling
minus_reserved Lia e = refl
minus_reserved Bv e = absurd cc

-- a well-formed grammar over these arguments, whose nonterminals have these sorts
record IsGrammar (numeric : Sort → Bool) (scope : Scope) (arguments sorts : List Sort) (syntax : Syntax) : Type 0 where
  formed : is_formed numeric scope syntax ≡ true
  over : syntax.arguments ≡ arguments
  sorted : sorts ≡ map (λ (n : Nonterminal). n.sort) syntax.nonterminals

-- a grammar that was read with these nonterminals is well formed
productions_formed : (numeric : Sort → Bool) (scope : Scope) (sorts : List (List ℕ × Sort)) (entities : List (List ℕ × Entity)) (logic : Logic) (arguments named : List Named) (groups : Listed) (written : Written) →
    ReadsRightly numeric scope sorts entities logic arguments → All (λ (x : Named). is_reserved logic x.name ≡ false) named → All (λ (x : Named). is_known numeric x.sort ≡ true) named → length named ≤ 64 →
    read_productions (rules_under sorts entities logic arguments) named groups ≡ Ok written → IsGrammar numeric scope (sorts_of_names arguments) (sorts_of_names named) written.grammar
unfolding read_productions
productions_formed numeric scope sorts entities logic arguments named groups written rightly free known few e =
    let env = among_nonterminals (rules_under sorts entities logic arguments) named groups.items in
    let some = unless_ok (has_no_items groups.items) groups.place cause.Shape _ written e in
    let matching = if_ok (nat_eq (length (listed groups.items)) (length named)) groups.place cause.Predeclared _ written some.1 in
    let lengths = eqb-true (length (listed groups.items)) (length named) matching.0 in
    let read = bind_ok (read_groups env named groups.items nothing_grown) (λ grown. Ok (written_as arguments grown)) written matching.1 in
    let extended = groups_read env named groups.items nothing_grown read.0 lengths (omega arith) read.1 in
    let constants = constant_groups (rules_under sorts entities logic arguments) named groups.items in
    let right = right_among numeric scope sorts entities logic arguments named groups.items rightly.right free in
    let reserved = reserved_among sorts entities logic arguments named groups.items rightly.reserved free in
    let syntax : Syntax = record { arguments = sorts_of_names arguments; nonterminals = extended.nonterminals } in
    let same = same_nonterminals env named groups.items extended.nonterminals extended.are in
    let of : IsOfGrammar (grammar_setting scope arguments named constants) syntax = record {
      values = refl;
      nonterminals = same;
      constants = flags_right env named groups.items extended.nonterminals (λ lia. reserved (codes "-") (minus_reserved logic lia)) extended.are;
      wanted = rightly.wanted;
      lets = refl;
    } in
    let formed = syntax_formed numeric (grammar_setting scope arguments named constants) env syntax right of named groups.items (omega (arith, lengths, not_empty groups.items some.0)) few (sorts_pass (is_known numeric) arguments rightly.sorted) known extended.are in
    let whole : written_as arguments read.0 ≡ written = cc in
    let it : IsGrammar numeric scope (sorts_of_names arguments) (sorts_of_names named) syntax = record { formed = formed; over = refl; sorted = same } in
    subst (λ (w : Written). IsGrammar numeric scope (sorts_of_names arguments) (sorts_of_names named) w.grammar) whole (subst (λ ns. IsGrammar numeric scope (sorts_of_names arguments) (sorts_of_names named) (record { arguments = sorts_of_names arguments; nonterminals = ns })) (sym extended.behind) it)

-- A grammar that was read is well formed, where names stand for what is there: it is over the function's arguments, and
-- its start symbol has the sort of the function's value.
pub grammar_fits : (owned : Op → Bool) (numeric : Sort → Bool) (defined : List Signature) (sorts : List (List ℕ × Sort)) (entities : List (List ℕ × Entity)) (logic : Logic) (arguments : List Named) (sort : Sort) (book : Rulebook) (written : Written) →
    ReadsRightly numeric (with_functions owned defined []) sorts entities logic arguments → read_rulebook sorts entities logic arguments sort book ≡ Ok written →
    GoalFits owned numeric defined (record { signature = record { takes = sorts_of_names arguments; gives = sort }; grammar = written.grammar })
grammar_fits owned numeric defined sorts entities logic arguments sort book written rightly e =
    let read = bind_ok (read_predeclared sorts logic arguments sort book.predeclared) (λ named. read_productions (rules_under sorts entities logic arguments) named book.groups) written e in
    let predeclared = predeclared_named sorts logic arguments sort book.predeclared read.0 read.1 in
    let are = predeclared.are in
    let it = productions_formed numeric (with_functions owned defined []) sorts entities logic arguments read.0 book.groups written rightly
    (weaken (IsNamed sorts logic) (λ (x : Named). is_reserved logic x.name ≡ false) read.0 (λ x is. is.free) are.all)
    (weaken (IsNamed sorts logic) (λ (x : Named). is_known numeric x.sort ≡ true) read.0 (λ x is. at_read (λ s. is_known numeric s ≡ true) _ x.sort (sort_known owned numeric logic sorts is.item rightly.right.theory rightly.right.sorts) is.sort) are.all)
    are.few read.2 in
    record {
      formed = it.formed;
      arguments = it.over;
      start = sym (slice_get-map (λ (n : Nonterminal). n.sort) written.grammar.nonterminals 0) ∙ sym (ap (λ (all : List Sort). slice_get all 0) it.sorted) ∙ predeclared.first;
    }
