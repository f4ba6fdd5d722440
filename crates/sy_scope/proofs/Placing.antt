-- Names among nonterminals, and names behind them.
use Rattle.std.proofs.Common.{◌≡◌, ◌+◌, refl, sym, subst, ℕ, List, [], ◌∷◌, Bool, true, false, Some, None, All, slice_get}
use Rattle.std.specs.Prelude.{Option, bytes_eq, if◌then◌else◌}
use Rattle.std.proofs.lemmas.List.Elements.{All-head, All-tail}
use Rattle.std.proofs.lemmas.Slice.Eq.{bytes_eq-Decides}
use Rattle.sy_text_items.specs.Items.{Items}
use Rattle.sy_terms.specs.Fitting.{Scope}
use Rattle.sy_terms.specs.declared.sort.Logic.{Logic}
use Rattle.sy_terms.specs.declared.sort.Sort.{Sort}
use Rattle.sy_forms_items.specs.declared.names.Entity.{Entity}
use Rattle.sy_forms_items.specs.declared.names.Named.{Named}
use Rattle.sy_forms_items.specs.Environments as env
use Rattle.sy_forms_items.specs.Environments.{Sense, or_else, place_from, place_among, sense_as, sense_of}
use Rattle.sy_forms_items.specs.Operators.{is_reserved}
use Rattle.sy_forms_linear.specs.Flags.{constant_groups}
use Rattle.sy_scope_names.specs.Lists.{sorts_of_names}
use Rattle.sy_scope_steps.specs.Grammars.{rules_under, among_nonterminals}
use Rattle.sy_forms.specs.Fitting.{Setting}
use Rattle.sy_forms.specs.Right.{EnvironmentIsRight, SenseIsThere}
use Rattle.sy_forms.proofs.NamesLaws.{place_among_at}
use Rattle.sy_scope.specs.Rightly.{argument_setting}

-- a name that isn't reserved
abbrev pub Free : Logic → Named → Type 0
Free logic x = is_reserved logic x.name ≡ false

none_by : (logic : Logic) (word : List ℕ) (b : Bool) (x : Named) (later : Option (ℕ × Sort)) (first : ℕ) → bytes_eq word x.name ≡ b → later ≡ None → Free logic x → is_reserved logic word ≡ true → or_else later (let here : ℕ × Sort = (first, x.sort) in if b then Some here else None) ≡ None
none_by logic word true x later first is none free e =
    let same : word ≡ x.name = (bytes_eq-Decides word x.name).0 is in
    let other : is_reserved logic word ≡ false = subst (λ w. is_reserved logic w ≡ false) (sym same) free in
    absurd (cc)
none_by logic word false x later first is none free e = rw none refl

-- a reserved word isn't among names that aren't
pub none_among : (logic : Logic) (word : List ℕ) (names : List Named) (first : ℕ) → All (Free logic) names → is_reserved logic word ≡ true → place_from first word names ≡ None
none_among logic word [] first all e = refl
none_among logic word (x ∷ names) first all e =
    none_by logic word (bytes_eq word x.name) x (place_from (first + 1) word names) first refl (none_among logic word names (first + 1) (All-tail (Free logic) x names all) e) (All-head (Free logic) x names all) e

-- where nonterminals stand too
abbrev pub grammar_setting : Scope → List Named → List Named → List Bool → Setting
grammar_setting scope arguments nonterminals constants = record { scope = scope; values = sorts_of_names arguments; nonterminals = sorts_of_names nonterminals; constants = constants; lets = false }

there_too : (scope : Scope) (arguments nonterminals : List Named) (constants : List Bool) (sense : Sense) → SenseIsThere (argument_setting scope arguments) [] sense → SenseIsThere (grammar_setting scope arguments nonterminals constants) [] sense
there_too scope arguments nonterminals constants (env.Local level sort) there = absurd cc
there_too scope arguments nonterminals constants (env.Nonterminal number sort) there = absurd cc
there_too scope arguments nonterminals constants (env.Argument position sort) there = there
there_too scope arguments nonterminals constants (env.Variable position sort) there = there
there_too scope arguments nonterminals constants (env.Function function takes gives) there = there
there_too scope arguments nonterminals constants env.Withheld there = there

there_by : (scope : Scope) (arguments nonterminals : List Named) (constants : List Bool) (place : Option (ℕ × Sort)) (outer : Option Sense) (sense : Sense) →
    ((x : ℕ × Sort) → place ≡ Some x → slice_get (sorts_of_names nonterminals) x.0 ≡ Some x.1) → ((found : Sense) → outer ≡ Some found → SenseIsThere (argument_setting scope arguments) [] found) →
    or_else (sense_as env.Nonterminal place) outer ≡ Some sense → SenseIsThere (grammar_setting scope arguments nonterminals constants) [] sense
there_by scope arguments nonterminals constants None outer sense inside outside e = there_too scope arguments nonterminals constants sense (outside sense e)
there_by scope arguments nonterminals constants (Some x) outer sense inside outside e =
    let same : env.Nonterminal x.0 x.1 ≡ sense = cc in
    subst (SenseIsThere (grammar_setting scope arguments nonterminals constants) []) same (inside x refl)

none_behind : (place : Option (ℕ × Sort)) (outer : Option Sense) → place ≡ None → outer ≡ None → or_else (sense_as env.Nonterminal place) outer ≡ None
none_behind place outer e f = rw (e, f) refl

-- names stand for what is there where the nonterminals' names aren't reserved
pub right_among : (numeric : Sort → Bool) (scope : Scope) (sorts : List (List ℕ × Sort)) (entities : List (List ℕ × Entity)) (logic : Logic) (arguments nonterminals : List Named) (groups : Items) →
    EnvironmentIsRight numeric (argument_setting scope arguments) (rules_under sorts entities logic arguments) → All (λ (x : Named). is_reserved logic x.name ≡ false) nonterminals →
    EnvironmentIsRight numeric (grammar_setting scope arguments nonterminals (constant_groups (rules_under sorts entities logic arguments) nonterminals groups)) (among_nonterminals (rules_under sorts entities logic arguments) nonterminals groups)
right_among numeric scope sorts entities logic arguments nonterminals groups right free =
    record {
      theory = right.theory;
      sorts = right.sorts;
      names = λ name sense e.
          there_by scope arguments nonterminals (constant_groups (rules_under sorts entities logic arguments) nonterminals groups) (place_among name nonterminals) (sense_of (rules_under sorts entities logic arguments) [] name) sense
          (place_among_at name nonterminals) (right.names name) e;
      constants = refl;
      lets = refl;
    }

-- and no reserved word stands for anything
pub reserved_among : (sorts : List (List ℕ × Sort)) (entities : List (List ℕ × Entity)) (logic : Logic) (arguments nonterminals : List Named) (groups : Items) →
    ((word : List ℕ) → is_reserved logic word ≡ true → sense_of (rules_under sorts entities logic arguments) [] word ≡ None) → All (λ (x : Named). is_reserved logic x.name ≡ false) nonterminals →
    (word : List ℕ) → is_reserved logic word ≡ true → sense_of (among_nonterminals (rules_under sorts entities logic arguments) nonterminals groups) [] word ≡ None
reserved_among sorts entities logic arguments nonterminals groups outside free word e =
    none_behind (place_among word nonterminals) (sense_of (rules_under sorts entities logic arguments) [] word) (none_among logic word nonterminals 0 free e) (outside word e)
