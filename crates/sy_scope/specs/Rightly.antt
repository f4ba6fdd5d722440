-- Where a grammar is read rightly.
use Rattle.std.specs.Prelude.{ℕ, Bool, true, false, List, [], None, ◌≡◌, All}
use Rattle.sy_terms.specs.Fitting.{Scope}
use Rattle.sy_terms.specs.declared.sort.Logic.{Logic}
use Rattle.sy_terms.specs.declared.sort.Sort.{Sort}
use Rattle.sy_grammar_base.specs.Formed.{is_known}
use Rattle.sy_forms_items.specs.declared.names.Entity.{Entity}
use Rattle.sy_forms_items.specs.declared.names.Named.{Named}
use Rattle.sy_forms_items.specs.Environments.{sense_of}
use Rattle.sy_forms_items.specs.Operators.{is_reserved}
use Rattle.sy_scope_names.specs.Lists.{sorts_of_names}
use Rattle.sy_scope_steps.specs.Grammars.{rules_under}
use Rattle.sy_forms.specs.Fitting.{Setting}
use Rattle.sy_forms.specs.Right.{EnvironmentIsRight}

-- what a rule may name besides nonterminals: operators, definitions and arguments
abbrev pub argument_setting : Scope → List Named → Setting
argument_setting scope arguments = record { scope = scope; values = sorts_of_names arguments; nonterminals = []; constants = []; lets = false }

-- The names of sorts, of definitions and of arguments stand for what is there, no reserved word stands for anything, and
-- the sorts of the arguments are the logic's.
pub record ReadsRightly (numeric : Sort → Bool) (scope : Scope) (sorts : List (List ℕ × Sort)) (entities : List (List ℕ × Entity)) (logic : Logic) (arguments : List Named) : Type 0 where
  pub right : EnvironmentIsRight numeric (argument_setting scope arguments) (rules_under sorts entities logic arguments)
  pub reserved : (word : List ℕ) → is_reserved logic word ≡ true → sense_of (rules_under sorts entities logic arguments) [] word ≡ None
  pub sorted : All (λ (x : Named). is_known numeric x.sort ≡ true) arguments
  pub wanted : scope.wanted ≡ []
