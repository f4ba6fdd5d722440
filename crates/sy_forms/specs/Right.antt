-- Where a term is read rightly: names stand for what is there.
use Rattle.std.specs.Prelude.{ℕ, Bool, true, false, List, [], map, slice_get, Some, ◌≡◌, All, ⊤}
use Rattle.sy_terms.specs.Fitting.{signature_of}
use Rattle.sy_terms.specs.declared.op.Op.{Op}
use Rattle.sy_terms.specs.declared.sort.Sort.{Sort}
use Rattle.sy_grammar_base.specs.Formed.{is_known, all_give_constants}
use Rattle.sy_grammar_base.specs.Trees.{Syntax, Nonterminal}
pub use Rattle.sy_grammar_base.specs.Extending.{Extends}
use Rattle.sy_terms.specs.Logics.{IsTheoryOf}
use Rattle.sy_forms_items.specs.Environments as env
use Rattle.sy_forms_items.specs.Environments.{Environment, Sense, sense_of}
use Rattle.sy_forms_linear.specs.Linear.{flag_at}
use Rattle.sy_forms.specs.Terms.{let_may_stand}
use Rattle.sy_forms.specs.Fitting.{Setting}

-- what a name stands for is there: its number is that of its sort in the list, or of its signature
abbrev pub SenseIsThere : Setting → List Sort → Sense → Type 0
SenseIsThere setting locals (env.Local level sort) = slice_get locals level ≡ Some sort
SenseIsThere setting locals (env.Nonterminal number sort) = slice_get setting.nonterminals number ≡ Some sort
SenseIsThere setting locals (env.Argument position sort) = slice_get setting.values position ≡ Some sort
SenseIsThere setting locals (env.Variable position sort) = slice_get setting.values position ≡ Some sort
SenseIsThere setting locals (env.Function function takes gives) = signature_of setting.scope function ≡ Some (record { takes = takes; gives = gives })
SenseIsThere setting locals env.Withheld = ⊤

-- the operators and the sorts of numbers are the logic's, abbreviations stand for sorts of the logic, and names for what
-- is there
pub record EnvironmentIsRight (numeric : Sort → Bool) (setting : Setting) (env : Environment) : Type 0 where
  pub theory : IsTheoryOf env.logic setting.scope.owned numeric
  pub sorts : All (λ (x : List ℕ × Sort). is_known numeric x.1 ≡ true) env.sorts
  pub names : (name : List ℕ) (sense : Sense) → sense_of env [] name ≡ Some sense → SenseIsThere setting [] sense
  pub constants : env.constants ≡ setting.constants
  pub lets : let_may_stand env.role ≡ setting.lets

-- all that may be named earlier may be named later
pub record SettingWidens (earlier later : Setting) : Type 0 where
  pub operators : (operator : Op) → earlier.scope.owned operator ≡ true → later.scope.owned operator ≡ true
  pub defined : Extends earlier.scope.defined later.scope.defined
  pub wanted : Extends earlier.scope.wanted later.scope.wanted
  pub values : Extends earlier.values later.values
  pub nonterminals : Extends earlier.nonterminals later.nonterminals
  pub constants : earlier.constants ≡ later.constants
  pub lets : earlier.lets ≡ true → later.lets ≡ true

-- In a grammar: the values are its arguments, the nonterminals have its sorts, and those that derive numerals alone do.
-- No let and no function to be found stands there.
pub record IsOfGrammar (setting : Setting) (syntax : Syntax) : Type 0 where
  pub values : setting.values ≡ syntax.arguments
  pub nonterminals : setting.nonterminals ≡ map (λ (n : Nonterminal). n.sort) syntax.nonterminals
  pub constants : (number : ℕ) → flag_at setting.constants number ≡ true → all_give_constants (slice_get syntax.nonterminals number) ≡ true
  pub wanted : setting.scope.wanted ≡ []
  pub lets : setting.lets ≡ false
