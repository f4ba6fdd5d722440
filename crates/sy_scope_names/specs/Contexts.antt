-- What the commands so far declare and ask for.
use Rattle.std.specs.Prelude.{ℕ, ◌+◌, List, [], map, length, Bool, ◌||◌, nat_le, nat_lt, is_some, Option, Some, None, Ok, bytes_eq, codes, if◌then◌else◌}
use Rattle.sy_text_items.specs.declared.atom.Place.{Place}
use Rattle.sy_terms.specs.Values.{Val}
use Rattle.sy_terms.specs.Expr.{Expr}
use Rattle.sy_terms.specs.Fitting.{Signature}
use Rattle.sy_terms.specs.declared.sort.Logic.{Logic}
use Rattle.sy_terms.specs.declared.sort.Sort.{Sort}
use Rattle.sy_scope_causes.specs.declared.cause.Cause.TheVariants as cause
use Rattle.sy_grammar_base.specs.Trees.{Syntax}
use Rattle.sy_grammar_base.specs.Questions.{Goal, Question}
use Rattle.sy_forms_items.specs.declared.names.Entity.{Entity}
use Rattle.sy_forms_items.specs.declared.names.Named.{Named}
use Rattle.sy_forms_items.specs.Environments.{entry_under}
use Rattle.sy_forms_items.specs.Measures.{Measures}
use Rattle.sy_forms_items.specs.Operators.{is_reserved}
use Rattle.sy_forms_items.specs.Phrases.{Phrase, expr_at}
use Rattle.sy_forms_items.specs.Readings.{Reading, refuse}
use Rattle.sy_scope_names.specs.Lists.{sorts_of_names}

-- a definition: its name, its arguments, its value's sort, and its body
pub record Definition : Type 0 where
  pub name : List ℕ
  pub arguments : List Named
  pub sort : Sort
  pub body : Phrase

-- a function to be found: its name, its arguments, its value's sort, and its grammar
pub record Sought : Type 0 where
  pub name : List ℕ
  pub arguments : List Named
  pub sort : Sort
  pub grammar : Syntax

-- a constraint that was written, or a condition of an invariant
pub data Condition : Type 0 where
  Written : (phrase : Phrase) → Condition
  Expanded : (term : Expr) → Condition

-- The abbreviations of sorts, what the declared names stand for, the sorts of all variables and how many of these are
-- fresh, the definitions with their measures, the functions to be found, assumptions, constraints, the values that were
-- written, and what each check-synth so far asks.
pub record Context : Type 0 where
  pub logic : Option Logic
  pub sorts : List (List ℕ × Sort)
  pub entities : List (List ℕ × Entity)
  pub variables : List Sort
  pub fresh : ℕ
  pub definitions : List Definition
  pub measures : Measures
  pub sought : List Sought
  pub assumptions : List Phrase
  pub constraints : List Condition
  pub pool : List Val
  pub questions : List Question

-- before the first command
abbrev pub beginning : Context
beginning = record {
  logic = None;
  sorts = [];
  entities = [];
  variables = [];
  fresh = 0;
  definitions = [];
  measures = record { sizes = []; depths = [] };
  sought = [];
  assumptions = [];
  constraints = [];
  pool = [];
  questions = [];
}

-- the same in a logic
abbrev pub with_logic : Logic → Context → Context
with_logic logic context = record context { logic = Some logic }

-- declared names and fresh variables together
abbrev pub names_used : Context → ℕ
names_used context = length context.sorts + length context.entities + context.fresh

-- there is room for so many names more
abbrev pub has_room : Context → ℕ → Bool
has_room context names = nat_le (names_used context + names) 4096

-- a new name of a variable or a function
abbrev pub new_name : Context → Logic → Place → List ℕ → Reading (List ℕ)
new_name context logic at name =
    if is_reserved logic name || is_some (entry_under name context.entities) then refuse at cause.NameTaken
    else if has_room context 1 then Ok name
    else refuse at cause.TooMany

-- a new name of a function to be found, of which there are at most four
abbrev pub new_sought : Context → Logic → Place → List ℕ → Reading (List ℕ)
new_sought context logic at name =
    if is_reserved logic name || is_some (entry_under name context.entities) then refuse at cause.NameTaken
    else if has_room context 1 then (if nat_lt (length context.sought) 4 then Ok name else refuse at cause.TooMany)
    else refuse at cause.TooMany

-- the names of the sorts that are there
abbrev pub is_sort_name : List ℕ → Bool
is_sort_name name = bytes_eq name (codes "Bool") || bytes_eq name (codes "Int") || bytes_eq name (codes "BitVec")

-- a new name of a sort
abbrev pub new_sort_name : Context → Logic → Place → List ℕ → Reading (List ℕ)
new_sort_name context logic at name =
    if is_reserved logic name || is_sort_name name || is_some (entry_under name context.sorts) then refuse at cause.NameTaken
    else if has_room context 1 then Ok name
    else refuse at cause.TooMany

-- Questions

abbrev pub condition_at : ℕ → Condition → Expr
condition_at variables (Written phrase) = expr_at variables phrase
condition_at variables (Expanded term) = term

abbrev pub definition_signature : Definition → Signature
definition_signature d = record { takes = sorts_of_names d.arguments; gives = d.sort }

abbrev pub body_of : Definition → Expr
body_of d = expr_at (length d.arguments) d.body

abbrev pub goal_sought : Sought → Goal
goal_sought f = record { signature = record { takes = sorts_of_names f.arguments; gives = f.sort }; grammar = f.grammar }

-- what a check-synth asks: let names of assumptions and constraints stand behind all variables
abbrev pub question_at : Context → Question
question_at context = record {
  signatures = map definition_signature context.definitions;
  definitions = map body_of context.definitions;
  variables = context.variables;
  goals = map goal_sought context.sought;
  assumptions = map (expr_at (length context.variables)) context.assumptions;
  constraints = map (condition_at (length context.variables)) context.constraints;
  pool = context.pool;
}
