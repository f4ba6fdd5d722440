-- Contexts apart from memory.
use Rattle.std.specs.Prelude.{List, map, Option, Some, None}
use Rattle.sy_terms.specs.Values.{Val}
use Rattle.sy_terms.specs.Denoted.{expr_of}
use Rattle.sy_terms.specs.declared.sort.Logic.{Logic}
use Rattle.sy_terms.specs.declared.sort.Sort.{Sort}
use Rattle.sy_grammar_base.specs.Trees.{Syntax}
use Rattle.sy_grammar_base.specs.Questions.{question_of}
use Rattle.sy_forms_items.specs.declared.names.Named.{Named}
use Rattle.sy_forms_items.specs.Meant.{phrase_of}
use Rattle.sy_forms_items.specs.Measured.{measures_of}
use Rattle.sy_scope_names.specs.Lists.{sorts_of_names}
use Rattle.sy_scope_names.specs.Groups.{group_of}
use Rattle.sy_scope_names.specs.declared.convert.Group.{Group}
use Rattle.sy_grammar.specs.Defaults.{default_syntax}
use Rattle.sy_scope_names.specs.Kept.{pool_of}
use Rattle.sy_scope_names.specs.Contexts as spec
use Rattle.sy_scope_declared.specs.declared.context.Definition.{Definition}
use Rattle.sy_scope_declared.specs.declared.context.Sought.{Sought}
use Rattle.sy_scope_declared.specs.declared.context.Condition.{Condition}
use Rattle.sy_scope_declared.specs.declared.context.Condition.TheVariants as conditions
use Rattle.sy_scope_declared.specs.declared.context.Context.{Context}

abbrev pub definition_of : {T N : Type 0} → (N → Val) → Definition T N → spec.Definition
definition_of number d = record { name = d.name; arguments = d.arguments; sort = d.sort; body = phrase_of number d.body }

-- the grammar that is written, or that of a function without one
abbrev pub grammar_of : {T N : Type 0} → (N → Val) → Logic → List Named → Sort → Option (List (Group T N)) → Syntax
grammar_of number logic arguments sort None = default_syntax logic (sorts_of_names arguments) sort
grammar_of number logic arguments sort (Some groups) = record { arguments = sorts_of_names arguments; nonterminals = map (group_of number) groups }

abbrev pub sought_of : {T N : Type 0} → (N → Val) → Logic → Sought T N → spec.Sought
sought_of number logic f = record { name = f.name; arguments = f.arguments; sort = f.sort; grammar = grammar_of number logic f.arguments f.sort f.groups }

abbrev pub condition_of : {T N : Type 0} → (N → Val) → Condition T N → spec.Condition
condition_of number (conditions.Written phrase) = spec.Written (phrase_of number phrase)
condition_of number (conditions.Expanded term) = spec.Expanded (expr_of number term)

abbrev pub context_of : {T N : Type 0} → (N → Val) → Context T N → spec.Context
context_of number c = record {
  logic = Some c.logic;
  sorts = c.names.sorts;
  entities = c.names.entities;
  variables = c.variables;
  fresh = c.fresh;
  definitions = map (definition_of number) c.definitions;
  measures = measures_of c.measures;
  sought = map (sought_of number c.logic) c.sought;
  assumptions = map (phrase_of number) c.assumptions;
  constraints = map (condition_of number) c.constraints;
  pool = pool_of number c.pool;
  questions = map (question_of number) c.questions;
}
