-- What is declared around bodies, apart from memory.
use Rattle.sy_forms_items.specs.Measured.{measures_of}
use Rattle.sy_scope_names.specs.Contexts.{Context, beginning}
use Rattle.sy_scope_steps.specs.declared.surroundings.Surroundings.{Surroundings}

abbrev pub context_around : Surroundings → Context
context_around x = record beginning {
  sorts = x.names.sorts;
  entities = x.names.entities;
  measures = measures_of x.measures;
}
