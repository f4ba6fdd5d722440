-- Environments and what names stand for, apart from memory.
use Rattle.sy_forms_items.specs.Environments as spec
use Rattle.sy_forms_items.specs.declared.environment.Environment.{Environment}
use Rattle.sy_forms_items.specs.declared.environment.Sense.{Sense}
use Rattle.sy_forms_items.specs.declared.environment.Sense.TheVariants as senses

abbrev pub environment_of : Environment → spec.Environment
environment_of env = record {
  logic = env.logic;
  role = env.role;
  sorts = env.names.now.sorts;
  entities = env.names.now.entities;
  arguments = env.arguments.now;
  nonterminals = env.nonterminals.now;
  constants = env.constants.now;
  divisors = env.divisors.now;
}

abbrev pub sense_in : Sense → spec.Sense
sense_in (senses.Local level sort) = spec.Local level sort
sense_in (senses.Nonterminal number sort) = spec.Nonterminal number sort
sense_in (senses.Argument position sort) = spec.Argument position sort
sense_in (senses.Variable position sort) = spec.Variable position sort
sense_in (senses.Function function takes gives) = spec.Function function takes.now gives
sense_in senses.Withheld = spec.Withheld
