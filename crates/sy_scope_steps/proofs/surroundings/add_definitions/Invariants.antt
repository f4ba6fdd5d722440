use Rattle.std.proofs.Common.{◌≡◌, map}
use Rattle.sy_terms.specs.Definitions.{signature}
use Rattle.sy_scope_steps.specs.Around.{with_entries, defined_from}
use Rattle.sy_scope_steps.proofs.Entries.{Lead}
use Rattle.sy_scope_steps.proofs.surroundings.add_definitions.Given as goal

abbrev pub invariant-loop-number : goal.invariant-loop-number
invariant-loop-number g l = record {
  lead : Lead l.defined l.defs (with_entries l.fn.names.entities (defined_from 0 l.defined (map signature l.defs))) l.names.entities l.number;
  sorts : l.names.sorts ≡ l.fn.names.sorts;
}
