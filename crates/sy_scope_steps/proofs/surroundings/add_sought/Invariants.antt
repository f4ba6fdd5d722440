use Rattle.std.proofs.Common.{◌≡◌}
use Rattle.sy_scope_steps.specs.Around.{with_entries, wanted_from}
use Rattle.sy_scope_steps.proofs.Entries.{LeadOn}
use Rattle.sy_scope_steps.proofs.surroundings.add_sought.Given as goal

abbrev pub invariant-loop-number : goal.invariant-loop-number
invariant-loop-number l = record {
  lead : LeadOn l.wanted (with_entries l.fn.names.entities (wanted_from 0 l.wanted)) l.names.entities l.number;
  sorts : l.names.sorts ≡ l.fn.names.sorts;
}
