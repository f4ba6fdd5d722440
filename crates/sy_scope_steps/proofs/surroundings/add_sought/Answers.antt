use Rattle.std.proofs.Common.{◌∙◌}
use Rattle.sy_scope_steps.specs.Around.{with_entry, with_entries, wanted_from, sought_at}
use Rattle.sy_scope_steps.proofs.Entries.{sought_more, sought_all}
use Rattle.sy_scope_steps.proofs.surroundings.add_sought.Goals as goal

pub loop-number-preserved : goal.loop-number-preserved
loop-number-preserved c =
    let all = with_entries c.args.names.now.entities (wanted_from 0 c.args.wanted.now) in
    record {
      lead = sought_more c.args.wanted.now all c.loop-number.names.entities c.add_entry.new.names.entities c.loop-number.number c.index-wanted-number.result c.loop-number-test.true c.index-wanted-number.is
          (c.in_ok-add_entry.ensures.entities ∙ (λ k. with_entry c.loop-number.names.entities (c.as_slice.ensures k, c.in_ok-function.ensures k))) c.loop-number.invariant.lead;
      sorts = c.add_entry.ensures.sorts ∙ c.loop-number.invariant.sorts;
    }

pub returns-clause-entities : goal.returns-clause-entities
returns-clause-entities c =
    sought_all c.args.wanted.now (with_entries c.args.names.now.entities (wanted_from 0 c.args.wanted.now)) c.loop-number.names.entities c.loop-number.number c.loop-number-test.false c.loop-number.invariant.lead
