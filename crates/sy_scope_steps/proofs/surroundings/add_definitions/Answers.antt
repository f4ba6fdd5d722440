use Rattle.std.proofs.Common.{◌∙◌, sym, map}
use Rattle.std.proofs.lemmas.Bool.{ltb-true}
use Rattle.sy_terms.specs.Definitions.{signature}
use Rattle.sy_scope_steps.specs.Around.{with_entry, with_entries, defined_from}
use Rattle.sy_scope_steps.proofs.Entries.{definitions_more, definitions_unnamed, definitions_all}
use Rattle.sy_scope_steps.proofs.surroundings.add_definitions.Goals as goal

pub returns-in_default-clause-entities : goal.returns-in_default-clause-entities
returns-in_default-clause-entities g c =
    definitions_unnamed c.args.defined.now c.args.defs.now (with_entries c.args.names.now.entities (defined_from 0 c.args.defined.now (map signature c.args.defs.now))) c.loop-number.names.entities c.loop-number.number
    c.in_default.ensures.lookup.3 c.loop-number.invariant.lead

pub loop-number-preserved : goal.loop-number-preserved
loop-number-preserved g c =
    let all = with_entries c.args.names.now.entities (defined_from 0 c.args.defined.now (map signature c.args.defs.now)) in
    record {
      lead = definitions_more c.args.defined.now c.args.defs.now all c.loop-number.names.entities c.add_entry.new.names.entities c.loop-number.number c.in-Some.name.now c.index-defs-number.result
          (ltb-true _ _ (sym c.in-Some.ensures.lookup.0)) c.in-Some.ensures.lookup.1 c.loop-number-test.true c.index-defs-number.is
          (c.in_ok-add_entry.ensures.entities ∙ (λ k. with_entry c.loop-number.names.entities (c.as_slice.ensures k, c.in_ok-function.ensures k))) c.loop-number.invariant.lead;
      sorts = c.add_entry.ensures.sorts ∙ c.loop-number.invariant.sorts;
    }

pub returns-clause-entities : goal.returns-clause-entities
returns-clause-entities g c =
    definitions_all c.args.defined.now c.args.defs.now (with_entries c.args.names.now.entities (defined_from 0 c.args.defined.now (map signature c.args.defs.now))) c.loop-number.names.entities c.loop-number.number c.loop-number-test.false c.loop-number.invariant.lead
