use Rattle.sy_scope_names.specs.Contexts.{Definition}
use Rattle.sy_scope_declared.specs.Seen.{definition_of}
use Rattle.sy_scope_declared.proofs.Alike.{more_seen, all_seen}
use Rattle.sy_scope_declared.proofs.titles.defined_names.Goals as goal

pub loop-definition-preserved : goal.loop-definition-preserved
loop-definition-preserved g c =
    more_seen (λ (d : Definition). d.name) (definition_of g.T.Theory.denotes) c.push.new.self c.loop-definition.names c.in_ok-copied.field-0
    c.args.definitions.now c.loop-definition.definition-index c.definition-item.result c.in_ok-push.ensures.ok c.loop-definition-test.true c.definition-item.is c.loop-definition.invariant c.in_ok-copied.ensures

pub returns : goal.returns
returns g c =
    all_seen (λ (d : Definition). d.name) (definition_of g.T.Theory.denotes) c.loop-definition.names
    c.args.definitions.now c.loop-definition.definition-index c.loop-definition-test.false c.loop-definition.invariant
