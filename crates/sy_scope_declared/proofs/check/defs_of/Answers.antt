use Rattle.std.proofs.Common.{map}
use Rattle.sy_terms.specs.Definitions.{signature, body, bodies}
use Rattle.sy_scope_names.specs.Contexts.{definition_signature, body_of}
use Rattle.sy_scope_declared.specs.Seen.{definition_of}
use Rattle.sy_scope_declared.proofs.Alike.{more_alike, all_seen}
use Rattle.sy_scope_declared.proofs.check.defs_of.Goals as goal

pub loop-definition-preserved : goal.loop-definition-preserved
loop-definition-preserved g c =
    let number = g.T.Theory.denotes in
    record {
      signatures = more_alike signature definition_signature (definition_of number) c.push.new.self c.loop-definition.defs c.in_ok-def_of.field-0
          c.args.definitions.now c.loop-definition.definition-index c.definition-item.result c.in_ok-push.ensures.ok c.loop-definition-test.true c.definition-item.is c.loop-definition.invariant.signatures c.in_ok-def_of.ensures.signature;
      bodies = more_alike (body number) body_of (definition_of number) c.push.new.self c.loop-definition.defs c.in_ok-def_of.field-0
          c.args.definitions.now c.loop-definition.definition-index c.definition-item.result c.in_ok-push.ensures.ok c.loop-definition-test.true c.definition-item.is c.loop-definition.invariant.bodies c.in_ok-def_of.ensures.body;
    }

pub returns-clause-signatures : goal.returns-clause-signatures
returns-clause-signatures g c =
    all_seen definition_signature (definition_of g.T.Theory.denotes) (map signature c.loop-definition.defs) c.args.definitions.now c.loop-definition.definition-index c.loop-definition-test.false c.loop-definition.invariant.signatures

pub returns-clause-bodies : goal.returns-clause-bodies
returns-clause-bodies g c =
    all_seen body_of (definition_of g.T.Theory.denotes) (bodies g.T.Theory.denotes c.loop-definition.defs) c.args.definitions.now c.loop-definition.definition-index c.loop-definition-test.false c.loop-definition.invariant.bodies
