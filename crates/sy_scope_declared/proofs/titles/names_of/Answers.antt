use Rattle.sy_forms_items.specs.declared.names.Named.{Named}
use Rattle.sy_scope_declared.proofs.Alike.{more_made, all_made}
use Rattle.sy_scope_declared.proofs.titles.names_of.Goals as goal

pub loop-argument-preserved : goal.loop-argument-preserved
loop-argument-preserved c =
    more_made (λ (x : Named). x.name) c.push.new.self c.loop-argument.names c.in_ok-copied.field-0
    c.args.arguments.now c.loop-argument.argument-index c.argument-item.result c.in_ok-push.ensures.ok c.loop-argument-test.true c.argument-item.is c.loop-argument.invariant c.in_ok-copied.ensures

pub returns : goal.returns
returns c =
    all_made (λ (x : Named). x.name) c.loop-argument.names
    c.args.arguments.now c.loop-argument.argument-index c.loop-argument-test.false c.loop-argument.invariant
