use Rattle.sy_text_items.specs.Views.{item_of}
use Rattle.sy_forms_items.specs.declared.fault.ReadEnd.TheVariants as ends
use Rattle.sy_scope_names.specs.Asked.{spelled_of}
use Rattle.sy_scope_declared.specs.Seen.{definition_of}
use Rattle.sy_scope_declared.specs.Seen.{context_of}
use Rattle.sy_scope.proofs.Exits.{fails, silent}
use Rattle.sy_scope.proofs.Entered.{define_fails, define_gives}
use Rattle.sy_scope.proofs.definitions.define.Goals as goal

pub returns-in_err-definition-clause-step : goal.returns-in_err-definition-clause-step
returns-in_err-definition-clause-step g c =
    fails _ c.from_residual.result c.in_err-definition.field-0.0 _ c.from_residual.ensures.1
    (define_fails (context_of g.T.Theory.denotes c.args.context.now) c.args.context.now.logic (spelled_of c.args.name) c.args.arguments.now (item_of c.args.sort.now) (item_of c.args.body.now)
    c.in_err-definition.field-0.0 c.in_err-definition.ensures.read)

pub returns-in_err-definition-clause-logic : goal.returns-in_err-definition-clause-logic
returns-in_err-definition-clause-logic g c = silent _ c.from_residual.result _ c.from_residual.ensures.1

pub returns-in_err-add_definition-clause-step : goal.returns-in_err-add_definition-clause-step
returns-in_err-add_definition-clause-step g c = fails _ c.from_residual-in_err-add_definition.result ends.Want _ c.from_residual-in_err-add_definition.ensures.1 tt

pub returns-in_err-add_definition-clause-logic : goal.returns-in_err-add_definition-clause-logic
returns-in_err-add_definition-clause-logic g c = silent _ c.from_residual-in_err-add_definition.result _ c.from_residual-in_err-add_definition.ensures.1

pub returns-clause-step : goal.returns-clause-step
returns-clause-step g c =
    define_gives (context_of g.T.Theory.denotes c.args.context.now) c.args.context.now.logic (spelled_of c.args.name) c.args.arguments.now (item_of c.args.sort.now) (item_of c.args.body.now)
    (definition_of g.T.Theory.denotes c.in_ok-definition.definition) (context_of g.T.Theory.denotes c.add_definition.new.self) c.in_ok-definition.ensures.read c.in_ok-add_definition.ensures.step

pub returns-clause-logic : goal.returns-clause-logic
returns-clause-logic g c = c.in_ok-add_definition.ensures.logic
