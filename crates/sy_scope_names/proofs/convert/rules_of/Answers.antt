use Rattle.std.proofs.Common.{map}
use Rattle.std.proofs.lemmas.Result.{IfOk-from_err}
use Rattle.sy_grammar_base.specs.Grown.{production_of}
use Rattle.sy_scope_names.specs.Groups.{production_in}
use Rattle.sy_scope_names.proofs.Made.{more_alike, all_alike}
use Rattle.sy_scope_names.proofs.convert.rules_of.Goals as goal

pub loop-ruling-preserved : goal.loop-ruling-preserved
loop-ruling-preserved g c =
    more_alike (production_of g.T.Theory.denotes) (production_in g.T.Theory.denotes) c.push.new.self c.loop-ruling.rules c.in_ok-rule_of.field-0
    c.args.rulings.now c.loop-ruling.ruling-index c.ruling-item.result c.in_ok-push.ensures.ok c.loop-ruling-test.true c.ruling-item.is c.loop-ruling.invariant c.in_ok-rule_of.ensures

pub returns : goal.returns
returns g c =
    all_alike (production_in g.T.Theory.denotes) (map (production_of g.T.Theory.denotes) c.loop-ruling.rules)
    c.args.rulings.now c.loop-ruling.ruling-index c.loop-ruling-test.false c.loop-ruling.invariant

pub returns-in_err-rule_of : goal.returns-in_err-rule_of
returns-in_err-rule_of g c = IfOk-from_err c.from_residual.result _ c.from_residual.ensures.0

pub returns-in_err-push : goal.returns-in_err-push
returns-in_err-push g c = IfOk-from_err c.from_residual-in_err-push.result _ c.from_residual-in_err-push.ensures.0
