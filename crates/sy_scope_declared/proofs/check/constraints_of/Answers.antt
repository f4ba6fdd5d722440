use Rattle.std.proofs.Common.{map}
use Rattle.sy_terms.specs.Denoted.{expr_of}
use Rattle.sy_scope_names.specs.Contexts.{condition_at}
use Rattle.sy_scope_declared.specs.Seen.{condition_of}
use Rattle.sy_scope_declared.proofs.Alike.{more_alike, all_seen}
use Rattle.sy_scope_declared.proofs.check.constraints_of.Goals as goal

pub loop-condition-preserved : goal.loop-condition-preserved
loop-condition-preserved g c =
    more_alike (expr_of g.T.Theory.denotes) (condition_at c.args.outside) (condition_of g.T.Theory.denotes) c.push.new.self c.loop-condition.terms c.in_ok-term_of.field-0
    c.args.conditions.now c.loop-condition.condition-index c.condition-item.result c.in_ok-push.ensures.ok c.loop-condition-test.true c.condition-item.is c.loop-condition.invariant c.in_ok-term_of.ensures

pub returns : goal.returns
returns g c =
    all_seen (condition_at c.args.outside) (condition_of g.T.Theory.denotes) (map (expr_of g.T.Theory.denotes) c.loop-condition.terms)
    c.args.conditions.now c.loop-condition.condition-index c.loop-condition-test.false c.loop-condition.invariant
