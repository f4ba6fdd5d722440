use Rattle.sy_scope_names.specs.Jobs.{title_of}
use Rattle.sy_scope_declared.specs.Seen.{sought_of}
use Rattle.sy_scope_declared.proofs.Alike.{more_seen, all_seen}
use Rattle.sy_scope_declared.proofs.titles.wanted_titles.Goals as goal

pub loop-one-preserved : goal.loop-one-preserved
loop-one-preserved g c = λ logic.
    more_seen title_of (sought_of g.T.Theory.denotes logic) c.push.new.self c.loop-one.titles c.in_ok-title_of.field-0
    c.args.sought.now c.loop-one.one-index c.one-item.result c.in_ok-push.ensures.ok c.loop-one-test.true c.one-item.is (c.loop-one.invariant logic) c.in_ok-title_of.ensures

pub returns : goal.returns
returns g c = λ logic.
    all_seen title_of (sought_of g.T.Theory.denotes logic) c.loop-one.titles
    c.args.sought.now c.loop-one.one-index c.loop-one-test.false (c.loop-one.invariant logic)
