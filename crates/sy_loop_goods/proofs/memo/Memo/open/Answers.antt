use Rattle.sy_loop_goods.proofs.Pages.{memo_opens}
use Rattle.sy_loop_goods.proofs.memo.Memo.open.Goals as goal

pub loop-constraint-preserved : goal.loop-constraint-preserved
loop-constraint-preserved g c = λ telling told. c.loop-constraint.invariant telling (memo_opens g.T.Theory.denotes c.loop-constraint.self _ c.new.result c.in_ok-push.ensures.items c.new.ensures telling told)
