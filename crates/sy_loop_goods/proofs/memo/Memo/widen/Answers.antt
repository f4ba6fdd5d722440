use Rattle.std.proofs.Common.{refl}
use Rattle.sy_loop_goods.proofs.Pages.{memo_stays}
use Rattle.sy_loop_goods.proofs.memo.Memo.widen.Goals as goal

pub loop-place-preserved : goal.loop-place-preserved
loop-place-preserved g c = λ telling told. c.loop-place.invariant telling (c.in_ok-open.ensures telling told)

pub returns : goal.returns
returns g c = λ telling told. c.loop-place.invariant telling (memo_stays g.T.Theory.denotes c.loop-place.self _ refl telling told)
