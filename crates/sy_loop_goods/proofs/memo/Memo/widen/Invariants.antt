use Rattle.sy_loop_goods.specs.Tellings.{HasTelling, Telling}
use Rattle.sy_loop_goods.proofs.memo.Memo.widen.Given as goal

abbrev pub invariant-loop-place : goal.invariant-loop-place
invariant-loop-place g l = (telling : Telling) → HasTelling g.T.Theory.denotes l.self telling → HasTelling g.T.Theory.denotes l.fn.self telling
