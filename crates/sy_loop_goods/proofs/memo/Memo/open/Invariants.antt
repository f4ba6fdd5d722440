use Rattle.sy_loop_goods.specs.Tellings.{HasTelling, Telling}
use Rattle.sy_loop_goods.proofs.memo.Memo.open.Given as goal

abbrev pub invariant-loop-constraint : goal.invariant-loop-constraint
invariant-loop-constraint g l = (telling : Telling) → HasTelling g.T.Theory.denotes l.self telling → HasTelling g.T.Theory.denotes l.fn.self telling
