use Rattle.std.proofs.Common.{arith}
use Rattle.std.proofs.lemmas.List.{take_all}
use Rattle.std.proofs.lemmas.Result.{IfOk-from_err}
use Rattle.sy_loop_goods.proofs.goods.rests_on.Goals as goal

pub returns : goal.returns
returns c = rw (take_all c.loop-rest.rest-index c.args.rests.now (omega (arith, c.loop-rest-test.false))) at c.loop-rest.invariant

pub returns-in_err-push : goal.returns-in_err-push
returns-in_err-push c = IfOk-from_err c.from_residual.result _ c.from_residual.ensures.0
