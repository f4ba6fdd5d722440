use Rattle.std.proofs.lemmas.List.{map-append, take_all}
use Rattle.std.proofs.lemmas.Result.{IfOk-from_err}
use Rattle.sy_loop_bodies.proofs.Copied.{one_more}
use Rattle.sy_loop_bodies.proofs.mixed.mixed_assignment.Goals as goal

pub loop-sort-preserved : goal.loop-sort-preserved
loop-sort-preserved g c =
    rw (c.in_ok-push.ensures.ok, map-append) (one_more c.args.vars.now c.loop-sort.sort-index _ _ _ c.loop-sort-test.true c.loop-sort.invariant c.in-Some.ensures.sort c.in-Some.ensures.valid)

pub returns-in_err-push : goal.returns-in_err-push
returns-in_err-push g c = IfOk-from_err c.from_residual.result _ c.from_residual.ensures.0

pub returns : goal.returns
returns g c =
    let all = take_all c.loop-sort.sort-index c.args.vars.now c.loop-sort-test.false in
    rw all at c.loop-sort.invariant
