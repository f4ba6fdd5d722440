use Rattle.std.proofs.lemmas.List.{map-append}
use Rattle.sy_query.proofs.Trying.{one_more}
use Rattle.sy_query.proofs.trial.corner.Goals as goal

pub loop-sort-preserved : goal.loop-sort-preserved
loop-sort-preserved g c =
    rw (c.in_ok-push.ensures.ok, map-append) (one_more c.args.vars.now c.loop-sort.sort-index _ _ _ c.loop-sort-test.true c.loop-sort.invariant c.in-Some.ensures.sort c.in-Some.ensures.valid)
