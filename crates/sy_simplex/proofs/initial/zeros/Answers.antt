use Rattle.std.proofs.lemmas.Result.{err_from_is_err_and}
use Rattle.sy_simplex.proofs.Begun.{zeros_more, same_fault, no_misfit}
use Rattle.sy_simplex.proofs.initial.zeros.Goals as goal

pub loop-place-preserved : goal.loop-place-preserved
loop-place-preserved c = zeros_more _ _ _ _ c.in_ok-push.ensures.items c.zero.ensures c.loop-place.invariant

pub returns-in_err-push-clause-ok : goal.returns-in_err-push-clause-ok
returns-in_err-push-clause-ok c = let p = err_from_is_err_and c.from_residual.result c.from_residual.ensures.1 in rw p.1 tt

pub returns-in_err-push-clause-fits : goal.returns-in_err-push-clause-fits
returns-in_err-push-clause-fits c = λ is. no_misfit (same_fault c.from_residual.result _ _ c.from_residual.ensures.1 is)
