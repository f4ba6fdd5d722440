use Rattle.std.proofs.Common.{◌≡◌, arith, subst}
use Rattle.std.proofs.lemmas.Result.{err_from_is_err_and}
use Rattle.sy_simplex.specs.Beginnings.{AreCounted}
use Rattle.sy_simplex.proofs.Begun.{counted_more, same_fault, no_misfit}
use Rattle.sy_simplex.proofs.initial.counted.Goals as goal

pub loop-number-preserved : goal.loop-number-preserved
loop-number-preserved c = counted_more c.loop-number.number c.loop-number.all.items _ c.in_ok-push.ensures.items c.loop-number.invariant

pub returns-in_err-push-clause-ok : goal.returns-in_err-push-clause-ok
returns-in_err-push-clause-ok c = let p = err_from_is_err_and c.from_residual.result c.from_residual.ensures.1 in rw p.1 tt

pub returns-in_err-push-clause-fits : goal.returns-in_err-push-clause-fits
returns-in_err-push-clause-fits c = λ is. no_misfit (same_fault c.from_residual.result _ _ c.from_residual.ensures.1 is)

pub returns-clause-ok : goal.returns-clause-ok
returns-clause-ok c =
    let all : c.loop-number.number ≡ c.args.count = omega (arith, c.loop-number-test.false, c.loop-number.auto.number-end) in
    subst (λ n. AreCounted n c.loop-number.all.items) all c.loop-number.invariant
