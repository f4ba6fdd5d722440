use Rattle.std.proofs.Common.{◌+◌, ap, ◌∙◌}
use Rattle.std.proofs.lemmas.Result.{IfOk-from_err}
use Rattle.sy_linear_known.specs.Fitting.{all_fit}
use Rattle.sy_linear_known.proofs.Walking.{variables_next, fits-push}
use Rattle.sy_linear_known.proofs.queries.variable_sights.Goals as goal

pub loop-sort-preserved : goal.loop-sort-preserved
loop-sort-preserved c =
    let l = c.loop-sort in
    record {
      kept = variables_next c.args.path.now c.args.vars.now l.names.items c.push.new.self.items _ l.number l.sort-index _ c.in_ok-sight.sight c.loop-sort-test.true c.in_ok-sight.ensures.sight c.in_ok-push.ensures.items l.invariant.kept;
      number = ap (λ n. n + 1) l.invariant.number;
      fits = ap all_fit c.in_ok-push.ensures.items ∙ fits-push l.names.items c.in_ok-sight.sight l.invariant.fits c.in_ok-sight.ensures.fits;
    }

pub returns-in_err-sight-clause-sights : goal.returns-in_err-sight-clause-sights
returns-in_err-sight-clause-sights c = IfOk-from_err c.from_residual.result _ c.from_residual.ensures.0

pub returns-in_err-sight-clause-fits : goal.returns-in_err-sight-clause-fits
returns-in_err-sight-clause-fits c = IfOk-from_err c.from_residual.result _ c.from_residual.ensures.0

pub returns-in_err-push-clause-sights : goal.returns-in_err-push-clause-sights
returns-in_err-push-clause-sights c = IfOk-from_err c.from_residual-in_err-push.result _ c.from_residual-in_err-push.ensures.0

pub returns-in_err-push-clause-fits : goal.returns-in_err-push-clause-fits
returns-in_err-push-clause-fits c = IfOk-from_err c.from_residual-in_err-push.result _ c.from_residual-in_err-push.ensures.0
