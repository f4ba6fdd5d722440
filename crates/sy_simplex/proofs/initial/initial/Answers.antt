use Rattle.std.proofs.Common.{Err, refl, ap, length}
use Rattle.std.proofs.lemmas.Result.{err_from_is_err_and}
use Rattle.sy_simplex.proofs.Begun.{same_fault, begun_fits, begun_is}
use Rattle.sy_simplex.proofs.initial.initial.Goals as goal

pub returns-in_err-columns-clause-fits : goal.returns-in_err-columns-clause-fits
returns-in_err-columns-clause-fits c = let p = err_from_is_err_and c.from_residual.result c.from_residual.ensures.1 in rw p.1 tt

pub returns-in_err-columns-clause-ok : goal.returns-in_err-columns-clause-ok
returns-in_err-columns-clause-ok c = let p = err_from_is_err_and c.from_residual.result c.from_residual.ensures.1 in rw p.1 tt

pub returns-in_err-columns-clause-unfit : goal.returns-in_err-columns-clause-unfit
returns-in_err-columns-clause-unfit c = λ is. absurd (c.in_err-columns.ensures.fits (ap Err (same_fault c.from_residual.result _ _ c.from_residual.ensures.1 is)))

pub returns-in_err-values-clause-fits : goal.returns-in_err-values-clause-fits
returns-in_err-values-clause-fits c = let p = err_from_is_err_and c.from_residual-in_err-values.result c.from_residual-in_err-values.ensures.1 in rw p.1 tt

pub returns-in_err-values-clause-ok : goal.returns-in_err-values-clause-ok
returns-in_err-values-clause-ok c = let p = err_from_is_err_and c.from_residual-in_err-values.result c.from_residual-in_err-values.ensures.1 in rw p.1 tt

pub returns-in_err-values-clause-unfit : goal.returns-in_err-values-clause-unfit
returns-in_err-values-clause-unfit c = λ is. absurd (c.in_err-values.ensures.fits (ap Err (same_fault c.from_residual-in_err-values.result _ _ c.from_residual-in_err-values.ensures.1 is)))

pub returns-in-Ok-clause-fits : goal.returns-in-Ok-clause-fits
returns-in-Ok-clause-fits c = begun_fits c.args.vars c.args.forms.now (length c.args.forms.now) _ _ _ refl c.in-Ok.ensures.begun

pub returns-in-Ok-clause-ok : goal.returns-in-Ok-clause-ok
returns-in-Ok-clause-ok c = begun_is c.args.vars c.args.forms.now _ (length c.args.forms.now) refl refl c.in_ok-columns.ensures.ok c.in_ok-values.ensures.ok c.in-Ok.ensures.begun

pub returns-in-Err-clause-unfit : goal.returns-in-Err-clause-unfit
returns-in-Err-clause-unfit c = λ is. c.in-Err.ensures.unfit (cc)
