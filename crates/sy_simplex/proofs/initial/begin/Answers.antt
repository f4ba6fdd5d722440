use Rattle.std.proofs.Common.{◌≡◌, arith, sym, subst, length}
use Rattle.std.proofs.lemmas.Result.{err_from_is_err_and}
use Rattle.std.proofs.lemmas.List.{get_or_read}
use Rattle.std.specs.Prelude.{pos}
use Rattle.sy_frac.specs.Fraction.{IsInRange}
use Rattle.sy_linear_known.specs.Forms.{constant_form}
use Rattle.sy_simplex.specs.Problems.{form}
use Rattle.sy_simplex.specs.Beginnings.{CoefficientsFit, IsBegun, IsFullRow}
use Rattle.sy_simplex.proofs.Begun.{same_fault, no_misfit, begun_item}
use Rattle.sy_simplex.proofs.initial.begin.Goals as goal

pub loop-at-init : goal.loop-at-init
loop-at-init c = c.requires.none

pub bounds-forms-at : goal.bounds-forms-at
bounds-forms-at c = c.loop-at-test.true

pub returns-in-Err-clause-unfit : goal.returns-in-Err-clause-unfit
returns-in-Err-clause-unfit c =
    let is : c.index-forms-at.result ≡ form c.args.forms.now c.loop-at.at = get_or_read c.args.forms.now c.loop-at.at c.index-forms-at.result c.loop-at-test.true c.index-forms-at.is (constant_form (pos 0)) in
    λ h. (c.loop-at.at, c.loop-at-test.true, λ fits. c.in-Err.ensures.unfit (cc) (subst (λ f. CoefficientsFit f.coefs) (sym is) fits.coefs))

pub loop-at-preserved : goal.loop-at-preserved
loop-at-preserved c =
    let is : c.index-forms-at.result ≡ form c.args.forms.now c.loop-at.at = get_or_read c.args.forms.now c.loop-at.at c.index-forms-at.result c.loop-at-test.true c.index-forms-at.is (constant_form (pos 0)) in
    begun_item c.args.vars c.args.forms.now c.loop-at.at c.index-forms-at.result c.loop-at.basics.items _ c.loop-at.rows.items _ c.loop-at.bounds.items _ c.new.result c.in-Some.constant _ _
    is c.loop-at.invariant c.in_ok-push-2.ensures.items (omega arith) c.in_ok-push.ensures.items (subst (IsFullRow c.args.vars c.index-forms-at.result.coefs) (sym c.new.ensures) c.in-Ok.ensures.ok) c.in-Ok.ensures.fits c.in_ok-push-3.ensures.items c.negated.ensures c.in-Some.ensures

pub returns-in_err-push-clause-begun : goal.returns-in_err-push-clause-begun
returns-in_err-push-clause-begun c = let p = err_from_is_err_and c.from_residual.result c.from_residual.ensures.1 in rw p.1 tt

pub returns-in_err-push-clause-unfit : goal.returns-in_err-push-clause-unfit
returns-in_err-push-clause-unfit c = λ is. absurd (no_misfit (same_fault c.from_residual.result _ _ c.from_residual.ensures.1 is))

pub returns-in_err-push-2-clause-begun : goal.returns-in_err-push-2-clause-begun
returns-in_err-push-2-clause-begun c = let p = err_from_is_err_and c.from_residual-in_err-push-2.result c.from_residual-in_err-push-2.ensures.1 in rw p.1 tt

pub returns-in_err-push-2-clause-unfit : goal.returns-in_err-push-2-clause-unfit
returns-in_err-push-2-clause-unfit c = λ is. absurd (no_misfit (same_fault c.from_residual-in_err-push-2.result _ _ c.from_residual-in_err-push-2.ensures.1 is))

pub returns-in_err-push-3-clause-begun : goal.returns-in_err-push-3-clause-begun
returns-in_err-push-3-clause-begun c = let p = err_from_is_err_and c.from_residual-in_err-push-3.result c.from_residual-in_err-push-3.ensures.1 in rw p.1 tt

pub returns-in_err-push-3-clause-unfit : goal.returns-in_err-push-3-clause-unfit
returns-in_err-push-3-clause-unfit c = λ is. absurd (no_misfit (same_fault c.from_residual-in_err-push-3.result _ _ c.from_residual-in_err-push-3.ensures.1 is))

pub returns-in_default-clause-unfit : goal.returns-in_default-clause-unfit
returns-in_default-clause-unfit c =
    let is : c.index-forms-at.result ≡ form c.args.forms.now c.loop-at.at = get_or_read c.args.forms.now c.loop-at.at c.index-forms-at.result c.loop-at-test.true c.index-forms-at.is (constant_form (pos 0)) in
    λ _. (c.loop-at.at, c.loop-at-test.true, λ fits. c.in_default.ensures (subst (λ f. IsInRange f.constant) (sym is) fits.constant))

pub returns-clause-begun : goal.returns-clause-begun
returns-clause-begun c =
    let all : c.loop-at.at ≡ length c.args.forms.now = omega (arith, c.loop-at-test.false, c.loop-at.auto.at-end) in
    subst (λ n. IsBegun c.args.vars c.args.forms.now n c.loop-at.basics.items c.loop-at.rows.items c.loop-at.bounds.items) all c.loop-at.invariant
