use Rattle.sy_linear_known.specs.declared.form.FormEnd.TheVariants.{OutOfRange}
use Rattle.std.proofs.Common.{◌∙◌, refl, rules}
use Rattle.std.specs.Prelude.{Some, None}
use mir.Syntax.{w128}
use mir.Val.{SFits}
use Rattle.std.proofs.lemmas.Int.{to_z-of_z}
use Rattle.sy_linear.specs.Combining.{plus_coefficients}
use Rattle.sy_linear.proofs.Folding.{form_is, moved}
use Rattle.sy_linear.proofs.combination.plus_form.Goals as goal

pub returns-in_default-clause-unfit : goal.returns-in_default-clause-unfit
returns-in_default-clause-unfit c h =
    let fits : SFits w128 c.constant_of-number.result = search rules in
    let number = to_z-of_z w128 c.constant_of-number.result fits ∙ c.constant_of-number.ensures in
    form_is c.args.combination.now c.args.factor.now c.args.form.now _ c.args.form.now.coefs c.args.combination.now.shares None (plus_coefficients c.args.factor.now c.args.form.now.coefs c.args.combination.now.shares) number refl refl c.in_default.ensures refl

pub returns-in-Ok-clause-ok : goal.returns-in-Ok-clause-ok
returns-in-Ok-clause-ok c =
    let fits : SFits w128 c.constant_of-number.result = search rules in
    let number = to_z-of_z w128 c.constant_of-number.result fits ∙ c.constant_of-number.ensures in
    form_is c.args.combination.now c.args.factor.now c.args.form.now _ c.as_slice-coefficients.result.now c.as_slice.result.now (Some c.in-Some.constant) (Some c.in-Ok.shares) number c.as_slice-coefficients.ensures c.as_slice.ensures c.in-Some.ensures c.in-Ok.ensures.ok

pub returns-in-Err-clause-unfit : goal.returns-in-Err-clause-unfit
returns-in-Err-clause-unfit c h =
    let fits : SFits w128 c.constant_of-number.result = search rules in
    let number = to_z-of_z w128 c.constant_of-number.result fits ∙ c.constant_of-number.ensures in
    form_is c.args.combination.now c.args.factor.now c.args.form.now _ c.as_slice-coefficients.result.now c.as_slice.result.now (Some c.in-Some.constant) None number c.as_slice-coefficients.ensures c.as_slice.ensures c.in-Some.ensures (c.in-Err.ensures.unfit (moved c.in-Err.end OutOfRange h))
