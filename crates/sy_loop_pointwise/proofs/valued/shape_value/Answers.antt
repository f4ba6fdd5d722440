use Rattle.std.proofs.Common.{◌≡◌, sym, subst, length, false, []}
use Rattle.std.proofs.lemmas.Result.{IfOk-from_err}
use Rattle.sy_terms.specs.Definitions.{bodies, scope_of}
use Rattle.sy_terms.specs.Denoted.{val_of, vals_of, expr_of-Const, expr_of-App, expr_of-Call, exprs_of}
use Rattle.sy_terms.specs.Meaning.{computable, functions}
use Rattle.sy_terms_operators.specs.Evaluation.{TermFits}
use Rattle.sy_loop_pointwise.specs.Denoted.{shape_of}
use Rattle.sy_loop_pointwise.specs.Shapes.{AreBelow, numbers_of, shaped, terms_of}
use Rattle.sy_loop_pointwise.specs.Valued.{AreValued, IsValued}
use Rattle.sy_loop_pointwise.proofs.Values.{applied_from, applied_unvalued, arguments_valued, called_from, called_unvalued, constant_valued}
use Rattle.sy_loop_pointwise.proofs.valued.shape_value.Goals as goal

pub returns-in_default : goal.returns-in_default
returns-in_default g c = λ terms each below.
    let number = g.T.Theory.denotes in
    let scope = scope_of g.T.Theory.owned c.args.defs.now in
    let defined = functions (bodies number c.args.defs.now) in
    let values = vals_of number c.args.values.now in
    let numbers = c.in-App.numbers in
    let within = subst (λ s. AreBelow (length c.args.found.now) (numbers_of (shape_of number s))) c.in-App.is below in
    let all = arguments_valued number scope defined values terms c.args.found.now numbers c.as_slice.result.now c.in_ok-arguments-in-App.field-0 c.as_slice.ensures each within (c.in_ok-arguments-in-App.ensures scope defined values terms) in
    let unvalued = subst (AreValued number scope defined values (terms_of terms numbers)) c.in_default.is all in
    subst (λ s. TermFits scope values (shaped terms (shape_of number s)) → computable defined [] values (shaped terms (shape_of number s)) ≡ false) (sym c.in-App.is) (applied_unvalued number scope defined c.in-App.operator values (terms_of terms numbers) unvalued)

pub returns-in_default-2 : goal.returns-in_default-2
returns-in_default-2 g c = λ terms each below.
    let number = g.T.Theory.denotes in
    let scope = scope_of g.T.Theory.owned c.args.defs.now in
    let defined = functions (bodies number c.args.defs.now) in
    let values = vals_of number c.args.values.now in
    let numbers = c.in-Call.numbers in
    let within = subst (λ s. AreBelow (length c.args.found.now) (numbers_of (shape_of number s))) c.in-Call.is below in
    let all = arguments_valued number scope defined values terms c.args.found.now numbers c.as_slice-in-Call.result.now c.in_ok-arguments-in-Call.field-0 c.as_slice-in-Call.ensures each within (c.in_ok-arguments-in-Call.ensures scope defined values terms) in
    let unvalued = subst (AreValued number scope defined values (terms_of terms numbers)) c.in_default-2.is all in
    subst (λ s. TermFits scope values (shaped terms (shape_of number s)) → computable defined [] values (shaped terms (shape_of number s)) ≡ false) (sym c.in-Call.is) (called_unvalued number scope defined c.in-Call.function values (terms_of terms numbers) unvalued)

pub returns-in_ok-value-in-Const : goal.returns-in_ok-value-in-Const
returns-in_ok-value-in-Const g c = λ terms each below.
    let number = g.T.Theory.denotes in
    let scope = scope_of g.T.Theory.owned c.args.defs.now in
    let defined = functions (bodies number c.args.defs.now) in
    let values = vals_of number c.args.values.now in
    let plain = subst (λ e. IsValued number scope defined [] e c.in_ok-value-in-Const.value) (expr_of-Const g.row.T.Denot number c.in-Const.value) c.in_ok-value-in-Const.ensures in
    subst (λ s. IsValued number scope defined values (shaped terms (shape_of number s)) c.in_ok-value-in-Const.value) (sym c.in-Const.is) (constant_valued number scope defined [] values (val_of number c.in-Const.value) c.in_ok-value-in-Const.value plain)

pub returns-in-Var : goal.returns-in-Var
returns-in-Var g c = λ terms each below.
    let number = g.T.Theory.denotes in
    let scope = scope_of g.T.Theory.owned c.args.defs.now in
    let defined = functions (bodies number c.args.defs.now) in
    let values = vals_of number c.args.values.now in
    subst (λ s. IsValued number scope defined values (shaped terms (shape_of number s)) c.variable_value.result) (sym c.in-Var.is) (c.variable_value.ensures scope defined)

pub returns-in_ok-value-in-App : goal.returns-in_ok-value-in-App
returns-in_ok-value-in-App g c = λ terms each below.
    let number = g.T.Theory.denotes in
    let scope = scope_of g.T.Theory.owned c.args.defs.now in
    let defined = functions (bodies number c.args.defs.now) in
    let values = vals_of number c.args.values.now in
    let numbers = c.in-App.numbers in
    let within = subst (λ s. AreBelow (length c.args.found.now) (numbers_of (shape_of number s))) c.in-App.is below in
    let all = arguments_valued number scope defined values terms c.args.found.now numbers c.as_slice.result.now c.in_ok-arguments-in-App.field-0 c.as_slice.ensures each within (c.in_ok-arguments-in-App.ensures scope defined values terms) in
    let have = subst (AreValued number scope defined values (terms_of terms numbers)) c.in-Some.is all in
    let arguments = c.in_ok-arguments-in-App-2.arguments in
    let plain = subst (λ e. IsValued number scope defined [] e c.in_ok-value-in-App.value) (expr_of-App number c.in-App.operator arguments) c.in_ok-value-in-App.ensures in
    subst (λ s. IsValued number scope defined values (shaped terms (shape_of number s)) c.in_ok-value-in-App.value) (sym c.in-App.is)
    (applied_from number scope defined values c.in-App.operator (exprs_of number arguments.items.items) (terms_of terms numbers) c.in-Some.arguments c.as_slice-in-App.result.now c.in_ok-value-in-App.value c.as_slice-in-App.ensures c.in_ok-arguments-in-App-2.ensures have plain)

pub returns-in_ok-value-in-Call : goal.returns-in_ok-value-in-Call
returns-in_ok-value-in-Call g c = λ terms each below.
    let number = g.T.Theory.denotes in
    let scope = scope_of g.T.Theory.owned c.args.defs.now in
    let defined = functions (bodies number c.args.defs.now) in
    let values = vals_of number c.args.values.now in
    let numbers = c.in-Call.numbers in
    let within = subst (λ s. AreBelow (length c.args.found.now) (numbers_of (shape_of number s))) c.in-Call.is below in
    let all = arguments_valued number scope defined values terms c.args.found.now numbers c.as_slice-in-Call.result.now c.in_ok-arguments-in-Call.field-0 c.as_slice-in-Call.ensures each within (c.in_ok-arguments-in-Call.ensures scope defined values terms) in
    let have = subst (AreValued number scope defined values (terms_of terms numbers)) c.in-Some-2.is all in
    let arguments = c.in_ok-arguments-in-Call-2.arguments in
    let plain = subst (λ e. IsValued number scope defined [] e c.in_ok-value-in-Call.value) (expr_of-Call number c.in-Call.function arguments) c.in_ok-value-in-Call.ensures in
    subst (λ s. IsValued number scope defined values (shaped terms (shape_of number s)) c.in_ok-value-in-Call.value) (sym c.in-Call.is)
    (called_from number scope defined values c.in-Call.function (exprs_of number arguments.items.items) (terms_of terms numbers) c.in-Some-2.arguments c.as_slice-in-Call-2.result.now c.in_ok-value-in-Call.value c.as_slice-in-Call-2.ensures c.in_ok-arguments-in-Call-2.ensures have plain)

pub returns-in_err-value-in-Const : goal.returns-in_err-value-in-Const
returns-in_err-value-in-Const g c = IfOk-from_err c.from_residual.result _ c.from_residual.ensures.0

pub returns-in_err-arguments-in-App : goal.returns-in_err-arguments-in-App
returns-in_err-arguments-in-App g c = IfOk-from_err c.from_residual-in_err-arguments-in-App.result _ c.from_residual-in_err-arguments-in-App.ensures.0

pub returns-in_err-arguments-in-App-2 : goal.returns-in_err-arguments-in-App-2
returns-in_err-arguments-in-App-2 g c = IfOk-from_err c.from_residual-in_err-arguments-in-App-2.result _ c.from_residual-in_err-arguments-in-App-2.ensures.0

pub returns-in_err-value-in-App : goal.returns-in_err-value-in-App
returns-in_err-value-in-App g c = IfOk-from_err c.from_residual-in_err-value-in-App.result _ c.from_residual-in_err-value-in-App.ensures.0

pub returns-in_err-arguments-in-Call : goal.returns-in_err-arguments-in-Call
returns-in_err-arguments-in-Call g c = IfOk-from_err c.from_residual-in_err-arguments-in-Call.result _ c.from_residual-in_err-arguments-in-Call.ensures.0

pub returns-in_err-arguments-in-Call-2 : goal.returns-in_err-arguments-in-Call-2
returns-in_err-arguments-in-Call-2 g c = IfOk-from_err c.from_residual-in_err-arguments-in-Call-2.result _ c.from_residual-in_err-arguments-in-Call-2.ensures.0

pub returns-in_err-value-in-Call : goal.returns-in_err-value-in-Call
returns-in_err-value-in-Call g c = IfOk-from_err c.from_residual-in_err-value-in-Call.result _ c.from_residual-in_err-value-in-Call.ensures.0
