use Rattle.std.proofs.Common.{◌≡◌, ◌∙◌, sym, subst, true, false, [], Err}
use Rattle.std.proofs.lemmas.List.Elements.{All-nil}
use Rattle.std.proofs.lemmas.Result.{IfOk-from_err}
use Rattle.sy_terms.specs.Values.{Val}
use Rattle.sy_terms.specs.Definitions.{bodies}
use Rattle.sy_terms.specs.Denoted.{expr_of, val_of, vals_of, AreValid}
use Rattle.sy_terms.specs.Meaning.{computable, functions}
use Rattle.sy_terms.specs.Theories.{valid}
use Rattle.sy_loop_pointwise.proofs.Values.{fits_where, fits_not, fits_plain, gives_value}
use Rattle.sy_loop_pointwise.proofs.valued.plain_value.Goals as goal

pub returns-then-is_none : goal.returns-then-is_none
returns-then-is_none g c = λ fit.
    absurd (fits_not g.T.Theory.owned c.args.defs.now c.as_slice.result.now c.as_slice.ensures (expr_of g.T.Theory.denotes c.args.term.now) c.in_ok-term_sort.field-0 c.in_ok-term_sort.ensures c.if-is_none.ensures fit)

pub evaluate-requires-clause-values : goal.evaluate-requires-clause-values
evaluate-requires-clause-values g c = subst (AreValid g.T.Theory.denotes) (sym (c.as_slice-2.ensures.value ∙ c.new-nothing.ensures.items)) (All-nil (λ (v : Val). valid v ≡ true))

pub evaluate-requires-clause-term : goal.evaluate-requires-clause-term
evaluate-requires-clause-term g c =
    let e = expr_of g.T.Theory.denotes c.args.term.now in
    let fit = fits_where g.T.Theory.owned c.args.defs.now c.as_slice.result.now c.as_slice.ensures e c.in_ok-term_sort.field-0 c.in_ok-term_sort.ensures c.if-is_none.ensures in
    fits_plain g.T.Theory.owned g.T.Theory.denotes c.args.defs.now c.as_slice-2.result.now (c.as_slice-2.ensures.value ∙ c.new-nothing.ensures.items) e fit

pub returns-in-Ok : goal.returns-in-Ok
returns-in-Ok g c =
    let e = expr_of g.T.Theory.denotes c.args.term.now in
    let fit = fits_where g.T.Theory.owned c.args.defs.now c.as_slice.result.now c.as_slice.ensures e c.in_ok-term_sort.field-0 c.in_ok-term_sort.ensures c.if-is_none.ensures in
    gives_value g.T.Theory.owned g.T.Theory.denotes c.args.defs.now c.as_slice-2.result.now (c.as_slice-2.ensures.value ∙ c.new-nothing.ensures.items) e fit (val_of g.T.Theory.denotes c.in-Ok.value) c.in-Ok.ensures.ok

pub returns-in-Err-Range : goal.returns-in-Err-Range
returns-in-Err-Range g c = λ fit.
    let number = g.T.Theory.denotes in
    subst (λ vs. computable (functions (bodies number c.args.defs.now)) [] (vals_of number vs) (expr_of number c.args.term.now) ≡ false) (c.as_slice-2.ensures.value ∙ c.new-nothing.ensures.items) (c.in-Err-Range.ensures.range (λ i. Err (c.in-Err-Range.field-0-is i)))

pub returns-in_err-term_sort : goal.returns-in_err-term_sort
returns-in_err-term_sort g c = IfOk-from_err c.from_residual.result _ c.from_residual.ensures.0
