use Rattle.std.proofs.Common.{refl, ◌∙◌, length, take, map}
use Rattle.std.proofs.lemmas.List.{drop-map}
use Rattle.std.proofs.lemmas.Result.{IfOk-from_err}
use Rattle.sy_terms.specs.Denoted.{expr_of, expr_of-Const, expr_of-Var, expr_of-App, expr_of-Call, exprs_of-append}
use Rattle.sy_grammar_base.specs.Patterns.{all_occurring}
use Rattle.sy_grammar_base.specs.Written.{patterns_of, pattern_of-Const, pattern_of-Var, pattern_of-Non, pattern_of-App, pattern_of-Call}
use Rattle.sy_bank_level.proofs.Fillings.{filled-Constant, filled-Variable, filled-Occurrence, filled-Apply, filled-Invoke, all_filled-none, filled-next, left-next}
use Rattle.sy_bank_level.proofs.fill.+filled.Goals as goal

pub filled_part-returns-in-Const : goal.filled_part-returns-in-Const
filled_part-returns-in-Const g t c = rw (c.in-Const.is, pattern_of-Const, expr_of-Const, filled-Constant) refl

pub filled_part-returns-in-Var : goal.filled_part-returns-in-Var
filled_part-returns-in-Var g t c = rw (c.in-Var.is, pattern_of-Var, expr_of-Var, filled-Variable) refl

pub filled_part-returns-in_ok-term-in-Non : goal.filled_part-returns-in_ok-term-in-Non
filled_part-returns-in_ok-term-in-Non g t c = rw (c.in-Non.is, pattern_of-Non, filled-Occurrence) c.in_ok-term-in-Non.ensures

pub filled_part-returns-in_ok-arguments-in-App : goal.filled_part-returns-in_ok-arguments-in-App
filled_part-returns-in_ok-arguments-in-App g t c = rw (c.in-App.is, pattern_of-App, expr_of-App, filled-Apply, c.in_ok-arguments-in-App.ensures) refl

pub filled_part-returns-in_ok-arguments-in-Call : goal.filled_part-returns-in_ok-arguments-in-Call
filled_part-returns-in_ok-arguments-in-Call g t c = rw (c.in-Call.is, pattern_of-Call, expr_of-Call, filled-Invoke, c.in_ok-arguments-in-Call.ensures) refl

pub filled_parts-loop-part-init : goal.filled_parts-loop-part-init
filled_parts-loop-part-init g t c = record { left_is = refl; whole = rw (c.in_ok-filled.ensures, all_filled-none) refl }

pub filled_parts-loop-part-preserved : goal.filled_parts-loop-part-preserved
filled_parts-loop-part-preserved g t c =
    let number = g.T.Theory.denotes in
    let parts = c.as_slice-part-items.result.now in
    let i = c.loop-part.part-index in
    let part = c.part-item.result in
    record {
      left_is = c.split_at.ensures.back ∙ left-next number parts i part c.args.terms.now c.loop-part.left.now c.places.result c.loop-part-test.true c.part-item.is c.loop-part.invariant.left_is c.places.ensures;
      whole =
          let next = filled-next number parts i part (map (expr_of number) c.args.terms.now) (length (all_occurring (patterns_of number (take i parts)))) c.loop-part-test.true c.part-item.is refl in
          rw (c.in_ok-push.ensures.ok, exprs_of-append, c.loop-part.invariant.whole, next, c.in_ok-term.ensures, c.loop-part.invariant.left_is, drop-map) refl;
    }

pub filled_part-returns-in_err-term-in-Non : goal.filled_part-returns-in_err-term-in-Non
filled_part-returns-in_err-term-in-Non g t c = IfOk-from_err c.from_residual.result _ c.from_residual.ensures.0

pub filled_part-returns-in_err-arguments-in-App : goal.filled_part-returns-in_err-arguments-in-App
filled_part-returns-in_err-arguments-in-App g t c = IfOk-from_err c.from_residual-in_err-arguments-in-App.result _ c.from_residual-in_err-arguments-in-App.ensures.0

pub filled_part-returns-in_err-arguments-in-Call : goal.filled_part-returns-in_err-arguments-in-Call
filled_part-returns-in_err-arguments-in-Call g t c = IfOk-from_err c.from_residual-in_err-arguments-in-Call.result _ c.from_residual-in_err-arguments-in-Call.ensures.0

pub filled_parts-returns-in_err-filled : goal.filled_parts-returns-in_err-filled
filled_parts-returns-in_err-filled g t c = IfOk-from_err c.from_residual.result _ c.from_residual.ensures.0

pub filled_parts-returns-in_err-term : goal.filled_parts-returns-in_err-term
filled_parts-returns-in_err-term g t c = IfOk-from_err c.from_residual-in_err-term.result _ c.from_residual-in_err-term.ensures.0

pub filled_parts-returns-in_err-push : goal.filled_parts-returns-in_err-push
filled_parts-returns-in_err-push g t c = IfOk-from_err c.from_residual-in_err-push.result _ c.from_residual-in_err-push.ensures.0
