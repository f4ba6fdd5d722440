use Rattle.std.proofs.Common.{arith, ap, refl, ◌∙◌}
use Rattle.std.proofs.lemmas.List.{take_all, take_more}
use Rattle.std.proofs.lemmas.Result.{IfOk-from_err}
use Rattle.sy_grammar_base.specs.Written.{patterns_of, pattern_of-App, pattern_of-Call}
use Rattle.sy_bank_level.proofs.Copies.{patterns_of-last}
use Rattle.sy_bank.proofs.copy.+copied.Goals as goal

pub copied_part-returns-in_ok-copies-in-App : goal.copied_part-returns-in_ok-copies-in-App
copied_part-returns-in_ok-copies-in-App g t c = rw (c.in-App.is, pattern_of-App, pattern_of-App, c.in_ok-copies-in-App.ensures) refl

pub copied_part-returns-in_ok-copies-in-Call : goal.copied_part-returns-in_ok-copies-in-Call
copied_part-returns-in_ok-copies-in-Call g t c = rw (c.in-Call.is, pattern_of-Call, pattern_of-Call, c.in_ok-copies-in-Call.ensures) refl

pub copied_parts-loop-part-preserved : goal.copied_parts-loop-part-preserved
copied_parts-loop-part-preserved g t c =
    let more = take_more c.as_slice-part-items.result.now c.loop-part.part-index c.part-item.result (grind arith) in
    rw (more, ← c.part-item.is, c.in_ok-push.ensures.ok, patterns_of-last, patterns_of-last, c.loop-part.invariant, c.in_ok-copy.ensures) refl

pub copied_part-returns-in_err-copies-in-App : goal.copied_part-returns-in_err-copies-in-App
copied_part-returns-in_err-copies-in-App g t c = IfOk-from_err c.from_residual.result _ c.from_residual.ensures.0

pub copied_part-returns-in_err-copies-in-Call : goal.copied_part-returns-in_err-copies-in-Call
copied_part-returns-in_err-copies-in-Call g t c = IfOk-from_err c.from_residual-in_err-copies-in-Call.result _ c.from_residual-in_err-copies-in-Call.ensures.0

pub copied_parts-returns-in_err-copy : goal.copied_parts-returns-in_err-copy
copied_parts-returns-in_err-copy g t c = IfOk-from_err c.from_residual.result _ c.from_residual.ensures.0

pub copied_parts-returns-in_err-push : goal.copied_parts-returns-in_err-push
copied_parts-returns-in_err-push g t c = IfOk-from_err c.from_residual-in_err-push.result _ c.from_residual-in_err-push.ensures.0

pub copied_part-returns-in-Const : goal.copied_part-returns-in-Const
copied_part-returns-in-Const g t c = rw (c.in-Const.is) refl

pub copied_part-returns-in-Var : goal.copied_part-returns-in-Var
copied_part-returns-in-Var g t c = rw (c.in-Var.is) refl

pub copied_part-returns-in-Non : goal.copied_part-returns-in-Non
copied_part-returns-in-Non g t c = rw (c.in-Non.is) refl

pub copied_parts-returns : goal.copied_parts-returns
copied_parts-returns g t c =
    let all = take_all c.loop-part.part-index c.as_slice-part-items.result.now c.loop-part-test.false in
    rw (← c.as_slice-part-items.ensures) (c.loop-part.invariant ∙ ap (patterns_of g.T.Theory.denotes) all)
