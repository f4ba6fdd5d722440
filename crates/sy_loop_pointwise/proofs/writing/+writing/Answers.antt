use Rattle.std.proofs.Common.{arith, ◌∙◌, ap, ◌++◌}
use Rattle.std.proofs.lemmas.List.{take_all}
use Rattle.std.proofs.lemmas.Result.{IfOk-from_err}
use Rattle.sy_terms.specs.Denoted.{val_of, expr_of, exprs_of, expr_of-Const, expr_of-Var, expr_of-App, expr_of-Call, expr_of-Let}
use Rattle.sy_loop_pointwise.proofs.Shaped.{below_more}
use Rattle.sy_loop_pointwise.proofs.Numbered.{constant_numbered, apply_numbered, call_numbered, let_numbered, none_numbered, next_numbered}
use Rattle.sy_loop_pointwise.proofs.writing.+writing.Goals as goal

pub number_of-returns-in_ok-number-in-Const : goal.number_of-returns-in_ok-number-in-Const
number_of-returns-in_ok-number-in-Const g t c =
    let e = c.in_ok-number-in-Const.ensures in
    rw (c.in-Const.is, expr_of-Const) (constant_numbered c.args.table.now c.number.new.self c.args.names.now (val_of g.T.Theory.denotes c.in-Const.value) c.in_ok-number-in-Const.number e.extends e.are e.at)

pub number_of-returns-in_ok-number-in-Var : goal.number_of-returns-in_ok-number-in-Var
number_of-returns-in_ok-number-in-Var g t c = rw (c.in-Var.is, expr_of-Var) c.in_ok-number-in-Var.ensures

pub number_of-returns-in_ok-number-in-App : goal.number_of-returns-in_ok-number-in-App
number_of-returns-in_ok-number-in-App g t c =
    let e = c.in_ok-number-in-App.ensures in
    rw (c.in-App.is, expr_of-App)
    (apply_numbered c.args.table.now c.numbers_of.new.table c.number-in-App.new.self c.args.names.now c.in-App.operator (exprs_of g.T.Theory.denotes c.in-App.arguments.items.items) c.in_ok-numbers-in-App.numbers c.in_ok-number-in-App.number
    c.in_ok-numbers-in-App.ensures e.extends e.are e.at)

pub number_of-returns-in_ok-number-in-Call : goal.number_of-returns-in_ok-number-in-Call
number_of-returns-in_ok-number-in-Call g t c =
    let e = c.in_ok-number-in-Call.ensures in
    rw (c.in-Call.is, expr_of-Call)
    (call_numbered c.args.table.now c.numbers_of-in-Call.new.table c.number-in-Call.new.self c.args.names.now c.in-Call.function (exprs_of g.T.Theory.denotes c.in-Call.arguments.items.items) c.in_ok-numbers-in-Call.numbers c.in_ok-number-in-Call.number
    c.in_ok-numbers-in-Call.ensures e.extends e.are e.at)

pub number_of-returns-in_ok-number-in-Let : goal.number_of-returns-in_ok-number-in-Let
number_of-returns-in_ok-number-in-Let g t c =
    let longer = c.as_slice-in-Let.ensures.value ∙ c.in_ok-longer-in-Let.ensures ∙ ap (λ rest. c.args.names.now ++ rest) c.as_slice.ensures in
    let inside = rw (longer, c.deref.ensures) at c.in_ok-number-in-Let.ensures in
    rw (c.in-Let.is, expr_of-Let)
    (let_numbered c.args.table.now c.numbers_of-in-Let.new.table c.number_of.new.table c.args.names.now (exprs_of g.T.Theory.denotes c.in-Let.bound.items.items) (expr_of g.T.Theory.denotes c.in-Let.inner.value) c.in_ok-numbers-in-Let.numbers c.in_ok-number-in-Let.number
    c.requires.names c.in_ok-numbers-in-Let.ensures inside)

pub numbers_of-loop-term-init : goal.numbers_of-loop-term-init
numbers_of-loop-term-init g t c = record { below = c.requires.names; numbered = rw (c.new-numbers.ensures) (none_numbered g.row.T.Denot g.T.Theory.denotes c.args.table.now c.args.names.now) }

pub numbers_of-loop-term-preserved : goal.numbers_of-loop-term-preserved
numbers_of-loop-term-preserved g t c =
    let l = c.loop-term in
    record {
      below = below_more l.table c.number_of.new.table c.args.names.now c.in_ok-number.ensures.extends l.invariant.below;
      numbered = rw (c.in_ok-push.ensures.ok) (next_numbered g.T.Theory.denotes c.args.table.now l.table c.number_of.new.table c.args.names.now c.as_slice-term-items.result.now l.term-index c.term-item.result l.numbers c.in_ok-number.number (omega arith) c.term-item.is c.requires.names l.invariant.numbered c.in_ok-number.ensures);
    }

pub numbers_of-returns : goal.numbers_of-returns
numbers_of-returns g t c =
    let all = take_all c.loop-term.term-index c.as_slice-term-items.result.now c.loop-term-test.false in
    rw (all, c.as_slice-term-items.ensures) at c.loop-term.invariant.numbered

pub number_of-returns-in_err-number-in-Const : goal.number_of-returns-in_err-number-in-Const
number_of-returns-in_err-number-in-Const g t c = IfOk-from_err c.from_residual.result _ c.from_residual.ensures.0

pub number_of-returns-in_err-number-in-Var : goal.number_of-returns-in_err-number-in-Var
number_of-returns-in_err-number-in-Var g t c = IfOk-from_err c.from_residual-in_err-number-in-Var.result _ c.from_residual-in_err-number-in-Var.ensures.0

pub number_of-returns-in_err-numbers-in-App : goal.number_of-returns-in_err-numbers-in-App
number_of-returns-in_err-numbers-in-App g t c = IfOk-from_err c.from_residual-in_err-numbers-in-App.result _ c.from_residual-in_err-numbers-in-App.ensures.0

pub number_of-returns-in_err-number-in-App : goal.number_of-returns-in_err-number-in-App
number_of-returns-in_err-number-in-App g t c = IfOk-from_err c.from_residual-in_err-number-in-App.result _ c.from_residual-in_err-number-in-App.ensures.0

pub number_of-returns-in_err-numbers-in-Call : goal.number_of-returns-in_err-numbers-in-Call
number_of-returns-in_err-numbers-in-Call g t c = IfOk-from_err c.from_residual-in_err-numbers-in-Call.result _ c.from_residual-in_err-numbers-in-Call.ensures.0

pub number_of-returns-in_err-number-in-Call : goal.number_of-returns-in_err-number-in-Call
number_of-returns-in_err-number-in-Call g t c = IfOk-from_err c.from_residual-in_err-number-in-Call.result _ c.from_residual-in_err-number-in-Call.ensures.0

pub number_of-returns-in_err-numbers-in-Let : goal.number_of-returns-in_err-numbers-in-Let
number_of-returns-in_err-numbers-in-Let g t c = IfOk-from_err c.from_residual-in_err-numbers-in-Let.result _ c.from_residual-in_err-numbers-in-Let.ensures.0

pub number_of-returns-in_err-longer-in-Let : goal.number_of-returns-in_err-longer-in-Let
number_of-returns-in_err-longer-in-Let g t c = IfOk-from_err c.from_residual-in_err-longer-in-Let.result _ c.from_residual-in_err-longer-in-Let.ensures.0

pub number_of-returns-in_err-number-in-Let : goal.number_of-returns-in_err-number-in-Let
number_of-returns-in_err-number-in-Let g t c = IfOk-from_err c.from_residual-in_err-number-in-Let.result _ c.from_residual-in_err-number-in-Let.ensures.0

pub numbers_of-returns-in_err-number : goal.numbers_of-returns-in_err-number
numbers_of-returns-in_err-number g t c = IfOk-from_err c.from_residual.result _ c.from_residual.ensures.0

pub numbers_of-returns-in_err-push : goal.numbers_of-returns-in_err-push
numbers_of-returns-in_err-push g t c = IfOk-from_err c.from_residual-in_err-push.result _ c.from_residual-in_err-push.ensures.0
