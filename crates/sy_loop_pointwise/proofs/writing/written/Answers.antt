use Rattle.std.proofs.Common.{arith, ◌≡◌, ◌∙◌, ap, Some}
use Rattle.std.specs.Prelude.{slice_get}
use Rattle.std.proofs.lemmas.Result.{IfOk-from_err}
use Rattle.sy_terms.specs.Denoted.{expr_of}
use Rattle.sy_loop_pointwise.specs.Shapes.{Argument}
use Rattle.sy_loop_pointwise.proofs.Numbered.{no_variables, more_variables, all_variables}
use Rattle.sy_loop_pointwise.proofs.writing.written.Goals as goal

pub loop-position-init : goal.loop-position-init
loop-position-init g c = rw (c.new-names.ensures.items) (no_variables c.new-table.result)

pub loop-position-preserved : goal.loop-position-preserved
loop-position-preserved g c =
    let l = c.loop-position in
    let e = c.in_ok-number.ensures in
    let at : slice_get c.number.new.self c.in_ok-number.number ≡ Some (Argument l.position) = e.at ∙ ap (λ n. Some (Argument n)) c.in-Ok.ensures.1 in
    rw (c.in_ok-push.ensures.items) (more_variables l.table c.number.new.self l.names.items l.position c.in_ok-number.number l.invariant e.extends e.are at)

pub number_of-requires : goal.number_of-requires
number_of-requires g c = record { names = rw (c.as_slice.ensures.value) c.loop-position.invariant.within }

pub returns-clause-is : goal.returns-clause-is
returns-clause-is g c = λ sorts many.
    let l = c.loop-position in
    let inside = rw (c.as_slice.ensures.value) at c.in_ok-number-2.ensures in
    all_variables l.table c.number_of.new.table l.names.items l.position (expr_of g.T.Theory.denotes c.args.term.now) c.in_ok-number-2.number sorts l.invariant inside (omega (arith, many, l.auto.position-end, c.loop-position-test.false))

pub returns-in_err-number-clause-within : goal.returns-in_err-number-clause-within
returns-in_err-number-clause-within g c = IfOk-from_err c.from_residual.result _ c.from_residual.ensures.0

pub returns-in_err-number-clause-is : goal.returns-in_err-number-clause-is
returns-in_err-number-clause-is g c = IfOk-from_err c.from_residual.result _ c.from_residual.ensures.0

pub returns-in_err-push-clause-within : goal.returns-in_err-push-clause-within
returns-in_err-push-clause-within g c = IfOk-from_err c.from_residual-in_err-push.result _ c.from_residual-in_err-push.ensures.0

pub returns-in_err-push-clause-is : goal.returns-in_err-push-clause-is
returns-in_err-push-clause-is g c = IfOk-from_err c.from_residual-in_err-push.result _ c.from_residual-in_err-push.ensures.0

pub returns-in_err-number-2-clause-within : goal.returns-in_err-number-2-clause-within
returns-in_err-number-2-clause-within g c = IfOk-from_err c.from_residual-in_err-number-2.result _ c.from_residual-in_err-number-2.ensures.0

pub returns-in_err-number-2-clause-is : goal.returns-in_err-number-2-clause-is
returns-in_err-number-2-clause-is g c = IfOk-from_err c.from_residual-in_err-number-2.result _ c.from_residual-in_err-number-2.ensures.0
