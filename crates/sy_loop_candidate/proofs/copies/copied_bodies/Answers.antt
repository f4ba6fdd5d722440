use Rattle.std.proofs.Common.{map, ap, ◌∙◌}
use Rattle.std.proofs.lemmas.List.{take_all}
use Rattle.std.proofs.lemmas.Result.{IfOk-from_err}
use Rattle.sy_terms.specs.Denoted.{expr_of}
use Rattle.sy_loop_truth.proofs.Items.{copied_more}
use Rattle.sy_loop_candidate.proofs.copies.copied_bodies.Goals as goal

pub loop-body-preserved : goal.loop-body-preserved
loop-body-preserved g c =
    rw c.in_ok-push.ensures.ok
    (copied_more (expr_of g.T.Theory.denotes) c.loop-body.copies c.as_slice-body-items.result.now c.loop-body.body-index c.in_ok-copy.copy c.body-item.result c.loop-body.invariant c.loop-body-test.true c.body-item.is c.in_ok-copy.ensures)

pub returns : goal.returns
returns g c =
    c.loop-body.invariant ∙ ap (map (expr_of g.T.Theory.denotes)) (take_all c.loop-body.body-index c.as_slice-body-items.result.now c.loop-body-test.false ∙ c.as_slice-body-items.ensures)

pub returns-in_err-copy : goal.returns-in_err-copy
returns-in_err-copy g c = IfOk-from_err c.from_residual.result _ c.from_residual.ensures.0

pub returns-in_err-push : goal.returns-in_err-push
returns-in_err-push g c = IfOk-from_err c.from_residual-in_err-push.result _ c.from_residual-in_err-push.ensures.0
