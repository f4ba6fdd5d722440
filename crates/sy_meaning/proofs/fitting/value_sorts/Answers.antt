use Rattle.std.proofs.Common.{arith, sym, ◌∙◌}
use Rattle.std.proofs.lemmas.Result.{IfOk-from_err}
use Rattle.sy_meaning.proofs.ValueSorts as sorts
use Rattle.sy_meaning.proofs.fitting.value_sorts.Goals as goal

pub returns-in-None : goal.returns-in-None
returns-in-None g c =
    sorts.not-valid g.T.Theory.denotes c.args.values.now c.loop-value.value-index c.value-item.result (omega arith) c.value-item.is (sym c.in-None.is ∙ c.constant_sort.ensures)

pub loop-value-preserved : goal.loop-value-preserved
loop-value-preserved g c =
    let sort = sym c.constant_sort.ensures ∙ c.in-Some.is in (
      sorts.valid-next g.T.Theory.denotes c.args.values.now c.loop-value.value-index c.value-item.result c.in-Some.sort (omega arith) c.value-item.is c.loop-value.invariant.0 sort,
      rw (c.in_ok-push-in-Some.ensures.items) (sorts.sorts-next g.T.Theory.denotes c.args.values.now c.loop-value.value-index c.value-item.result c.in-Some.sort c.loop-value.found.items (omega arith) c.value-item.is c.loop-value.invariant.1 sort),
    )

pub returns-in_err-found : goal.returns-in_err-found
returns-in_err-found g c = IfOk-from_err c.from_residual.result _ c.from_residual.ensures.0

pub returns-in_err-push-in-Some : goal.returns-in_err-push-in-Some
returns-in_err-push-in-Some g c = IfOk-from_err c.from_residual-in_err-push-in-Some.result _ c.from_residual-in_err-push-in-Some.ensures.0
