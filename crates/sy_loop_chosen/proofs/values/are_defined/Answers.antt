use Rattle.std.proofs.Common.{◌∙◌, arith, sym}
use Rattle.sy_loop_chosen.proofs.Defining.{fit_next}
use Rattle.sy_loop_chosen.proofs.values.are_defined.Goals as goal

pub loop-number-preserved : goal.loop-number-preserved
loop-number-preserved g c =
    fit_next g.T.Theory.owned g.T.Theory.denotes c.as_slice-all.result.now c.loop-number.number c.index-all-number.result (omega (arith, c.loop-number-test.true)) c.index-all-number.is
    c.loop-number.invariant (sym (rw c.as_slice.ensures at c.in_ok-sort.ensures) ∙ c.is_sort.ensures c.if-not-is_sort.false)
