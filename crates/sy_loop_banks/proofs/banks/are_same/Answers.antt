use Rattle.std.proofs.Common.{arith, sym, ◌∙◌}
use mathlib.Core.Bool.{true≢false}
use Rattle.sy_terms.specs.Denoted.{vals_of}
use Rattle.sy_loop_banks.proofs.Building.{differ}
use Rattle.sy_loop_banks.proofs.banks.are_same.Goals as goal

pub returns-then-not-same_values : goal.returns-then-not-same_values
returns-then-not-same_values g c = (
  λ yes. absurd (true≢false (sym yes)),
  λ same. absurd (differ (vals_of g.T.Theory.denotes) c.args.points.now c.args.others.now c.loop-place.place c.index-points-place.result c.index-others-place.result
      (omega (arith, c.loop-place-test.true)) c.index-points-place.is (omega (arith, c.loop-place-test.true, c.if-points-others.false)) c.index-others-place.is
      (λ equal. true≢false (sym (c.same_values.ensures.1 (rw (c.as_slice.ensures, c.as_slice-in-loop-place.ensures) equal)) ∙ c.if-not-same_values.true)) same),
)
