use Rattle.sy_simplex.specs.Problems.{numbers}
use Rattle.sy_intsolve_cuts.proofs.Evaluating.{value-begun, value-more, value-ended}
use Rattle.sy_intsolve_cuts.proofs.keeping.number_at.Goals as goal

pub loop-coefficient-init : goal.loop-coefficient-init
loop-coefficient-init c = value-begun c.args.form.now c.as_slice-coefficient-items.result.now (numbers c.args.point.now) c.in_ok-number.number c.as_slice-coefficient-items.ensures c.in_ok-number.ensures.0

pub loop-coefficient-preserved : goal.loop-coefficient-preserved
loop-coefficient-preserved c = value-more c.as_slice-coefficient-items.result.now c.loop-coefficient.coefficient-index (numbers c.args.point.now) c.loop-coefficient.number c.in_ok-term.term c.in_ok-number-2.number _ c.loop-coefficient-test.true c.in_ok-term.ensures.0 c.in_ok-number-2.ensures.0 c.loop-coefficient.invariant

pub returns : goal.returns
returns c = value-ended c.as_slice-coefficient-items.result.now c.loop-coefficient.coefficient-index (numbers c.args.point.now) c.loop-coefficient.number _ c.loop-coefficient-test.false c.loop-coefficient.invariant
