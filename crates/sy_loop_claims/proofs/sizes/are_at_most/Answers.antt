use Rattle.std.proofs.Common.{rules, arith, ◌-◌, sym}
use mathlib.Core.Bool.{true≢false}
use Rattle.sy_terms.specs.Denoted.{vals_of}
use Rattle.sy_loop_claims.proofs.Summing.{summed_start, summed_more, summed_all, summed_exceeds}
use Rattle.sy_loop_claims.proofs.sizes.are_at_most.Goals as goal

pub loop-wanted-init : goal.loop-wanted-init
loop-wanted-init g c = summed_start g.T.Theory.denotes (vals_of g.T.Theory.denotes c.args.problem.now.pool) c.as_slice-wanted-items.result.now c.args.size

pub overflow_sub-left : goal.overflow_sub-left
overflow_sub-left g c = (rw c.in-Some.is at c.in_ok-size.ensures).1

pub loop-wanted-preserved : goal.loop-wanted-preserved
loop-wanted-preserved g c =
    let found = rw c.in-Some.is at c.in_ok-size.ensures in
    summed_more g.T.Theory.denotes (vals_of g.T.Theory.denotes c.args.problem.now.pool) c.as_slice-wanted-items.result.now c.loop-wanted.wanted-index c.args.size c.loop-wanted.left (c.loop-wanted.left - c.in-Some.size) c.in-Some.size c.wanted-item.result
    c.loop-wanted.invariant c.loop-wanted-test.true c.wanted-item.is found.0 found.1 (omega (arith, found.1))

pub returns-in-None : goal.returns-in-None
returns-in-None g c =
    let summed = rw c.as_slice-wanted-items.ensures at c.loop-wanted.invariant in (
      λ yes. absurd (true≢false (sym yes)),
      λ all. absurd (summed_exceeds g.T.Theory.denotes c.args.problem.now c.loop-wanted.wanted-index c.args.size c.loop-wanted.left c.wanted-item.result
          summed (rw c.as_slice-wanted-items.ensures at c.loop-wanted-test.true) (rw c.as_slice-wanted-items.ensures at c.wanted-item.is) (rw c.in-None.is at c.in_ok-size.ensures) all),
    )

pub returns : goal.returns
returns g c =
    let summed = rw c.as_slice-wanted-items.ensures at c.loop-wanted.invariant in
    (λ _. summed_all g.T.Theory.denotes c.args.problem.now c.loop-wanted.wanted-index c.args.size c.loop-wanted.left summed (rw c.as_slice-wanted-items.ensures at c.loop-wanted-test.false), λ _. search rules)
