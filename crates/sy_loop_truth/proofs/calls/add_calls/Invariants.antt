use Rattle.std.proofs.Common.{take}
use Rattle.sy_loop_spec.specs.Adding.{GainsTuples, AreAsked}
use Rattle.sy_loop_truth.proofs.Tuples.{Changed}
use Rattle.sy_loop_truth.proofs.calls.add_calls.Given as goal

abbrev pub invariant-loop-place : goal.invariant-loop-place
invariant-loop-place g l = record {
  gains : GainsTuples l.calls l.fn.points l.points;
  there : AreAsked (take l.place l.calls) l.points;
  changed : Changed l.fn.points l.points l.adding;
}
