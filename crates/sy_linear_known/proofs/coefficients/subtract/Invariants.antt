use Rattle.std.proofs.Common.{length, ◌-◌, ◌+◌, ◌≤◌, ◌≡◌, ◌++◌, true, drop}
use Rattle.sy_linear_known.specs.Forms.{subtracted, all_in_range}
use Rattle.sy_linear_known.proofs.coefficients.subtract.Given as goal

abbrev pub invariant-loop-i : goal.invariant-loop-i
invariant-loop-i l = record {
  left : l.i ≤ length l.cs;
  right : l.j ≤ length l.ds;
  kept : l.all ++ subtracted (drop l.i l.cs) (drop l.j l.ds) ≡ subtracted l.cs l.ds;
  fits : all_in_range l.all ≡ true;
}

abbrev pub decreases-loop-i : goal.decreases-loop-i
decreases-loop-i l = (length l.cs - l.i) + (length l.ds - l.j)
