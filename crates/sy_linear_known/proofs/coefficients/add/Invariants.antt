use Rattle.std.proofs.Common.{length, ◌-◌, ◌+◌, ◌≤◌, ◌≡◌, ◌++◌, true, drop}
use Rattle.sy_linear_known.specs.Forms.{added, all_in_range}
use Rattle.sy_linear_known.proofs.coefficients.add.Given as goal

abbrev pub invariant-loop-i : goal.invariant-loop-i
invariant-loop-i l = record {
  left : l.i ≤ length l.cs;
  right : l.j ≤ length l.ds;
  kept : l.all ++ added (drop l.i l.cs) (drop l.j l.ds) ≡ added l.cs l.ds;
  fits : all_in_range l.all ≡ true;
}

abbrev pub decreases-loop-i : goal.decreases-loop-i
decreases-loop-i l = (length l.cs - l.i) + (length l.ds - l.j)
