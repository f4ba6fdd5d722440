use Rattle.std.proofs.Common.{◌≤◌, length}
use Rattle.sy_clauses.specs.Marking.{clause_of}
use Rattle.sy_cdcl_literals.specs.Falsified.{NoneFalsified}
use Rattle.sy_cdcl.proofs.analysis.last_falsified.Given as goal

abbrev pub invariant-loop-place : goal.invariant-loop-place
invariant-loop-place l = record {
  within : l.place ≤ length l.trail.entries.items;
  none : NoneFalsified l.trail.entries.items l.place (length l.trail.entries.items) (clause_of l.marks);
}

abbrev pub decreases-loop-place : goal.decreases-loop-place
decreases-loop-place l = l.place
