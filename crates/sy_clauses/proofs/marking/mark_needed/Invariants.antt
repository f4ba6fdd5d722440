use Rattle.std.proofs.Common.{◌≡◌, ◌≤◌, length}
use Rattle.sy_clauses.specs.Needed.{needs, AreNeededFrom}
use Rattle.sy_clauses.proofs.marking.mark_needed.Given as goal

abbrev pub invariant-loop-place : goal.invariant-loop-place
invariant-loop-place l = record {
  long : length l.needed ≡ length l.lines;
  within : l.place ≤ length l.lines;
  needed : AreNeededFrom l.formula l.lines l.place (needs l.needed);
}

abbrev pub decreases-loop-place : goal.decreases-loop-place
decreases-loop-place l = l.place
