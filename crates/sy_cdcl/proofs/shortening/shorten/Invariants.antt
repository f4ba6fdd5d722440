use Rattle.std.proofs.Common.{◌≡◌, ◌≤◌, Some}
use Rattle.sy_clauses.specs.Clauses.{known_clauses, line_clause}
use Rattle.sy_clauses.specs.Marking.{clause_of, MarksAreListed}
use Rattle.sy_clauses.specs.New.{IsUnit}
use Rattle.sy_cdcl.specs.Trails.{level_start}
use Rattle.sy_cdcl.specs.Conflicts.{value_below}
use Rattle.sy_cdcl.specs.Short.{IsWithin, IsShort}
use Rattle.sy_cdcl.proofs.shortening.shorten.Given as goal

abbrev pub invariant-loop-top : goal.invariant-loop-top
invariant-loop-top l =
    let known = known_clauses l.cnf.clauses l.derived in
    record {
      below : l.top ≤ level_start l.trail.starts.items;
      line : line_clause known l.longer ≡ Some (clause_of l.marks);
      unit : IsUnit (value_below l.trail) (clause_of l.marks) l.fn.literal.var l.fn.literal.positive;
      within : IsWithin (clause_of l.marks) (clause_of l.initial.marks);
      short : IsShort known l.trail.entries.items l.top (level_start l.trail.starts.items) (clause_of l.marks);
      listed : MarksAreListed l.marks;
    }

abbrev pub decreases-loop-top : goal.decreases-loop-top
decreases-loop-top l = l.top
