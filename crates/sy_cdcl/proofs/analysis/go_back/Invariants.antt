use Rattle.std.proofs.Common.{◌≡◌, length, vec_len}
use Rattle.sy_clauses.specs.Clauses.{known_clauses}
use Rattle.sy_clauses.specs.Marking.{clause_of}
use Rattle.sy_clauses.specs.New.{IsUnit}
use Rattle.sy_cdcl.specs.Trails.{entries_values, TrailIsReady, LevelsSettled}
use Rattle.sy_cdcl.specs.Conflicts.{IsTakenBack}
use Rattle.sy_cdcl.proofs.analysis.go_back.Given as goal

abbrev pub invariant-loop-trail : goal.invariant-loop-trail
invariant-loop-trail l =
    let known = known_clauses l.cnf.clauses l.derived in
    record {
      ready : TrailIsReady known l.trail;
      levels : LevelsSettled known l.trail;
      vars : vec_len l.trail.values ≡ vec_len l.fn.trail.values;
      unit : IsUnit (entries_values l.trail.entries.items) (clause_of l.marks) l.fn.literal.var l.fn.literal.positive;
      back : IsTakenBack l.fn.trail l.trail;
    }

abbrev pub decreases-loop-trail : goal.decreases-loop-trail
decreases-loop-trail l = length l.trail.starts.items
