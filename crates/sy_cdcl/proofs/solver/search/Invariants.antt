use Rattle.std.proofs.Common.{◌≡◌, vec_len}
use Rattle.sy_cdcl.specs.Storing.{clauses_in}
use Rattle.sy_cdcl.specs.Trails.{TrailIsReady, LevelsSettled, unvalued_count}
use Rattle.sy_cdcl.specs.Watching.{IsWatching}
use Rattle.sy_cdcl.proofs.solver.search.Given as goal

abbrev pub invariant-loop-conflict : goal.invariant-loop-conflict
invariant-loop-conflict l =
    let known = clauses_in l.store in
    record {
      ready : TrailIsReady known l.trail;
      levels : LevelsSettled known l.trail;
      all : vec_len l.trail.values ≡ l.vars;
      watching : IsWatching known l.trail l.watches;
    }

abbrev pub decreases-loop-conflict : goal.decreases-loop-conflict
decreases-loop-conflict l = unvalued_count l.trail
