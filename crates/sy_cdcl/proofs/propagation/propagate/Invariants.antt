use Rattle.std.proofs.Common.{◌+◌, ◌-◌, length, vec_len}
use Rattle.sy_cdcl.specs.Storing.{clauses_in}
use Rattle.sy_cdcl.specs.Trails.{TrailIsReady, TrailExtends, VarsBelow, unvalued_count}
use Rattle.sy_cdcl.specs.Watching.{IsWatching}
use Rattle.sy_cdcl.proofs.propagation.propagate.Given as goal

abbrev pub invariant-loop-watches : goal.invariant-loop-watches
invariant-loop-watches l =
    let known = clauses_in l.store in
    record {
      ready : TrailIsReady known l.trail;
      extends : TrailExtends l.initial.trail l.trail;
      vars : VarsBelow (vec_len l.trail.values) known;
      watching : IsWatching known l.trail l.watches;
    }

abbrev pub decreases-loop-watches : goal.decreases-loop-watches
decreases-loop-watches l = unvalued_count l.trail + length l.trail.entries.items - l.watches.head
