use Rattle.std.proofs.Common.{vec_len}
use Rattle.sy_cdcl.specs.Storing.{clauses_in}
use Rattle.sy_cdcl.specs.Trails.{TrailIsReady, TrailExtends, VarsBelow}
use Rattle.sy_cdcl.specs.Watching.{IsAttached}
use Rattle.sy_cdcl.proofs.propagation.attach.Given as goal

abbrev pub invariant-loop-number : goal.invariant-loop-number
invariant-loop-number l =
    let known = clauses_in l.store in
    record {
      ready : TrailIsReady known l.trail;
      extends : TrailExtends l.initial.trail l.trail;
      vars : VarsBelow (vec_len l.trail.values) known;
      attached : IsAttached known l.trail l.watches l.number;
    }
