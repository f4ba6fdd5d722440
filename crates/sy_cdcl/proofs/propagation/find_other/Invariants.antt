use Rattle.std.proofs.Common.{length}
use Rattle.sy_cdcl.specs.Trails.{kept_values}
use Rattle.sy_cdcl.proofs.Inspect.{AreFalseRound, IsReached}
use Rattle.sy_cdcl.proofs.propagation.find_other.Given as goal

abbrev pub invariant-loop : goal.invariant-loop
invariant-loop l = record {
  reached : IsReached (length l.clause) l.start l.counter l.place;
  passed : AreFalseRound (kept_values l.trail.values.items) l.clause l.start l.counter l.other;
}
