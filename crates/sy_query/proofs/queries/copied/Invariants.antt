use Rattle.std.proofs.Common.{◌≡◌, take}
use Rattle.sy_query.proofs.queries.copied.Given as goal

abbrev pub invariant-loop-sort : goal.invariant-loop-sort
invariant-loop-sort l = l.copy ≡ take l.sort-index l.fn.sorts
