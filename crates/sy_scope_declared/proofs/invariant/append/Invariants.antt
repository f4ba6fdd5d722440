use Rattle.std.proofs.Common.{◌≡◌, ◌++◌, take}
use Rattle.sy_scope_declared.proofs.invariant.append.Given as goal

abbrev pub invariant-loop-sort : goal.invariant-loop-sort
invariant-loop-sort l = l.all ≡ l.fn.all ++ take l.sort-index l.sorts
