use Rattle.std.proofs.Common.{◌≡◌, take}
use Rattle.sy_scope_names.specs.Lists as spec
use Rattle.sy_scope_names.proofs.list.sorts_of.Given as goal

abbrev pub invariant-loop-one : goal.invariant-loop-one
invariant-loop-one l = l.sorts ≡ spec.sorts_of_names (take l.one-index l.named)
