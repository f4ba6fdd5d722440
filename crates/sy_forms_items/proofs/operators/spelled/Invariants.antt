use Rattle.std.proofs.Common.{◌≡◌, drop}
use Rattle.sy_forms_items.specs.Operators as spec
use Rattle.sy_forms_items.proofs.operators.spelled.Given as goal

abbrev pub invariant-loop-op : goal.invariant-loop-op
invariant-loop-op l = spec.operator_spelled l.name (drop l.op-index l.ops) ≡ spec.operator_spelled l.name l.ops
