use Rattle.std.proofs.Common.{◌≡◌}
use Rattle.std.specs.Prelude.{drop}
use Rattle.sy_loop_pointwise.specs.Keys as spec
use Rattle.sy_loop_pointwise.proofs.key.all_mixed.Given as goal

abbrev pub invariant-loop-number : goal.invariant-loop-number
invariant-loop-number l = spec.all_mixed l.fn.seed l.numbers ≡ spec.all_mixed l.key (drop l.number-index l.numbers)
