use Rattle.std.proofs.Common.{ℕ, ◌<◌, ◌+◌}
use Rattle.std.specs.Int.{IsGcd}
use Rattle.sy_frac.proofs.number.short_gcd.Given as goal

abbrev pub invariant-loop-y : goal.invariant-loop-y
invariant-loop-y l = record {
  same : (g : ℕ) → IsGcd l.x l.y g → IsGcd l.fn.a l.fn.b g;
  positive : 0 < l.fn.b → 0 < l.x + l.y;
}

abbrev pub decreases-loop-y : goal.decreases-loop-y
decreases-loop-y l = l.y
