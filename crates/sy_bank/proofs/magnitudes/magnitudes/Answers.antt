use Rattle.std.proofs.Common.{◌-◌, ◌^◌, refl, arith, inl, inr}
use Rattle.sy_bank.proofs.ConstantSizes.{kept-power, sized-between, no-size}
use Rattle.sy_bank.proofs.magnitudes.magnitudes.Goals as goal
use Rattle.sy_bank.proofs.magnitudes.magnitudes.Goals.{then-size-lt2-via-then-size-lt2, then-size-lt2-via-else-size-lt2+then-size-gt128}

pub returns-then-size-lt2-clause-whole : goal.returns-then-size-lt2-clause-whole
returns-then-size-lt2-clause-whole c value given sized = elim c.then-size-lt2.branch [
  | then-size-lt2-via-then-size-lt2 w ↦ absurd (no-size c.args.sort value c.args.size given sized c.requires (inl w.if-size-lt2.true))
  | then-size-lt2-via-else-size-lt2+then-size-gt128 w ↦ absurd (no-size c.args.sort value c.args.size given sized c.requires (inr w.if-size-gt128.true))
]

pub overflow_mul-first : goal.overflow_mul-first
overflow_mul-first c =
    let power = kept-power c.args.size (omega (arith, c.if-size-lt2.false)) (omega (arith, c.if-size-gt128.false)) in
    rw power.0 (omega (arith, power.1))

pub returns-clause-whole : goal.returns-clause-whole
returns-clause-whole c value given sized =
    let power = kept-power c.args.size (omega (arith, c.if-size-lt2.false)) (omega (arith, c.if-size-gt128.false)) in
    let between = sized-between _ c.args.size (2 ^ (c.args.size - 2)) (omega (arith, c.if-size-lt2.false)) refl sized in
    let above = c.bound.ensures.above value given in
    rw power.0 (between.0, omega (arith, between.1, above, c.min.ensures, power.0))
