use Rattle.std.proofs.Common.{◌≡◌, ◌<◌, refl, subst, arith, All, length}
use Rattle.std.proofs.lemmas.Bool.{ltb-true}
use Rattle.std.proofs.lemmas.Option.{slice_get_read}
use Rattle.sy_loop_choices.proofs.plan.is_step.Goals as goal

pub returns-in-Some : goal.returns-in-Some
returns-in-Some c is =
    let lookup = c.in-Some.ensures.lookup in
    let at = slice_get_read c.args.pools.now _ c.in-Kept.pool c.in-Some.pool.now refl lookup.3.0 lookup.1 in
    let less = ltb-true c.in-Kept.place c.len.result is in
    rw c.in-Kept.is (c.in-Some.pool.now, at, omega (arith, less, c.len.ensures))

pub returns-then-len : goal.returns-then-len
returns-then-len c is =
    let lookup = c.in-Some-get.ensures.lookup in
    let at = slice_get_read c.args.shapes.now _ c.in-Rule.shape c.in-Some-get.shape.now refl lookup.3.0 lookup.1 in
    let same : length c.in-Rule.parts.items ≡ length c.in-Some-get.shape.now.operands.items =
    omega (arith, c.if-len.true, c.len-in-Some-get.ensures, c.len-in-Some-get-2.ensures) in
    rw c.in-Rule.is (
      c.in-Some-get.shape.now,
      at,
      same,
      subst (All (λ part. part < c.args.number)) c.as_slice.ensures.value (c.are_before.ensures is),
    )
