use Rattle.std.proofs.Common.{◌≡◌, ◌∙◌, ◌-◌, ◌+◌, sym, ap, arith, None, drop}
use Rattle.std.specs.Prelude.{bytes_eq}
use Rattle.sy_forms_items.specs.Environments.{place_from}
use Rattle.sy_forms_items.proofs.Lookups.{place_from-here, place_from-other, found_at}
use Rattle.sy_forms_items.proofs.environment.place_among.Goals as goal

pub returns-then-eq : goal.returns-then-eq
returns-then-eq c =
    let i = c.loop-left.left - 1 in
    let x = c.index-names-left.result in
    let back : i + 1 ≡ c.loop-left.left = omega (arith, c.loop-left-test.true) in
    let there = found_at i c.args.names.now x (omega (arith, c.loop-left-test.true, c.loop-left.invariant.1)) c.index-names-left.is in
    let later : place_from (i + 1) c.args.name.now (drop (i + 1) c.args.names.now) ≡ None = rw back c.loop-left.invariant.0 in
    let here = ap (λ bytes. bytes_eq c.args.name.now bytes) (sym c.as_slice.ensures) ∙ sym c.eq.ensures ∙ c.if-eq.true in
    rw (c.in-Ok.ensures.1) (sym (place_from-here i c.args.name.now c.args.names.now x there later here))

pub loop-left-preserved : goal.loop-left-preserved
loop-left-preserved c =
    let i = c.loop-left.left - 1 in
    let x = c.index-names-left.result in
    let back : i + 1 ≡ c.loop-left.left = omega (arith, c.loop-left-test.true) in
    let there = found_at i c.args.names.now x (omega (arith, c.loop-left-test.true, c.loop-left.invariant.1)) c.index-names-left.is in
    let later : place_from (i + 1) c.args.name.now (drop (i + 1) c.args.names.now) ≡ None = rw back c.loop-left.invariant.0 in
    let here = ap (λ bytes. bytes_eq c.args.name.now bytes) (sym c.as_slice.ensures) ∙ sym c.eq.ensures ∙ c.if-eq.false in
    (place_from-other i c.args.name.now c.args.names.now x there later here, omega (arith, c.loop-left.invariant.1))
