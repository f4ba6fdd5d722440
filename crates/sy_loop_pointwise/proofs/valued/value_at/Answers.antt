use Rattle.std.proofs.Common.{◌∙◌, ap, sym, Some, arith}
use Rattle.std.proofs.lemmas.Bool.{ltb-true}
use Rattle.std.proofs.lemmas.Option.{slice_get-get_or}
use Rattle.sy_loop_pointwise.proofs.valued.value_at.Goals as goal

pub returns-in_err-get : goal.returns-in_err-get
returns-in_err-get g c = λ scope defined values terms each within. absurd (omega (arith, within, c.in_err-get.ensures.lookup.3))

pub returns : goal.returns
returns g c = λ scope defined values terms each within.
    let value = c.in_ok-get.field-0.now in
    let found = c.in_ok-get.ensures.lookup in
    each c.args.number value (slice_get-get_or c.args.found.now c.args.number value (ltb-true _ _ (sym found.0)) ∙ ap Some (sym found.1))
