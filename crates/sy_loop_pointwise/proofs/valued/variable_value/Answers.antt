use Rattle.std.proofs.Common.{◌∙◌, ap, sym, Some, arith}
use Rattle.std.proofs.lemmas.Bool.{ltb-true}
use Rattle.std.proofs.lemmas.List.{length-map}
use Rattle.std.proofs.lemmas.Option.{slice_get-get_or, slice_get-map, slice_get_past}
use Rattle.std.specs.Option.{option_map}
use Rattle.sy_terms.specs.Denoted.{val_of, vals_of}
use Rattle.sy_loop_pointwise.proofs.Values.{variable_has, variable_past}
use Rattle.sy_loop_pointwise.proofs.valued.variable_value.Goals as goal

pub returns-in_err-value : goal.returns-in_err-value
returns-in_err-value g c =
    let number = g.T.Theory.denotes in
    rw (c.from_residual.ensures) (λ scope defined. variable_past scope defined (vals_of number c.args.values.now) c.args.position
    (slice_get_past (vals_of number c.args.values.now) c.args.position (omega (arith, length-map c.args.values.now (val_of number), c.in_err-value.ensures.lookup.3))))

pub returns : goal.returns
returns g c = λ scope defined.
    let number = g.T.Theory.denotes in
    let values = c.args.values.now in
    let value = c.in_ok-value.value.now in
    let found = c.in_ok-value.ensures.lookup in
    let at = slice_get-map (val_of number) values c.args.position ∙ ap (option_map (val_of number)) (slice_get-get_or values c.args.position value (ltb-true _ _ (sym found.0)) ∙ ap Some (sym found.1)) in
    variable_has scope defined (vals_of number values) c.args.position (val_of number value) at c.requires
