use Rattle.std.proofs.Common.{◌∙◌, ap, sym, Some, arith}
use Rattle.std.proofs.lemmas.Bool.{ltb-true}
use Rattle.std.proofs.lemmas.List.{length-map}
use Rattle.std.proofs.lemmas.Option.{slice_get-get_or}
use Rattle.sy_loop_pointwise.specs.Denoted.{shape_of, shapes_of}
use Rattle.sy_loop_pointwise.proofs.Calls.{no_call_past, call_arguments, no_call, at_shape, not_call}
use Rattle.sy_loop_pointwise.proofs.asks.arguments_of.Goals as goal

pub returns-in_err-numbers : goal.returns-in_err-numbers
returns-in_err-numbers g c =
    let number = g.T.Theory.denotes in
    rw (c.from_residual.ensures) (no_call_past (shapes_of number c.args.shapes.now) c.args.number (omega (arith, length-map c.args.shapes.now (shape_of number), c.in_err-numbers.ensures.lookup.3)))

pub returns-in-Call : goal.returns-in-Call
returns-in-Call g c =
    let number = g.T.Theory.denotes in
    let shapes = c.args.shapes.now in
    let shape = c.in_ok-numbers.field-0.now in
    let found = c.in_ok-numbers.ensures.lookup in
    let at = slice_get-get_or shapes c.args.number shape (ltb-true _ _ (sym found.0)) ∙ ap Some (sym found.1) in
    call_arguments (shapes_of number shapes) c.args.number c.in-Call.field-0 c.in-Call.numbers c.requires.subterms (at_shape number shapes c.args.number shape at ∙ ap (λ s. Some (shape_of number s)) c.in-Call.is)

pub returns-in_default : goal.returns-in_default
returns-in_default g c =
    let number = g.T.Theory.denotes in
    let shapes = c.args.shapes.now in
    let shape = c.in_ok-numbers.field-0.now in
    let found = c.in_ok-numbers.ensures.lookup in
    let at = slice_get-get_or shapes c.args.number shape (ltb-true _ _ (sym found.0)) ∙ ap Some (sym found.1) in
    no_call (shapes_of number shapes) c.args.number (shape_of number shape) c.requires.subterms (at_shape number shapes c.args.number shape at) (not_call number shape c.in_default.not-Call)
