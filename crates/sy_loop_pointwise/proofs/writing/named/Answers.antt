use Rattle.std.proofs.Common.{◌∙◌, sym, ap, Some}
use Rattle.std.proofs.lemmas.Bool.{ltb-true}
use Rattle.std.proofs.lemmas.Option.{slice_get-get_or, slice_get_past}
use Rattle.std.proofs.lemmas.Result.{IfOk-from_err}
use Rattle.sy_loop_pointwise.proofs.Numbered.{name_numbered, no_name_numbered}
use Rattle.sy_loop_pointwise.proofs.writing.named.Goals as goal

pub returns-in-Some : goal.returns-in-Some
returns-in-Some g c =
    let found = c.in-Some.ensures.lookup in
    name_numbered c.args.table.now c.args.names.now c.args.position c.in-Some.number.now c.requires.names
    (slice_get-get_or c.args.names.now c.args.position c.in-Some.number.now (ltb-true _ _ (sym found.0)) ∙ ap Some (sym found.1))

pub returns-in_ok-number-in-None : goal.returns-in_ok-number-in-None
returns-in_ok-number-in-None g c =
    let e = c.in_ok-number-in-None.ensures in
    no_name_numbered c.args.table.now c.number.new.self c.args.names.now c.args.position c.in_ok-number-in-None.number (slice_get_past c.args.names.now c.args.position c.in-None.ensures.lookup.3) e.extends e.are e.at

pub returns-in_err-number-in-None : goal.returns-in_err-number-in-None
returns-in_err-number-in-None g c = IfOk-from_err c.from_residual.result _ c.from_residual.ensures.0
