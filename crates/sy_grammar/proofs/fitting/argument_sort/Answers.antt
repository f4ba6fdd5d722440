use Rattle.std.proofs.Common.{refl, sym, ◌∙◌}
use Rattle.std.proofs.lemmas.Option.{slice_get_read, slice_get_past}
use Rattle.sy_grammar.proofs.fitting.argument_sort.Goals as goal

pub returns : goal.returns
returns c =
    let lookup = c.in_ok-sort.ensures.lookup in
    sym (slice_get_read c.args.args.now _ c.args.position c.in_ok-sort.sort.now refl lookup.3.0 lookup.1)

pub returns-in_err-sort : goal.returns-in_err-sort
returns-in_err-sort c = c.from_residual.ensures ∙ sym (slice_get_past c.args.args.now c.args.position c.in_err-sort.ensures.lookup.3)
