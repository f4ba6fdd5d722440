use Rattle.std.proofs.Common.{◌∙◌, ap, sym, subst, map}
use Rattle.sy_text_items.specs.Views.{item_of}
use Rattle.sy_terms.specs.Definitions.{signature, bodies}
use Rattle.sy_forms_items.specs.Readings.{ReadingFails}
use Rattle.sy_scope_names.specs.Contexts.{Context}
use Rattle.sy_scope_steps.specs.Bodies.{body_in, body_read}
use Rattle.sy_scope_steps.proofs.Fitting.{ended_body}
use Rattle.sy_scope_steps.proofs.bodies.read_body.Goals as goal

pub returns-in-Ok-clause-read : goal.returns-in-Ok-clause-read
returns-in-Ok-clause-read g c =
    ap (λ context. body_in context c.args.logic c.args.arguments.now c.args.sort (item_of c.args.item.now)) (sym c.in_ok-around.ensures) ∙ c.in-Ok.ensures.read

pub returns-in-Ok-clause-fits : goal.returns-in-Ok-clause-fits
returns-in-Ok-clause-fits g c =
    c.in-Ok.ensures.fits c.args.titles.now (map signature c.args.defs.now) (bodies g.T.Theory.denotes c.args.defs.now) c.in_ok-around.ensures

pub returns-clause-read : goal.returns-clause-read
returns-clause-read g c =
    let fails = subst (λ (context : Context). ReadingFails c.in-Err.end (body_in context c.args.logic c.args.arguments.now c.args.sort (item_of c.args.item.now))) c.in_ok-around.ensures c.in-Err.ensures.read in
    rw c.ended.ensures (ended_body c.in-Err.end (body_read c.args.logic c.args.titles.now (map signature c.args.defs.now) (bodies g.T.Theory.denotes c.args.defs.now) c.args.arguments.now c.args.sort (item_of c.args.item.now)) fails)
