use Rattle.std.proofs.Common.{sym, ◌∙◌, refl, length}
use Rattle.std.proofs.lemmas.Option.{slice_get_read}
use Rattle.std.proofs.lemmas.Bool.{ltb-true}
use Rattle.sy_linear_known.proofs.Keying.{at-has}
use Rattle.sy_linear_known.proofs.facts.is_at.Goals as goal

pub returns-in-Some : goal.returns-in-Some
returns-in-Some c h =
    let item = c.in-Some.ensures.lookup in
    at-has c.args.facts.now c.args.form.now c.args.place c.in-Some.fact.now
    (slice_get_read c.args.facts.now (length c.args.facts.now) c.args.place c.in-Some.fact.now refl (ltb-true c.args.place (length c.args.facts.now) (sym item.0)) item.1)
    (sym c.is_form.ensures ∙ h)
