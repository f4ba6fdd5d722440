use Rattle.std.proofs.Common.{sym, ap, ◌∙◌}
use Rattle.std.specs.Prelude.{nat_eq}
use Rattle.std.specs.HashMap.{get}
use Rattle.sy_linear_known.specs.Paths as spec
use Rattle.sy_linear_known.proofs.Keying.{none-keyed}
use Rattle.sy_linear_known.proofs.facts.Facts.has_form.Goals as goal

pub returns-in_default : goal.returns-in_default
returns-in_default c =
    sym (ap (spec.has_form c.args.form.now) (sym c.self.view_is)
    ∙ none-keyed (get nat_eq c.self.inside.places) c.self.inside.all.now c.args.form.now c.self.invariant (sym (ap (get nat_eq c.self.inside.places) c.form_key.ensures) ∙ sym c.in_default.ensures))
