use Rattle.std.proofs.Common.{◌∙◌, sym, ap, ℕ, List}
use Rattle.sy_text_items.specs.Views.{item_of}
use Rattle.sy_scope_causes.specs.declared.cause.Cause.TheVariants as cause
use Rattle.sy_forms_items.specs.Operators.{is_reserved}
use Rattle.sy_forms_items.specs.Readings.{refuse}
use Rattle.sy_forms.proofs.NewNames.{new_reserved}
use Rattle.sy_forms.proofs.parts.new_name.Goals as goal

pub returns-then-is_reserved : goal.returns-then-is_reserved
returns-then-is_reserved c =
    new_reserved c.args.logic c.args.taken.now c.args.place (item_of c.args.item.now) c.in-Some.name.now (sym c.in-Some.ensures)
    (ap (is_reserved c.args.logic) (sym c.as_slice.ensures) ∙ sym c.is_reserved.ensures ∙ c.if-is_reserved.true)
    ∙ ap (λ p. refuse {A = List ℕ} p cause.NameTaken) (sym c.place_of.ensures)
