use Rattle.std.proofs.Common.{◌∙◌, sym}
use Rattle.sy_text_items.specs.Views.{item_of}
use Rattle.sy_forms_items.specs.Views.{items_in}
use Rattle.sy_forms_items.proofs.Readings as readings
use Rattle.sy_scope_names.proofs.Listing.{pair_two}
use Rattle.sy_scope_names.proofs.list.named_pair.Goals as goal

pub returns : goal.returns
returns c =
    readings.gives_same _ _ _ _
    (pair_two c.args.naming.now.names.now.sorts c.args.naming.now.logic c.args.naming.now.taken.now c.args.done.now c.args.place (items_in c.args.parts) (item_of c.in-Some.name.now) (items_in c.in-Some.rest) (item_of c.in-Some-split.sort.now)
    (items_in c.in-Some-split.rest) c.in-Some.ensures c.in-Some-split.ensures (sym c.is_empty.ensures ∙ c.if-not-is_empty.false))
    c.named_by.ensures
