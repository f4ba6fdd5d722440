use Rattle.std.proofs.Common.{◌∙◌, sym, ap}
use Rattle.sy_text_items.specs.Views.{item_of}
use Rattle.sy_forms_items.specs.Views.{items_in}
use Rattle.sy_scope_steps.specs.Grammars as spec
use Rattle.sy_scope_steps.proofs.Walking.{group_three, group_many}
use Rattle.sy_scope_steps.proofs.group.grouped_in.Goals as goal

pub returns-then-not-is_empty : goal.returns-then-not-is_empty
returns-then-not-is_empty c =
    sym (group_many (items_in c.args.parts) (item_of c.in_ok-name.name.now) (items_in c.in_ok-name.rest) (item_of c.in_ok-sort.sort.now) (items_in c.in_ok-sort.rest) (item_of c.in_ok-rules.rules.now) (items_in c.in_ok-rules.rest)
    c.in_ok-name.ensures c.in_ok-sort.ensures c.in_ok-rules.ensures (sym c.is_empty.ensures ∙ c.if-not-is_empty.true))

pub returns : goal.returns
returns c =
    c.group_with.ensures ∙ ap (spec.group_with (item_of c.in_ok-name.name.now) (item_of c.in_ok-sort.sort.now)) c.nonempty.ensures
    ∙ sym (group_three (items_in c.args.parts) (item_of c.in_ok-name.name.now) (items_in c.in_ok-name.rest) (item_of c.in_ok-sort.sort.now) (items_in c.in_ok-sort.rest) (item_of c.in_ok-rules.rules.now) (items_in c.in_ok-rules.rest)
    c.in_ok-name.ensures c.in_ok-sort.ensures c.in_ok-rules.ensures (sym c.is_empty.ensures ∙ c.if-not-is_empty.false))
