use Rattle.std.proofs.Common.{◌≡◌, ◌∙◌, ap, refl, None}
use Rattle.sy_forms_items.specs.Environments.{entry_under}
use Rattle.sy_forms_items.specs.Table.{under}
use Rattle.sy_forms_items.proofs.Lookups.{added-under}
use Rattle.sy_forms_items.proofs.table.Names.add_sort.Goals as goal

pub returns-clause-sorts : goal.returns-clause-sorts
returns-clause-sorts c =
    let seen = ap (λ t. t.sorts) c.self.view_is in
    let absent : entry_under c.in_ok-key.key.items (under (λ k. k.items) c.self.inside.sorts.entries) ≡ None = rw (c.in_ok-key.ensures, seen) c.requires in
    rw (c.in_ok-insert.ensures.entries) (added-under (λ k. k.items) c.self.inside.sorts.entries c.in_ok-key.key c.args.sort absent ∙ rw (seen, c.in_ok-key.ensures) refl)
