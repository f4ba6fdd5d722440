use Rattle.std.proofs.Common.{◌≡◌, ◌∙◌, ap, refl, None}
use Rattle.sy_forms_items.specs.Environments.{entry_under}
use Rattle.sy_forms_items.specs.Table.{under}
use Rattle.sy_forms_items.proofs.Lookups.{added-under}
use Rattle.sy_forms_items.proofs.table.Names.add_entity.Goals as goal

pub returns-clause-entities : goal.returns-clause-entities
returns-clause-entities c =
    let seen = ap (λ t. t.entities) c.self.view_is in
    let absent : entry_under c.in_ok-key.key.items (under (λ k. k.items) c.self.inside.entities.entries) ≡ None = rw (c.in_ok-key.ensures, seen) c.requires in
    rw (c.in_ok-insert.ensures.entries) (added-under (λ k. k.items) c.self.inside.entities.entries c.in_ok-key.key c.args.entity absent ∙ rw (seen, c.in_ok-key.ensures) refl)
