use Rattle.std.proofs.Common.{◌∙◌, ap}
use Rattle.sy_forms_items.specs.Environments.{entry_under}
use Rattle.sy_forms_items.proofs.Lookups.{entry-under, copied-map}
use Rattle.sy_forms_items.proofs.table.Names.entity.Goals as goal

pub returns : goal.returns
returns c = copied-map c.get.result ∙ c.get.ensures.value ∙ entry-under (λ k. k.items) c.args.name.now c.self.inside.entities.entries ∙ ap (λ t. entry_under c.args.name.now t.entities) c.self.view_is
