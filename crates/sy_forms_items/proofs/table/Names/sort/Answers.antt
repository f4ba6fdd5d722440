use Rattle.std.proofs.Common.{◌∙◌, ap}
use Rattle.sy_forms_items.specs.Environments.{entry_under}
use Rattle.sy_forms_items.proofs.Lookups.{entry-under}
use Rattle.sy_forms_items.proofs.table.Names.sort.Goals as goal

pub returns : goal.returns
returns c = c.copied.ensures ∙ c.get.ensures.value ∙ entry-under (λ k. k.items) c.args.name.now c.self.inside.sorts.entries ∙ ap (λ t. entry_under c.args.name.now t.sorts) c.self.view_is
