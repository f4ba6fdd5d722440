use Rattle.sy_text_items.specs.Views.{item_of}
use Rattle.std.proofs.Common.{arith}
use Rattle.sy_forms_items.proofs.Rests.{items_at, items_end}
use Rattle.sy_forms_items.proofs.parts.Rest.split.Goals as goal

pub returns-then-self-len : goal.returns-then-self-len
returns-then-self-len c = items_end c.args.self.from c.args.self.items.now (omega (arith, c.len.ensures))

pub returns : goal.returns
returns c = items_at c.args.self.from c.args.self.items.now (item_of c.in_ok-item.item.now) c.in_ok-item.ensures
