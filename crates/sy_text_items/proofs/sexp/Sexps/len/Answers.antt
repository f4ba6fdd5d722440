use Rattle.std.proofs.Common.{◌∙◌, ap, sym, length}
use Rattle.sy_text_items.specs.Items.{Items, listed}
use Rattle.sy_text_items.proofs.Lists.{listed-length}
use Rattle.sy_text_items.proofs.sexp.Sexps.len.Goals as goal

pub returns : goal.returns
returns c = c.len.ensures ∙ c.self.inside.items.ok.0 ∙ sym (listed-length c.self.inside.items.items) ∙ ap (λ (xs : Items). length (listed xs)) c.self.view_is
