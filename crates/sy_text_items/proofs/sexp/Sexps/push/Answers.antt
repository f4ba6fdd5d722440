use Rattle.std.proofs.Common.{◌∙◌, ap, List, ◌++◌, ◌∷◌, []}
use Rattle.sy_text_items.specs.Items.{Items, listed}
use Rattle.sy_text_items.specs.Views.{item_of, items_of}
use Rattle.sy_text_items.specs.declared.sexp.Sexp.{Sexp}
use Rattle.sy_text_items.proofs.Lists.{listed-push}
use Rattle.sy_text_items.proofs.sexp.Sexps.push.Goals as goal

pub returns-clause-ok : goal.returns-clause-ok
returns-clause-ok c =
    ap (λ (xs : List Sexp). listed (items_of xs)) c.in_ok-push.ensures.items
    ∙ listed-push c.self.inside.items.items c.args.item
    ∙ ap (λ (xs : Items). listed xs ++ item_of c.args.item ∷ []) c.self.view_is
