use Rattle.std.proofs.Common.{◌≡◌, ◌<◌, ◌≤◌, length, List, Some, slice_get, get_or, subst, MatchOption}
use Rattle.std.specs.Prelude.{IfSome}
use Rattle.sy_text_items.specs.Items.{Items, listed}
use Rattle.sy_text_items.specs.Views.{item_of}
use Rattle.sy_text_items.specs.declared.sexp.Sexp.{Sexp}
use Rattle.sy_text_items.proofs.Lists.{listed-get, within-from}
use Rattle.sy_text_items.proofs.sexp.Sexps.get.Goals as goal

pub returns : goal.returns
returns c =
    let P : Items → Type 0 = λ xs. MatchOption c.get.result (length (listed xs) ≤ c.args.i) (λ x. slice_get (listed xs) c.args.i ≡ Some (item_of x.now)) in
    let Q : List Sexp → Type 0 = λ xs. MatchOption c.get.result (length xs ≤ c.args.i) (λ x. c.args.i < length xs) in
    let R : List Sexp → Type 0 = λ xs. IfSome c.get.result (λ x. x.now ≡ get_or xs c.args.i x.now) in
    subst P c.self.view_is
    (listed-get c.get.result c.self.inside.items.items c.args.i
    (subst Q c.deref.ensures.value (within-from c.get.result _ c.args.i _ c.get.ensures.lookup.3))
    (subst R c.deref.ensures.value c.get.ensures.lookup.1))
