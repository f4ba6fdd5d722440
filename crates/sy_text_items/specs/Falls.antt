-- Each item of a list is smaller than the list.
use Rattle.std.specs.Prelude.{◌≤◌, List, [], ◌∷◌}
use Rattle.std.proofs.Common.{arith}
use denote.Param.Weighed.{most}
use Rattle.sy_text_items.specs.Items.{items_size}
use Rattle.sy_text_items.specs.Views.{items_of}
use Rattle.sy_text_items.specs.declared.sexp.Sexp.{Sexp}
use Rattle.sy_text_items.specs.declared.sexp.Sexp.TheVariants as sexp
use Rattle.sy_text_items.specs.declared.sexp.Sexps.TheDeep.{deep-Sexp}

pub most-le : (xs : List Sexp) → most deep-Sexp xs ≤ items_size (items_of xs)
most-le [] = omega arith
most-le (sexp.Atom a p ∷ xs) = omega (arith, most-le xs)
most-le (sexp.List ys p ∷ xs) = omega (arith, most-le xs)
