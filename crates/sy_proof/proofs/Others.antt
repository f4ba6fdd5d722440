-- What isn't read of items that are no two.
use Rattle.std.proofs.Common.{◌≡◌, refl, ap, ◌∙◌, sym, Some, None}
use Rattle.std.specs.Option.{option_map}
use Rattle.sy_text_items.specs.Items.{Item, Items, none, more}
use Rattle.sy_proof.specs.Lists.{AreNotTwo, Finds}
use Rattle.sy_proof.specs.Nodes.{branch_in, pair_of, NodeIsLowest}
use Rattle.sy_proof.specs.Numbers.{negative_in, parts_of, quotient_in}

pub no_negative : (items : Items) → AreNotTwo items → None ≡ negative_in items
no_negative none other = refl
no_negative (more a none) other = refl
no_negative (more a (more b none)) other = absurd other
no_negative (more a (more b (more c rest))) other = refl

pub no_pair : (items : Items) → AreNotTwo items → None ≡ pair_of items
no_pair none other = refl
no_pair (more a none) other = refl
no_pair (more a (more b none)) other = absurd other
no_pair (more a (more b (more c rest))) other = refl

no_branch_in : (items : Items) → AreNotTwo items → None ≡ branch_in items
no_branch_in none other = refl
no_branch_in (more a none) other = refl
no_branch_in (more a (more b none)) other = absurd other
no_branch_in (more a (more b (more c rest))) other = refl

pub no_branch : (items : Items) → AreNotTwo items → Finds NodeIsLowest (branch_in items) None
no_branch items other node reads lowest = let clash : None ≡ Some node = no_branch_in items other ∙ reads in cc

no_quotient_in : (sign : Item) (items : Items) → AreNotTwo items → None ≡ quotient_in (more sign items)
no_quotient_in sign none other = refl
no_quotient_in sign (more a none) other = refl
no_quotient_in sign (more a (more b none)) other = absurd other
no_quotient_in sign (more a (more b (more c rest))) other = refl

pub no_quotient : (all items : Items) (sign : Item) → all ≡ more sign items → AreNotTwo items → None ≡ option_map parts_of (quotient_in all)
no_quotient all items sign is other = ap (option_map parts_of) (no_quotient_in sign items other ∙ ap quotient_in (sym is))
