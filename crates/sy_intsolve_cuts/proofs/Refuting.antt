-- A tree that is grown and closed refutes the query.
use Rattle.std.specs.Prelude.{◌≡◌, Bool, true, false, ◌&&◌, List, [], ◌∷◌, ◌++◌}
use Rattle.std.proofs.Common.{refl, ap, ap₂}
use Rattle.sy_linear_known.specs.declared.path.Fact.{Fact}
use Rattle.sy_linear_known.specs.declared.path.Fact.TheVariants.{AtLeast}
use Rattle.sy_linear_known.specs.declared.tree.Tree.{Tree, Split', Branch', Cut', Farkas, Shown, Unfinished}
use Rattle.sy_linear_known.specs.Seen.{LinearQuery}
use Rattle.sy_linear_known.specs.Stored.{tree_shape_of}
use Rattle.sy_linear_known.specs.Trees.{TreeRefutes, at_or_below, added_fact, opposite_fact}
use Rattle.sy_linear_known.specs.Trees as shape
use Rattle.sy_linear_known.specs.Forms.{form_negation}
use Rattle.sy_intsolve_cuts.specs.declared.fork.Fork.TheVariants.{Split, Branch}
use Rattle.sy_intsolve_cuts.specs.declared.step.Order.{Order}
use Rattle.sy_intsolve_cuts.specs.Growing.{GrownTree, IsGrowing, is_closed, without_points}
use Rattle.sy_intsolve_cuts.specs.Growing as grown
use Rattle.sy_intsolve_cuts.specs.Stored.{grown_tree_of}

and_parts : (a b : Bool) → (a && b) ≡ true → (a ≡ true) × (b ≡ true)
and_parts true b e = (refl, e)
and_parts false b e = absurd cc

pub refutes : (order : Order) (q : LinearQuery) (path : List Fact) (t : GrownTree) → IsGrowing order q path t → is_closed t ≡ true → TreeRefutes q path (without_points t)
refutes order q path (grown.Forked (Split t) p left right) h c =
    let k = and_parts (is_closed left) (is_closed right) c in
    (h.0.0, refutes order q (path ++ added_fact t ∷ []) left h.1 k.0, refutes order q (path ++ opposite_fact t ∷ []) right h.2 k.1)
refutes order q path (grown.Forked (Branch i n) p left right) h c =
    let k = and_parts (is_closed left) (is_closed right) c in
    (h.0.0, refutes order q (path ++ AtLeast (at_or_below i n) ∷ []) left h.1 k.0, refutes order q (path ++ AtLeast (form_negation (at_or_below i n)) ∷ []) right h.2 k.1)
refutes order q path (grown.Cut ms d p inner) h c = (h.0, (h.1.0.cut, refutes order q (path ++ AtLeast h.0 ∷ []) inner h.1.1 c))
refutes order q path (grown.Farkas ms) h c = h
refutes order q path grown.Shown h c = h
refutes order q path grown.Unfinished h c = absurd cc

-- a kept tree without its points, in two steps
pub bare-grown_of : (t : Tree) → without_points (grown_tree_of t) ≡ tree_shape_of t
bare-grown_of (Split' test points p left q right) = ap₂ (λ l r. shape.Split test l r) (bare-grown_of left) (bare-grown_of right)
bare-grown_of (Branch' variable bound points p left q right) = ap₂ (λ l r. shape.Branch variable bound l r) (bare-grown_of left) (bare-grown_of right)
bare-grown_of (Cut' multipliers divisor points p inner) = ap (λ t. shape.Cut multipliers divisor t) (bare-grown_of inner)
bare-grown_of (Farkas multipliers) = refl
bare-grown_of Shown = refl
bare-grown_of Unfinished = refl
