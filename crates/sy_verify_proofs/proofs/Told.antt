-- What is found of a tree that an item spells.
use Rattle.std.proofs.Common.{inr}
use Rattle.std.specs.Prelude.{◌≡◌, true}
use Rattle.sy_text_items.specs.Items.{Item}
use Rattle.sy_query_base.specs.Asked.{Query}
use Rattle.sy_lower_laws.specs.Laws.{has_integers}
use Rattle.sy_linear_known.specs.declared.tree.Tree.{Tree}
use Rattle.sy_linear_known.specs.Stored.{tree_shape_of}
use Rattle.sy_linear.specs.Accepted.{linear_of}
use Rattle.sy_proof.specs.Trees.{SpellsTree}
use Rattle.sy_verify.specs.Rechecking.{IsChecking}
use Rattle.sy_verify.specs.declared.proof_checker.Checking.{Checking}
use Rattle.sy_verify.specs.declared.proof_checker.Checking.TheVariants.{Proves, Fails, Overflows}
use Rattle.sy_verify_proofs.specs.Trees.{IsTreeChecking, TreeFails, TreeOverflows, TreeProves}

pub told : (query : Query) (item : Item) (tree : Tree) (found : Checking) → has_integers query.body ≡ true → SpellsTree item (tree_shape_of tree) → IsTreeChecking (linear_of query) (tree_shape_of tree) found →
    IsChecking TreeProves TreeFails TreeOverflows query item found
told query item tree Proves integers spelled is = record { tree = tree; spelled = spelled; judged = is.0; proves = record { integers = integers; refutes = is.1 } }
told query item tree Fails integers spelled is = inr (record { tree = tree_shape_of tree; spelled = spelled; judged = is.0; refused = is.1 })
told query item tree (Overflows node) integers spelled is = record { tree = tree_shape_of tree; spelled = spelled; judged = is }
