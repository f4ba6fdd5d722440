use Rattle.sy_text_items.specs.Views.{item_of}
use Rattle.sy_terms.specs.Values.{Whole}
use Rattle.sy_query_base.specs.Asked.{query_of}
use Rattle.sy_lower_laws.proofs.Integers.{term_integers}
use Rattle.sy_verify_proofs.proofs.Told.{told}
use Rattle.sy_verify_proofs.proofs.trees_checker.TreeCheckerProofCheckerIntTheory.check.Goals as goal

pub returns : goal.returns
returns c =
    told (query_of Whole c.args.query.now) (item_of c.args.proof.now) c.in-Some.tree c.in_ok-found.found (term_integers c.args.query.now.body)
    (rw c.in-Some.is at c.in_ok-tree.ensures) c.in_ok-found.ensures
