use Rattle.std.proofs.Common.{arith, ap, refl, ◌∙◌}
use Rattle.std.proofs.lemmas.List.{take_all, take_more}
use Rattle.std.proofs.lemmas.Result.{IfOk-from_err}
use Rattle.sy_grammar_base.specs.Grown.{tree_of-Node}
use Rattle.sy_bank_level.specs.Shared.{shared_trees, tree_from-Leaf, tree_from-Filled}
use Rattle.sy_bank_level.proofs.Copies.{trees_of-last, trees_from-last}
use Rattle.sy_bank_level.proofs.grown.+derivation.Goals as goal

pub Grown::derivation-returns-in_ok-copy-in-Leaf : goal.Grown::derivation-returns-in_ok-copy-in-Leaf
Grown::derivation-returns-in_ok-copy-in-Leaf g t c = rw (c.in-Leaf.is, tree_from-Leaf) c.in_ok-copy-in-Leaf.ensures

pub Grown::derivation-returns-in_ok-children-in-Filled : goal.Grown::derivation-returns-in_ok-children-in-Filled
Grown::derivation-returns-in_ok-children-in-Filled g t c = rw (c.in-Filled.is, tree_of-Node, tree_from-Filled, c.in_ok-children-in-Filled.ensures) refl

pub Growns::derivations-loop-grown-preserved : goal.Growns::derivations-loop-grown-preserved
Growns::derivations-loop-grown-preserved g t c =
    let more = take_more c.as_slice-all.result.now c.loop-grown.grown-index c.grown-item.result (grind arith) in
    rw (more, ← c.grown-item.is, c.in_ok-push.ensures.ok, trees_of-last, trees_from-last, c.loop-grown.invariant, c.in_ok-derivation.ensures, c.deref.ensures) refl

pub Grown::derivation-returns-in_err-copy-in-Leaf : goal.Grown::derivation-returns-in_err-copy-in-Leaf
Grown::derivation-returns-in_err-copy-in-Leaf g t c = IfOk-from_err c.from_residual.result _ c.from_residual.ensures.0

pub Grown::derivation-returns-in_err-children-in-Filled : goal.Grown::derivation-returns-in_err-children-in-Filled
Grown::derivation-returns-in_err-children-in-Filled g t c = IfOk-from_err c.from_residual-in_err-children-in-Filled.result _ c.from_residual-in_err-children-in-Filled.ensures.0

pub Growns::derivations-returns-in_err-derivations : goal.Growns::derivations-returns-in_err-derivations
Growns::derivations-returns-in_err-derivations g t c = IfOk-from_err c.from_residual.result _ c.from_residual.ensures.0

pub Growns::derivations-returns-in_err-derivation : goal.Growns::derivations-returns-in_err-derivation
Growns::derivations-returns-in_err-derivation g t c = IfOk-from_err c.from_residual-in_err-derivation.result _ c.from_residual-in_err-derivation.ensures.0

pub Growns::derivations-returns-in_err-push : goal.Growns::derivations-returns-in_err-push
Growns::derivations-returns-in_err-push g t c = IfOk-from_err c.from_residual-in_err-push.result _ c.from_residual-in_err-push.ensures.0

pub Growns::derivations-loop-grown-init : goal.Growns::derivations-loop-grown-init
Growns::derivations-loop-grown-init g t c = rw (c.in_ok-derivations.ensures) refl

pub Growns::derivations-returns : goal.Growns::derivations-returns
Growns::derivations-returns g t c =
    let all = take_all c.loop-grown.grown-index c.as_slice-all.result.now c.loop-grown-test.false in
    rw (← c.as_slice-all.ensures) (c.loop-grown.invariant ∙ ap (shared_trees g.T.Theory.denotes) all)
