use Rattle.std.proofs.Common.{arith, ap, refl, ◌∙◌}
use Rattle.std.proofs.lemmas.List.{take_all, take_more}
use Rattle.std.proofs.lemmas.Result.{IfOk-from_err}
use Rattle.sy_grammar_base.specs.Grown.{trees_of, tree_of-Node}
use Rattle.sy_bank_level.proofs.Copies.{trees_of-last}
use Rattle.sy_bank_level.proofs.build.+copied.Goals as goal

pub copied_derivation-returns-in_ok-copies-in-Node : goal.copied_derivation-returns-in_ok-copies-in-Node
copied_derivation-returns-in_ok-copies-in-Node g t c = rw (c.in-Node.is, tree_of-Node, tree_of-Node, c.in_ok-copies-in-Node.ensures) refl

pub copied_derivations-loop-derivation-preserved : goal.copied_derivations-loop-derivation-preserved
copied_derivations-loop-derivation-preserved g t c =
    let more = take_more c.as_slice-derivation-items.result.now c.loop-derivation.derivation-index c.derivation-item.result (grind arith) in
    rw (more, ← c.derivation-item.is, c.in_ok-push.ensures.ok, trees_of-last, trees_of-last, c.loop-derivation.invariant, c.in_ok-copy.ensures) refl

pub copied_derivation-returns-in_err-copies-in-Node : goal.copied_derivation-returns-in_err-copies-in-Node
copied_derivation-returns-in_err-copies-in-Node g t c = IfOk-from_err c.from_residual.result _ c.from_residual.ensures.0

pub copied_derivations-returns-in_err-copies : goal.copied_derivations-returns-in_err-copies
copied_derivations-returns-in_err-copies g t c = IfOk-from_err c.from_residual.result _ c.from_residual.ensures.0

pub copied_derivations-returns-in_err-copy : goal.copied_derivations-returns-in_err-copy
copied_derivations-returns-in_err-copy g t c = IfOk-from_err c.from_residual-in_err-copy.result _ c.from_residual-in_err-copy.ensures.0

pub copied_derivations-returns-in_err-push : goal.copied_derivations-returns-in_err-push
copied_derivations-returns-in_err-push g t c = IfOk-from_err c.from_residual-in_err-push.result _ c.from_residual-in_err-push.ensures.0

pub copied_derivation-returns-in-Constant : goal.copied_derivation-returns-in-Constant
copied_derivation-returns-in-Constant g t c = rw (c.in-Constant.is) refl

pub copied_derivation-returns-in-Variable : goal.copied_derivation-returns-in-Variable
copied_derivation-returns-in-Variable g t c = rw (c.in-Variable.is) refl

pub copied_derivations-loop-derivation-init : goal.copied_derivations-loop-derivation-init
copied_derivations-loop-derivation-init g t c = rw (c.in_ok-copies.ensures) refl

pub copied_derivations-returns : goal.copied_derivations-returns
copied_derivations-returns g t c =
    let all = take_all c.loop-derivation.derivation-index c.as_slice-derivation-items.result.now c.loop-derivation-test.false in
    rw (← c.as_slice-derivation-items.ensures) (c.loop-derivation.invariant ∙ ap (trees_of g.T.Theory.denotes) all)
