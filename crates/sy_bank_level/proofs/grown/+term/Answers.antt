use Rattle.std.proofs.Common.{arith, ap, refl, ◌∙◌}
use Rattle.std.proofs.lemmas.List.{take_all, take_more, map-append}
use Rattle.std.proofs.lemmas.Result.{IfOk-from_err}
use Rattle.sy_bank_level.specs.Shared.{terms_from, term_from-Leaf, term_from-Filled}
use Rattle.sy_bank_level.proofs.Copies.{terms_from-last}
use Rattle.sy_bank_level.proofs.grown.+term.Goals as goal

pub Grown::term-returns-in_ok-copy-in-Leaf : goal.Grown::term-returns-in_ok-copy-in-Leaf
Grown::term-returns-in_ok-copy-in-Leaf g t c = rw (c.in-Leaf.is, term_from-Leaf) c.in_ok-copy-in-Leaf.ensures

pub Grown::term-returns-in_ok-filled-in-Filled : goal.Grown::term-returns-in_ok-filled-in-Filled
Grown::term-returns-in_ok-filled-in-Filled g t c =
    rw (c.in-Filled.is, term_from-Filled, c.in_ok-filled-in-Filled.ensures, c.deref.ensures, c.deref-in-Filled.ensures.value, c.in_ok-terms-in-Filled.ensures) refl

pub Growns::terms-loop-grown-preserved : goal.Growns::terms-loop-grown-preserved
Growns::terms-loop-grown-preserved g t c =
    let more = take_more c.as_slice-all.result.now c.loop-grown.grown-index c.grown-item.result (grind arith) in
    rw (more, ← c.grown-item.is, c.in_ok-push.ensures.items, map-append, terms_from-last, c.loop-grown.invariant, c.in_ok-term.ensures, c.deref.ensures) refl

pub Grown::term-returns-in_err-copy-in-Leaf : goal.Grown::term-returns-in_err-copy-in-Leaf
Grown::term-returns-in_err-copy-in-Leaf g t c = IfOk-from_err c.from_residual.result _ c.from_residual.ensures.0

pub Grown::term-returns-in_err-terms-in-Filled : goal.Grown::term-returns-in_err-terms-in-Filled
Grown::term-returns-in_err-terms-in-Filled g t c = IfOk-from_err c.from_residual-in_err-terms-in-Filled.result _ c.from_residual-in_err-terms-in-Filled.ensures.0

pub Grown::term-returns-in_err-filled-in-Filled : goal.Grown::term-returns-in_err-filled-in-Filled
Grown::term-returns-in_err-filled-in-Filled g t c = IfOk-from_err c.from_residual-in_err-filled-in-Filled.result _ c.from_residual-in_err-filled-in-Filled.ensures.0

pub Growns::terms-returns-in_err-terms : goal.Growns::terms-returns-in_err-terms
Growns::terms-returns-in_err-terms g t c = IfOk-from_err c.from_residual.result _ c.from_residual.ensures.0

pub Growns::terms-returns-in_err-term : goal.Growns::terms-returns-in_err-term
Growns::terms-returns-in_err-term g t c = IfOk-from_err c.from_residual-in_err-term.result _ c.from_residual-in_err-term.ensures.0

pub Growns::terms-returns-in_err-push : goal.Growns::terms-returns-in_err-push
Growns::terms-returns-in_err-push g t c = IfOk-from_err c.from_residual-in_err-push.result _ c.from_residual-in_err-push.ensures.0

pub Growns::terms-loop-grown-init : goal.Growns::terms-loop-grown-init
Growns::terms-loop-grown-init g t c = rw (c.in_ok-terms.ensures.items) refl

pub Growns::terms-returns : goal.Growns::terms-returns
Growns::terms-returns g t c =
    let all = take_all c.loop-grown.grown-index c.as_slice-all.result.now c.loop-grown-test.false in
    rw (← c.as_slice-all.ensures) (c.loop-grown.invariant ∙ ap (terms_from g.T.Theory.denotes) all)
