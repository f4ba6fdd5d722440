use Rattle.std.proofs.Common.{refl}
use Rattle.std.proofs.lemmas.List.{take_all}
use Rattle.sy_bank_level.specs.Shared.{term_from-Filled, tree_from-Filled}
use Rattle.sy_bank.proofs.GrowingLaws.{terms-next, trees-next}
use Rattle.sy_bank.proofs.fill.grown.Goals as goal

pub loop-kept-preserved : goal.loop-kept-preserved
loop-kept-preserved g c =
    let number = g.T.Theory.denotes in
    record {
      terms_are = rw c.in_ok-push.ensures.ok (terms-next number c.args.chosen.now c.loop-kept.kept-index c.kept-item.result c.loop-kept.growns.items.items c.in_ok-shared.shared c.loop-kept-test.true c.kept-item.is c.in_ok-shared.ensures.cases c.loop-kept.invariant.terms_are);
      trees_are = rw c.in_ok-push.ensures.ok (trees-next number c.args.chosen.now c.loop-kept.kept-index c.kept-item.result c.loop-kept.growns.items.items c.in_ok-shared.shared c.loop-kept-test.true c.kept-item.is c.in_ok-shared.ensures.cases c.loop-kept.invariant.trees_are);
    }

pub returns-clause-term : goal.returns-clause-term
returns-clause-term g c =
    let all = take_all c.loop-kept.kept-index c.args.chosen.now c.loop-kept-test.false in
    rw (c.in_ok-grown.ensures.ok, term_from-Filled, c.in_ok-part.ensures.cases, c.loop-kept.invariant.terms_are, all) refl

pub returns-clause-tree : goal.returns-clause-tree
returns-clause-tree g c =
    let all = take_all c.loop-kept.kept-index c.args.chosen.now c.loop-kept-test.false in
    rw (c.in_ok-grown.ensures.ok, tree_from-Filled, c.loop-kept.invariant.trees_are, all) refl
