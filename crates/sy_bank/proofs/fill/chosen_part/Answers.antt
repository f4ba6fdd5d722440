use Rattle.std.proofs.Common.{refl}
use Rattle.std.proofs.lemmas.List.{take_all}
use Rattle.sy_bank.proofs.GrowingLaws.{copies-next}
use Rattle.sy_bank.proofs.fill.chosen_part.Goals as goal

pub loop-kept-preserved : goal.loop-kept-preserved
loop-kept-preserved g c =
    rw c.in_ok-push.ensures.items
    (copies-next g.T.Theory.denotes c.args.chosen.now c.loop-kept.kept-index c.kept-item.result c.loop-kept.copies.items c.in_ok-copy.copy c.loop-kept-test.true c.kept-item.is c.in_ok-copy.ensures c.loop-kept.invariant)

pub returns : goal.returns
returns g c =
    let all = take_all c.loop-kept.kept-index c.args.chosen.now c.loop-kept-test.false in
    rw (c.in_ok-term.ensures, c.as_slice.ensures.value, c.loop-kept.invariant, all) refl
