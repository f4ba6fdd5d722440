use Rattle.std.proofs.Common.{◌++◌, ap, ◌∙◌}
use Rattle.std.proofs.lemmas.List.{take_all}
use Rattle.sy_bank_level.specs.Stored.{chosen_of, entries_of}
use Rattle.sy_loop.proofs.Listed.{pushed}
use Rattle.sy_loop.proofs.kept.push_all.Goals as goal

pub loop-term-preserved : goal.loop-term-preserved
loop-term-preserved g c =
    rw c.in_ok-push.ensures.items
    (pushed g.T.Theory.denotes c.loop-term.all.items c.args.all.now.items c.args.kept.now c.loop-term.term-index _ c.loop-term.invariant c.loop-term-test.true c.term-item.is)

pub returns : goal.returns
returns g c =
    let number = g.T.Theory.denotes in
    let all = take_all c.loop-term.term-index c.args.kept.now c.loop-term-test.false in
    c.loop-term.invariant ∙ ap (λ kept. chosen_of number c.args.all.now.items ++ entries_of number kept) all
