use Rattle.sy_loop_trees.proofs.Choosing.{none_at, told_at}
use Rattle.sy_loop_trees.proofs.condition.tested_at.Goals as goal

pub returns-in_err-rule : goal.returns-in_err-rule
returns-in_err-rule g c = λ rule there.
    absurd (none_at g.T.Theory.denotes c.args.grammar.now c.in_ok-start.start.now c.args.place (rw c.nons.ensures at c.in_ok-start.ensures) c.in_err-rule.ensures rule there)

pub returns : goal.returns
returns g c =
    told_at g.T.Theory.denotes c.args.grammar.now c.in_ok-start.start.now c.args.place c.in_ok-rule.rule.now c.tested.result (rw c.nons.ensures at c.in_ok-start.ensures) c.in_ok-rule.ensures c.tested.ensures
