use Rattle.std.proofs.Common.{map, take}
use Rattle.std.proofs.lemmas.List.{take_more, take_all}
use Rattle.std.proofs.lemmas.Result.{IfOk-from_err}
use Rattle.sy_terms.specs.Denoted.{val_of}
use Rattle.sy_grammar_base.specs.Grown.{production_of}
use Rattle.sy_grammar_sizes.proofs.Lists.{mapped-last}
use Rattle.sy_grammar_sizes.proofs.LeafTables.{leaves_more}
use Rattle.sy_grammar_sizes.proofs.leaves.leaves.Goals as goal

pub loop-rule-preserved : goal.loop-rule-preserved
loop-rule-preserved g c =
    let number = g.T.Theory.denotes in
    let earlier = take c.loop-rule.rule-index c.args.rules.now in
    let more = take_more c.args.rules.now c.loop-rule.rule-index c.rule-item.result c.loop-rule-test.true in
    rw (more, ← c.rule-item.is, mapped-last (production_of number) earlier c.rule-item.result, c.larger-best.ensures)
    (leaves_more c.args.limit c.args.arguments.now (map (val_of number) c.args.pool.now) (map (production_of number) earlier) (production_of number c.rule-item.result) c.loop-rule.best c.in_ok-next.next c.loop-rule.invariant c.in_ok-next.ensures)

pub returns : goal.returns
returns g c =
    let whole = take_all c.loop-rule.rule-index c.args.rules.now c.loop-rule-test.false in
    rw (whole) at c.loop-rule.invariant

pub returns-in_err-next : goal.returns-in_err-next
returns-in_err-next g c = IfOk-from_err c.from_residual.result _ c.from_residual.ensures.0
