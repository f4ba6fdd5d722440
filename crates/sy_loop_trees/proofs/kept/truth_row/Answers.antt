use Rattle.std.proofs.Common.{List, map, ap, ◌∙◌}
use Rattle.std.proofs.lemmas.List.{take_all}
use Rattle.sy_terms.specs.Values as values
use Rattle.sy_terms.specs.Denoted.{vals_of}
use Rattle.sy_terms.specs.declared.sort.Value.{Value}
use Rattle.sy_loop_trees.proofs.Listed.{row_more}
use Rattle.sy_loop_trees.proofs.kept.truth_row.Goals as goal

pub loop-value-preserved : goal.loop-value-preserved
loop-value-preserved g c =
    row_more g.T.Theory.denotes c.loop-value.truths _ c.args.row.now c.loop-value.value-index c.value-item.result c.truth.result c.loop-value.invariant c.loop-value-test.true c.value-item.is c.truth.ensures c.in_ok-push.ensures.ok

pub returns : goal.returns
returns g c =
    let number = g.T.Theory.denotes in
    let all = take_all c.loop-value.value-index c.args.row.now c.loop-value-test.false in
    c.loop-value.invariant ∙ ap (λ (row : List (Value _)). map values.truth (vals_of number row)) all
