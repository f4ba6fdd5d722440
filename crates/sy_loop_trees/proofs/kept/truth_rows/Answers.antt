use Rattle.std.proofs.Common.{List, map, ap, ◌∙◌}
use Rattle.std.proofs.lemmas.List.{take_all}
use Rattle.sy_terms.specs.Values as values
use Rattle.sy_terms.specs.Denoted.{vals_of}
use Rattle.sy_terms.specs.declared.sort.Value.{Value}
use Rattle.sy_bank_level.specs.Stored.{chosen_of}
use Rattle.sy_loop_spec.specs.Trees.{truths}
use Rattle.sy_loop_trees.proofs.Listed.{rows_more}
use Rattle.sy_loop_trees.proofs.kept.truth_rows.Goals as goal

pub loop-kept-preserved : goal.loop-kept-preserved
loop-kept-preserved g c =
    let number = g.T.Theory.denotes in
    rows_more number c.loop-kept.rows c.push.new.self c.args.kept.now c.loop-kept.kept-index c.kept-item.result c.in_ok-row.row c.loop-kept.invariant c.loop-kept-test.true c.kept-item.is
    (c.in_ok-row.ensures ∙ ap (λ (row : List (Value _)). map values.truth (vals_of number row)) c.as_slice.ensures) c.in_ok-push.ensures.ok

pub returns : goal.returns
returns g c =
    let number = g.T.Theory.denotes in
    let all = take_all c.loop-kept.kept-index c.args.kept.now c.loop-kept-test.false in
    c.loop-kept.invariant ∙ ap (λ kept. truths (chosen_of number kept)) all
