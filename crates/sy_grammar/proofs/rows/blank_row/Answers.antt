use Rattle.std.proofs.Common.{◌∷◌, [], length, length-append, arith, ap, None}
use Rattle.sy_grammar.proofs.Closing.{blank_more}
use Rattle.sy_grammar.proofs.rows.blank_row.Goals as goal

pub loop-row-preserved : goal.loop-row-preserved
loop-row-preserved c =
    let more = c.in_ok-push.ensures.items in
    let one = length-append c.loop-row.row.items (None ∷ []) in
    (let longer = ap length more in omega (arith, longer, one, c.loop-row-test.true, c.len.ensures), rw (more) (blank_more c.loop-row.row.items c.loop-row.invariant.1))
