use Rattle.std.proofs.Common.{◌≡◌, arith, length}
use Rattle.sy_grammar.proofs.Closing.{filling_more, missing_less, row_done}
use Rattle.sy_grammar.proofs.rows.row_of.Goals as goal

pub loop-row-smaller : goal.loop-row-smaller
loop-row-smaller g c =
    let said = rw c.in-Some.is at c.in_ok-nonterminal.ensures in
    let found = rw (c.as_slice.ensures.value) at said in
    missing_less c.loop-row.row.items c.in-Some.nonterminal c.len-in-Some.result found.0

pub loop-row-preserved : goal.loop-row-preserved
loop-row-preserved g c =
    let said = rw c.in-Some.is at c.in_ok-nonterminal.ensures in
    let found = rw (c.as_slice.ensures.value) at said in
    let place : c.len-in-Some.result ≡ length c.loop-row.steps.items = omega (arith, c.len-in-Some.ensures, c.loop-row.steps.ok.0) in
    filling_more g.T.Theory.denotes _ _ c.loop-row.row.items _ c.args.steps.now.items c.loop-row.steps.items _ c.in-Some.nonterminal c.len-in-Some.result c.in-Some.step c.loop-row.invariant found.1 c.requires.right place c.in_ok-push.ensures.items

pub returns : goal.returns
returns g c =
    let said = rw c.in_default.is at c.in_ok-nonterminal.ensures in
    let closed = rw (c.as_slice.ensures.value) at said in
    row_done g.T.Theory.denotes _ _ c.loop-row.row.items _ c.args.steps.now.items c.loop-row.steps.items c.loop-row.invariant closed c.requires.right
