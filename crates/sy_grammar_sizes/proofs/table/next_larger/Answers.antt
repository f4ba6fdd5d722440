use Rattle.std.proofs.Common.{◌∙◌, refl, ap, sym, arith, length, slice_get}
use Rattle.std.proofs.lemmas.Option.{slice_get_read, slice_get_within}
use Rattle.sy_grammar_sizes.proofs.Improved.{improved_is, improved_more, improved_done}
use Rattle.sy_grammar_sizes.proofs.table.next_larger.Goals as goal

pub returns-in-Some : goal.returns-in-Some
returns-in-Some g c =
    let number = g.T.Theory.denotes in
    let items = c.as_slice-item-items.ensures ∙ c.nons.ensures in
    let i = c.loop-nonterminal.nonterminal in
    let here = slice_get_read c.as_slice-item-items.result.now _ i c.item-item.result refl c.loop-nonterminal-test.true c.item-item.is in
    let at = ap (λ l. slice_get l i) (sym items) ∙ here in
    let said = rw c.in-Some.is at c.improved_by.ensures in
    let improved = rw (c.as_slice.ensures) at said in
    (slice_get_within c.args.g.now.nons i c.item-item.result at, improved_is number c.args.g.now c.args.limit c.args.table.now i c.item-item.result c.entry-known.result c.in-Some.size at c.entry-known.ensures improved)

pub loop-nonterminal-preserved : goal.loop-nonterminal-preserved
loop-nonterminal-preserved g c =
    let number = g.T.Theory.denotes in
    let items = c.as_slice-item-items.ensures ∙ c.nons.ensures in
    let i = c.loop-nonterminal.nonterminal in
    let here = slice_get_read c.as_slice-item-items.result.now _ i c.item-item.result refl c.loop-nonterminal-test.true c.item-item.is in
    let at = ap (λ l. slice_get l i) (sym items) ∙ here in
    let said = rw c.in_default.is at c.improved_by.ensures in
    let none = rw (c.as_slice.ensures) at said in
    improved_more number c.args.g.now c.args.limit c.args.table.now i c.item-item.result c.entry-known.result c.loop-nonterminal.invariant at c.entry-known.ensures none

pub returns : goal.returns
returns g c =
    let items = c.as_slice-item-items.ensures ∙ c.nons.ensures in
    improved_done g.T.Theory.denotes c.args.g.now c.args.limit c.args.table.now c.loop-nonterminal.nonterminal (omega (arith, c.loop-nonterminal-test.false, ap length items)) c.loop-nonterminal.invariant
