use Rattle.std.proofs.Common.{◌≡◌, refl, ap, sym, ◌∙◌, arith, length, map, Some, true, slice_get}
use Rattle.std.proofs.lemmas.Option.{slice_get_read}
use Rattle.sy_grammar_base.specs.Grown.{production_of}
use Rattle.sy_grammar_sizes.specs.Marking.{AreMarked}
use Rattle.sy_grammar_sizes.proofs.Marked.{next_is, next_more, next_done}
use Rattle.sy_grammar_sizes.proofs.chains.next_mark.Goals as goal
use Rattle.sy_grammar_sizes.proofs.chains.next_mark.Goals.{then-has_mark+in_default, else-has_mark}

pub returns-in-Some : goal.returns-in-Some
returns-in-Some g c =
    let items = c.as_slice-item-items.ensures ∙ c.nons.ensures in
    let i = c.loop-from.from in
    let here = slice_get_read c.as_slice-item-items.result.now _ i c.item-item.result refl c.loop-from-test.true c.item-item.is in
    let at = ap (λ l. slice_get l i) (sym items) ∙ here in
    let said = rw c.in-Some.is at c.next_named.ensures in
    let named = rw (c.as_slice.ensures) at said in
    next_is g.T.Theory.denotes c.args.g.now c.args.marks.now i c.item-item.result c.in-Some.to at (c.has_mark.ensures.0 c.if-has_mark.true) named

pub loop-from-preserved : goal.loop-from-preserved
loop-from-preserved g c =
    let number = g.T.Theory.denotes in
    let items = c.as_slice-item-items.ensures ∙ c.nons.ensures in
    let i = c.loop-from.from in
    let here = slice_get_read c.as_slice-item-items.result.now _ i c.item-item.result refl c.loop-from-test.true c.item-item.is in
    let at = ap (λ l. slice_get l i) (sym items) ∙ here in
    let none : slice_get c.args.marks.now i ≡ Some true → AreMarked (map (production_of number) c.item-item.result.rules) c.args.marks.now =
    λ marked. elim c.if-has_mark.branch [
      | then-has_mark+in_default w ↦ let said = rw w.in_default.is at w.next_named.ensures in rw (w.as_slice.ensures) at said
      | else-has_mark w ↦ λ rule to found not. let yes = c.has_mark.ensures.1 marked in let no = w.if-has_mark.false in cc
    ] in
    next_more number c.args.g.now c.args.marks.now i c.item-item.result c.loop-from.invariant at none

pub returns : goal.returns
returns g c =
    let items = c.as_slice-item-items.ensures ∙ c.nons.ensures in
    next_done g.T.Theory.denotes c.args.g.now c.args.marks.now c.loop-from.from (omega (arith, c.loop-from-test.false, ap length items)) c.loop-from.invariant
