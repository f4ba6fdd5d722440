use Rattle.std.proofs.Common.{◌≡◌, ◌∙◌, sym, ap, length, arith}
use Rattle.sy_grammar.proofs.Choices.{not_three, three_last, three_second, three_first}
use Rattle.sy_grammar.proofs.choice.are_choices.Goals as goal

pub returns-then-len-ne3 : goal.returns-then-len-ne3
returns-then-len-ne3 g c = sym (not_three g.T.Theory.denotes c.args.parts.now.items.items (λ long. c.if-len-ne3.true (c.len.ensures ∙ long)))

pub bounds-parts-0 : goal.bounds-parts-0
bounds-parts-0 g c = omega (arith, c.len.ensures, c.if-len-ne3.false, ap length c.as_slice-parts.ensures)

pub bounds-parts-1 : goal.bounds-parts-1
bounds-parts-1 g c = omega (arith, c.len.ensures, c.if-len-ne3.false, ap length c.as_slice-parts.ensures)

pub bounds-parts-2 : goal.bounds-parts-2
bounds-parts-2 g c = omega (arith, c.len.ensures, c.if-len-ne3.false, ap length c.as_slice-parts.ensures)

pub returns-else-is_place : goal.returns-else-is_place
returns-else-is_place g c =
    let long : length c.args.parts.now.items.items ≡ 3 = omega (arith, c.len.ensures, c.if-len-ne3.false) in
    let first = rw c.as_slice-parts.ensures at c.index-parts-0.is in
    c.if-is_place.false ∙ sym (three_first g.T.Theory.denotes c.args.parts.now.items.items c.index-parts-0.result long first (sym c.is_place.ensures ∙ c.if-is_place.false))

pub returns-else-is_start : goal.returns-else-is_start
returns-else-is_start g c =
    let long : length c.args.parts.now.items.items ≡ 3 = omega (arith, c.len.ensures, c.if-len-ne3.false) in
    let first = rw c.as_slice-parts.ensures at c.index-parts-0.is in
    let second = rw c.as_slice-parts.ensures at c.index-parts-1.is in
    c.if-is_start.false ∙ sym (three_second g.T.Theory.denotes c.args.parts.now.items.items c.index-parts-0.result c.index-parts-1.result long first second (sym c.is_place.ensures ∙ c.if-is_place.true) (sym c.is_start.ensures ∙ c.if-is_start.false))

pub returns-then-is_start : goal.returns-then-is_start
returns-then-is_start g c =
    let long : length c.args.parts.now.items.items ≡ 3 = omega (arith, c.len.ensures, c.if-len-ne3.false) in
    let first = rw c.as_slice-parts.ensures at c.index-parts-0.is in
    let second = rw c.as_slice-parts.ensures at c.index-parts-1.is in
    let third = rw c.as_slice-parts.ensures at c.index-parts-2.is in
    c.is_start-then-is_start.ensures ∙ three_last g.T.Theory.denotes c.args.parts.now.items.items c.index-parts-0.result c.index-parts-1.result c.index-parts-2.result long first second third (sym c.is_place.ensures ∙ c.if-is_place.true) (sym c.is_start.ensures ∙ c.if-is_start.true)
