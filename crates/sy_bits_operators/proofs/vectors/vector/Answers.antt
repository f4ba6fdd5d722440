use Rattle.std.proofs.Common.{arith, ap, sym, ◌∙◌, List}
use Rattle.sy_terms.specs.Values.{Val}
use Rattle.sy_terms.specs.Operators.{op_value}
use Rattle.sy_terms.specs.Theories.{sort_of_value}
use Rattle.sy_bits_operators.proofs.Taken.{one_item, two_items, split_first}
use Rattle.sy_bits_operators.proofs.Shapes.{no-bits, one-bits, two-bits, first-bits, one, two, more}
use Rattle.sy_bits_operators.proofs.vectors.vector.Goals as goal

pub unreachable-requires : goal.unreachable-requires
unreachable-requires c = no-bits c.args.op.now c.args.args.now c.in-empty.len_below c.requires.ours c.requires.takes

pub word-requires : goal.word-requires
word-requires c =
    let e = one_item c.args.args.now c.s-item.result c.in-len1.len_at_least c.in-len1.len_below c.s-item.is in
    one-bits c.args.op.now c.args.args.now c.s-item.result e c.requires.ours c.requires.takes

pub single-requires-clause-takes : goal.single-requires-clause-takes
single-requires-clause-takes c =
    let e = one_item c.args.args.now c.s-item.result c.in-len1.len_at_least c.in-len1.len_below c.s-item.is in
    let o = one c.args.op.now c.args.args.now c.s-item.result c.word.result.now e c.word.ensures c.requires.takes c.requires.sorts in
    o.takes

pub single-requires-clause-least : goal.single-requires-clause-least
single-requires-clause-least c =
    let e = one_item c.args.args.now c.s-item.result c.in-len1.len_at_least c.in-len1.len_below c.s-item.is in
    let o = one c.args.op.now c.args.args.now c.s-item.result c.word.result.now e c.word.ensures c.requires.takes c.requires.sorts in
    o.least

pub single-requires-clause-most : goal.single-requires-clause-most
single-requires-clause-most c =
    let e = one_item c.args.args.now c.s-item.result c.in-len1.len_at_least c.in-len1.len_below c.s-item.is in
    let o = one c.args.op.now c.args.args.now c.s-item.result c.word.result.now e c.word.ensures c.requires.takes c.requires.sorts in
    o.most

pub single-requires-clause-inside : goal.single-requires-clause-inside
single-requires-clause-inside c =
    let e = one_item c.args.args.now c.s-item.result c.in-len1.len_at_least c.in-len1.len_below c.s-item.is in
    let o = one c.args.op.now c.args.args.now c.s-item.result c.word.result.now e c.word.ensures c.requires.takes c.requires.sorts in
    let inside = o.inside in
    omega (arith, inside, c.requires.inside)

pub single-requires-clause-room : goal.single-requires-clause-room
single-requires-clause-room c =
    let e = one_item c.args.args.now c.s-item.result c.in-len1.len_at_least c.in-len1.len_below c.s-item.is in
    let o = one c.args.op.now c.args.args.now c.s-item.result c.word.result.now e c.word.ensures c.requires.takes c.requires.sorts in
    let gates = o.gates in
    omega (arith, gates, c.requires.room)

pub returns-in_ok-word-in-len1-clause-cost : goal.returns-in_ok-word-in-len1-clause-cost
returns-in_ok-word-in-len1-clause-cost c =
    let e = one_item c.args.args.now c.s-item.result c.in-len1.len_at_least c.in-len1.len_below c.s-item.is in
    let o = one c.args.op.now c.args.args.now c.s-item.result c.word.result.now e c.word.ensures c.requires.takes c.requires.sorts in
    let gates = o.gates in
    omega (arith, gates, c.in_ok-word-in-len1.ensures.cost)

pub returns-in_ok-word-in-len1-clause-sort : goal.returns-in_ok-word-in-len1-clause-sort
returns-in_ok-word-in-len1-clause-sort c = λ v.
    let e = one_item c.args.args.now c.s-item.result c.in-len1.len_at_least c.in-len1.len_below c.s-item.is in
    let o = one c.args.op.now c.args.args.now c.s-item.result c.word.result.now e c.word.ensures c.requires.takes c.requires.sorts in
    c.in_ok-word-in-len1.ensures.sort v ∙ ap (λ (vs : List Val). sort_of_value (op_value c.args.op.now vs)) (sym (o.values v))

pub returns-in_ok-word-in-len1-clause-value : goal.returns-in_ok-word-in-len1-clause-value
returns-in_ok-word-in-len1-clause-value c = λ v f.
    let e = one_item c.args.args.now c.s-item.result c.in-len1.len_at_least c.in-len1.len_below c.s-item.is in
    let o = one c.args.op.now c.args.args.now c.s-item.result c.word.result.now e c.word.ensures c.requires.takes c.requires.sorts in
    c.in_ok-word-in-len1.ensures.value v f ∙ ap (op_value c.args.op.now) (sym (o.values v))

pub word-requires-in-len2 : goal.word-requires-in-len2
word-requires-in-len2 c =
    let e = two_items c.args.args.now c.s-item-then-args-lt3.result c.t-item.result c.in-len2.len_at_least c.in-len2.len_below c.s-item-then-args-lt3.is c.t-item.is in
    (two-bits c.args.op.now c.args.args.now c.s-item-then-args-lt3.result c.t-item.result e c.requires.ours c.requires.takes).0

pub word-requires-in-len2-2 : goal.word-requires-in-len2-2
word-requires-in-len2-2 c =
    let e = two_items c.args.args.now c.s-item-then-args-lt3.result c.t-item.result c.in-len2.len_at_least c.in-len2.len_below c.s-item-then-args-lt3.is c.t-item.is in
    (two-bits c.args.op.now c.args.args.now c.s-item-then-args-lt3.result c.t-item.result e c.requires.ours c.requires.takes).1

pub pair-requires-clause-takes : goal.pair-requires-clause-takes
pair-requires-clause-takes c =
    let e = two_items c.args.args.now c.s-item-then-args-lt3.result c.t-item.result c.in-len2.len_at_least c.in-len2.len_below c.s-item-then-args-lt3.is c.t-item.is in
    let o = two c.args.op.now c.args.args.now c.s-item-then-args-lt3.result c.t-item.result c.word-in-len2.result.now c.word-in-len2-2.result.now e c.word-in-len2.ensures c.word-in-len2-2.ensures c.requires.takes c.requires.sorts in
    o.takes

pub pair-requires-clause-least : goal.pair-requires-clause-least
pair-requires-clause-least c =
    let e = two_items c.args.args.now c.s-item-then-args-lt3.result c.t-item.result c.in-len2.len_at_least c.in-len2.len_below c.s-item-then-args-lt3.is c.t-item.is in
    let o = two c.args.op.now c.args.args.now c.s-item-then-args-lt3.result c.t-item.result c.word-in-len2.result.now c.word-in-len2-2.result.now e c.word-in-len2.ensures c.word-in-len2-2.ensures c.requires.takes c.requires.sorts in
    o.least

pub pair-requires-clause-most : goal.pair-requires-clause-most
pair-requires-clause-most c =
    let e = two_items c.args.args.now c.s-item-then-args-lt3.result c.t-item.result c.in-len2.len_at_least c.in-len2.len_below c.s-item-then-args-lt3.is c.t-item.is in
    let o = two c.args.op.now c.args.args.now c.s-item-then-args-lt3.result c.t-item.result c.word-in-len2.result.now c.word-in-len2-2.result.now e c.word-in-len2.ensures c.word-in-len2-2.ensures c.requires.takes c.requires.sorts in
    o.most

pub pair-requires-clause-left : goal.pair-requires-clause-left
pair-requires-clause-left c =
    let e = two_items c.args.args.now c.s-item-then-args-lt3.result c.t-item.result c.in-len2.len_at_least c.in-len2.len_below c.s-item-then-args-lt3.is c.t-item.is in
    let o = two c.args.op.now c.args.args.now c.s-item-then-args-lt3.result c.t-item.result c.word-in-len2.result.now c.word-in-len2-2.result.now e c.word-in-len2.ensures c.word-in-len2-2.ensures c.requires.takes c.requires.sorts in
    let inside = o.left in
    omega (arith, inside, c.requires.inside)

pub pair-requires-clause-right : goal.pair-requires-clause-right
pair-requires-clause-right c =
    let e = two_items c.args.args.now c.s-item-then-args-lt3.result c.t-item.result c.in-len2.len_at_least c.in-len2.len_below c.s-item-then-args-lt3.is c.t-item.is in
    let o = two c.args.op.now c.args.args.now c.s-item-then-args-lt3.result c.t-item.result c.word-in-len2.result.now c.word-in-len2-2.result.now e c.word-in-len2.ensures c.word-in-len2-2.ensures c.requires.takes c.requires.sorts in
    let inside = o.right in
    omega (arith, inside, c.requires.inside)

pub pair-requires-clause-room : goal.pair-requires-clause-room
pair-requires-clause-room c =
    let e = two_items c.args.args.now c.s-item-then-args-lt3.result c.t-item.result c.in-len2.len_at_least c.in-len2.len_below c.s-item-then-args-lt3.is c.t-item.is in
    let o = two c.args.op.now c.args.args.now c.s-item-then-args-lt3.result c.t-item.result c.word-in-len2.result.now c.word-in-len2-2.result.now e c.word-in-len2.ensures c.word-in-len2-2.ensures c.requires.takes c.requires.sorts in
    let gates = o.gates in
    omega (arith, gates, c.requires.room)

pub returns-in_ok-pair-in-len2-clause-cost : goal.returns-in_ok-pair-in-len2-clause-cost
returns-in_ok-pair-in-len2-clause-cost c =
    let e = two_items c.args.args.now c.s-item-then-args-lt3.result c.t-item.result c.in-len2.len_at_least c.in-len2.len_below c.s-item-then-args-lt3.is c.t-item.is in
    let o = two c.args.op.now c.args.args.now c.s-item-then-args-lt3.result c.t-item.result c.word-in-len2.result.now c.word-in-len2-2.result.now e c.word-in-len2.ensures c.word-in-len2-2.ensures c.requires.takes c.requires.sorts in
    let gates = o.gates in
    omega (arith, gates, c.in_ok-pair-in-len2.ensures.cost)

pub returns-in_ok-pair-in-len2-clause-sort : goal.returns-in_ok-pair-in-len2-clause-sort
returns-in_ok-pair-in-len2-clause-sort c = λ v.
    let e = two_items c.args.args.now c.s-item-then-args-lt3.result c.t-item.result c.in-len2.len_at_least c.in-len2.len_below c.s-item-then-args-lt3.is c.t-item.is in
    let o = two c.args.op.now c.args.args.now c.s-item-then-args-lt3.result c.t-item.result c.word-in-len2.result.now c.word-in-len2-2.result.now e c.word-in-len2.ensures c.word-in-len2-2.ensures c.requires.takes c.requires.sorts in
    c.in_ok-pair-in-len2.ensures.sort v ∙ ap (λ (vs : List Val). sort_of_value (op_value c.args.op.now vs)) (sym (o.values v))

pub returns-in_ok-pair-in-len2-clause-value : goal.returns-in_ok-pair-in-len2-clause-value
returns-in_ok-pair-in-len2-clause-value c = λ v f.
    let e = two_items c.args.args.now c.s-item-then-args-lt3.result c.t-item.result c.in-len2.len_at_least c.in-len2.len_below c.s-item-then-args-lt3.is c.t-item.is in
    let o = two c.args.op.now c.args.args.now c.s-item-then-args-lt3.result c.t-item.result c.word-in-len2.result.now c.word-in-len2-2.result.now e c.word-in-len2.ensures c.word-in-len2-2.ensures c.requires.takes c.requires.sorts in
    c.in_ok-pair-in-len2.ensures.value v f ∙ ap (op_value c.args.op.now) (sym (o.values v))

pub word-requires-in-len1-up : goal.word-requires-in-len1-up
word-requires-in-len1-up c =
    let e = split_first c.args.args.now c.first-item.result (omega arith) c.first-item.is in
    first-bits c.args.op.now c.args.args.now _ c.first-item.result e (omega arith) c.requires.ours c.requires.takes

pub folded-requires-clause-takes : goal.folded-requires-clause-takes
folded-requires-clause-takes c =
    let e = split_first c.args.args.now c.first-item.result (omega arith) c.first-item.is in
    let o = more c.args.op.now c.args.args.now _ c.first-item.result c.word-in-len1-up.result.now e c.word-in-len1-up.ensures (omega arith) c.requires.ours c.requires.takes c.requires.sorts in
    o.takes

pub folded-requires-clause-least : goal.folded-requires-clause-least
folded-requires-clause-least c =
    let e = split_first c.args.args.now c.first-item.result (omega arith) c.first-item.is in
    let o = more c.args.op.now c.args.args.now _ c.first-item.result c.word-in-len1-up.result.now e c.word-in-len1-up.ensures (omega arith) c.requires.ours c.requires.takes c.requires.sorts in
    o.least

pub folded-requires-clause-most : goal.folded-requires-clause-most
folded-requires-clause-most c =
    let e = split_first c.args.args.now c.first-item.result (omega arith) c.first-item.is in
    let o = more c.args.op.now c.args.args.now _ c.first-item.result c.word-in-len1-up.result.now e c.word-in-len1-up.ensures (omega arith) c.requires.ours c.requires.takes c.requires.sorts in
    o.most

pub folded-requires-clause-left : goal.folded-requires-clause-left
folded-requires-clause-left c =
    let e = split_first c.args.args.now c.first-item.result (omega arith) c.first-item.is in
    let o = more c.args.op.now c.args.args.now _ c.first-item.result c.word-in-len1-up.result.now e c.word-in-len1-up.ensures (omega arith) c.requires.ours c.requires.takes c.requires.sorts in
    let inside = o.left in
    omega (arith, inside, c.requires.inside)

pub folded-requires-clause-right : goal.folded-requires-clause-right
folded-requires-clause-right c =
    let e = split_first c.args.args.now c.first-item.result (omega arith) c.first-item.is in
    let o = more c.args.op.now c.args.args.now _ c.first-item.result c.word-in-len1-up.result.now e c.word-in-len1-up.ensures (omega arith) c.requires.ours c.requires.takes c.requires.sorts in
    let inside = o.right in
    omega (arith, inside, c.requires.inside)

pub folded-requires-clause-room : goal.folded-requires-clause-room
folded-requires-clause-room c =
    let e = split_first c.args.args.now c.first-item.result (omega arith) c.first-item.is in
    let o = more c.args.op.now c.args.args.now _ c.first-item.result c.word-in-len1-up.result.now e c.word-in-len1-up.ensures (omega arith) c.requires.ours c.requires.takes c.requires.sorts in
    let gates = o.gates in
    omega (arith, gates, c.requires.room)

pub returns-in_ok-folded-in-len1-up-clause-cost : goal.returns-in_ok-folded-in-len1-up-clause-cost
returns-in_ok-folded-in-len1-up-clause-cost c =
    let e = split_first c.args.args.now c.first-item.result (omega arith) c.first-item.is in
    let o = more c.args.op.now c.args.args.now _ c.first-item.result c.word-in-len1-up.result.now e c.word-in-len1-up.ensures (omega arith) c.requires.ours c.requires.takes c.requires.sorts in
    let gates = o.gates in
    omega (arith, gates, c.in_ok-folded-in-len1-up.ensures.cost)

pub returns-in_ok-folded-in-len1-up-clause-sort : goal.returns-in_ok-folded-in-len1-up-clause-sort
returns-in_ok-folded-in-len1-up-clause-sort c = λ v.
    let e = split_first c.args.args.now c.first-item.result (omega arith) c.first-item.is in
    let o = more c.args.op.now c.args.args.now _ c.first-item.result c.word-in-len1-up.result.now e c.word-in-len1-up.ensures (omega arith) c.requires.ours c.requires.takes c.requires.sorts in
    c.in_ok-folded-in-len1-up.ensures.sort ∙ o.sort v

pub returns-in_ok-folded-in-len1-up-clause-value : goal.returns-in_ok-folded-in-len1-up-clause-value
returns-in_ok-folded-in-len1-up-clause-value c = λ v f.
    let e = split_first c.args.args.now c.first-item.result (omega arith) c.first-item.is in
    let o = more c.args.op.now c.args.args.now _ c.first-item.result c.word-in-len1-up.result.now e c.word-in-len1-up.ensures (omega arith) c.requires.ours c.requires.takes c.requires.sorts in
    c.in_ok-folded-in-len1-up.ensures.value v f ∙ ap (op_value c.args.op.now) (sym (o.values v))
