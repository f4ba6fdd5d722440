use Rattle.std.proofs.Common.{◌∙◌, ap, sym, map, Ok}
use Rattle.sy_text_items.specs.Views.{item_of}
use Rattle.sy_terms.specs.Denoted.{expr_of}
use Rattle.sy_grammar_base.specs.Questions.{goal_of}
use Rattle.sy_reply_reader.specs.Asked.{question_in}
use Rattle.sy_reply_reader.specs.Seen.{part_in, function_in}
use Rattle.sy_reply_reader.specs.Slots.{open_from, slots_of}
use Rattle.sy_reply_reader.proofs.Filled.{filled_at}
use Rattle.sy_reply_reader.proofs.Parting.{part_filled}
use Rattle.sy_reply_reader.proofs.definitions.part_read.Goals as goal

pub returns : goal.returns
returns g c =
    let n = g.T.Theory.denotes in
    let a = c.args.asked.now in
    part_filled a.check a.logic a.titles.now (question_in n a) (slots_of n c.args.slots.now.items) (item_of c.args.item.now) (part_in c.in-Some.part) (function_in c.in-Some-open_from.function) (expr_of n c.in_ok-body.body)
    c.in-Some.ensures
    (c.in-Some-open_from.ensures.found
    ∙ (λ i. open_from 0 (c.as_slice.ensures i) (c.as_slice-2.ensures i) (map (goal_of n) (c.as_slice-3.ensures i)) (slots_of n (c.as_slice-4.ensures.value i))))
    c.in_ok-body.ensures
    ∙ ap Ok (sym (filled_at n c.args.slots.now.items c.in-Some-open_from.function.number c.in_ok-body.body))
