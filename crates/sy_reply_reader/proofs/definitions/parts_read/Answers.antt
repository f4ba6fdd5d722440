use Rattle.std.proofs.Common.{◌∙◌, sym}
use Rattle.std.proofs.lemmas.Result.{err_from_is_err_and}
use Rattle.sy_text_items.specs.Views.{item_of}
use Rattle.sy_forms_items.specs.Views.{items_in}
use Rattle.sy_reply_reader.specs.Asked.{question_in}
use Rattle.sy_reply_reader.specs.Definitions as spec
use Rattle.sy_reply_reader.specs.Slots.{slots_of}
use Rattle.sy_reply_reader.proofs.Parting.{parts_none, parts_more}
use Rattle.sy_reply_reader.proofs.Readings.{ends_same, ends_bind, bound}
use Rattle.sy_reply_reader.proofs.definitions.parts_read.Goals as goal

pub returns-in_err-part_read : goal.returns-in_err-part_read
returns-in_err-part_read g c =
    let a = c.args.asked.now in
    let q = question_in g.T.Theory.denotes a in
    let p = err_from_is_err_and c.from_residual.result c.from_residual.ensures.1 in
    let one = parts_more a.check a.logic a.titles.now q (slots_of g.T.Theory.denotes c.loop-item.slots.items) (items_in c.loop-item.left) (item_of c.in-Some.item.now) (items_in c.in-Some.rest) c.in-Some.ensures in
    rw (p.1, p.2) (ends_same c.in_err-part_read.field-0.0 _ _ (sym c.loop-item.invariant ∙ one) (ends_bind c.in_err-part_read.field-0.0 _ _ c.in_err-part_read.ensures))

pub loop-item-preserved : goal.loop-item-preserved
loop-item-preserved g c =
    let a = c.args.asked.now in
    let q = question_in g.T.Theory.denotes a in
    let one = parts_more a.check a.logic a.titles.now q (slots_of g.T.Theory.denotes c.loop-item.slots.items) (items_in c.loop-item.left) (item_of c.in-Some.item.now) (items_in c.in-Some.rest) c.in-Some.ensures in
    sym (bound _ _ (λ later. spec.parts_read a.check a.logic a.titles.now q later (items_in c.in-Some.rest)) c.in_ok-part_read.ensures) ∙ sym one ∙ c.loop-item.invariant

pub returns : goal.returns
returns g c =
    let a = c.args.asked.now in
    sym c.loop-item.invariant
    ∙ parts_none a.check a.logic a.titles.now (question_in g.T.Theory.denotes a) (slots_of g.T.Theory.denotes c.loop-item.slots.items) (items_in c.loop-item.left) c.in_default.ensures
