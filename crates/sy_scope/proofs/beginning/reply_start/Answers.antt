use Rattle.std.proofs.Common.{◌<◌, ◌≤◌, ◌∙◌, ap, sym, subst, length}
use Rattle.std.specs.Prelude.{IfSome}
use Rattle.sy_text_items.specs.Views.{item_of, command_of}
use Rattle.sy_scope.proofs.FrontLeading.{from_beginning, leads_on, leads_to_start, leads_to_end}
use Rattle.sy_scope.proofs.beginning.reply_start.Goals as goal

pub loop-item-init : goal.loop-item-init
loop-item-init c = from_beginning c.args.bytes.now

pub returns-then-begins_replies-clause-start : goal.returns-then-begins_replies-clause-start
returns-then-begins_replies-clause-start c =
    let read = sym c.in_ok-item.ensures.exact ∙ ap command_of c.in-Some.is in
    ap (λ place. place.at) c.place_of.ensures ∙ leads_to_start c.args.bytes.now c.loop-item.at c.loop-item.invariant (item_of c.in-Some.item, c.in-Some.after) read (sym c.begins_replies.ensures ∙ c.if-begins_replies.true)

pub loop-item-preserved : goal.loop-item-preserved
loop-item-preserved c =
    let read = sym c.in_ok-item.ensures.exact ∙ ap command_of c.in-Some.is in
    let forward = subst (λ f. IfSome f (λ x. (c.loop-item.at < x.1) × (x.1 ≤ length c.args.bytes.now))) c.in-Some.is c.in_ok-item.ensures.forward in
    leads_on c.args.bytes.now c.loop-item.at c.loop-item.invariant (item_of c.in-Some.item, c.in-Some.after) read (sym c.begins_replies.ensures ∙ c.if-begins_replies.false) forward.0 forward.1

pub returns-clause-start : goal.returns-clause-start
returns-clause-start c =
    let read = sym c.in_ok-item.ensures.exact ∙ ap command_of c.in_default.is in
    leads_to_end c.args.bytes.now c.loop-item.at c.loop-item.invariant read
