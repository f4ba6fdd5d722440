use Rattle.std.proofs.Common.{◌∙◌, sym, ap, arith, length, List}
use Rattle.std.proofs.lemmas.Bool.{le-ltb, lt-ltb}
use Rattle.std.proofs.lemmas.Result.{err_from_is_err_and}
use Rattle.sy_text_items.specs.Views.{item_of}
use Rattle.sy_scope_causes.specs.declared.cause.Cause.TheVariants as cause
use Rattle.sy_forms_items.specs.declared.names.Named.{Named}
use Rattle.sy_forms_items.specs.Parts.{place_of}
use Rattle.sy_forms_items.specs.Readings.{refuse}
use Rattle.sy_forms_items.specs.Views.{items_in}
use Rattle.sy_forms_items.proofs.Readings as readings
use Rattle.sy_scope_names.specs.Lists as spec
use Rattle.sy_scope_names.proofs.Listing.{named_none, named_more, named_full, named_room}
use Rattle.sy_scope_names.proofs.list.read_named.Goals as goal

pub returns-in_err-named : goal.returns-in_err-named
returns-in_err-named c =
    let p = err_from_is_err_and c.from_residual.result c.from_residual.ensures.1 in
    let n = c.args.naming.now in
    let more = named_more n.names.now.sorts n.logic n.taken.now c.loop-item.done (items_in c.loop-item.left) (item_of c.in-Some.item.now) (items_in c.in-Some.rest) c.in-Some.ensures in
    let same = ap (λ l. spec.named_item n.names.now.sorts n.logic n.taken.now l (item_of c.in-Some.item.now)) (sym c.as_slice.ensures) in
    rw (p.1, p.2) (readings.fails_same c.in_err-named.field-0.0 _ _ (sym c.loop-item.invariant ∙ more) (readings.fails_bind c.in_err-named.field-0.0 _ _ (readings.fails_same c.in_err-named.field-0.0 _ _ same c.in_err-named.ensures)))

pub returns-then-len-ge-NAMED_MAX : goal.returns-then-len-ge-NAMED_MAX
returns-then-len-ge-NAMED_MAX c =
    let n = c.args.naming.now in
    let is = ap (λ l. spec.named_item n.names.now.sorts n.logic n.taken.now l (item_of c.in-Some.item.now)) (sym c.as_slice.ensures) ∙ c.in_ok-named.ensures in
    sym c.loop-item.invariant
    ∙ named_full n.names.now.sorts n.logic n.taken.now c.loop-item.done (items_in c.loop-item.left) (item_of c.in-Some.item.now) (items_in c.in-Some.rest) c.in_ok-named.named c.in-Some.ensures is
    (le-ltb (length c.loop-item.done) 64 (omega (arith, c.if-len-ge-NAMED_MAX.true, c.len.ensures)))
    ∙ ap (λ p. refuse {A = List Named} p cause.TooMany) (sym c.place_of.ensures)

pub loop-item-preserved : goal.loop-item-preserved
loop-item-preserved c =
    let n = c.args.naming.now in
    let is = ap (λ l. spec.named_item n.names.now.sorts n.logic n.taken.now l (item_of c.in-Some.item.now)) (sym c.as_slice.ensures) ∙ c.in_ok-named.ensures in
    ap (λ d. spec.read_named n.names.now.sorts n.logic n.taken.now d (items_in c.in-Some.rest)) c.in_ok-push.ensures.ok
    ∙ sym (named_room n.names.now.sorts n.logic n.taken.now c.loop-item.done (items_in c.loop-item.left) (item_of c.in-Some.item.now) (items_in c.in-Some.rest) c.in_ok-named.named c.in-Some.ensures is
    (lt-ltb (length c.loop-item.done) 64 (omega (arith, c.if-len-ge-NAMED_MAX.false, c.len.ensures))))
    ∙ c.loop-item.invariant

pub returns : goal.returns
returns c =
    let n = c.args.naming.now in
    sym c.loop-item.invariant ∙ named_none n.names.now.sorts n.logic n.taken.now c.loop-item.done (items_in c.loop-item.left) c.in_default.ensures
