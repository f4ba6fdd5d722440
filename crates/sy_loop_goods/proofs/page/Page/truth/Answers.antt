use Rattle.std.proofs.Common.{refl}
use Rattle.std.proofs.lemmas.Option.{slice_get_read}
use Rattle.sy_terms.specs.Denoted.{val_of, vals_of}
use Rattle.sy_loop_goods.proofs.Pages.{truth_found}
use Rattle.sy_loop_goods.proofs.page.Page.truth.Goals as goal

pub returns-then-same_value : goal.returns-then-same_value
returns-then-same_value g c =
    let is = c.is_of.ensures c.if-not-is_of.false in
    truth_found g.T.Theory.denotes c.args.self.now.constraint c.args.constraint is.0 c.args.self.now.assignment (vals_of g.T.Theory.denotes c.args.assignment.now) is.1 c.args.self.now.truths.items c.in_ok-place.field-0.now c.in_ok-known.field-0.now (val_of g.T.Theory.denotes c.args.value.now)
    (rw c.deref.ensures.value at (slice_get_read _ _ _ _ refl c.in_ok-known.ensures.lookup.3.0 c.in_ok-known.ensures.lookup.1)) (c.same_value.ensures.0 c.if-same_value.true)
