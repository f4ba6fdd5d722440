use Rattle.std.proofs.Common.{◌≡◌, ◌∙◌, length, ap, sym}
use Rattle.std.proofs.lemmas.Result.{IfOk-from_err}
use Rattle.sy_forms_items.specs.Environments.{place_among}
use Rattle.sy_forms_items.specs.Locals.{named_in}
use Rattle.sy_forms_items.proofs.LetNames.{AreFound-push}
use Rattle.sy_forms_items.proofs.locals.Locals.push.Goals as goal

pub invariant_of-self-in-Ok-insert : goal.invariant_of-self-in-Ok-insert
invariant_of-self-in-Ok-insert c =
    let hidden : c.find-hidden.result ≡ place_among c.args.named.name (named_in c.self.inside.locals.items) =
    c.find-hidden.ensures ∙ ap (λ n. place_among n c.args.self.now) c.as_slice-2.ensures ∙ ap (place_among c.args.named.name) (sym c.self.view_is) in
    let place : c.in-Ok.place ≡ length c.self.inside.locals.items = c.in-Ok.ensures.1 ∙ c.len.ensures ∙ c.self.inside.locals.ok.0 in
    rw (c.in_ok-push.ensures.items, c.in-Ok-insert.ensures.entries, place)
    (AreFound-push (λ k. k.items) c.self.inside.locals.items (record { named = c.args.named; hidden = c.find-hidden.result }) c.self.inside.places.entries c.in_ok-key.key c.self.invariant (c.in_ok-key.ensures ∙ c.as_slice.ensures) hidden)

pub returns-in_err-key-clause-ok : goal.returns-in_err-key-clause-ok
returns-in_err-key-clause-ok c = IfOk-from_err c.from_residual.result _ c.from_residual.ensures.0

pub returns-in_err-push-clause-ok : goal.returns-in_err-push-clause-ok
returns-in_err-push-clause-ok c = IfOk-from_err c.from_residual-in_err-push.result _ c.from_residual-in_err-push.ensures.0
