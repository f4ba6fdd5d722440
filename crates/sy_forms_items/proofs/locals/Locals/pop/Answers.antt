use Rattle.std.proofs.Common.{◌≡◌, ◌∙◌, ◌-◌, length, take, ap, sym, subst, Some, slice_get}
use Rattle.std.proofs.lemmas.Result.{IfOk-from_err}
use Rattle.sy_forms_items.specs.Locals.{AreFound}
use Rattle.sy_forms_items.specs.Table.{under}
use Rattle.sy_forms_items.proofs.LetNames.{AreFound-pop, split-last}
use Rattle.sy_forms_items.proofs.locals.Locals.pop.Goals as goal

pub invariant_of-self-2 : goal.invariant_of-self-2
invariant_of-self-2 c =
    let xs = c.self.inside.locals.items in
    let at : slice_get xs (length xs - 1) ≡ Some c.in-Some.last.now = ap (λ ys. slice_get ys (length ys - 1)) (sym c.deref.ensures.value) ∙ sym c.in-Some.ensures.value in
    let whole = subst (λ ys. AreFound ys (under (λ k. k.items) c.self.inside.places.entries)) (split-last xs c.in-Some.last.now at) c.self.invariant in
    let rest : c.pop.new.self.items ≡ take (length xs - 1) xs = c.pop.ensures.rest ∙ ap (λ n. take (n - 1) xs) c.self.inside.locals.ok.0 in
    rw (rest, c.in_ok-insert.ensures.entries)
    (AreFound-pop (λ k. k.items) (take (length xs - 1) xs) c.in-Some.last.now c.self.inside.places.entries c.in_ok-key.key whole (c.in_ok-key.ensures ∙ c.as_slice.ensures))

pub returns-in_err-key-clause-ok : goal.returns-in_err-key-clause-ok
returns-in_err-key-clause-ok c = IfOk-from_err c.from_residual.result _ c.from_residual.ensures.0

pub returns-in_err-insert-clause-ok : goal.returns-in_err-insert-clause-ok
returns-in_err-insert-clause-ok c = IfOk-from_err c.from_residual-in_err-insert.result _ c.from_residual-in_err-insert.ensures.0
