use Rattle.std.proofs.Common.{false, ◌-◌, length, drop, ap, sym, ◌∙◌, eq-eqb, ℕ, List, Result, Some}
use Rattle.std.proofs.lemmas.Result.{err_from_is_err_and}
use Rattle.sy_text_items.specs.declared.fault.TextFault.{TextFault}
use Rattle.sy_text_items.specs.declared.fault.TextFault.TheVariants.{Stray}
use Rattle.sy_text_items.specs.Items.{Item}
use Rattle.sy_text.specs.Reading.{◌>>=◌, after_layout}
use Rattle.sy_text.proofs.Shorter.{ok, err}
use Rattle.sy_text.proofs.Nested.{front_item, command_none, command_stray, command_item, fails_same, fails_bind, test_no}
use Rattle.sy_text.proofs.items.read_command.Goals as goal

pub returns-in_default-clause-exact : goal.returns-in_default-clause-exact
returns-in_default-clause-exact c = command_none (length c.args.bytes.now) (drop c.args.at c.args.bytes.now) (ap (after_layout false) (sym c.split_at.ensures.back) ∙ sym c.skip_layout-front.ensures.value ∙ c.in_default.ensures)

pub returns-then-byte-eq41-clause-exact : goal.returns-then-byte-eq41-clause-exact
returns-then-byte-eq41-clause-exact c =
    command_stray (length c.args.bytes.now) c.in-Some.byte c.in-Some.field-0-1.now (drop c.args.at c.args.bytes.now)
    (ap (after_layout false) (sym c.split_at.ensures.back) ∙ sym c.skip_layout-front.ensures.value ∙ c.in-Some.ensures) (eq-eqb c.in-Some.byte 41 c.if-byte-eq41.true)
    ∙ ap (λ (l : List ℕ). err (Stray (length c.args.bytes.now - length l))) (sym c.in-Some.ensures)

pub returns-in_err-item-clause-exact : goal.returns-in_err-item-clause-exact
returns-in_err-item-clause-exact c =
    let p = err_from_is_err_and c.from_residual.result c.from_residual.ensures.1 in
    rw (p.1, p.2) (fails_same c.in_err-item.field-0.0 _ _
    (command_item (length c.args.bytes.now) c.in-Some.byte c.in-Some.field-0-1.now (drop c.args.at c.args.bytes.now)
    (ap (after_layout false) (sym c.split_at.ensures.back) ∙ sym c.skip_layout-front.ensures.value ∙ c.in-Some.ensures) (test_no c.in-Some.byte 41 c.if-byte-eq41.false))
    (fails_bind c.in_err-item.field-0.0 _ _
    (fails_same c.in_err-item.field-0.0 _ _ (ap (front_item (length c.args.bytes.now) 0) (sym c.in-Some.ensures)) c.in_err-item.ensures.exact)))

pub returns-clause-exact : goal.returns-clause-exact
returns-clause-exact c =
    command_item (length c.args.bytes.now) c.in-Some.byte c.in-Some.field-0-1.now (drop c.args.at c.args.bytes.now)
    (ap (after_layout false) (sym c.split_at.ensures.back) ∙ sym c.skip_layout-front.ensures.value ∙ c.in-Some.ensures) (test_no c.in-Some.byte 41 c.if-byte-eq41.false)
    ∙ ap (λ (r : Result (Item × List ℕ) TextFault). r >>= λ x. ok (Some (x.0, length c.args.bytes.now - length x.1)))
    (ap (front_item (length c.args.bytes.now) 0) (sym c.in-Some.ensures) ∙ c.in_ok-item.ensures.exact)
