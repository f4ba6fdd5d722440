use Rattle.std.proofs.Common.{◌≡◌, ◌<◌, ◌≤◌, ◌∙◌, ap, subst, length, Ok}
use Rattle.std.specs.Prelude.{IfSome}
use Rattle.std.proofs.lemmas.Result.{err_from_is_err_and}
use Rattle.sy_text_items.specs.Views.{item_of, command_of}
use Rattle.sy_forms_items.specs.Readings.{ReadingGives, ReadingFails}
use Rattle.sy_scope_names.specs.Contexts.{beginning, with_logic}
use Rattle.sy_scope_steps.specs.Files.{file_read}
use Rattle.sy_scope_steps.specs.Steps.{step}
use Rattle.sy_scope.specs.Read.{opened_by}
use Rattle.sy_scope.proofs.Leading.{leads_on, leads_to_end, ends_unread, ends_fault}
use Rattle.sy_scope.proofs.file.read_opening.Goals as goal

pub returns-in_err-item : goal.returns-in_err-item
returns-in_err-item c =
    let p = err_from_is_err_and c.from_residual.result c.from_residual.ensures.1 in
    rw (p.1, p.2) (ends_unread c.args.bytes.now c.loop-item.at c.loop-item.command beginning (file_read c.args.bytes.now) c.loop-item.invariant c.in_err-item.field-0.0 c.in_err-item.ensures.read)

pub returns-in-Err : goal.returns-in-Err
returns-in-Err c =
    let read = c.in_ok-item.ensures.read ∙ ap (λ f. Ok (command_of f)) c.in-Some.is in
    let said : ReadingFails c.in-Err.end (step beginning (item_of c.in-Some.item)) = subst (λ r. ReadingGives opened_by r (step beginning (item_of c.in-Some.item))) c.in-Err.is c.open_with-opening.ensures in
    rw c.ended.ensures (ends_fault c.args.bytes.now c.loop-item.at c.loop-item.command beginning (file_read c.args.bytes.now) c.loop-item.invariant (item_of c.in-Some.item, c.in-Some.after) read c.in-Err.end said)

pub returns-in-Some-logic : goal.returns-in-Some-logic
returns-in-Some-logic c =
    let read = c.in_ok-item.ensures.read ∙ ap (λ f. Ok (command_of f)) c.in-Some.is in
    let forward = subst (λ f. IfSome f (λ x. (c.loop-item.at < x.1) × (x.1 ≤ length c.args.bytes.now))) c.in-Some.is c.in_ok-item.ensures.forward in
    let said : step beginning (item_of c.in-Some.item) ≡ Ok (opened_by c.in-Ok.logic) = subst (λ r. ReadingGives opened_by r (step beginning (item_of c.in-Some.item))) c.in-Ok.is c.open_with-opening.ensures in
    leads_on c.args.bytes.now c.loop-item.at c.loop-item.command beginning (file_read c.args.bytes.now) c.loop-item.invariant (with_logic c.in-Some-logic.logic beginning) (item_of c.in-Some.item, c.in-Some.after) read forward.0 forward.1 (said ∙ ap (λ l. Ok (opened_by l)) c.in-Some-logic.is)

pub loop-item-preserved : goal.loop-item-preserved
loop-item-preserved c =
    let read = c.in_ok-item.ensures.read ∙ ap (λ f. Ok (command_of f)) c.in-Some.is in
    let forward = subst (λ f. IfSome f (λ x. (c.loop-item.at < x.1) × (x.1 ≤ length c.args.bytes.now))) c.in-Some.is c.in_ok-item.ensures.forward in
    let said : step beginning (item_of c.in-Some.item) ≡ Ok (opened_by c.in-Ok.logic) = subst (λ r. ReadingGives opened_by r (step beginning (item_of c.in-Some.item))) c.in-Ok.is c.open_with-opening.ensures in
    leads_on c.args.bytes.now c.loop-item.at c.loop-item.command beginning (file_read c.args.bytes.now) c.loop-item.invariant beginning (item_of c.in-Some.item, c.in-Some.after) read forward.0 forward.1 (said ∙ ap (λ l. Ok (opened_by l)) c.in_default-logic.is)

pub returns : goal.returns
returns c =
    let read = c.in_ok-item.ensures.read ∙ ap (λ f. Ok (command_of f)) c.in_default.is in
    leads_to_end c.args.bytes.now c.loop-item.at c.loop-item.command beginning (file_read c.args.bytes.now) c.loop-item.invariant read
