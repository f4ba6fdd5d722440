use Rattle.std.proofs.Common.{◌≡◌, ◌<◌, ◌≤◌, ◌∙◌, ap, sym, subst, length, refl, Some, Ok}
use Rattle.std.specs.Prelude.{IfSome}
use Rattle.std.proofs.lemmas.Result.{err_from_is_err_and}
use Rattle.sy_text_items.specs.Views.{item_of, command_of}
use Rattle.sy_terms.specs.Logics.{IsTheoryOf, Serves}
use Rattle.sy_terms.specs.declared.sort.Logic.{Logic}
use Rattle.sy_scope_steps.specs.Files.{file_read}
use Rattle.sy_scope_steps.specs.Steps.{step}
use Rattle.sy_scope.specs.Read.{LeadsToOutcome}
use Rattle.sy_scope_declared.specs.Seen.{context_of}
use Rattle.sy_scope.proofs.Leading.{leads_on, leads_to_end, ends_unread, ends_numbered, stepped_on, stepped_holds}
use Rattle.sy_scope.proofs.Sound.{goals_fit, stays_sound, sound_from}
use Rattle.sy_scope.proofs.file.read_commands.Goals as goal

pub loop-item-init : goal.loop-item-init
loop-item-init g c = record {
  leads = subst (λ context. LeadsToOutcome c.args.bytes.now c.args.opened.at c.args.opened.command context (file_read c.args.bytes.now)) (sym c.requires.begun) c.requires.opened;
  logic = c.requires.logic;
  sound = sound_from c.args.opened.logic (context_of g.T.Theory.denotes c.args.context.now) c.requires.begun;
}

pub returns-in_err-item-clause-read : goal.returns-in_err-item-clause-read
returns-in_err-item-clause-read g c =
    let p = err_from_is_err_and c.from_residual.result c.from_residual.ensures.1 in
    rw (p.1, p.2) (ends_unread c.args.bytes.now c.loop-item.at c.loop-item.command (context_of g.T.Theory.denotes c.loop-item.context) (file_read c.args.bytes.now) c.loop-item.invariant.leads c.in_err-item.field-0.0 c.in_err-item.ensures.read)

pub returns-in_err-numbered-clause-read : goal.returns-in_err-numbered-clause-read
returns-in_err-numbered-clause-read g c =
    let p = err_from_is_err_and c.from_residual-in_err-numbered.result c.from_residual-in_err-numbered.ensures.1 in
    let read = c.in_ok-item.ensures.read ∙ ap (λ f. Ok (command_of f)) c.in-Some.is in
    rw (p.1, p.2) (ends_numbered c.args.bytes.now c.loop-item.at c.loop-item.command (context_of g.T.Theory.denotes c.loop-item.context) (file_read c.args.bytes.now) c.loop-item.invariant.leads (item_of c.in-Some.item, c.in-Some.after) read (context_of g.T.Theory.denotes c.step-stepped.new.context) c.step-stepped.result c.in_err-numbered.field-0.0 c.in_err-numbered.ensures c.step-stepped.ensures.step)

pub loop-item-preserved : goal.loop-item-preserved
loop-item-preserved g c =
    let read = c.in_ok-item.ensures.read ∙ ap (λ f. Ok (command_of f)) c.in-Some.is in
    let forward = subst (λ f. IfSome f (λ x. (c.loop-item.at < x.1) × (x.1 ≤ length c.args.bytes.now))) c.in-Some.is c.in_ok-item.ensures.forward in
    let before = context_of g.T.Theory.denotes c.loop-item.context in
    let later = context_of g.T.Theory.denotes c.step-stepped.new.context in
    let stepped : step before (item_of c.in-Some.item) ≡ Ok later = stepped_on c.loop-item.command c.step-stepped.result _ later (step before (item_of c.in-Some.item)) c.in_ok-numbered.ensures c.step-stepped.ensures.step in
    record {
      leads = leads_on c.args.bytes.now c.loop-item.at c.loop-item.command before (file_read c.args.bytes.now) c.loop-item.invariant.leads later (item_of c.in-Some.item, c.in-Some.after) read forward.0 forward.1 stepped;
      logic = stepped_holds c.loop-item.command (c.step-stepped.new.context.logic ≡ c.loop-item.context.logic) c.step-stepped.result _ c.in_ok-numbered.ensures c.step-stepped.ensures.logic ∙ c.loop-item.invariant.logic;
      sound = stays_sound before later (item_of c.in-Some.item) c.loop-item.invariant.sound stepped;
    }

pub returns-clause-read : goal.returns-clause-read
returns-clause-read g c =
    let read = c.in_ok-item.ensures.read ∙ ap (λ f. Ok (command_of f)) c.in_default.is in
    leads_to_end c.args.bytes.now c.loop-item.at c.loop-item.command (context_of g.T.Theory.denotes c.loop-item.context) (file_read c.args.bytes.now) c.loop-item.invariant.leads read

pub step-stepped-requires-clause-serves : goal.step-stepped-requires-clause-serves
step-stepped-requires-clause-serves g c = subst (λ (logic : Logic). Serves g.T.Theory.numeric logic) (sym c.loop-item.invariant.logic) c.requires.serves

pub step-stepped-requires-clause-theory : goal.step-stepped-requires-clause-theory
step-stepped-requires-clause-theory g c = subst (λ (logic : Logic). IsTheoryOf logic g.T.Theory.owned g.T.Theory.numeric) (sym c.loop-item.invariant.logic) c.requires.theory

pub step-stepped-requires-clause-fit : goal.step-stepped-requires-clause-fit
step-stepped-requires-clause-fit g c =
    goals_fit c.args.opened.logic g.T.Theory.owned g.T.Theory.numeric (context_of g.T.Theory.denotes c.loop-item.context) _
    c.requires.theory (ap Some c.loop-item.invariant.logic) c.loop-item.invariant.sound refl
