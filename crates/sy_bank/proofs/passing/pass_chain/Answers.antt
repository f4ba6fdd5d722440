use Rattle.std.proofs.Common.{◌≡◌, ◌<◌, ◌∙◌, ap, sym, subst, length, arith, List}
use Rattle.std.proofs.lemmas.List.{length-map}
use Rattle.std.proofs.lemmas.Result.{IfOk-from_err}
use Rattle.sy_bank_level.specs.Banks.{Entry}
use Rattle.sy_bank_level.specs.Stored.{entry_of}
use Rattle.sy_bank_level.specs.Task.{world, level_state_of, level_of}
use Rattle.sy_bank.proofs.Entries.{chain-within, below-all}
use Rattle.sy_bank.proofs.passing.pass_chain.Goals as goal

pub of-requires : goal.of-requires
of-requires g c =
    let number = g.T.Theory.denotes in
    let w = world g.T.Theory.owned number c.args.task.now in
    let chain = c.args.chain.now in
    subst (λ k. chain.to < k) (sym c.requires.steady.wide) (chain-within g.T.Theory.numeric w chain.nonterminal chain.number chain.to c.requires.task.set c.requires.chain)

pub returns-clause-done : goal.returns-clause-done
returns-clause-done g c =
    let number = g.T.Theory.denotes in
    let w = world g.T.Theory.owned number c.args.task.now in
    let chain = c.args.chain.now in
    let sized : c.args.task.now.size ≡ length w.levels = c.requires.task.sized ∙ sym (length-map c.args.task.now.levels.now (level_of number)) in
    let whole = ap (λ (entries : List Entry). length entries) c.of.ensures in
    let mapped = length-map c.of.result.now (entry_of number) in
    let was = c.loop-place.invariant in
    below-all w (level_state_of number c.args.filling.now) (level_state_of number c.loop-place.filling) chain.nonterminal chain.to c.args.task.now.size c.loop-place.place was.steady was.grows sized
    (omega (arith, whole, mapped, c.len-count.ensures, c.loop-place-test.false)) was.done

pub returns-in_err-pass_term-clause-steady : goal.returns-in_err-pass_term-clause-steady
returns-in_err-pass_term-clause-steady g c = IfOk-from_err c.from_residual.result _ c.from_residual.ensures.0

pub returns-in_err-pass_term-clause-grows : goal.returns-in_err-pass_term-clause-grows
returns-in_err-pass_term-clause-grows g c = IfOk-from_err c.from_residual.result _ c.from_residual.ensures.0

pub returns-in_err-pass_term-clause-done : goal.returns-in_err-pass_term-clause-done
returns-in_err-pass_term-clause-done g c = IfOk-from_err c.from_residual.result _ c.from_residual.ensures.0
