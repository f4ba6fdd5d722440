use Rattle.std.proofs.Common.{◌∙◌, refl, ap, sym, length, map, arith}
use Rattle.std.proofs.lemmas.Option.{slice_get_read}
use Rattle.std.proofs.lemmas.List.{length-map}
use Rattle.std.proofs.lemmas.Result.{IfOk-from_err}
use Rattle.sy_grammar_base.specs.Grown.{nonterminal_of}
use Rattle.sy_bank_level.specs.Task.{world, level_state_of}
use Rattle.sy_bank_level.proofs.Keeping.{grows-on}
use Rattle.sy_bank.proofs.Entries.{few-rules, nonterminals-next, nonterminals-all}
use Rattle.sy_bank.proofs.passing.pass_all.Goals as goal

pub pass_rules-requires-clause-few : goal.pass_rules-requires-clause-few
pass_rules-requires-clause-few g c =
    let number = g.T.Theory.denotes in
    let nons = c.as_slice-item-items.result.now in
    let at = slice_get_read nons _ c.loop-nonterminal.nonterminal c.item-item.result refl c.loop-nonterminal-test.true c.item-item.is in
    let same = ap (λ (all : _). map (nonterminal_of number) all) (sym (c.as_slice-item-items.ensures ∙ c.nons.ensures)) in
    rw c.as_slice.ensures (few-rules number g.T.Theory.numeric (world g.T.Theory.owned number c.args.task.now) nons c.loop-nonterminal.nonterminal c.item-item.result c.requires.task.set same at)

pub loop-nonterminal-preserved : goal.loop-nonterminal-preserved
loop-nonterminal-preserved g c =
    let number = g.T.Theory.denotes in
    let w = world g.T.Theory.owned number c.args.task.now in
    let start = level_state_of number c.args.filling.now in
    let before = level_state_of number c.loop-nonterminal.filling in
    let after = level_state_of number c.pass_rules.new.filling in
    let was = c.loop-nonterminal.invariant in
    let grows = c.in_ok-pass_rules.ensures.grows in
    record {
      steady = c.in_ok-pass_rules.ensures.steady;
      grows = grows-on w start before after was.grows grows;
      done = nonterminals-next w start before after c.args.task.now.size c.loop-nonterminal.nonterminal was.grows grows was.done c.in_ok-pass_rules.ensures.done;
    }

pub returns-clause-done : goal.returns-clause-done
returns-clause-done g c same =
    let number = g.T.Theory.denotes in
    let w = world g.T.Theory.owned number c.args.task.now in
    let nons = ap (λ (all : _). length all) (c.as_slice-item-items.ensures ∙ c.nons.ensures) in
    let mapped = length-map c.args.task.now.grammar.now.nons (nonterminal_of number) in
    nonterminals-all w (level_state_of number c.loop-nonterminal.filling) c.args.task.now.size c.loop-nonterminal.nonterminal (omega (arith, nons, mapped, c.loop-nonterminal-test.false)) (c.loop-nonterminal.invariant.done same)

pub returns-in_err-pass_rules-clause-steady : goal.returns-in_err-pass_rules-clause-steady
returns-in_err-pass_rules-clause-steady g c = IfOk-from_err c.from_residual.result _ c.from_residual.ensures.0

pub returns-in_err-pass_rules-clause-grows : goal.returns-in_err-pass_rules-clause-grows
returns-in_err-pass_rules-clause-grows g c = IfOk-from_err c.from_residual.result _ c.from_residual.ensures.0

pub returns-in_err-pass_rules-clause-done : goal.returns-in_err-pass_rules-clause-done
returns-in_err-pass_rules-clause-done g c = IfOk-from_err c.from_residual.result _ c.from_residual.ensures.0
