use Rattle.std.proofs.Common.{map, arith}
use Rattle.std.proofs.lemmas.List.{length-map}
use Rattle.std.proofs.lemmas.Result.{IfOk-from_err}
use Rattle.sy_grammar_base.specs.Grown.{production_of}
use Rattle.sy_bank_level.specs.Task.{world, level_state_of}
use Rattle.sy_bank_level.proofs.Keeping.{grows-on}
use Rattle.sy_bank.proofs.Entries.{rules-next, rules-all}
use Rattle.sy_bank.proofs.passing.pass_rules.Goals as goal

pub loop-number-preserved : goal.loop-number-preserved
loop-number-preserved g c =
    let number = g.T.Theory.denotes in
    let w = world g.T.Theory.owned number c.args.task.now in
    let start = level_state_of number c.args.filling.now in
    let before = level_state_of number c.loop-number.filling in
    let after = level_state_of number c.pass_rule.new.filling in
    let was = c.loop-number.invariant in
    let grows = c.in_ok-pass_rule.ensures.grows in
    record {
      steady = c.in_ok-pass_rule.ensures.steady;
      grows = grows-on w start before after was.grows grows;
      done = rules-next w start before after c.args.nonterminal c.args.task.now.size c.loop-number.number was.grows grows was.done c.in_ok-pass_rule.ensures.done;
    }

pub returns-clause-done : goal.returns-clause-done
returns-clause-done g c same =
    let number = g.T.Theory.denotes in
    let productions = map (production_of number) c.args.rules.now in
    rules-all (world g.T.Theory.owned number c.args.task.now) (level_state_of number c.loop-number.filling) c.args.nonterminal c.args.task.now.size c.loop-number.number productions c.requires.rules
    (omega (arith, length-map c.args.rules.now (production_of number), c.loop-number-test.false)) (c.loop-number.invariant.done same)

pub returns-in_err-pass_rule-clause-steady : goal.returns-in_err-pass_rule-clause-steady
returns-in_err-pass_rule-clause-steady g c = IfOk-from_err c.from_residual.result _ c.from_residual.ensures.0

pub returns-in_err-pass_rule-clause-grows : goal.returns-in_err-pass_rule-clause-grows
returns-in_err-pass_rule-clause-grows g c = IfOk-from_err c.from_residual.result _ c.from_residual.ensures.0

pub returns-in_err-pass_rule-clause-done : goal.returns-in_err-pass_rule-clause-done
returns-in_err-pass_rule-clause-done g c = IfOk-from_err c.from_residual.result _ c.from_residual.ensures.0
