use Rattle.std.proofs.Common.{◌∙◌, ap, sym, arith, length, List}
use Rattle.std.proofs.lemmas.Option.{slice_get-get_or}
use Rattle.std.specs.Prelude.{slice_get}
use Rattle.sy_terms.specs.declared.sort.Sort.{Sort}
use Rattle.sy_bank_level.specs.Task.{world, level_state_of}
use Rattle.sy_bank_level.proofs.Keeping.{grows-on}
use Rattle.sy_bank.proofs.Offered.{argued-next, argued-all}
use Rattle.sy_bank.proofs.positions.variables.Goals as goal

pub loop-position-preserved : goal.loop-position-preserved
loop-position-preserved g c =
    let number = g.T.Theory.denotes in
    let w = world g.T.Theory.owned number c.args.task.now in
    let start = level_state_of number c.args.filling.now in
    let before = level_state_of number c.loop-position.filling in
    let after = level_state_of number c.offer_argument.new.filling in
    let grows = c.in_ok-offer_argument.ensures.grows in
    let was = c.loop-position.invariant in
    let position = c.loop-position.position in
    let at = ap (λ (sorts : List Sort). slice_get sorts position) (sym (c.as_slice-sort-items.ensures ∙ c.args-2.ensures)) ∙ slice_get-get_or c.as_slice-sort-items.result.now position _ c.loop-position-test.true in
    record {
      steady = c.in_ok-offer_argument.ensures.steady;
      grows = grows-on w start before after was.grows grows;
      done = argued-next w before after c.args.rule.now.nonterminal c.args.rule.now.sort c.args.task.now.size position _ grows was.done at c.in_ok-offer_argument.ensures.done;
    }

pub returns-clause-done : goal.returns-clause-done
returns-clause-done g c =
    let number = g.T.Theory.denotes in
    let same = ap (λ (sorts : List Sort). length sorts) (c.as_slice-sort-items.ensures ∙ c.args-2.ensures) in
    argued-all (world g.T.Theory.owned number c.args.task.now) (level_state_of number c.loop-position.filling) c.args.rule.now.nonterminal c.args.rule.now.sort c.args.task.now.size c.loop-position.position
    (omega (arith, same, c.loop-position-test.false)) c.loop-position.invariant.done
