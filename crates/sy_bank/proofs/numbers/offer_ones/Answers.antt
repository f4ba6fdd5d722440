use mir.Syntax.{w128}
use mir.Val.{SFits}
use Rattle.std.proofs.lemmas.Int.{to_z-of_z}
use Rattle.sy_bank.specs.Leaves.{IsDoneAt}
use Rattle.std.proofs.Common.{rules, subst, ◌∙◌, sym, refl, arith, pos}
use Rattle.std.proofs.lemmas.Option.{slice_get_read}
use Rattle.sy_terms.specs.Values.{Truth}
use Rattle.sy_terms.specs.Denoted.{vals_of}
use Rattle.sy_bank_level.specs.Task.{world, level_state_of}
use Rattle.sy_bank_level.proofs.Keeping.{grows-on}
use Rattle.sy_bank.proofs.Offered.{done-for, done-at, pooled-next, ones-done}
use Rattle.sy_bank.proofs.numbers.offer_ones.Goals as goal

pub loop-value-init : goal.loop-value-init
loop-value-init g c =
    let number = g.T.Theory.denotes in
    let w = world g.T.Theory.owned number c.args.task.now in
    let n = c.args.rule.now.nonterminal in
    let sort = c.args.rule.now.sort in
    let size = c.args.task.now.size in
    let start = level_state_of number c.args.filling.now in
    let first = level_state_of number c.offer_truths.new.filling in
    let second = level_state_of number c.offer_number.new.filling in
    let third = level_state_of number c.offer_number-2.new.filling in
    let onward = grows-on w first second third c.in_ok-offer_number.ensures.grows c.in_ok-offer_number-2.ensures.grows in
    record {
      steady = c.in_ok-offer_number-2.ensures.steady;
      grows = grows-on w start first third c.in_ok-offer_truths.ensures.grows onward;
      truths = λ truth. done-for w first third n sort size (Truth truth) onward (c.in_ok-offer_truths.ensures.done truth);
      naught = done-at w second third n sort size (pos 0) c.in_ok-offer_number-2.ensures.grows c.in_ok-offer_number.ensures.done;
      unit = c.in_ok-offer_number-2.ensures.done;
      pooled = λ i item below at. absurd (omega (arith, below));
    }

pub loop-value-preserved : goal.loop-value-preserved
loop-value-preserved g c =
    let number = g.T.Theory.denotes in
    let w = world g.T.Theory.owned number c.args.task.now in
    let n = c.args.rule.now.nonterminal in
    let sort = c.args.rule.now.sort in
    let size = c.args.task.now.size in
    let start = level_state_of number c.args.filling.now in
    let before = level_state_of number c.loop-value.filling in
    let after = level_state_of number c.offer_number-in-loop-value.new.filling in
    let grows = c.in_ok-offer_number-3.ensures.grows in
    let was = c.loop-value.invariant in
    let at = slice_get_read c.as_slice-value-items.result.now _ c.loop-value.value-index c.value-item.result refl c.loop-value-test.true c.value-item.is in
    let fits : SFits w128 c.number_of.result = search rules in
    let whole = to_z-of_z w128 c.number_of.result fits ∙ c.number_of.ensures in
    let done = subst (IsDoneAt w after n sort size) whole c.in_ok-offer_number-3.ensures.done in
    record {
      steady = c.in_ok-offer_number-3.ensures.steady;
      grows = grows-on w start before after was.grows grows;
      truths = λ truth. done-for w before after n sort size (Truth truth) grows (was.truths truth);
      naught = done-at w before after n sort size (pos 0) grows was.naught;
      unit = done-at w before after n sort size (pos 1) grows was.unit;
      pooled = pooled-next number w before after n sort size c.as_slice-value-items.result.now c.loop-value.value-index c.value-item.result grows was.pooled at done;
    }

pub returns-clause-grows : goal.returns-clause-grows
returns-clause-grows g c = c.loop-value.invariant.grows

pub returns-clause-done : goal.returns-clause-done
returns-clause-done g c =
    let number = g.T.Theory.denotes in
    let was = c.loop-value.invariant in
    ones-done number (world g.T.Theory.owned number c.args.task.now) (level_state_of number c.loop-value.filling) c.args.rule.now.nonterminal c.args.rule.now.sort c.args.task.now.size c.as_slice-value-items.result.now c.loop-value.value-index
    c.requires.one (λ i. vals_of number (sym c.as_slice-value-items.ensures i)) (omega (arith, c.loop-value-test.false)) was.truths was.naught was.unit was.pooled
