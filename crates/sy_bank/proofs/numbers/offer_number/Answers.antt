use mir.Syntax.{w128}
use Rattle.std.proofs.Common.{◌∙◌, ap, subst, Some, None}
use Rattle.std.specs.Prelude.{if◌then◌else◌}
use Rattle.std.proofs.lemmas.Int.{to_z-of_z}
use Rattle.sy_terms.specs.Theories.{value_at}
use Rattle.std.proofs.lemmas.Option.{none-some, same_Some}
use Rattle.sy_bank_level.specs.Task.{world, level_state_of}
use Rattle.sy_bank.specs.Leaves.{IsDoneFor}
use Rattle.sy_bank.proofs.ConstantSizes.{found-is}
use Rattle.sy_bank.proofs.Offered.{known-sort}
use Rattle.sy_bank.proofs.numbers.offer_number.Goals as goal

pub returns-in_ok-offer_constant-in-Some-clause-done : goal.returns-in_ok-offer_constant-in-Some-clause-done
returns-in_ok-offer_constant-in-Some-clause-done g c value at =
    let number = g.T.Theory.denotes in
    let w = world g.T.Theory.owned number c.args.task.now in
    let rule = c.args.rule.now in
    let whole = to_z-of_z w128 c.args.number c.ranges.number in
    let found = (rw c.in-Some.is at c.of_number.ensures) ∙ ap (λ z. if g.T.Theory.numeric rule.sort then value_at rule.sort z else None) whole in
    let is = found-is g.T.Theory.numeric rule.sort c.args.number value (Some (number c.in-Some.found)) (known-sort g.T.Theory.numeric w rule.nonterminal rule.number rule.sort c.requires.task.set c.requires.rule) found at in
    subst (IsDoneFor w (level_state_of number c.offer_constant.new.filling) rule.nonterminal rule.sort c.args.task.now.size) (same_Some (number c.in-Some.found) value is) c.in_ok-offer_constant-in-Some.ensures.done

pub returns-in-None-clause-done : goal.returns-in-None-clause-done
returns-in-None-clause-done g c value at given sized =
    let number = g.T.Theory.denotes in
    let w = world g.T.Theory.owned number c.args.task.now in
    let rule = c.args.rule.now in
    let whole = to_z-of_z w128 c.args.number c.ranges.number in
    let found = (rw c.in-None.is at c.of_number.ensures) ∙ ap (λ z. if g.T.Theory.numeric rule.sort then value_at rule.sort z else None) whole in
    absurd (none-some value (found-is g.T.Theory.numeric rule.sort c.args.number value None (known-sort g.T.Theory.numeric w rule.nonterminal rule.number rule.sort c.requires.task.set c.requires.rule) found at))
