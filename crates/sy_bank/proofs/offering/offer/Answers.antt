use Rattle.std.proofs.Common.{◌≡◌, ◌∙◌, sym, arith, length}
use Rattle.std.proofs.lemmas.List.{length-map}
use Rattle.std.proofs.lemmas.Result.{IfOk-from_err}
use Rattle.sy_terms.specs.Denoted.{vals_of}
use Rattle.sy_grammar_base.specs.Patterns.{occurring, filled}
use Rattle.sy_grammar_base.specs.Written.{pattern_of}
use Rattle.sy_bank_level.specs.Covering.{terms}
use Rattle.sy_bank_level.specs.Stored.{entry_of, chosen_of}
use Rattle.sy_bank_columns.specs.Lent.{row_values}
use Rattle.sy_bank_level.specs.Task.{world, IsStop, level_state_of, level_of}
use Rattle.sy_bank_level.proofs.Given.{IsGiven, rows-below, given-fits, given-enough, given-right, given-dropped, new-row, found-done}
use Rattle.sy_bank_level.specs.declared.filling.Stop.TheVariants.{Want}
use Rattle.sy_bank_level.proofs.Exits.{ends}
use Rattle.sy_bank.proofs.offering.offer.Goals as goal

pub part_row-requires-clause-rows : goal.part_row-requires-clause-rows
part_row-requires-clause-rows g c =
    let number = g.T.Theory.denotes in
    rows-below (world g.T.Theory.owned number c.args.task.now) (level_state_of number c.args.filling.now) (occurring (pattern_of number c.args.template.now.part.now.value)) (chosen_of number c.args.chosen.now) c.requires.steady c.requires.chosen

pub part_row-requires-clause-enough : goal.part_row-requires-clause-enough
part_row-requires-clause-enough g c =
    let number = g.T.Theory.denotes in
    let w = world g.T.Theory.owned number c.args.task.now in
    let sized : c.args.task.now.size ≡ length w.levels = c.requires.task.sized ∙ sym (length-map c.args.task.now.levels.now (level_of number)) in
    let given : IsGiven g.T.Theory.numeric w c.args.template.now.nonterminal c.args.template.now.number (pattern_of number c.args.template.now.part.now.value) (chosen_of number c.args.chosen.now) =
    record { negation = g.met.T.Theory.negation; set = c.requires.task.set; rule_is = c.requires.rule; kept = c.requires.chosen; sized = c.requires.sized ∙ sized } in
    rw c.deref.ensures (omega (arith, given-enough g.T.Theory.numeric w (level_state_of number c.args.filling.now) c.args.template.now.nonterminal c.args.template.now.number (pattern_of number c.args.template.now.part.now.value) (chosen_of number c.args.chosen.now) c.requires.steady given, length-map c.args.chosen.now (λ kept. entry_of number kept.now)))

pub part_row-requires-clause-fits : goal.part_row-requires-clause-fits
part_row-requires-clause-fits g c =
    let number = g.T.Theory.denotes in
    let w = world g.T.Theory.owned number c.args.task.now in
    let sized : c.args.task.now.size ≡ length w.levels = c.requires.task.sized ∙ sym (length-map c.args.task.now.levels.now (level_of number)) in
    let given : IsGiven g.T.Theory.numeric w c.args.template.now.nonterminal c.args.template.now.number (pattern_of number c.args.template.now.part.now.value) (chosen_of number c.args.chosen.now) =
    record { negation = g.met.T.Theory.negation; set = c.requires.task.set; rule_is = c.requires.rule; kept = c.requires.chosen; sized = c.requires.sized ∙ sized } in
    rw c.deref.ensures (given-fits g.T.Theory.numeric w (level_state_of number c.args.filling.now) c.args.template.now.nonterminal c.args.template.now.number (pattern_of number c.args.template.now.part.now.value) (chosen_of number c.args.chosen.now) c.requires.steady given)

pub lose-requires-clause-lost : goal.lose-requires-clause-lost
lose-requires-clause-lost g c =
    let number = g.T.Theory.denotes in
    let w = world g.T.Theory.owned number c.args.task.now in
    let sized : c.args.task.now.size ≡ length w.levels = c.requires.task.sized ∙ sym (length-map c.args.task.now.levels.now (level_of number)) in
    let given : IsGiven g.T.Theory.numeric w c.args.template.now.nonterminal c.args.template.now.number (pattern_of number c.args.template.now.part.now.value) (chosen_of number c.args.chosen.now) =
    record { negation = g.met.T.Theory.negation; set = c.requires.task.set; rule_is = c.requires.rule; kept = c.requires.chosen; sized = c.requires.sized ∙ sized } in
    let lost = rw (c.in-Err-Lost.field-0-is, c.deref.ensures) at c.in-Err-Lost.ensures.lost in
    rw (c.in_ok-term-in-Err-Lost.ensures, c.deref-in-Err-Lost.ensures, sized) (given-dropped g.T.Theory.numeric w (level_state_of number c.args.filling.now) c.args.template.now.nonterminal c.args.template.now.number (pattern_of number c.args.template.now.part.now.value) (chosen_of number c.args.chosen.now) c.in-Err-Lost.point c.requires.steady given lost)

pub returns-then-has_row-clause-done : goal.returns-then-has_row-clause-done
returns-then-has_row-clause-done g c =
    let number = g.T.Theory.denotes in
    let w = world g.T.Theory.owned number c.args.task.now in
    let sized : c.args.task.now.size ≡ length w.levels = c.requires.task.sized ∙ sym (length-map c.args.task.now.levels.now (level_of number)) in
    let found = rw c.as_slice-2.ensures at c.if-has_row.ensures in
    rw sized (found-done w (level_state_of number c.args.filling.now) c.args.template.now.nonterminal (filled (pattern_of number c.args.template.now.part.now.value) (terms (chosen_of number c.args.chosen.now))) (vals_of number (row_values c.in-Ok.row)) c.requires.steady (rw c.deref.ensures at c.in-Ok.ensures.ok) found)

pub keep-requires-clause-right : goal.keep-requires-clause-right
keep-requires-clause-right g c =
    let number = g.T.Theory.denotes in
    let w = world g.T.Theory.owned number c.args.task.now in
    let sized : c.args.task.now.size ≡ length w.levels = c.requires.task.sized ∙ sym (length-map c.args.task.now.levels.now (level_of number)) in
    let given : IsGiven g.T.Theory.numeric w c.args.template.now.nonterminal c.args.template.now.number (pattern_of number c.args.template.now.part.now.value) (chosen_of number c.args.chosen.now) =
    record { negation = g.met.T.Theory.negation; set = c.requires.task.set; rule_is = c.requires.rule; kept = c.requires.chosen; sized = c.requires.sized ∙ sized } in
    rw (c.in_ok-grown.ensures.term, c.in_ok-grown.ensures.tree, c.in_ok-into_values.ensures, sized)
    (given-right g.T.Theory.numeric w (level_state_of number c.args.filling.now) c.args.template.now.nonterminal c.args.template.now.number (pattern_of number c.args.template.now.part.now.value) (chosen_of number c.args.chosen.now) (vals_of number (row_values c.in-Ok.row)) c.requires.steady given (rw c.deref.ensures at c.in-Ok.ensures.ok))

pub keep-requires-clause-differs : goal.keep-requires-clause-differs
keep-requires-clause-differs g c =
    let number = g.T.Theory.denotes in
    let hash = rw c.as_slice.ensures at c.row_hash-hash.ensures in
    let others = rw c.as_slice-2.ensures at c.if-has_row.ensures in
    rw c.in_ok-into_values.ensures
    (new-row (world g.T.Theory.owned number c.args.task.now) (level_state_of number c.args.filling.now) c.args.template.now.nonterminal c.row_hash-hash.result (vals_of number (row_values c.in-Ok.row)) c.requires.steady hash others)

pub returns-in_err-term-in-Err-Lost-clause-steady : goal.returns-in_err-term-in-Err-Lost-clause-steady
returns-in_err-term-in-Err-Lost-clause-steady g c = IfOk-from_err c.from_residual.result _ c.from_residual.ensures.0

pub returns-in_err-term-in-Err-Lost-clause-grows : goal.returns-in_err-term-in-Err-Lost-clause-grows
returns-in_err-term-in-Err-Lost-clause-grows g c = IfOk-from_err c.from_residual.result _ c.from_residual.ensures.0

pub returns-in_err-term-in-Err-Lost-clause-done : goal.returns-in_err-term-in-Err-Lost-clause-done
returns-in_err-term-in-Err-Lost-clause-done g c = IfOk-from_err c.from_residual.result _ c.from_residual.ensures.0

pub returns-in_err-term-in-Err-Lost-clause-stop : goal.returns-in_err-term-in-Err-Lost-clause-stop
returns-in_err-term-in-Err-Lost-clause-stop g c =
    let number = g.T.Theory.denotes in
    ends (IsStop number (world g.T.Theory.owned number c.args.task.now) (level_state_of number c.args.filling.now)) c.from_residual.result Want c.from_residual.ensures.1 tt

pub returns-in_err-grown-clause-steady : goal.returns-in_err-grown-clause-steady
returns-in_err-grown-clause-steady g c = IfOk-from_err c.from_residual-in_err-grown.result _ c.from_residual-in_err-grown.ensures.0

pub returns-in_err-grown-clause-grows : goal.returns-in_err-grown-clause-grows
returns-in_err-grown-clause-grows g c = IfOk-from_err c.from_residual-in_err-grown.result _ c.from_residual-in_err-grown.ensures.0

pub returns-in_err-grown-clause-done : goal.returns-in_err-grown-clause-done
returns-in_err-grown-clause-done g c = IfOk-from_err c.from_residual-in_err-grown.result _ c.from_residual-in_err-grown.ensures.0

pub returns-in_err-grown-clause-stop : goal.returns-in_err-grown-clause-stop
returns-in_err-grown-clause-stop g c =
    let number = g.T.Theory.denotes in
    ends (IsStop number (world g.T.Theory.owned number c.args.task.now) (level_state_of number c.args.filling.now)) c.from_residual-in_err-grown.result Want c.from_residual-in_err-grown.ensures.1 tt

pub returns-in_err-into_values-clause-steady : goal.returns-in_err-into_values-clause-steady
returns-in_err-into_values-clause-steady g c = IfOk-from_err c.from_residual-in_err-into_values.result _ c.from_residual-in_err-into_values.ensures.0

pub returns-in_err-into_values-clause-grows : goal.returns-in_err-into_values-clause-grows
returns-in_err-into_values-clause-grows g c = IfOk-from_err c.from_residual-in_err-into_values.result _ c.from_residual-in_err-into_values.ensures.0

pub returns-in_err-into_values-clause-done : goal.returns-in_err-into_values-clause-done
returns-in_err-into_values-clause-done g c = IfOk-from_err c.from_residual-in_err-into_values.result _ c.from_residual-in_err-into_values.ensures.0

pub returns-in_err-into_values-clause-stop : goal.returns-in_err-into_values-clause-stop
returns-in_err-into_values-clause-stop g c =
    let number = g.T.Theory.denotes in
    ends (IsStop number (world g.T.Theory.owned number c.args.task.now) (level_state_of number c.args.filling.now)) c.from_residual-in_err-into_values.result Want c.from_residual-in_err-into_values.ensures.1 tt

pub returns-clause-steady : goal.returns-clause-steady
returns-clause-steady g c = c.keep.ensures.steady

pub returns-clause-grows : goal.returns-clause-grows
returns-clause-grows g c = c.keep.ensures.grows

pub returns-clause-stop : goal.returns-clause-stop
returns-clause-stop g c = c.keep.ensures.stop
