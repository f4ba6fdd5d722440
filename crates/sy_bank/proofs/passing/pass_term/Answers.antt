use Rattle.std.proofs.Common.{◌≡◌, ◌∙◌, ap, sym, subst, length}
use Rattle.std.proofs.lemmas.List.{length-map}
use Rattle.std.proofs.lemmas.Result.{IfOk-from_err}
use Rattle.sy_terms.specs.Denoted.{vals_of}
use Rattle.sy_bank_level.specs.Banks.{Entry}
use Rattle.sy_bank_level.specs.Stored.{entry_of}
use Rattle.sy_bank_level.specs.Filling.{EntryIsRight}
use Rattle.sy_bank_level.specs.Task.{world, level_state_of, level_of}
use Rattle.sy_bank_level.proofs.Given.{new-row}
use Rattle.sy_bank.proofs.Entries.{passed-right, passed-found}
use Rattle.sy_bank.proofs.passing.pass_term.Goals as goal

pub returns-then-has_row-clause-done : goal.returns-then-has_row-clause-done
returns-then-has_row-clause-done g c =
    let number = g.T.Theory.denotes in
    let w = world g.T.Theory.owned number c.args.task.now in
    let sized : c.args.task.now.size ≡ length w.levels = c.requires.task.sized ∙ sym (length-map c.args.task.now.levels.now (level_of number)) in
    let at = rw c.in-Some.is at c.get.ensures in
    let found = rw c.as_slice-2.ensures at c.if-has_row.ensures in
    passed-found w (level_state_of number c.args.filling.now) c.args.chain.now.nonterminal c.args.chain.now.to c.args.place c.args.task.now.size (entry_of number c.in-Some.kept.now) c.requires.steady sized at found

pub keep-requires-clause-right : goal.keep-requires-clause-right
keep-requires-clause-right g c =
    let number = g.T.Theory.denotes in
    let w = world g.T.Theory.owned number c.args.task.now in
    let sized : c.args.task.now.size ≡ length w.levels = c.requires.task.sized ∙ sym (length-map c.args.task.now.levels.now (level_of number)) in
    let at = rw c.in-Some.is at c.get.ensures in
    subst (EntryIsRight w c.args.chain.now.nonterminal c.args.task.now.size) (sym c.in_ok-passed.ensures)
    (passed-right w (level_state_of number c.args.filling.now) c.args.chain.now.nonterminal c.args.chain.now.number c.args.chain.now.to c.args.place c.args.task.now.size (entry_of number c.in-Some.kept.now) c.requires.steady sized c.requires.chain at)

pub keep-requires-clause-differs : goal.keep-requires-clause-differs
keep-requires-clause-differs g c other kept same =
    let number = g.T.Theory.denotes in
    let hash = rw c.as_slice.ensures at c.row_hash-hash.ensures in
    let others = rw c.as_slice-2.ensures at c.if-has_row.ensures in
    let row = ap (λ (e : Entry). e.row) c.in_ok-passed.ensures in
    new-row (world g.T.Theory.owned number c.args.task.now) (level_state_of number c.args.filling.now) c.args.chain.now.nonterminal c.row_hash-hash.result (vals_of number c.in-Some.kept.now.row) c.requires.steady hash others other kept (same ∙ row)

pub returns-in_err-passed-clause-steady : goal.returns-in_err-passed-clause-steady
returns-in_err-passed-clause-steady g c = IfOk-from_err c.from_residual.result _ c.from_residual.ensures.0

pub returns-in_err-passed-clause-grows : goal.returns-in_err-passed-clause-grows
returns-in_err-passed-clause-grows g c = IfOk-from_err c.from_residual.result _ c.from_residual.ensures.0

pub returns-in_err-passed-clause-done : goal.returns-in_err-passed-clause-done
returns-in_err-passed-clause-done g c = IfOk-from_err c.from_residual.result _ c.from_residual.ensures.0

pub returns-in_err-keep-clause-steady : goal.returns-in_err-keep-clause-steady
returns-in_err-keep-clause-steady g c = IfOk-from_err c.from_residual-in_err-keep.result _ c.from_residual-in_err-keep.ensures.0

pub returns-in_err-keep-clause-grows : goal.returns-in_err-keep-clause-grows
returns-in_err-keep-clause-grows g c = IfOk-from_err c.from_residual-in_err-keep.result _ c.from_residual-in_err-keep.ensures.0

pub returns-in_err-keep-clause-done : goal.returns-in_err-keep-clause-done
returns-in_err-keep-clause-done g c = IfOk-from_err c.from_residual-in_err-keep.result _ c.from_residual-in_err-keep.ensures.0
