use Rattle.std.proofs.Common.{◌≡◌, ◌∙◌, sym, length}
use Rattle.std.proofs.lemmas.List.{length-map}
use Rattle.std.proofs.lemmas.Result.{IfOk-from_err}
use Rattle.sy_terms.specs.Denoted.{vals_of, expr_of}
use Rattle.sy_grammar_base.specs.Grown.{tree_of}
use Rattle.sy_bank_level.specs.Shared.{term_from-Leaf, tree_from-Leaf}
use Rattle.sy_bank_level.specs.Task.{world, IsStop, level_state_of, level_of}
use Rattle.sy_bank_level.proofs.Given.{new-row, found-done}
use Rattle.sy_bank_level.proofs.Nodes.{derived-fits}
use Rattle.sy_bank.proofs.Offered.{leaf-right}
use Rattle.sy_bank_level.specs.declared.filling.Stop.TheVariants.{Want}
use Rattle.sy_bank_level.proofs.Exits.{ends}
use Rattle.sy_bank.proofs.leaves_offering.offer_leaf.Goals as goal

pub term_row-requires-clause-points : goal.term_row-requires-clause-points
term_row-requires-clause-points g c k point at = (c.requires.task.set.points k point at).0

pub term_row-requires-clause-fits : goal.term_row-requires-clause-fits
term_row-requires-clause-fits g c =
    let number = g.T.Theory.denotes in
    let w = world g.T.Theory.owned number c.args.task.now in
    let set = c.requires.task.set in
    derived-fits g.T.Theory.numeric w.scope w.syntax w.points c.args.nonterminal (tree_of number c.args.derivation) (expr_of number c.args.term) g.met.T.Theory.negation set.formed set.points c.requires.known c.requires.derives

pub returns-then-has_row-clause-done : goal.returns-then-has_row-clause-done
returns-then-has_row-clause-done g c =
    let number = g.T.Theory.denotes in
    let w = world g.T.Theory.owned number c.args.task.now in
    let sized : c.args.task.now.size ≡ length w.levels = c.requires.task.sized ∙ sym (length-map c.args.task.now.levels.now (level_of number)) in
    let found = rw c.as_slice-2.ensures.value at c.if-has_row.ensures in
    rw sized (found-done w (level_state_of number c.args.filling.now) c.args.nonterminal (expr_of number c.args.term) (vals_of number c.in-Ok.row.items) c.requires.steady c.in-Ok.ensures.ok found)

pub keep-requires-clause-right : goal.keep-requires-clause-right
keep-requires-clause-right g c =
    let number = g.T.Theory.denotes in
    let w = world g.T.Theory.owned number c.args.task.now in
    let sized : c.args.task.now.size ≡ length w.levels = c.requires.task.sized ∙ sym (length-map c.args.task.now.levels.now (level_of number)) in
    rw (c.in_ok-new.ensures.ok, term_from-Leaf, tree_from-Leaf, c.from.ensures, sized)
    (leaf-right w c.args.nonterminal (tree_of number c.args.derivation) (expr_of number c.args.term) (vals_of number c.in-Ok.row.items) c.requires.derives (c.requires.sized ∙ sized) c.in-Ok.ensures.ok)

pub keep-requires-clause-differs : goal.keep-requires-clause-differs
keep-requires-clause-differs g c =
    let number = g.T.Theory.denotes in
    let hash = rw c.as_slice.ensures.value at c.row_hash-hash.ensures in
    let others = rw c.as_slice-2.ensures.value at c.if-has_row.ensures in
    rw c.from.ensures
    (new-row (world g.T.Theory.owned number c.args.task.now) (level_state_of number c.args.filling.now) c.args.nonterminal c.row_hash-hash.result (vals_of number c.in-Ok.row.items) c.requires.steady hash others)

pub returns-clause-done : goal.returns-clause-done
returns-clause-done g c = rw (c.in_ok-new.ensures.ok, term_from-Leaf) at c.keep.ensures.done

pub returns-in_err-new-clause-steady : goal.returns-in_err-new-clause-steady
returns-in_err-new-clause-steady g c = IfOk-from_err c.from_residual.result _ c.from_residual.ensures.0

pub returns-in_err-new-clause-grows : goal.returns-in_err-new-clause-grows
returns-in_err-new-clause-grows g c = IfOk-from_err c.from_residual.result _ c.from_residual.ensures.0

pub returns-in_err-new-clause-done : goal.returns-in_err-new-clause-done
returns-in_err-new-clause-done g c = IfOk-from_err c.from_residual.result _ c.from_residual.ensures.0

pub returns-in_err-new-clause-stop : goal.returns-in_err-new-clause-stop
returns-in_err-new-clause-stop g c =
    let number = g.T.Theory.denotes in
    ends (IsStop number (world g.T.Theory.owned number c.args.task.now) (level_state_of number c.args.filling.now)) c.from_residual.result Want c.from_residual.ensures.1 tt

pub returns-clause-steady : goal.returns-clause-steady
returns-clause-steady g c = c.keep.ensures.steady

pub returns-clause-grows : goal.returns-clause-grows
returns-clause-grows g c = c.keep.ensures.grows

pub returns-clause-stop : goal.returns-clause-stop
returns-clause-stop g c = c.keep.ensures.stop
