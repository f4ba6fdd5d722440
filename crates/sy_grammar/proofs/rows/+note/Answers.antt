use Rattle.std.proofs.Common.{sym, ap, ◌∙◌, take, ◌++◌, ◌∷◌, []}
use Rattle.std.proofs.lemmas.List.{take_more}
use Rattle.sy_terms.specs.Denoted.{expr_of, expr_of-Const, expr_of-Var, expr_of-App, expr_of-Call, expr_of-Let}
use Rattle.sy_grammar_base.specs.Grown.{syntax_from}
use Rattle.sy_grammar.specs.Noted.{notes_of}
use Rattle.sy_grammar.specs.Rows.{AreNoted, arguments_of}
use Rattle.sy_grammar.proofs.Closing.{noted_none, noted_then, noted_last}
use Rattle.sy_grammar.proofs.rows.+note.Goals as goal
use Rattle.sy_grammar.proofs.rows.+note.Goals.{note-in-App+in_ok-below-in-App, note-in-Call+in_ok-below-in-Call, note-in-Const, note-in-Var, note-in-Let}

pub note-note_above-requires-clause-right : goal.note-note_above-requires-clause-right
note-note_above-requires-clause-right g t c =
    let number = g.T.Theory.denotes in
    let below : AreNoted number (syntax_from number c.args.grammar.now) (arguments_of (expr_of number c.args.term.now)) (notes_of c.match-term.below.items) c.args.steps.now.items c.match-term.steps.items =
    elim c.match-term.branch [
      | note-in-App+in_ok-below-in-App w ↦ rw (w.steps-is, w.below-is, w.in-App.is, expr_of-App) (w.in_ok-below-in-App.ensures)
      | note-in-Call+in_ok-below-in-Call w ↦ rw (w.steps-is, w.below-is, w.in-Call.is, expr_of-Call) (w.in_ok-below-in-Call.ensures)
      | note-in-Const w ↦ rw (w.steps-is, w.below-is, w.in-Const.is, expr_of-Const, w.new-below.ensures.items) (noted_none number _ _ c.requires.ordered)
      | note-in-Var w ↦ rw (w.steps-is, w.below-is, w.in-Var.is, expr_of-Var, w.new-below-in-Var.ensures.items) (noted_none number _ _ c.requires.ordered)
      | note-in-Let w ↦ rw (w.steps-is, w.below-is, w.in-Let.is, expr_of-Let, w.new-below-in-Let.ensures.items) (noted_none number _ _ c.requires.ordered)
    ] in
    below.right

pub note-returns : goal.note-returns
note-returns g t c =
    let number = g.T.Theory.denotes in
    let below : AreNoted number (syntax_from number c.args.grammar.now) (arguments_of (expr_of number c.args.term.now)) (notes_of c.match-term.below.items) c.args.steps.now.items c.match-term.steps.items =
    elim c.match-term.branch [
      | note-in-App+in_ok-below-in-App w ↦ rw (w.steps-is, w.below-is, w.in-App.is, expr_of-App) (w.in_ok-below-in-App.ensures)
      | note-in-Call+in_ok-below-in-Call w ↦ rw (w.steps-is, w.below-is, w.in-Call.is, expr_of-Call) (w.in_ok-below-in-Call.ensures)
      | note-in-Const w ↦ rw (w.steps-is, w.below-is, w.in-Const.is, expr_of-Const, w.new-below.ensures.items) (noted_none number _ _ c.requires.ordered)
      | note-in-Var w ↦ rw (w.steps-is, w.below-is, w.in-Var.is, expr_of-Var, w.new-below-in-Var.ensures.items) (noted_none number _ _ c.requires.ordered)
      | note-in-Let w ↦ rw (w.steps-is, w.below-is, w.in-Let.is, expr_of-Let, w.new-below-in-Let.ensures.items) (noted_none number _ _ c.requires.ordered)
    ] in
    noted_then number _ _ _ c.args.steps.now.items c.match-term.steps.items _ below.grown c.in_ok-note.ensures

pub notes-loop-term-init : goal.notes-loop-term-init
notes-loop-term-init g t c = rw (c.new-notes.ensures.items) (noted_none g.T.Theory.denotes _ _ c.requires.ordered)

pub notes-loop-term-preserved : goal.notes-loop-term-preserved
notes-loop-term-preserved g t c =
    let items = c.as_slice-term-items.result.now in
    let i = c.loop-term.term-index in
    let more = take_more items i c.term-item.result c.loop-term-test.true ∙ ap (λ x. take i items ++ x ∷ []) (sym c.term-item.is) in
    rw (c.in_ok-push.ensures.items) (noted_last g.T.Theory.denotes _ (take i items) _ c.loop-term.notes.items c.term-item.result c.in_ok-next.next c.args.steps.now.items c.loop-term.steps.items _ c.loop-term.invariant c.in_ok-next.ensures more)
