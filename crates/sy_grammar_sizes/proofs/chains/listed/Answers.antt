use Rattle.std.proofs.Common.{◌∙◌, ap, Some, false}
use Rattle.std.proofs.lemmas.Option.{slice_get-get_or}
use Rattle.sy_grammar_sizes.proofs.Marks.{list_more, list_skip, list_done}
use Rattle.sy_grammar_sizes.proofs.chains.listed.Goals as goal
use Rattle.sy_grammar_sizes.proofs.chains.listed.Goals.{then-mark+in_ok-push, else-mark}

pub loop-i-preserved : goal.loop-i-preserved
loop-i-preserved c =
    let marks = c.args.marks.now in
    let at = slice_get-get_or marks c.loop-i.i false c.loop-i-test.true in
    elim c.if-mark.branch [
      | then-mark+in_ok-push w ↦ rw (w.list-is, w.in_ok-push.ensures.ok) (list_more marks c.loop-i.i c.loop-i.list c.loop-i.invariant (at ∙ ap Some w.if-mark.true))
      | else-mark w ↦ rw (w.list-is) (list_skip marks c.loop-i.i c.loop-i.list c.loop-i.invariant (at ∙ ap Some w.if-mark.false))
    ]

pub returns-clause-whole : goal.returns-clause-whole
returns-clause-whole c = list_done c.args.marks.now c.loop-i.i c.loop-i.list c.loop-i.invariant c.loop-i-test.false
