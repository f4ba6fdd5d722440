use Rattle.std.proofs.lemmas.Result.{IfOk-from_err}
use Rattle.sy_grammar_base.specs.Grown.{syntax_from}
use Rattle.sy_grammar_sizes.proofs.Marks.{marking_more, unset_less, marks_done}
use Rattle.sy_grammar_sizes.proofs.chains.reached.Goals as goal

pub loop-to-smaller : goal.loop-to-smaller
loop-to-smaller g c =
    let said = rw c.in-Some.is at c.next_mark.ensures in
    let next = rw (c.as_slice.ensures.value) at said in
    unset_less c.loop-to.marks.items c.in-Some.to next.unset

pub loop-to-preserved : goal.loop-to-preserved
loop-to-preserved g c =
    let said = rw c.in-Some.is at c.next_mark.ensures in
    let next = rw (c.as_slice.ensures.value) at said in
    marking_more (syntax_from g.T.Theory.denotes c.args.g.now) c.args.from c.loop-to.marks.items c.in-Some.to c.loop-to.invariant next

pub returns : goal.returns
returns g c =
    let said = rw c.in_default.is at c.next_mark.ensures in
    let full = rw (c.as_slice.ensures.value) at said in
    marks_done (syntax_from g.T.Theory.denotes c.args.g.now) c.args.from c.loop-to.marks.items c.loop-to.invariant full

pub returns-in_err-marks : goal.returns-in_err-marks
returns-in_err-marks g c = IfOk-from_err c.from_residual.result _ c.from_residual.ensures.0
