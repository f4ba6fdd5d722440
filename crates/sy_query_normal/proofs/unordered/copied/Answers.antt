use Rattle.std.proofs.Common.{arith, take}
use Rattle.std.proofs.lemmas.List.{take_more}
use Rattle.std.proofs.lemmas.Result.{IfOk-from_err}
use Rattle.sy_meaning_words.specs.Vectors.{vector}
use Rattle.sy_query_base.proofs.Lists.{one_more}
use Rattle.sy_query_normal.proofs.unordered.copied.Goals as goal

pub loop-term-preserved : goal.loop-term-preserved
loop-term-preserved c =
    let more = take_more c.args.terms.now c.loop-term.term-index c.term-item.result (grind arith) in
    rw (more, ← c.term-item.is, c.in_ok-push.ensures.ok)
    (one_more vector c.loop-term.copies.items.items (take c.loop-term.term-index c.args.terms.now) c.in_ok-copy.copy c.term-item.result c.loop-term.invariant c.in_ok-copy.ensures)

pub returns-in_err-copies : goal.returns-in_err-copies
returns-in_err-copies c = IfOk-from_err c.from_residual.result _ c.from_residual.ensures.0

pub returns-in_err-copy : goal.returns-in_err-copy
returns-in_err-copy c = IfOk-from_err c.from_residual-in_err-copy.result _ c.from_residual-in_err-copy.ensures.0

pub returns-in_err-push : goal.returns-in_err-push
returns-in_err-push c = IfOk-from_err c.from_residual-in_err-push.result _ c.from_residual-in_err-push.ensures.0
