use Rattle.std.proofs.Common.{[], ◌∷◌, arith, take, ap, ◌∙◌}
use Rattle.std.proofs.lemmas.List.{take_all, take_more}
use Rattle.std.proofs.lemmas.Result.{IfOk-from_err}
use Rattle.sy_terms.specs.Operators.{op_value}
use Rattle.sy_terms.specs.Denoted.{exprs_of}
use Rattle.sy_terms.specs.Meaning.{meanings}
use Rattle.sy_meaning_words.specs.Vectors.{vector}
use Rattle.sy_query_normal.proofs.Terms.{ordered_more}
use Rattle.sy_query_normal.proofs.parts.in_order.Goals as goal

pub loop-part-preserved : goal.loop-part-preserved
loop-part-preserved c = λ law values are.
    let more = take_more c.args.parts.now c.loop-part.part-index c.part-item.result (grind arith) in
    let sorted = c.in_ok-has_sort.ensures c.if-not-branch.false values are in
    rw (more, ← c.part-item.is)
    (ordered_more vector c.args.sort c.args.operator law values c.loop-part.ordered.items c.insert.new.parts.items (take c.loop-part.part-index c.args.parts.now) c.part-item.result sorted (c.loop-part.invariant law values are) (c.in_ok-insert.ensures c.args.sort law values sorted))

pub returns : goal.returns
returns c = λ law values are first fits.
    let whole = take_all c.loop-part.part-index c.args.parts.now (grind arith) in
    c.loop-part.invariant law values are first fits ∙ ap (λ list. op_value c.args.operator (first ∷ meanings [] [] values (exprs_of vector list))) whole

pub returns-in_err-ordered : goal.returns-in_err-ordered
returns-in_err-ordered c = IfOk-from_err c.from_residual.result _ c.from_residual.ensures.0

pub returns-in_err-has_sort : goal.returns-in_err-has_sort
returns-in_err-has_sort c = IfOk-from_err c.from_residual-in_err-has_sort.result _ c.from_residual-in_err-has_sort.ensures.0

pub returns-in_err-insert : goal.returns-in_err-insert
returns-in_err-insert c = IfOk-from_err c.from_residual-in_err-insert.result _ c.from_residual-in_err-insert.ensures.0
