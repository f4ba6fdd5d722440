use Rattle.std.proofs.Common.{[], ◌∷◌, arith, take, ap, ◌∙◌}
use Rattle.std.proofs.lemmas.List.{take_all, take_more}
use Rattle.std.proofs.lemmas.Result.{IfOk-from_err}
use Rattle.sy_terms.specs.Operators.{op_value}
use Rattle.sy_terms.specs.Denoted.{exprs_of}
use Rattle.sy_terms.specs.Meaning.{meanings}
use Rattle.sy_meaning_words.specs.Vectors.{vector}
use Rattle.sy_query_normal.proofs.Terms.{flat_more}
use Rattle.sy_query_normal.proofs.parts.flattened.Goals as goal

pub loop-term-preserved : goal.loop-term-preserved
loop-term-preserved c = λ sort law values first.
    let more = take_more c.args.terms.now c.loop-term.term-index c.term-item.result (grind arith) in
    rw (more, ← c.term-item.is, c.in_ok-append.ensures.items)
    (flat_more vector sort c.args.operator law values c.loop-term.parts.items c.in_ok-more.more.items (take c.loop-term.term-index c.args.terms.now) c.term-item.result (c.loop-term.invariant sort law values) (c.in_ok-more.ensures sort law values) first)

pub returns : goal.returns
returns c = λ sort law values first.
    let whole = take_all c.loop-term.term-index c.args.terms.now (grind arith) in
    c.loop-term.invariant sort law values first ∙ ap (λ list. op_value c.args.operator (first ∷ meanings [] [] values (exprs_of vector list))) whole

pub returns-in_err-parts : goal.returns-in_err-parts
returns-in_err-parts c = IfOk-from_err c.from_residual.result _ c.from_residual.ensures.0

pub returns-in_err-more : goal.returns-in_err-more
returns-in_err-more c = IfOk-from_err c.from_residual-in_err-more.result _ c.from_residual-in_err-more.ensures.0

pub returns-in_err-append : goal.returns-in_err-append
returns-in_err-append c = IfOk-from_err c.from_residual-in_err-append.result _ c.from_residual-in_err-append.ensures.0
