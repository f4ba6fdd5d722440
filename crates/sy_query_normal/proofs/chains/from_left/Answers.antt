use Rattle.std.proofs.Common.{[], ◌∷◌, arith, take, ap, ◌∙◌}
use Rattle.std.proofs.lemmas.List.{take_all, take_more}
use Rattle.std.proofs.lemmas.Result.{IfOk-from_err}
use Rattle.sy_terms.specs.Operators.{op_value}
use Rattle.sy_terms.specs.Denoted.{expr_of, exprs_of}
use Rattle.sy_terms.specs.Meaning.{meaning, meanings}
use Rattle.sy_meaning_words.specs.Vectors.{vector}
use Rattle.sy_query_normal.proofs.Folds.{first_folded, next_folded}
use Rattle.sy_query_normal.proofs.chains.from_left.Goals as goal

pub loop-term-init : goal.loop-term-init
unfolding meanings
loop-term-init c = first_folded c.args.operator (expr_of vector c.args.first.now) (expr_of vector c.args.second.now) (expr_of vector c.in_ok-whole.whole) c.in_ok-whole.ensures

pub loop-term-preserved : goal.loop-term-preserved
loop-term-preserved c =
    let more = take_more c.args.rest.now c.loop-term.term-index c.term-item.result (grind arith) in
    rw (more, ← c.term-item.is)
    (next_folded vector c.args.operator (expr_of vector c.args.first.now) (expr_of vector c.args.second.now) (expr_of vector c.loop-term.whole) (expr_of vector c.in_ok-whole-2.whole) (take c.loop-term.term-index c.args.rest.now) c.term-item.result c.requires c.loop-term.invariant c.in_ok-whole-2.ensures)

pub returns : goal.returns
returns c = λ values.
    let whole = take_all c.loop-term.term-index c.args.rest.now (grind arith) in
    c.loop-term.invariant values ∙ ap (λ list. op_value c.args.operator (meaning [] [] values (expr_of vector c.args.first.now) ∷ meaning [] [] values (expr_of vector c.args.second.now) ∷ meanings [] [] values (exprs_of vector list))) whole

pub returns-in_err-whole : goal.returns-in_err-whole
returns-in_err-whole c = IfOk-from_err c.from_residual.result _ c.from_residual.ensures.0

pub returns-in_err-whole-2 : goal.returns-in_err-whole-2
returns-in_err-whole-2 c = IfOk-from_err c.from_residual-in_err-whole-2.result _ c.from_residual-in_err-whole-2.ensures.0
