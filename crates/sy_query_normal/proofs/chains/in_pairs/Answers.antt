use Rattle.std.proofs.Common.{arith, ap, ◌∙◌}
use Rattle.std.proofs.lemmas.Result.{IfOk-from_err}
use Rattle.sy_terms.specs.Operators.{op_value}
use Rattle.sy_meaning_words.specs.Vectors.{vector}
use Rattle.sy_query_normal.proofs.Folds.{first_two}
use Rattle.sy_query_normal.proofs.chains.in_pairs.Goals as goal

pub returns-in_ok-whole-in-len2-up : goal.returns-in_ok-whole-in-len2-up
returns-in_ok-whole-in-len2-up c = λ values.
    c.in_ok-whole-in-len2-up.ensures values
    ∙ ap (op_value c.args.operator) (first_two vector values c.args.terms.now c.first-item.result c.second-item.result (omega (arith, c.in-len2-up.len_at_least)) c.first-item.is c.second-item.is)

pub returns-in_err-whole-in-len2-up : goal.returns-in_err-whole-in-len2-up
returns-in_err-whole-in-len2-up c = IfOk-from_err c.from_residual.result _ c.from_residual.ensures.0
