use Rattle.std.proofs.lemmas.Result.{IfOk-from_err}
use Rattle.sy_terms.specs.Denoted.{expr_of}
use Rattle.sy_meaning_words.specs.Vectors.{vector}
use Rattle.sy_query_normal.proofs.Pairs.{branch_same}
use Rattle.sy_query_normal.proofs.choices.chosen.Goals as goal

pub returns : goal.returns
returns c = λ sorts.
    branch_same vector sorts (expr_of vector c.in_ok-term.term) (expr_of vector c.in-Some.branch.now) c.args.arguments.now.items.items c.in_ok-term.ensures c.in-Some.ensures

pub returns-in_err-term : goal.returns-in_err-term
returns-in_err-term c = IfOk-from_err c.from_residual.result _ c.from_residual.ensures.0
