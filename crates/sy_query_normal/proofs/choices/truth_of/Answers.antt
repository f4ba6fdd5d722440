use Rattle.sy_terms.specs.Denoted.{expr_of, expr_of-Const, val_of}
use Rattle.sy_meaning_words.specs.Vectors.{vector}
use Rattle.sy_query_normal.proofs.Pairs.{constant_truth}
use Rattle.sy_query_normal.proofs.choices.truth_of.Goals as goal

pub returns-in-Const : goal.returns-in-Const
returns-in-Const c =
    constant_truth c.truth_in.result (expr_of vector c.args.term.now) (val_of vector c.in-Const.value) (rw c.in-Const.is (expr_of-Const _ vector c.in-Const.value)) c.truth_in.ensures
