use Rattle.sy_query_normal.proofs.Truths.{truths_and, truths_or}
use Rattle.sy_query_normal.proofs.Vectors.{vector_and, vector_or, vector_xor}
use Rattle.sy_query_normal.proofs.unordered.is_unordered.Goals as goal

pub returns-in-And : goal.returns-in-And
returns-in-And c = λ does. rw (c.in-And.is, c.is_truth.ensures does) truths_and

pub returns-in-Or : goal.returns-in-Or
returns-in-Or c = λ does. rw (c.in-Or.is, c.is_truth-in-Or.ensures does) truths_or

pub returns-in-BvAnd : goal.returns-in-BvAnd
returns-in-BvAnd c = λ does. let is = c.is_vector.ensures does in rw (c.in-BvAnd.is, is.1) (vector_and is.0)

pub returns-in-BvOr : goal.returns-in-BvOr
returns-in-BvOr c = λ does. let is = c.is_vector-in-BvOr.ensures does in rw (c.in-BvOr.is, is.1) (vector_or is.0)

pub returns-in-BvXor : goal.returns-in-BvXor
returns-in-BvXor c = λ does. let is = c.is_vector-in-BvXor.ensures does in rw (c.in-BvXor.is, is.1) (vector_xor is.0)
