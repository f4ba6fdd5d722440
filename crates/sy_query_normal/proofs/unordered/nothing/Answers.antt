use Rattle.sy_terms.specs.Denoted.{expr_of-Const}
use Rattle.sy_terms.specs.Meaning.{meaning}
use Rattle.sy_query_normal.proofs.Vectors.{zero_nothing}
use Rattle.sy_query_normal.proofs.unordered.nothing.Goals as goal

pub returns : goal.returns
unfolding meaning
returns c = λ values. rw (expr_of-Const, c.in-BvXor.is, c.in-Bits.is, c.in_ok-word.ensures.0, c.in_ok-word.ensures.1) (zero_nothing c.in-Bits.width)
