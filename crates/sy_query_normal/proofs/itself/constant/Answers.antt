use Rattle.std.proofs.Common.{refl}
use Rattle.sy_terms.specs.Denoted.{expr_of-Const}
use Rattle.sy_query_normal.proofs.itself.constant.Goals as goal

pub returns : goal.returns
returns c = rw (expr_of-Const, c.in_ok-word.ensures.0, c.in_ok-word.ensures.1) refl
