use Rattle.std.proofs.Common.{ap}
use Rattle.std.specs.Int.{w128}
use Rattle.std.proofs.lemmas.Int.{to_z-of_z}
use Rattle.sy_terms.specs.Values.{Whole}
use Rattle.sy_terms.specs.Expr.{Constant}
use Rattle.sy_terms.specs.Denoted.{expr_of-Const}
use Rattle.sy_lower.proofs.terms.number.Goals as goal

pub returns : goal.returns
returns c = rw (expr_of-Const) (ap (λ z. Constant (Whole z)) (to_z-of_z w128 c.args.value c.ranges.value))
