use Rattle.std.proofs.Common.{List, ◌∷◌, take}
use Rattle.sy_terms.specs.Values.{Val}
use Rattle.sy_terms.specs.Operators.{op_value}
use Rattle.sy_rewrite_orders.specs.Sums.{HasSum, HaveSums}
use Rattle.sy_rewrite_orders.proofs.operators.of_many.Given as goal

abbrev pub invariant-loop-sum : goal.invariant-loop-sum
invariant-loop-sum l = (values arguments : List Val) → HaveSums values (l.first ∷ l.second ∷ take l.sum-index l.rest) arguments → HasSum values l.whole (op_value l.operator arguments)
