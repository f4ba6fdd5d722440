use Rattle.std.proofs.Common.{◌≡◌, ◌++◌, take}
use Rattle.sy_linear_known.proofs.coefficients.push_all.Given as goal

abbrev pub invariant-loop-coefficient : goal.invariant-loop-coefficient
invariant-loop-coefficient l = l.list ≡ l.fn.list ++ take l.coefficient-index l.others
