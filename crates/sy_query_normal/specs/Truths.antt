-- Operators that say whether something holds.
use Rattle.std.specs.Prelude.{Bool, true, false}
use Rattle.sy_terms.specs.declared.op.Op.{Op}
use Rattle.sy_terms.specs.declared.op.Op.TheVariants as ops

-- the operator's value is a truth value at any arguments
abbrev pub gives_truth : Op → Bool
gives_truth ops.Not = true
gives_truth ops.And = true
gives_truth ops.Or = true
gives_truth ops.Implies = true
gives_truth ops.Equal = true
gives_truth ops.Distinct = true
gives_truth ops.BvUlt = true
gives_truth ops.BvUle = true
gives_truth ops.BvUgt = true
gives_truth ops.BvUge = true
gives_truth ops.BvSlt = true
gives_truth ops.BvSle = true
gives_truth ops.BvSgt = true
gives_truth ops.BvSge = true
gives_truth _ = false
