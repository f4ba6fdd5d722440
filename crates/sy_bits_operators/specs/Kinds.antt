-- Kinds of operators on two vectors of one width.
use Rattle.std.specs.Prelude.{Bool, true, false}
use Rattle.sy_terms.specs.declared.op.Op.{Op}
use Rattle.sy_terms.specs.declared.op.Op.TheVariants as ops

-- the operators that join vectors bit by bit
abbrev pub is_bitwise : Op → Bool
is_bitwise ops.BvAnd = true
is_bitwise ops.BvOr = true
is_bitwise ops.BvXor = true
is_bitwise ops.BvNand = true
is_bitwise ops.BvNor = true
is_bitwise ops.BvXnor = true
is_bitwise _ = false

-- the operators that ask how vectors stand in order
abbrev pub is_order : Op → Bool
is_order ops.BvUlt = true
is_order ops.BvUle = true
is_order ops.BvUgt = true
is_order ops.BvUge = true
is_order ops.BvSlt = true
is_order ops.BvSle = true
is_order ops.BvSgt = true
is_order ops.BvSge = true
is_order _ = false
