-- Worked values of the vector operators at width 4.
use Rattle.std.specs.Prelude.{◌≡◌, refl, [], ◌∷◌}
use Rattle.sy_terms.specs.Values.{Bits}
use Rattle.sy_terms.specs.Operators.{op_value}
use Rattle.sy_terms.specs.declared.op.Op.TheVariants as ops

bvsdiv_9_2 : op_value ops.BvSdiv (Bits 4 9 ∷ Bits 4 2 ∷ []) ≡ Bits 4 13
unfolding op_value
bvsdiv_9_2 = refl

bvsrem_9_2 : op_value ops.BvSrem (Bits 4 9 ∷ Bits 4 2 ∷ []) ≡ Bits 4 15
unfolding op_value
bvsrem_9_2 = refl

bvsmod_9_2 : op_value ops.BvSmod (Bits 4 9 ∷ Bits 4 2 ∷ []) ≡ Bits 4 1
unfolding op_value
bvsmod_9_2 = refl

bvsmod_7_14 : op_value ops.BvSmod (Bits 4 7 ∷ Bits 4 14 ∷ []) ≡ Bits 4 15
unfolding op_value
bvsmod_7_14 = refl

bvsmod_9_14 : op_value ops.BvSmod (Bits 4 9 ∷ Bits 4 14 ∷ []) ≡ Bits 4 15
unfolding op_value
bvsmod_9_14 = refl

bvsdiv_9_0 : op_value ops.BvSdiv (Bits 4 9 ∷ Bits 4 0 ∷ []) ≡ Bits 4 1
unfolding op_value
bvsdiv_9_0 = refl

bvsdiv_7_0 : op_value ops.BvSdiv (Bits 4 7 ∷ Bits 4 0 ∷ []) ≡ Bits 4 15
unfolding op_value
bvsdiv_7_0 = refl

bvsrem_9_0 : op_value ops.BvSrem (Bits 4 9 ∷ Bits 4 0 ∷ []) ≡ Bits 4 9
unfolding op_value
bvsrem_9_0 = refl

bvsmod_9_0 : op_value ops.BvSmod (Bits 4 9 ∷ Bits 4 0 ∷ []) ≡ Bits 4 9
unfolding op_value
bvsmod_9_0 = refl

bvudiv_5_0 : op_value ops.BvUdiv (Bits 4 5 ∷ Bits 4 0 ∷ []) ≡ Bits 4 15
unfolding op_value
bvudiv_5_0 = refl

bvurem_5_0 : op_value ops.BvUrem (Bits 4 5 ∷ Bits 4 0 ∷ []) ≡ Bits 4 5
unfolding op_value
bvurem_5_0 = refl

bvashr_8_1 : op_value ops.BvAshr (Bits 4 8 ∷ Bits 4 1 ∷ []) ≡ Bits 4 12
unfolding op_value
bvashr_8_1 = refl

bvashr_8_4 : op_value ops.BvAshr (Bits 4 8 ∷ Bits 4 4 ∷ []) ≡ Bits 4 15
unfolding op_value
bvashr_8_4 = refl

bvshl_3_4 : op_value ops.BvShl (Bits 4 3 ∷ Bits 4 4 ∷ []) ≡ Bits 4 0
unfolding op_value
bvshl_3_4 = refl

rotate_left_9 : op_value (ops.RotateLeft 1) (Bits 4 9 ∷ []) ≡ Bits 4 3
unfolding op_value
rotate_left_9 = refl

extract_12 : op_value (ops.Extract 2 1) (Bits 4 12 ∷ []) ≡ Bits 2 2
unfolding op_value
extract_12 = refl
