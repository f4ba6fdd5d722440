-- Each operator, with its indices, is one function from the arguments' values to a value.
use Rattle.std.specs.Prelude.{ℕ, ◌+◌, ◌-◌, ◌*◌, Bool, true, false, cond, not, ◌||◌, nat_lt, nat_le, List, [], ◌∷◌, ℤ, ◌+ℤ◌, ◌-ℤ◌, ◌*ℤ◌, neg_ℤ, int_lt, int_le, bit_and, bit_or, bit_xor}
use Rattle.std.specs.List.{list_all, list_any}
use Rattle.sy_terms.specs.Values.{Val, Truth, Whole, Bits, truth, whole, width, number, same, neighbours, all_pairs, from_left}
use Rattle.sy_terms.specs.Integers as int
use Rattle.sy_terms.specs.BitVectors as bv
use Rattle.sy_terms.specs.declared.op.Op.{Op}
use Rattle.sy_terms.specs.declared.op.Op.TheVariants as ops

-- right associative
abbrev pub implied : List Val → Bool
implied [] = true
implied (x ∷ []) = truth x
implied (x ∷ y ∷ rest) = not (truth x) || implied (y ∷ rest)

-- an operator on the numbers of one vector, of its width
abbrev pub on_bits : (ℕ → ℕ → ℕ) → List Val → Val
on_bits f (Bits w s ∷ []) = Bits w (f w s)
on_bits f _ = Truth false

-- an operator on two vectors of one width
abbrev pub on_pair : (ℕ → ℕ → ℕ → ℕ) → Val → Val → Val
on_pair f (Bits w s) (Bits v t) = Bits w (f w s t)
on_pair f _ _ = Truth false

abbrev pub on_two : (ℕ → ℕ → ℕ → ℕ) → List Val → Val
on_two f (x ∷ y ∷ []) = on_pair f x y
on_two f _ = Truth false

-- a test on two vectors of one width
abbrev pub test_two : (ℕ → ℕ → ℕ → Bool) → List Val → Val
test_two f (Bits w s ∷ Bits v t ∷ []) = Truth (f w s t)
test_two f _ = Truth false

-- an operator on one or two whole numbers
abbrev pub on_whole : (ℤ → ℤ) → List Val → Val
on_whole f (x ∷ []) = Whole (f (whole x))
on_whole f _ = Truth false

abbrev pub on_wholes : (ℤ → ℤ → ℤ) → Val → Val → Val
on_wholes f x y = Whole (f (whole x) (whole y))

abbrev pub in_order : (ℤ → ℤ → Bool) → List Val → Val
in_order related values = Truth (neighbours (λ x y. related (whole x) (whole y)) values)

-- the value of an operator at arguments of the sorts that it asks for
unfoldable pub op_value : Op → List Val → Val
op_value ops.Not values = Truth (not (list_all truth values))
op_value ops.And values = Truth (list_all truth values)
op_value ops.Or values = Truth (list_any truth values)
op_value ops.Xor values = from_left (λ x y. Truth (not (same x y))) values
op_value ops.Implies values = Truth (implied values)
op_value ops.Equal values = Truth (neighbours same values)
op_value ops.Distinct values = Truth (all_pairs (λ x y. not (same x y)) values)
op_value ops.Ite (c ∷ x ∷ y ∷ []) = cond (truth c) x y
op_value ops.Ite _ = Truth false
op_value ops.Neg values = on_whole neg_ℤ values
op_value ops.Sub values = from_left (on_wholes ◌-ℤ◌) values
op_value ops.Add values = from_left (on_wholes ◌+ℤ◌) values
op_value ops.Mul values = from_left (on_wholes ◌*ℤ◌) values
op_value ops.Div values = from_left (on_wholes int.whole_quotient) values
op_value ops.Mod values = from_left (on_wholes int.modulus) values
op_value ops.Abs values = on_whole int.absolute values
op_value ops.Le values = in_order int_le values
op_value ops.Lt values = in_order int_lt values
op_value ops.Ge values = in_order (λ x y. int_le y x) values
op_value ops.Gt values = in_order (λ x y. int_lt y x) values
op_value ops.Concat (x ∷ y ∷ []) = Bits (width x + width y) (bv.joined (width y) (number x) (number y))
op_value ops.Concat _ = Truth false
op_value (ops.Extract i j) (x ∷ []) = Bits (i - j + 1) (bv.extracted i j (number x))
op_value (ops.Extract i j) _ = Truth false
op_value ops.BvNot values = on_bits bv.inverted values
op_value ops.BvNeg values = on_bits bv.negated values
op_value ops.BvAnd values = from_left (on_pair (λ w. bit_and)) values
op_value ops.BvOr values = from_left (on_pair (λ w. bit_or)) values
op_value ops.BvXor values = from_left (on_pair (λ w. bit_xor)) values
op_value ops.BvAdd values = from_left (on_pair bv.sum) values
op_value ops.BvMul values = from_left (on_pair bv.product) values
op_value ops.BvSub values = on_two bv.difference values
op_value ops.BvNand values = on_two (λ w s t. bv.inverted w (bit_and s t)) values
op_value ops.BvNor values = on_two (λ w s t. bv.inverted w (bit_or s t)) values
op_value ops.BvXnor values = on_two (λ w s t. bv.inverted w (bit_xor s t)) values
op_value ops.BvComp values = Bits 1 (cond (neighbours same values) 1 0)
op_value ops.BvUdiv values = on_two bv.quotient values
op_value ops.BvUrem values = on_two bv.remainder values
op_value ops.BvSdiv values = on_two bv.signed_quotient values
op_value ops.BvSrem values = on_two bv.signed_remainder values
op_value ops.BvSmod values = on_two bv.signed_modulus values
op_value ops.BvShl values = on_two bv.shifted_left values
op_value ops.BvLshr values = on_two bv.shifted_right values
op_value ops.BvAshr values = on_two bv.shifted_right_signed values
op_value (ops.Repeat i) (x ∷ []) = Bits (i * width x) (bv.repeated i (width x) (number x))
op_value (ops.Repeat i) _ = Truth false
op_value (ops.ZeroExtend i) (x ∷ []) = Bits (width x + i) (number x)
op_value (ops.ZeroExtend i) _ = Truth false
op_value (ops.SignExtend i) (x ∷ []) = Bits (width x + i) (bv.sign_extended i (width x) (number x))
op_value (ops.SignExtend i) _ = Truth false
op_value (ops.RotateLeft i) values = on_bits (bv.rotated_left i) values
op_value (ops.RotateRight i) values = on_bits (bv.rotated_right i) values
op_value ops.BvUlt values = test_two (λ w s t. nat_lt s t) values
op_value ops.BvUle values = test_two (λ w s t. nat_le s t) values
op_value ops.BvUgt values = test_two (λ w s t. nat_lt t s) values
op_value ops.BvUge values = test_two (λ w s t. nat_le t s) values
op_value ops.BvSlt values = test_two bv.signed_less values
op_value ops.BvSle values = test_two (λ w s t. not (bv.signed_less w t s)) values
op_value ops.BvSgt values = test_two (λ w s t. bv.signed_less w t s) values
op_value ops.BvSge values = test_two (λ w s t. not (bv.signed_less w s t)) values
