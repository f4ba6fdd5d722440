use Rattle.std.specs.Prelude.{ℕ, Bool, true, false, ◌&&◌, ◌||◌, List, [], ◌∷◌, bit_and, bit_or, bit_xor}
use Rattle.sy_gates.specs.declared.bitwise.Joint.{Joint}
use Rattle.sy_gates.specs.declared.bitwise.Joint.TheVariants.{And, Or, Xor}
use Rattle.sy_gates.specs.Circuits.{xor}

-- Two truth values, joined.
abbrev pub joint_value : Joint → Bool → Bool → Bool
joint_value And a b = a && b
joint_value Or a b = a || b
joint_value Xor a b = xor a b

-- Two numbers, joined bit by bit.
abbrev pub joint_number : Joint → ℕ → ℕ → ℕ
joint_number And a b = bit_and a b
joint_number Or a b = bit_or a b
joint_number Xor a b = bit_xor a b

-- The joint of no truth values.
abbrev pub empty_joint : Joint → Bool
empty_joint And = true
empty_joint Or = false
empty_joint Xor = false

-- All truth values of a list, joined: whether all are true, whether some is, or whether an odd number of them are.
abbrev pub all_joined : Joint → List Bool → Bool
all_joined joint [] = empty_joint joint
all_joined joint (b ∷ bs) = joint_value joint b (all_joined joint bs)
