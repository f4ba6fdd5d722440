-- The operators by their names, and the words that no name may be.
use Rattle.std.specs.Prelude.{ℕ, List, [], ◌∷◌, ◌++◌, Bool, true, false, ◌||◌, ◌&&◌, nat_le, Option, Some, None, is_some, bytes_eq, codes, nat_eq, if◌then◌else◌}
use Rattle.std.specs.List.{list_any}
use Rattle.sy_terms.specs.Spelling.{spelling}
use Rattle.sy_terms.specs.declared.op.Op.{Op}
use Rattle.sy_terms.specs.declared.op.Op.TheVariants as ops
use Rattle.sy_forms_items.specs.declared.parts.Indices.{Indices}
use Rattle.sy_forms_items.specs.declared.parts.Indices.TheVariants.{One, Two, More}
use Rattle.sy_terms.specs.declared.sort.Logic.{Logic}
use Rattle.sy_terms.specs.declared.sort.Logic.TheVariants.{Lia, Bv}

abbrev pub core_operators : List Op
core_operators = ops.Not ∷ ops.And ∷ ops.Or ∷ ops.Xor ∷ ops.Implies ∷ ops.Equal ∷ ops.Distinct ∷ ops.Ite ∷ []

-- `-` stands for both of its operators
abbrev pub integer_operators : List Op
integer_operators = ops.Sub ∷ ops.Add ∷ ops.Mul ∷ ops.Le ∷ ops.Lt ∷ ops.Ge ∷ ops.Gt ∷ ops.Div ∷ ops.Mod ∷ ops.Abs ∷ []

abbrev pub vector_operators : List Op
vector_operators =
    ops.Concat ∷ ops.BvNot ∷ ops.BvNeg ∷ ops.BvAnd ∷ ops.BvOr ∷ ops.BvXor ∷ ops.BvAdd ∷ ops.BvMul ∷ ops.BvSub ∷ ops.BvNand ∷ ops.BvNor ∷
    ops.BvXnor ∷ ops.BvComp ∷ ops.BvUdiv ∷ ops.BvUrem ∷ ops.BvSdiv ∷ ops.BvSrem ∷ ops.BvSmod ∷ ops.BvShl ∷ ops.BvLshr ∷ ops.BvAshr ∷
    ops.BvUlt ∷ ops.BvUle ∷ ops.BvUgt ∷ ops.BvUge ∷ ops.BvSlt ∷ ops.BvSle ∷ ops.BvSgt ∷ ops.BvSge ∷ []

-- the operators of a theory that have no indices
abbrev pub theory_operators : Logic → List Op
theory_operators Lia = integer_operators
theory_operators Bv = vector_operators

abbrev pub operator_spelled : List ℕ → List Op → Option Op
operator_spelled name [] = None
operator_spelled name (op ∷ rest) = if bytes_eq name (spelling op) then Some op else operator_spelled name rest

-- the operator of the logic that has this name
abbrev pub operator_named : Logic → List ℕ → Option Op
operator_named logic name = operator_spelled name (core_operators ++ theory_operators logic)

-- at so many arguments: `-` at one is the negation
abbrev pub at_count : ℕ → Op → Op
at_count count ops.Sub = if nat_eq count 1 then ops.Neg else ops.Sub
at_count count op = op

-- the operator with these indices, where it has so many
abbrev pub with_one_index : List ℕ → ℕ → Option Op
with_one_index name i =
    if bytes_eq name (codes "repeat") then Some (ops.Repeat i)
    else if bytes_eq name (codes "zero_extend") then Some (ops.ZeroExtend i)
    else if bytes_eq name (codes "sign_extend") then Some (ops.SignExtend i)
    else if bytes_eq name (codes "rotate_left") then Some (ops.RotateLeft i)
    else if bytes_eq name (codes "rotate_right") then Some (ops.RotateRight i)
    else None

abbrev pub indexed_operator : List ℕ → Indices → Option Op
indexed_operator name (One i) = with_one_index name i
indexed_operator name (Two i j) = if bytes_eq name (codes "extract") then Some (ops.Extract i j) else None
indexed_operator name More = None

-- each index is at most 64
abbrev pub are_small : Indices → Bool
are_small (One i) = nat_le i 64
are_small (Two i j) = nat_le i 64 && nat_le j 64
are_small More = false

abbrev pub is_one_of : List (List ℕ) → List ℕ → Bool
is_one_of words name = list_any (bytes_eq name) words

abbrev pub language_words : List (List ℕ)
language_words =
    codes "true" ∷ codes "false" ∷ codes "let" ∷ codes "_" ∷ codes "!" ∷ codes "as" ∷ codes "par" ∷ codes "forall" ∷
    codes "exists" ∷ codes "match" ∷ codes "Constant" ∷ codes "Variable" ∷ []

-- the other words of a logic: the names of its indexed operators
abbrev pub logic_words : Logic → List (List ℕ)
logic_words Lia = []
logic_words Bv = codes "extract" ∷ codes "repeat" ∷ codes "zero_extend" ∷ codes "sign_extend" ∷ codes "rotate_left" ∷ codes "rotate_right" ∷ []

-- no name may be this word
abbrev pub is_reserved : Logic → List ℕ → Bool
is_reserved logic name = is_one_of language_words name || is_one_of (logic_words logic) name || is_some (operator_named logic name)
