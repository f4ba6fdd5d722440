-- The operators that are read are the logic's.
use Rattle.std.specs.Prelude.{ℕ, Bool, true, false, ◌++◌, List, [], ◌∷◌, Option, Some, None, ◌≡◌, refl, bytes_eq, codes, nat_eq, if◌then◌else◌}
use Rattle.std.specs.List.{list_all}
use Rattle.std.proofs.Common.{subst}
use Rattle.sy_terms.specs.Spelling.{spelling}
use Rattle.sy_terms.specs.declared.op.Op.{Op}
use Rattle.sy_terms.specs.declared.op.Op.TheVariants as ops
use Rattle.sy_terms.specs.declared.sort.Logic.{Logic}
use Rattle.sy_terms.specs.declared.sort.Logic.TheVariants.{Lia, Bv}
use Rattle.sy_terms_operators.proofs.Equations.{both_true}
use Rattle.sy_terms.specs.Logics.{operators_of}
use Rattle.sy_forms_items.specs.declared.parts.Indices.{Indices}
use Rattle.sy_forms_items.specs.declared.parts.Indices.TheVariants.{One, Two, More}
use Rattle.sy_forms_items.specs.Operators.{operator_spelled, operator_named, core_operators, theory_operators, with_one_index, indexed_operator, at_count}

chosen : (b : Bool) (op : Op) (other : Option Op) (found : Op) (P : Op → Type 0) → P op → ((x : Op) → other ≡ Some x → P x) → (if b then Some op else other) ≡ Some found → P found
chosen true op other found P here later e = let same : op ≡ found = cc in subst P same here
chosen false op other found P here later e = later found e

spelled_passes : (P : Op → Bool) (name : List ℕ) (all : List Op) (found : Op) → list_all P all ≡ true → operator_spelled name all ≡ Some found → P found ≡ true
spelled_passes P name [] found passes e = absurd cc
spelled_passes P name (op ∷ rest) found passes e =
    let both = both_true (P op) (list_all P rest) passes in
    chosen (bytes_eq name (spelling op)) op (operator_spelled name rest) found (λ x. P x ≡ true) both.0 (λ x is. spelled_passes P name rest x both.1 is) e

all_owned : (logic : Logic) → list_all (operators_of logic) (core_operators ++ theory_operators logic) ≡ true
all_owned Lia = refl
all_owned Bv = refl

-- an operator by its name
pub named_owned : (logic : Logic) (name : List ℕ) (found : Op) → operator_named logic name ≡ Some found → operators_of logic found ≡ true
named_owned logic name found e = spelled_passes (operators_of logic) name (core_operators ++ theory_operators logic) found (all_owned logic) e

-- an operator with indices
one_owned : (name : List ℕ) (i : ℕ) (found : Op) → with_one_index name i ≡ Some found → operators_of Bv found ≡ true
one_owned name i found e =
    chosen (bytes_eq name (codes "repeat")) (ops.Repeat i) _ found (λ x. operators_of Bv x ≡ true) refl (λ x.
    chosen (bytes_eq name (codes "zero_extend")) (ops.ZeroExtend i) _ x (λ x. operators_of Bv x ≡ true) refl (λ x.
    chosen (bytes_eq name (codes "sign_extend")) (ops.SignExtend i) _ x (λ x. operators_of Bv x ≡ true) refl (λ x.
    chosen (bytes_eq name (codes "rotate_left")) (ops.RotateLeft i) _ x (λ x. operators_of Bv x ≡ true) refl (λ x.
    chosen (bytes_eq name (codes "rotate_right")) (ops.RotateRight i) None x (λ x. operators_of Bv x ≡ true) refl (λ x none. absurd cc))))) e

pub indexed_owned : (name : List ℕ) (indices : Indices) (found : Op) → indexed_operator name indices ≡ Some found → operators_of Bv found ≡ true
indexed_owned name (One i) found e = one_owned name i found e
indexed_owned name (Two i j) found e = chosen (bytes_eq name (codes "extract")) (ops.Extract i j) None found (λ x. operators_of Bv x ≡ true) refl (λ x none. absurd cc) e
indexed_owned name More found e = absurd cc

-- minus is the logic's where the difference is
minus_owned : (logic : Logic) (b : Bool) → operators_of logic ops.Sub ≡ true → operators_of logic (if b then ops.Neg else ops.Sub) ≡ true
minus_owned logic false e = e
minus_owned Lia true e = refl
minus_owned Bv true e = absurd cc

pub counted_owned : (logic : Logic) (count : ℕ) (op : Op) → operators_of logic op ≡ true → operators_of logic (at_count count op) ≡ true
counted_owned logic count ops.Sub e = minus_owned logic (nat_eq count 1) e
counted_owned logic count _ e = e
