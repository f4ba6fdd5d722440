-- Look-ups.
use Rattle.std.proofs.Common.{◌≡◌, ◌+◌, ◌<◌, ℕ, zero, suc, refl, ap, sym, arith, Bool, true, false, cond, List, [], ◌∷◌, length, drop, get_or, Some, None}
use Rattle.std.specs.Prelude.{Option, bytes_eq, codes, is_some, slice_get, ◌++◌}
use Rattle.std.specs.Option.{option_map, option_copied}
use Rattle.std.specs.Borrow.{Bor}
use Rattle.std.specs.Map.{lookup}
use Rattle.indexmap.specs.IndexMap.{insert_entry}
use Rattle.sy_terms.specs.declared.op.Op.{Op}
use Rattle.sy_terms.specs.declared.op.Op.TheVariants as ops
use Rattle.sy_terms.specs.Spelling.{spelling}
use Rattle.sy_terms.specs.declared.sort.Sort.{Sort}
use Rattle.sy_forms_items.specs.declared.names.Named.{Named}
use Rattle.sy_forms_items.specs.Environments.{entry_under, or_else, place_from}
use Rattle.sy_forms_items.specs.Operators.{operator_spelled, with_one_index}
use Rattle.sy_forms_items.specs.Table.{under}

pub entry-under : {K V : Type 0} (bytes : K → List ℕ) (name : List ℕ) (entries : List (K × V)) → lookup (λ k. bytes_eq name (bytes k)) entries ≡ entry_under name (under bytes entries)
entry-under bytes name [] = refl
entry-under bytes name (e ∷ entries) = elim (bytes_eq name (bytes e.0)) as (λ b. cond b (Some e.1) (lookup (λ k. bytes_eq name (bytes k)) entries) ≡ cond b (Some e.1) (entry_under name (under bytes entries))) [
  | true ↦ refl
  | false ↦ entry-under bytes name entries
]

-- what references point at
pub copied-map : {T : Type 0} (x : Option (Bor T)) → option_map (λ e. e.now) x ≡ option_copied x
copied-map None = refl
copied-map (Some e) = refl

pub drop-at : {A : Type 0} (i : ℕ) (xs : List A) (x : A) → slice_get xs i ≡ Some x → drop i xs ≡ x ∷ drop (i + 1) xs
drop-at zero [] x e = absurd (cc)
drop-at zero (y ∷ xs) x e = let same : y ≡ x = cc in rw same refl
drop-at (suc i) [] x e = absurd (cc)
drop-at (suc i) (y ∷ xs) x e = let next : suc i + 1 ≡ suc (i + 1) = omega arith in rw next (drop-at i xs x e)

-- a name that is found among the last of a list is found in the list
pub place_from-drop : (i j : ℕ) (name : List ℕ) (names : List Named) (x : ℕ × Sort) → place_from (j + i) name (drop i names) ≡ Some x → place_from j name names ≡ Some x
place_from-drop zero j name names x e = let same : j + 0 ≡ j = omega arith in rw same at e
place_from-drop (suc i) j name [] x e = absurd (cc)
place_from-drop (suc i) j name (y ∷ names) x e =
    let next : j + suc i ≡ (j + 1) + i = omega arith in
    let found = place_from-drop i (j + 1) name names x (rw next at e) in
    rw found refl

-- the last name of a list that is this one
pub place_from-here : (i : ℕ) (name : List ℕ) (names : List Named) (x : Named) → slice_get names i ≡ Some x → place_from (i + 1) name (drop (i + 1) names) ≡ None → bytes_eq name x.name ≡ true
    → place_from 0 name names ≡ Some (i, x.sort)
place_from-here i name names x at later here =
    place_from-drop i 0 name names (i, x.sort) (let same : 0 + i ≡ i = omega arith in rw (same, drop-at i names x at, later, here) refl)

-- the names from a place on, where the one there is another and none behind it is this one
pub place_from-other : (i : ℕ) (name : List ℕ) (names : List Named) (x : Named) → slice_get names i ≡ Some x → place_from (i + 1) name (drop (i + 1) names) ≡ None → bytes_eq name x.name ≡ false
    → place_from i name (drop i names) ≡ None
place_from-other i name names x at later here = rw (drop-at i names x at, later, here) refl

pub spelled-append : (name : List ℕ) (first second : List Op) → operator_spelled name (first ++ second) ≡ or_else (operator_spelled name first) (operator_spelled name second)
spelled-append name [] second = refl
spelled-append name (op ∷ first) second = elim (bytes_eq name (spelling op)) as (λ b. cond b (Some op) (operator_spelled name (first ++ second)) ≡ or_else (cond b (Some op) (operator_spelled name first)) (operator_spelled name second)) [
  | true ↦ refl
  | false ↦ spelled-append name first second
]

pub found_at : {A : Type 0} (i : ℕ) (xs : List A) (x : A) → i < length xs → x ≡ get_or xs i x → slice_get xs i ≡ Some x
found_at zero [] x lt e = absurd (omega arith)
found_at zero (y ∷ xs) x lt e = ap Some (sym e)
found_at (suc i) [] x lt e = absurd (omega arith)
found_at (suc i) (y ∷ xs) x lt e = found_at i xs x (omega arith) e

any_of : (a b c d e : Bool) (a1 a2 b1 b2 c1 c2 d1 d2 e1 e2 : Op) →
    is_some (cond a (Some a1) (cond b (Some b1) (cond c (Some c1) (cond d (Some d1) (cond e (Some e1) None))))) ≡
    is_some (cond a (Some a2) (cond b (Some b2) (cond c (Some c2) (cond d (Some d2) (cond e (Some e2) None)))))
any_of true b c d e a1 a2 b1 b2 c1 c2 d1 d2 e1 e2 = refl
any_of false true c d e a1 a2 b1 b2 c1 c2 d1 d2 e1 e2 = refl
any_of false false true d e a1 a2 b1 b2 c1 c2 d1 d2 e1 e2 = refl
any_of false false false true e a1 a2 b1 b2 c1 c2 d1 d2 e1 e2 = refl
any_of false false false false true a1 a2 b1 b2 c1 c2 d1 d2 e1 e2 = refl
any_of false false false false false a1 a2 b1 b2 c1 c2 d1 d2 e1 e2 = refl

-- whether an operator has this name and one index
pub one_index-any : (name : List ℕ) (i j : ℕ) → is_some (with_one_index name i) ≡ is_some (with_one_index name j)
one_index-any name i j = any_of (bytes_eq name (codes "repeat")) (bytes_eq name (codes "zero_extend")) (bytes_eq name (codes "sign_extend")) (bytes_eq name (codes "rotate_left")) (bytes_eq name (codes "rotate_right"))
    (ops.Repeat i) (ops.Repeat j) (ops.ZeroExtend i) (ops.ZeroExtend j) (ops.SignExtend i) (ops.SignExtend j) (ops.RotateLeft i) (ops.RotateLeft j) (ops.RotateRight i) (ops.RotateRight j)

none_cond : {A : Type 0} (b : Bool) (x : A) (rest : Option A) → cond b (Some x) rest ≡ None → (b ≡ false) × (rest ≡ None)
none_cond true x rest e = absurd (cc)
none_cond false x rest e = (refl, e)

-- a new key goes last
pub added-under : {K V : Type 0} (bytes : K → List ℕ) (entries : List (K × V)) (k : K) (v : V) → entry_under (bytes k) (under bytes entries) ≡ None
    → under bytes (insert_entry (λ a b. bytes_eq (bytes a) (bytes b)) entries k v) ≡ under bytes entries ++ (bytes k, v) ∷ []
added-under bytes [] k v absent = refl
added-under bytes (e ∷ entries) k v absent =
    let other = none_cond (bytes_eq (bytes k) (bytes e.0)) e.1 (entry_under (bytes k) (under bytes entries)) absent in
    rw (other.0) (ap (λ rest. (bytes e.0, e.1) ∷ rest) (added-under bytes entries k v other.1))
