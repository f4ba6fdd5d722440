-- Operators with their two arguments exchanged, and choices whose branch is known.
use Rattle.std.proofs.Common.{◌≡◌, ℕ, ◌+◌, ◌*◌, ◌%◌, ◌^◌, Bool, true, false, not, ◌&&◌, cond, bit_and, bit_or, bit_xor, List, [], ◌∷◌, length, slice_get, Option, Some, None, arith, refl, ap, sym, ◌∙◌}
use Rattle.std.specs.Prelude.{IfSome}
use Rattle.std.proofs.lemmas.Nat.{and_comm, or_comm, xor_comm}
use Rattle.sy_terms.specs.Values.{Val, Truth, Whole, Bits, truth, same}
use Rattle.sy_terms.specs.BitVectors.{signed_less}
use Rattle.sy_terms.specs.BitVectors as bv
use Rattle.sy_terms.specs.Operators.{op_value, on_pair}
use Rattle.sy_terms.specs.Theories.{sort_of_value}
use Rattle.sy_terms.specs.Expr.{Expr, Constant, Apply, none, more}
use Rattle.sy_terms.specs.Denoted.{expr_of, exprs_of}
use Rattle.sy_terms.specs.Meaning.{meaning, meanings}
use Rattle.sy_terms.specs.declared.op.Op.{Op}
use Rattle.sy_terms.specs.declared.op.Op.TheVariants as ops
use Rattle.sy_terms.specs.declared.sort.Sort.{Sort}
use Rattle.sy_terms.specs.declared.sort.Sort.TheVariants as sorts
use Rattle.sy_terms.specs.declared.term.Term.{Term}
use Rattle.sy_terms_operators.proofs.Traced.{same_is, same_again}
use Rattle.sy_rewrite_orders.specs.Sums.{BeginWithSorts, IsSameOver}
use Rattle.sy_rewrite_orders.proofs.TermsLaws.{two-terms}

same_turned : (x y : Val) → same y x ≡ same x y
same_turned x y =
    both-ways (same y x) (same x y)
    (λ h. ap (same x) (same_is y x h) ∙ same_again x)
    (λ h. ap (same y) (same_is x y h) ∙ same_again y)
  where
    both-ways : (b c : Bool) → (b ≡ true → c ≡ true) → (c ≡ true → b ≡ true) → b ≡ c
    both-ways true true f g = refl
    both-ways true false f g = sym (f refl)
    both-ways false true f g = g refl
    both-ways false false f g = refl

pub equal_turned : (x y : Val) → op_value ops.Equal (y ∷ x ∷ []) ≡ op_value ops.Equal (x ∷ y ∷ [])
unfolding op_value
equal_turned x y = ap (λ (b : Bool). Truth (b && true)) (same_turned x y)

pub distinct_turned : (x y : Val) → op_value ops.Distinct (y ∷ x ∷ []) ≡ op_value ops.Distinct (x ∷ y ∷ [])
unfolding op_value
distinct_turned x y = ap (λ (b : Bool). Truth ((not b && true) && true)) (same_turned x y)

pub greater_turned : (x y : Val) → op_value ops.BvUlt (y ∷ x ∷ []) ≡ op_value ops.BvUgt (x ∷ y ∷ [])
unfolding op_value
greater_turned (Bits w m) (Bits v n) = refl
greater_turned (Bits w m) (Truth b) = refl
greater_turned (Bits w m) (Whole z) = refl
greater_turned (Truth b) (Bits v n) = refl
greater_turned (Truth b) (Truth c) = refl
greater_turned (Truth b) (Whole z) = refl
greater_turned (Whole z) (Bits v n) = refl
greater_turned (Whole z) (Truth c) = refl
greater_turned (Whole z) (Whole y) = refl

pub at_least_turned : (x y : Val) → op_value ops.BvUle (y ∷ x ∷ []) ≡ op_value ops.BvUge (x ∷ y ∷ [])
unfolding op_value
at_least_turned (Bits w m) (Bits v n) = refl
at_least_turned (Bits w m) (Truth b) = refl
at_least_turned (Bits w m) (Whole z) = refl
at_least_turned (Truth b) (Bits v n) = refl
at_least_turned (Truth b) (Truth c) = refl
at_least_turned (Truth b) (Whole z) = refl
at_least_turned (Whole z) (Bits v n) = refl
at_least_turned (Whole z) (Truth c) = refl
at_least_turned (Whole z) (Whole y) = refl

one_width : (w v : ℕ) → sorts.Bits w ≡ sorts.Bits v → v ≡ w
one_width w v e = cc

pub signed_greater_turned : (x y : Val) → sort_of_value x ≡ sort_of_value y → op_value ops.BvSlt (y ∷ x ∷ []) ≡ op_value ops.BvSgt (x ∷ y ∷ [])
unfolding op_value
signed_greater_turned (Bits w m) (Bits v n) e = ap (λ (k : ℕ). Truth (signed_less k n m)) (one_width w v e)
signed_greater_turned (Bits w m) (Truth b) e = refl
signed_greater_turned (Bits w m) (Whole z) e = refl
signed_greater_turned (Truth b) (Bits v n) e = refl
signed_greater_turned (Truth b) (Truth c) e = refl
signed_greater_turned (Truth b) (Whole z) e = refl
signed_greater_turned (Whole z) (Bits v n) e = refl
signed_greater_turned (Whole z) (Truth c) e = refl
signed_greater_turned (Whole z) (Whole y) e = refl

pub signed_at_least_turned : (x y : Val) → sort_of_value x ≡ sort_of_value y → op_value ops.BvSle (y ∷ x ∷ []) ≡ op_value ops.BvSge (x ∷ y ∷ [])
unfolding op_value
signed_at_least_turned (Bits w m) (Bits v n) e = ap (λ (k : ℕ). Truth (not (signed_less k m n))) (one_width w v e)
signed_at_least_turned (Bits w m) (Truth b) e = refl
signed_at_least_turned (Bits w m) (Whole z) e = refl
signed_at_least_turned (Truth b) (Bits v n) e = refl
signed_at_least_turned (Truth b) (Truth c) e = refl
signed_at_least_turned (Truth b) (Whole z) e = refl
signed_at_least_turned (Whole z) (Bits v n) e = refl
signed_at_least_turned (Whole z) (Truth c) e = refl
signed_at_least_turned (Whole z) (Whole y) e = refl

pub same_bit_turned : (x y : Val) → op_value ops.BvComp (y ∷ x ∷ []) ≡ op_value ops.BvComp (x ∷ y ∷ [])
unfolding op_value
same_bit_turned x y = ap (λ (b : Bool). Bits 1 (cond (b && true) 1 0)) (same_turned x y)

-- an operator on the numbers of two vectors of one width, which may be exchanged
pair_turned : (f : ℕ → ℕ → ℕ → ℕ) → ((w m n : ℕ) → f w n m ≡ f w m n) → (x y : Val) → sort_of_value x ≡ sort_of_value y → on_pair f y x ≡ on_pair f x y
pair_turned f either (Bits w m) (Bits v n) e = ap (λ (k : ℕ). Bits k (f k n m)) (one_width w v e) ∙ ap (Bits w) (either w m n)
pair_turned f either (Bits w m) (Truth b) e = refl
pair_turned f either (Bits w m) (Whole z) e = refl
pair_turned f either (Truth b) (Bits v n) e = refl
pair_turned f either (Truth b) (Truth c) e = refl
pair_turned f either (Truth b) (Whole z) e = refl
pair_turned f either (Whole z) (Bits v n) e = refl
pair_turned f either (Whole z) (Truth c) e = refl
pair_turned f either (Whole z) (Whole y) e = refl

sum_turned : (w m n : ℕ) → (n + m) % 2 ^ w ≡ (m + n) % 2 ^ w
sum_turned w m n = let e : n + m ≡ m + n = omega arith in ap (λ (k : ℕ). k % 2 ^ w) e

product_turned : (w m n : ℕ) → (n * m) % 2 ^ w ≡ (m * n) % 2 ^ w
product_turned w m n = let e : n * m ≡ m * n = omega arith in ap (λ (k : ℕ). k % 2 ^ w) e

pub add_turned : (x y : Val) → sort_of_value x ≡ sort_of_value y → op_value ops.BvAdd (y ∷ x ∷ []) ≡ op_value ops.BvAdd (x ∷ y ∷ [])
unfolding op_value
add_turned x y e = pair_turned bv.sum sum_turned x y e

pub mul_turned : (x y : Val) → sort_of_value x ≡ sort_of_value y → op_value ops.BvMul (y ∷ x ∷ []) ≡ op_value ops.BvMul (x ∷ y ∷ [])
unfolding op_value
mul_turned x y e = pair_turned bv.product product_turned x y e

pub nand_turned : (x y : Val) → sort_of_value x ≡ sort_of_value y → op_value ops.BvNand (y ∷ x ∷ []) ≡ op_value ops.BvNand (x ∷ y ∷ [])
unfolding op_value
nand_turned x y e = pair_turned (λ w s t. bv.inverted w (bit_and s t)) (λ w m n. ap (bv.inverted w) (and_comm n m)) x y e

pub nor_turned : (x y : Val) → sort_of_value x ≡ sort_of_value y → op_value ops.BvNor (y ∷ x ∷ []) ≡ op_value ops.BvNor (x ∷ y ∷ [])
unfolding op_value
nor_turned x y e = pair_turned (λ w s t. bv.inverted w (bit_or s t)) (λ w m n. ap (bv.inverted w) (or_comm n m)) x y e

pub xnor_turned : (x y : Val) → sort_of_value x ≡ sort_of_value y → op_value ops.BvXnor (y ∷ x ∷ []) ≡ op_value ops.BvXnor (x ∷ y ∷ [])
unfolding op_value
xnor_turned x y e = pair_turned (λ w s t. bv.inverted w (bit_xor s t)) (λ w m n. ap (bv.inverted w) (xor_comm n m)) x y e

-- the operator at two terms in the other order
pub turned_same : {T N : Type 0} (number : N → Val) (ss : List Sort) (operator other : Op) (term : Expr) (terms : List (Term T N)) (left right : Term T N) → length terms ≡ 2 → slice_get terms 0 ≡ Some left → slice_get terms 1 ≡ Some right →
    term ≡ Apply other (more (expr_of number right) (more (expr_of number left) none)) →
    ((values : List Val) → BeginWithSorts ss values → sort_of_value (meaning [] [] values (expr_of number left)) ≡ sort_of_value (meaning [] [] values (expr_of number right))) →
    ((x y : Val) → sort_of_value x ≡ sort_of_value y → op_value other (y ∷ x ∷ []) ≡ op_value operator (x ∷ y ∷ [])) →
    IsSameOver ss term (Apply operator (exprs_of number terms))
unfolding meaning meanings
turned_same number ss operator other term terms left right many first second is sorted turns values are =
    ap (meaning [] [] values) is
    ∙ turns (meaning [] [] values (expr_of number left)) (meaning [] [] values (expr_of number right)) (sorted values are)
    ∙ ap (op_value operator) (sym (two-terms number values terms left right many first second))

-- choices

pub three-terms : {T N : Type 0} (number : N → Val) (values : List Val) (terms : List (Term T N)) (a b c : Term T N) → length terms ≡ 3 → slice_get terms 0 ≡ Some a → slice_get terms 1 ≡ Some b → slice_get terms 2 ≡ Some c →
    meanings [] [] values (exprs_of number terms) ≡ meaning [] [] values (expr_of number a) ∷ meaning [] [] values (expr_of number b) ∷ meaning [] [] values (expr_of number c) ∷ []
unfolding meanings
three-terms number values [] a b c many first second third = absurd (omega (arith, many))
three-terms number values (x ∷ []) a b c many first second third = absurd (omega (arith, many))
three-terms number values (x ∷ y ∷ []) a b c many first second third = absurd (omega (arith, many))
three-terms number values (x ∷ y ∷ z ∷ []) a b c many first second third =
    let is_a : x ≡ a = cc in
    let is_b : y ≡ b = cc in
    let is_c : z ≡ c = cc in
    rw (is_a, is_b, is_c) refl
three-terms number values (x ∷ y ∷ z ∷ w ∷ rest) a b c many first second third = absurd (omega (arith, many))

any_branch : (b : Bool) (x : Val) → x ≡ cond b x x
any_branch true x = refl
any_branch false x = refl

-- the branch of a choice between equal branches
pub one_branch : (test there here : Val) → there ≡ here → here ≡ op_value ops.Ite (test ∷ there ∷ here ∷ [])
unfolding op_value
one_branch test there here equal = any_branch (truth test) here ∙ ap (λ (x : Val). cond (truth test) x here) (sym equal)

-- the branch of a choice by a constant
pub known_branch : (test there here : Val) (b : Bool) → test ≡ Truth b → cond b there here ≡ op_value ops.Ite (test ∷ there ∷ here ∷ [])
unfolding op_value
known_branch test there here b is = ap (λ (x : Val). cond (truth x) there here) (sym is)

pub constant_truth : (found : Option Bool) (term : Expr) (value : Val) → term ≡ Constant value → IfSome found (λ b. value ≡ Truth b) → IfSome found (λ b. (values : List Val) → meaning [] [] values term ≡ Truth b)
unfolding meaning
constant_truth None term value is has = has
constant_truth (Some b) term value is has = λ values. ap (meaning [] [] values) is ∙ has

pub branch_same : {T N : Type 0} (number : N → Val) (ss : List Sort) (term branch : Expr) (terms : List (Term T N)) → term ≡ branch → ((values : List Val) → meaning [] [] values branch ≡ op_value ops.Ite (meanings [] [] values (exprs_of number terms))) →
    IsSameOver ss term (Apply ops.Ite (exprs_of number terms))
unfolding meaning
branch_same number ss term branch terms is says values are = ap (meaning [] [] values) is ∙ says values

-- what holds over all sorts of variables, over these
pub over_these : {X : Type 0} (found : Option X) (P : X → List Sort → Type 0) (sorts : List Sort) → IfSome found (λ x. (ss : List Sort) → P x ss) → IfSome found (λ x. P x sorts)
over_these None P sorts has = has
over_these (Some x) P sorts has = has sorts
