-- Terms that write constants and name arguments.
use Rattle.std.proofs.Common.{◌≡◌, ℕ, zero, suc, ◌+◌, ◌<◌, ◌≤◌, List, [], ◌∷◌, length, refl, ap, sym, ◌∙◌, arith, Option, Some, None, slice_get, add-one, Bool, true, false, ◌&&◌, ◌⊎◌, inl, inr, ℤ, pos, negsuc}
use Rattle.std.specs.Prelude.{if◌then◌else◌, ◌^◌, nat_lt}
use Rattle.std.specs.Option.{option_map, MatchOption}
use Rattle.std.specs.Cmp.{first_so, second_so}
use Rattle.std.proofs.lemmas.Bool.{eqb-true, lt-ltb, ltb-true}
use Rattle.std.specs.Int.Signed.{lt_z}
use Rattle.std.proofs.lemmas.Option.{slice_get_past}
use Rattle.sy_terms.specs.Values.{Val, Truth, Whole, Bits}
use Rattle.sy_terms.specs.Expr as expr
use Rattle.sy_terms.specs.Expr.{Expr, Exprs}
use Rattle.sy_terms.specs.Sorts.{same_sort}
use Rattle.sy_terms.specs.Theories.{sort_of_value, whole_number, value_at}
use Rattle.sy_terms.specs.Denoted.{expr_of, exprs_of}
use Rattle.sy_terms.specs.declared.op.Op.TheVariants as ops
use Rattle.sy_terms.specs.declared.sort.Sort.{Sort}
use Rattle.sy_terms.specs.declared.sort.Sort.TheVariants as sorts
use Rattle.sy_terms.specs.declared.term.Term.{Term}
use Rattle.sy_grammar_base.specs.Trees.{literal, is_written, is_sort}
use Rattle.sy_grammar.specs.Rows.{IsConstant, IsArgumentOf, IsOpposite}

if_Some : {X : Type 0} (b : Bool) (x y : X) → (if b then Some x else None) ≡ Some y → (b ≡ true) × (x ≡ y)
if_Some true x y e = (refl, cc)
if_Some false x y e = absurd cc

pub same_sort_is : (s t : Sort) → same_sort s t ≡ true → s ≡ t
same_sort_is sorts.Bool sorts.Bool e = refl
same_sort_is sorts.Bool sorts.Int e = absurd cc
same_sort_is sorts.Bool (sorts.Bits w) e = absurd cc
same_sort_is sorts.Int sorts.Bool e = absurd cc
same_sort_is sorts.Int sorts.Int e = refl
same_sort_is sorts.Int (sorts.Bits w) e = absurd cc
same_sort_is (sorts.Bits v) sorts.Bool e = absurd cc
same_sort_is (sorts.Bits v) sorts.Int e = absurd cc
same_sort_is (sorts.Bits v) (sorts.Bits w) e = ap sorts.Bits (eqb-true v w e)

-- what a constant from a rule for all of a sort is
pub record Chosen (sort : Sort) (term : Expr) (value : Val) : Type 0 where
  pub sorted : same_sort sort (sort_of_value value) ≡ true
  pub written : is_written value ≡ true
  pub is : literal value ≡ term

pub chosen : (sort : Sort) (term : Expr) (value : Val) → IsConstant sort term value → Chosen sort term value
chosen sort term value e =
    let parts = if_Some (same_sort sort (sort_of_value value) && is_written value) (literal value) term e in
    record { sorted = first_so (same_sort sort (sort_of_value value)) (is_written value) parts.0; written = second_so (same_sort sort (sort_of_value value)) (is_written value) parts.0; is = parts.1 }

literal_constant : (v u : Val) → literal v ≡ expr.Constant u → v ≡ u
literal_constant (Truth b) u e = cc
literal_constant (Whole (pos n)) u e = cc
literal_constant (Whole (negsuc n)) u e = absurd cc
literal_constant (Bits w n) u e = cc

-- what a literal is: a constant, or a negation
pub literal_form : (v : Val) (term : Expr) → literal v ≡ term → ((u : Val) × (term ≡ expr.Constant u)) ⊎ ((terms : Exprs) × (term ≡ expr.Apply ops.Neg terms))
literal_form (Truth b) term e = inl (Truth b, sym e)
literal_form (Whole (pos n)) term e = inl (Whole (pos n), sym e)
literal_form (Whole (negsuc n)) term e = inr (expr.more (expr.Constant (Whole (pos (n + 1)))) expr.none, sym e)
literal_form (Bits w n) term e = inl (Bits w n, sym e)

is_none : {X : Type 0} (b : Bool) (x : X) → None ≡ (if b then Some x else None) → b ≡ true → ⊥
is_none true x e t = cc
is_none false x e t = cc

numeric_none : {X : Type 0} (b : Bool) (found : Option X) (x : X) → None ≡ (if b then found else None) → b ≡ true → found ≡ Some x → ⊥
numeric_none true found x e t f = cc
numeric_none false found x e t f = cc

-- a value that no number of the sort stands for isn't written
no_number : (d : Val) (numeric : Bool) (sort : Sort) → sort ≡ sort_of_value d → ((b : Bool) → d ≡ Truth b → ⊥) → numeric ≡ true → is_written d ≡ true → None ≡ (if numeric then value_at sort (whole_number d) else None) → ⊥
no_number (Truth b) numeric sort same no_truth is written e = no_truth b refl
no_number (Whole z) numeric sort same no_truth is written e =
    numeric_none numeric (value_at sort z) (Whole z) e is (ap (λ s. value_at s z) same)
no_number (Bits w n) numeric sort same no_truth is written e =
    numeric_none numeric (value_at sort (pos n)) (Bits w n) e is (ap (λ s. value_at s (pos n)) same ∙ ap (λ b. if b then Some (Bits w n) else None) written)

pub no_plain : (d : Val) (numeric : Bool) (sort : Sort) (v : Val) → sort ≡ sort_of_value d → ((b : Bool) → d ≡ Truth b → ⊥) → numeric ≡ true → None ≡ (if numeric then value_at sort (whole_number d) else None) →
    IsConstant sort (expr.Constant d) v → ⊥
no_plain d numeric sort v same no_truth is none e =
    let c = chosen sort (expr.Constant d) v e in
    let v_is = literal_constant v d c.is in
    no_number d numeric sort same no_truth is (ap is_written (sym v_is) ∙ c.written) none

-- a negation that writes a constant
pub record Negated (sort : Sort) (terms : Exprs) (value : Val) : Type 0 where
  pub less : ℕ
  pub is : terms ≡ expr.more (expr.Constant (Whole (pos (less + 1)))) expr.none
  pub sorted : same_sort sort sorts.Int ≡ true

negation : (sort : Sort) (terms : Exprs) (v : Val) → same_sort sort (sort_of_value v) ≡ true → literal v ≡ expr.Apply ops.Neg terms → Negated sort terms v
negation sort terms (Truth b) s e = absurd cc
negation sort terms (Whole (pos n)) s e = absurd cc
negation sort terms (Whole (negsuc n)) s e = record { less = n; is = cc; sorted = s }
negation sort terms (Bits w n) s e = absurd cc

pub negated : (sort : Sort) (terms : Exprs) (v : Val) → IsConstant sort (expr.Apply ops.Neg terms) v → Negated sort terms v
negated sort terms v e = let c = chosen sort (expr.Apply ops.Neg terms) v e in negation sort terms v c.sorted c.is

pub one_term : {T N : Type 0} (number : N → Val) (items : List (Term T N)) (first : Expr) → exprs_of number items ≡ expr.more first expr.none → length items ≡ 1
one_term number [] first e = absurd cc
one_term number (t ∷ []) first e = refl
one_term number (t ∷ (u ∷ items)) first e = absurd cc

pub first_term : {T N : Type 0} (number : N → Val) (items : List (Term T N)) (term : Term T N) (first : Expr) → slice_get items 0 ≡ Some term → exprs_of number items ≡ expr.more first expr.none → expr_of number term ≡ first
first_term number [] term first at e = absurd cc
first_term number (t ∷ items) term first at e = let same : t ≡ term = cc in ap (expr_of number) (sym same) ∙ cc

-- the one term of a list of one
pub only_term : {T N : Type 0} (number : N → Val) (items : List (Term T N)) (term : Term T N) → length items ≡ 1 → slice_get items 0 ≡ Some term → exprs_of number items ≡ expr.more (expr_of number term) expr.none
only_term number [] term e at = absurd cc
only_term number (t ∷ []) term e at = let same : t ≡ term = cc in ap (λ x. expr.more (expr_of number x) expr.none) same
only_term number (t ∷ (u ∷ items)) term e at = absurd (omega arith)

pub whole_is : (d : Val) → same_sort (sort_of_value d) sorts.Int ≡ true → d ≡ Whole (whole_number d)
whole_is (Truth b) e = absurd cc
whole_is (Whole z) e = refl
whole_is (Bits w n) e = absurd cc

pub not_whole : (d : Val) (whole : ℤ) → same_sort (sort_of_value d) sorts.Int ≡ false → d ≡ Whole whole → ⊥
not_whole d whole e f = let same : same_sort (sort_of_value d) sorts.Int ≡ true = ap (λ x. same_sort (sort_of_value x) sorts.Int) f in cc

-- an integer below 0, by the one above
pub record Below (whole : ℤ) : Type 0 where
  pub less : ℕ
  pub is : whole ≡ pos (less + 1)

-- an argument that a rule for all of a sort gives
pub record Named (sort : Sort) (arguments : List Sort) (term : Expr) (position : ℕ) : Type 0 where
  pub sorted : is_sort sort (slice_get arguments position) ≡ true
  pub is : expr.Variable position ≡ term

pub named : (sort : Sort) (arguments : List Sort) (term : Expr) (position : ℕ) → IsArgumentOf sort arguments term position → Named sort arguments term position
named sort arguments term position e =
    let parts = if_Some (is_sort sort (slice_get arguments position)) (expr.Variable position) term e in record { sorted = parts.0; is = parts.1 }

pub variable_made : (sort found : Sort) (arguments : List Sort) (term : Expr) (position : ℕ) → slice_get arguments position ≡ Some found → same_sort sort found ≡ true → term ≡ expr.Variable position → IsArgumentOf sort arguments term position
variable_made sort found arguments term position at same is =
    ap (λ o. if (is_sort sort o) then Some (expr.Variable position) else None) at ∙ ap (λ b. if b then Some (expr.Variable position) else None) same ∙ ap Some (sym is)

pub no_variable_sorted : (sort found : Sort) (arguments : List Sort) (term : Expr) (position other : ℕ) → slice_get arguments position ≡ Some found → same_sort sort found ≡ false → term ≡ expr.Variable position → IsArgumentOf sort arguments term other → ⊥
no_variable_sorted sort found arguments term position other at same is e =
    let n = named sort arguments term other e in
    let place : other ≡ position = cc in
    let sorted : is_sort sort (slice_get arguments position) ≡ true = ap (λ p. is_sort sort (slice_get arguments p)) (sym place) ∙ n.sorted in
    let differs : is_sort sort (slice_get arguments position) ≡ false = ap (is_sort sort) at ∙ same in
    cc

pub no_variable_past : (sort : Sort) (arguments : List Sort) (term : Expr) (position other : ℕ) → length arguments ≤ position → term ≡ expr.Variable position → IsArgumentOf sort arguments term other → ⊥
no_variable_past sort arguments term position other out is e =
    let n = named sort arguments term other e in
    let place : other ≡ position = cc in
    let sorted : is_sort sort (slice_get arguments position) ≡ true = ap (λ p. is_sort sort (slice_get arguments p)) (sym place) ∙ n.sorted in
    let differs : is_sort sort (slice_get arguments position) ≡ false = ap (is_sort sort) (slice_get_past arguments position out) in
    cc

pub whole_constant : {m n : ℤ} → expr.Constant (Whole m) ≡ expr.Constant (Whole n) → m ≡ n
whole_constant e = cc

pub negated_made : (sort : Sort) (terms : Exprs) (whole : ℤ) (value : Val) → same_sort sort sorts.Int ≡ true → terms ≡ expr.more (expr.Constant (Whole whole)) expr.none → IsOpposite whole value → IsConstant sort (expr.Apply ops.Neg terms) value
negated_made sort terms whole value sorted is opposite =
    rw (opposite.is, is, opposite.above) (made opposite.less sorted (lt-ltb _ _ opposite.fits))
  where
    made : (less : ℕ) → same_sort sort sorts.Int ≡ true → nat_lt (less + 1) (2 ^ 127) ≡ true → IsConstant sort (expr.Apply ops.Neg (expr.more (expr.Constant (Whole (pos (less + 1)))) expr.none)) (Whole (negsuc less))
    made less s f = rw (s, f) refl

pub above_0 : (z : ℤ) → lt_z z (pos 1) ≡ false → (less : ℕ) × (z ≡ pos (less + 1))
above_0 (pos zero) e = absurd cc
above_0 (pos (suc n)) e = (n, ap pos (sym (add-one n)))
above_0 (negsuc n) e = absurd cc

pub not_above : (z : ℤ) (less : ℕ) → lt_z z (pos 1) ≡ true → z ≡ pos (less + 1) → ⊥
not_above z less e f = let at : lt_z (pos (less + 1)) (pos 1) ≡ true = ap (λ y. lt_z y (pos 1)) (sym f) ∙ e in let lt = ltb-true (less + 1) 1 at in omega arith

pub opposite_found : {N : Type 0} (denotes : N → Val) (numeric : Bool) (whole z : ℤ) (less : ℕ) (result : Option N) → option_map denotes result ≡ (if numeric then Some (Whole z) else None) →
    whole ≡ pos (less + 1) → z ≡ negsuc less → less + 1 < 2 ^ 127 → MatchOption result ((l : ℕ) → whole ≡ pos (l + 1) → numeric ≡ true → ⊥) (λ number. IsOpposite whole (denotes number))
opposite_found denotes true whole z less (Some m) e above is fits = record { less = less; above = above; is = cc; fits = fits }
opposite_found denotes true whole z less None e above is fits = absurd cc
opposite_found denotes false whole z less (Some m) e above is fits = absurd cc
opposite_found denotes false whole z less None e above is fits = λ l a t. cc
