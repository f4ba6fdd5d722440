-- Terms that compare as the same are equal.
use Rattle.std.specs.Prelude.{ℕ, true, false, nat_eq, List, [], ◌∷◌, ◌≡◌, refl, slice_get, Option, Some, None}
use Rattle.std.proofs.Common.{ap, arith, ◌∙◌, sym}
use Rattle.std.proofs.lemmas.Bool.{eqb-true}
use Rattle.std.proofs.lemmas.Bool.Decides.{Decides-int_eq}
use Rattle.sy_terms.specs.Values.{Val, Truth, Whole, Bits, same}
use Rattle.sy_terms.specs.Expr.{Expr, Exprs, Constant, Variable, Apply, Invoke, Bind, none, more}
use Rattle.sy_terms.specs.declared.op.Op.{Op}
use Rattle.sy_terms.specs.declared.op.Op.TheVariants as ops
use Rattle.sy_terms_operators.proofs.Equations.{both_true}
use Rattle.sy_lower_laws.specs.Lowering.{operator_code, same_code, same_expr, same_exprs}

-- the operators of Core and Ints in the order of their numbers
operators : List Op
operators = ops.Not ∷ ops.And ∷ ops.Or ∷ ops.Xor ∷ ops.Implies ∷ ops.Equal ∷ ops.Distinct ∷ ops.Ite ∷ ops.Neg ∷ ops.Sub ∷ ops.Add ∷ ops.Mul ∷ ops.Div ∷ ops.Mod ∷ ops.Abs ∷ ops.Le ∷ ops.Lt ∷ ops.Ge ∷ ops.Gt ∷ []

operator_at : Option ℕ → Option Op
operator_at None = None
operator_at (Some n) = slice_get operators n

numbered : (f : Op) (n : ℕ) → operator_code f ≡ Some n → operator_at (operator_code f) ≡ Some f
unfolding operator_code operator_at operators
numbered ops.Not n e = refl
numbered ops.And n e = refl
numbered ops.Or n e = refl
numbered ops.Xor n e = refl
numbered ops.Implies n e = refl
numbered ops.Equal n e = refl
numbered ops.Distinct n e = refl
numbered ops.Ite n e = refl
numbered ops.Neg n e = refl
numbered ops.Sub n e = refl
numbered ops.Add n e = refl
numbered ops.Mul n e = refl
numbered ops.Div n e = refl
numbered ops.Mod n e = refl
numbered ops.Abs n e = refl
numbered ops.Le n e = refl
numbered ops.Lt n e = refl
numbered ops.Ge n e = refl
numbered ops.Gt n e = refl
numbered f n e = cc

-- both are this number
record AreBoth (a b : Option ℕ) : Type 0 where
  n : ℕ
  first : a ≡ Some n
  second : b ≡ Some n

are_both : (a b : Option ℕ) → same_code a b ≡ true → AreBoth a b
are_both (Some m) (Some n) e = record { n = n; first = ap Some (eqb-true m n e); second = refl }
are_both (Some m) None e = cc
are_both None b e = cc

same_operator : (f g : Op) → same_code (operator_code f) (operator_code g) ≡ true → f ≡ g
same_operator f g e =
    let both = are_both (operator_code f) (operator_code g) e in
    let one = numbered f both.n both.first in
    let other = numbered g both.n both.second in
    let codes : operator_at (operator_code f) ≡ operator_at (operator_code g) = ap operator_at (both.first ∙ sym both.second) in
    let some : Some f ≡ Some g = sym one ∙ codes ∙ other in
    cc

pub same_value : (v w : Val) → same v w ≡ true → v ≡ w
same_value (Truth true) (Truth true) e = refl
same_value (Truth true) (Truth false) e = cc
same_value (Truth false) (Truth true) e = cc
same_value (Truth false) (Truth false) e = refl
same_value (Whole m) (Whole n) e = ap Whole ((Decides-int_eq m n).0 e)
same_value (Bits v m) (Bits w n) e =
    let both = both_true (nat_eq v w) (nat_eq m n) e in
    let widths = eqb-true v w both.0 in
    let numbers = eqb-true m n both.1 in
    cc
same_value (Truth b) (Whole n) e = cc
same_value (Truth b) (Bits w n) e = cc
same_value (Whole m) (Truth b) e = cc
same_value (Whole m) (Bits w n) e = cc
same_value (Bits v m) (Truth b) e = cc
same_value (Bits v m) (Whole n) e = cc

pub value_same : (v : Val) → same v v ≡ true
value_same (Truth true) = refl
value_same (Truth false) = refl
value_same (Whole m) = (Decides-int_eq m m).1 refl
value_same (Bits w n) = grind arith

mutual
  unfolding same_expr same_exprs

  pub same_is : (a b : Expr) → same_expr a b ≡ true → a ≡ b
  same_is (Constant v) (Constant w) e = ap Constant (same_value v w e)
  same_is (Variable i) (Variable j) e = ap Variable (eqb-true i j e)
  same_is (Apply f us) (Apply g ws) e =
      let both = both_true (same_code (operator_code f) (operator_code g)) (same_exprs us ws) e in
      let operator = same_operator f g both.0 in
      let arguments = all_same us ws both.1 in
      cc
  same_is (Constant v) (Variable j) e = cc
  same_is (Constant v) (Apply g ws) e = cc
  same_is (Constant v) (Invoke g ws) e = cc
  same_is (Constant v) (Bind ws b) e = cc
  same_is (Variable i) (Constant w) e = cc
  same_is (Variable i) (Apply g ws) e = cc
  same_is (Variable i) (Invoke g ws) e = cc
  same_is (Variable i) (Bind ws b) e = cc
  same_is (Apply f us) (Constant w) e = cc
  same_is (Apply f us) (Variable j) e = cc
  same_is (Apply f us) (Invoke g ws) e = cc
  same_is (Apply f us) (Bind ws b) e = cc
  same_is (Invoke f us) b e = cc
  same_is (Bind us a) b e = cc

  all_same : (us ws : Exprs) → same_exprs us ws ≡ true → us ≡ ws
  all_same none none e = refl
  all_same (more a us) (more b ws) e =
      let both = both_true (same_expr a b) (same_exprs us ws) e in
      let first = same_is a b both.0 in
      let rest = all_same us ws both.1 in
      cc
  all_same none (more b ws) e = cc
  all_same (more a us) none e = cc
