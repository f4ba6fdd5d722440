-- Truth values: all and some of them, whose arguments may stand in any order, and operators that give one.
use Rattle.std.proofs.Common.{◌≡◌, ℕ, Bool, true, false, not, ◌&&◌, ◌||◌, nat_lt, nat_le, List, [], ◌∷◌, refl, ap, sym, ◌∙◌}
use Rattle.std.specs.List.{list_all, list_any}
use Rattle.sy_terms.specs.Values.{Val, Truth, Whole, Bits, truth}
use Rattle.sy_terms.specs.BitVectors.{signed_less}
use Rattle.sy_terms.specs.Operators.{op_value, test_two}
use Rattle.sy_terms.specs.Theories.{sort_of_value}
use Rattle.sy_terms.specs.declared.op.Op.{Op}
use Rattle.sy_terms.specs.declared.op.Op.TheVariants as ops
use Rattle.sy_terms.specs.declared.sort.Sort.TheVariants as sorts
use Rattle.sy_query_normal.specs.Truths.{gives_truth}
use Rattle.sy_query_normal.specs.Unordered.{IsUnordered}

-- a truth value is what it says
says_itself : (x : Val) → sort_of_value x ≡ sorts.Bool → x ≡ Truth (truth x)
says_itself (Truth b) h = refl
says_itself (Whole z) h = cc
says_itself (Bits w n) h = cc

and_assoc : (a b c : Bool) → (a && (b && c)) ≡ ((a && b) && c)
and_assoc true b c = refl
and_assoc false b c = refl

and_true : (a : Bool) → (a && true) ≡ a
and_true true = refl
and_true false = refl

and_turned : (a b c : Bool) → ((a && b) && c) ≡ ((a && c) && b)
and_turned true true true = refl
and_turned true true false = refl
and_turned true false true = refl
and_turned true false false = refl
and_turned false b c = refl

and_doubled : (a b c : Bool) → (a && (b && (b && c))) ≡ (a && (b && c))
and_doubled true true c = refl
and_doubled true false c = refl
and_doubled false b c = refl

or_assoc : (a b c : Bool) → (a || (b || c)) ≡ ((a || b) || c)
or_assoc true b c = refl
or_assoc false b c = refl

or_false : (a : Bool) → (a || false) ≡ a
or_false true = refl
or_false false = refl

or_turned : (a b c : Bool) → ((a || b) || c) ≡ ((a || c) || b)
or_turned false true true = refl
or_turned false true false = refl
or_turned false false true = refl
or_turned false false false = refl
or_turned true b c = refl

or_doubled : (a b c : Bool) → (a || (b || (b || c))) ≡ (a || (b || c))
or_doubled false true c = refl
or_doubled false false c = refl
or_doubled true b c = refl

pub truths_and : IsUnordered sorts.Bool ops.And
unfolding op_value
truths_and = record {
  both = λ x y. Truth (truth x && truth y);
  steps = λ x y rest. ap Truth (and_assoc (truth x) (truth y) (list_all truth rest));
  first_alone = λ x rest. ap (λ (b : Bool). Truth (b && list_all truth rest)) (and_true (truth x));
  second_alone = λ x y rest. ap (λ (b : Bool). Truth (truth x && (b && list_all truth rest))) (and_true (truth y));
  turned = λ x y z. ap Truth (and_turned (truth x) (truth y) (truth z));
  grouped = λ x y z. ap Truth (sym (and_assoc (truth x) (truth y) (truth z)));
  keeps = λ x y h k. refl;
  doubled = λ x y rest h k. ap Truth (and_doubled (truth x) (truth y) (list_all truth rest));
  told = λ x y h k same. says_itself x h ∙ ap Truth (sym (and_true (truth x))) ∙ same (Truth true) refl ∙ ap Truth (and_true (truth y)) ∙ sym (says_itself y k);
}

pub truths_or : IsUnordered sorts.Bool ops.Or
unfolding op_value
truths_or = record {
  both = λ x y. Truth (truth x || truth y);
  steps = λ x y rest. ap Truth (or_assoc (truth x) (truth y) (list_any truth rest));
  first_alone = λ x rest. ap (λ (b : Bool). Truth (b || list_any truth rest)) (or_false (truth x));
  second_alone = λ x y rest. ap (λ (b : Bool). Truth (truth x || (b || list_any truth rest))) (or_false (truth y));
  turned = λ x y z. ap Truth (or_turned (truth x) (truth y) (truth z));
  grouped = λ x y z. ap Truth (sym (or_assoc (truth x) (truth y) (truth z)));
  keeps = λ x y h k. refl;
  doubled = λ x y rest h k. ap Truth (or_doubled (truth x) (truth y) (list_any truth rest));
  told = λ x y h k same. says_itself x h ∙ ap Truth (sym (or_false (truth x))) ∙ same (Truth false) refl ∙ ap Truth (or_false (truth y)) ∙ sym (says_itself y k);
}

test_says : (f : ℕ → ℕ → ℕ → Bool) (values : List Val) → sort_of_value (test_two f values) ≡ sorts.Bool
test_says f [] = refl
test_says f (Truth b ∷ rest) = refl
test_says f (Whole z ∷ rest) = refl
test_says f (Bits w m ∷ []) = refl
test_says f (Bits w m ∷ Truth b ∷ rest) = refl
test_says f (Bits w m ∷ Whole z ∷ rest) = refl
test_says f (Bits w m ∷ Bits v n ∷ []) = refl
test_says f (Bits w m ∷ Bits v n ∷ x ∷ rest) = refl

-- operators that say whether something holds
pub says_truth : (operator : Op) (values : List Val) → gives_truth operator ≡ true → sort_of_value (op_value operator values) ≡ sorts.Bool
unfolding op_value
says_truth ops.Not values h = refl
says_truth ops.And values h = refl
says_truth ops.Or values h = refl
says_truth ops.Implies values h = refl
says_truth ops.Equal values h = refl
says_truth ops.Distinct values h = refl
says_truth ops.BvUlt values h = test_says (λ w s t. nat_lt s t) values
says_truth ops.BvUle values h = test_says (λ w s t. nat_le s t) values
says_truth ops.BvUgt values h = test_says (λ w s t. nat_lt t s) values
says_truth ops.BvUge values h = test_says (λ w s t. nat_le t s) values
says_truth ops.BvSlt values h = test_says signed_less values
says_truth ops.BvSle values h = test_says (λ w s t. not (signed_less w t s)) values
says_truth ops.BvSgt values h = test_says (λ w s t. signed_less w t s) values
says_truth ops.BvSge values h = test_says (λ w s t. not (signed_less w s t)) values
says_truth _ values h = cc
