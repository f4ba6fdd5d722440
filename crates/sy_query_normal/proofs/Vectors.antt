-- The operators on vectors whose arguments may stand in any order.
use Rattle.std.proofs.Common.{◌≡◌, ℕ, ◌/◌, Bool, true, false, cond, List, [], ◌∷◌, refl, ap, sym, ◌∙◌, arith, bit_and, bit_or, bit_xor}
use lib.Arith.{bin_ind}
use lib.Bits.{and_self, or_self, xor_self, xor_assoc, xor_zero_r, or_zero_r, or_step}
use Rattle.std.proofs.lemmas.Nat.{and_comm, or_comm, xor_comm, and_assoc, and_or_self, or_shr}
use Rattle.sy_terms.specs.Values.{Val, Truth, Whole, Bits, from_left}
use Rattle.sy_terms.specs.Operators.{op_value, on_pair}
use Rattle.sy_terms.specs.Theories.{sort_of_value}
use Rattle.sy_terms.specs.declared.op.Op.{Op}
use Rattle.sy_terms.specs.declared.op.Op.TheVariants as ops
use Rattle.sy_terms.specs.declared.sort.Sort.TheVariants as sorts
use Rattle.sy_query_normal.specs.Unordered.{cancels, GiveTheSame, IsUnordered}

-- pairs of vectors

pair_turned : (f : ℕ → ℕ → ℕ) → ((a b c : ℕ) → f (f a b) c ≡ f (f a c) b) → (x y z : Val) → on_pair (λ w. f) (on_pair (λ w. f) x y) z ≡ on_pair (λ w. f) (on_pair (λ w. f) x z) y
pair_turned f turned (Bits w a) (Bits v b) (Bits u c) = ap (Bits w) (turned a b c)
pair_turned f turned (Bits w a) (Bits v b) (Truth t) = refl
pair_turned f turned (Bits w a) (Bits v b) (Whole n) = refl
pair_turned f turned (Bits w a) (Truth s) (Bits u c) = refl
pair_turned f turned (Bits w a) (Truth s) (Truth t) = refl
pair_turned f turned (Bits w a) (Truth s) (Whole n) = refl
pair_turned f turned (Bits w a) (Whole m) (Bits u c) = refl
pair_turned f turned (Bits w a) (Whole m) (Truth t) = refl
pair_turned f turned (Bits w a) (Whole m) (Whole n) = refl
pair_turned f turned (Truth s) y z = refl
pair_turned f turned (Whole m) y z = refl

pair_grouped : (f : ℕ → ℕ → ℕ) → ((a b c : ℕ) → f (f a b) c ≡ f a (f b c)) → (x y z : Val) → on_pair (λ w. f) (on_pair (λ w. f) x y) z ≡ on_pair (λ w. f) x (on_pair (λ w. f) y z)
pair_grouped f grouped (Bits w a) (Bits v b) (Bits u c) = ap (Bits w) (grouped a b c)
pair_grouped f grouped (Bits w a) (Bits v b) (Truth t) = refl
pair_grouped f grouped (Bits w a) (Bits v b) (Whole n) = refl
pair_grouped f grouped (Bits w a) (Truth s) z = refl
pair_grouped f grouped (Bits w a) (Whole m) z = refl
pair_grouped f grouped (Truth s) y z = refl
pair_grouped f grouped (Whole m) y z = refl

pair_keeps : (f : ℕ → ℕ → ℕ) (w : ℕ) (x y : Val) → sort_of_value x ≡ sorts.Bits w → sort_of_value y ≡ sorts.Bits w → sort_of_value (on_pair (λ w. f) x y) ≡ sorts.Bits w
pair_keeps f w (Bits v m) (Bits u n) h k = h
pair_keeps f w (Bits v m) (Truth b) h k = cc
pair_keeps f w (Bits v m) (Whole z) h k = cc
pair_keeps f w (Truth b) y h k = cc
pair_keeps f w (Whole z) y h k = cc

pair_doubled : (f : ℕ → ℕ → ℕ) (c : Bool) → ((m n : ℕ) → f (f m n) n ≡ cond c m (f m n)) → (w : ℕ) (x y : Val) → sort_of_value x ≡ sorts.Bits w → sort_of_value y ≡ sorts.Bits w → on_pair (λ w. f) (on_pair (λ w. f) x y) y ≡ cond c x (on_pair (λ w. f) x y)
pair_doubled f true doubled w (Bits v m) (Bits u n) h k = ap (Bits v) (doubled m n)
pair_doubled f false doubled w (Bits v m) (Bits u n) h k = ap (Bits v) (doubled m n)
pair_doubled f c doubled w (Bits v m) (Truth b) h k = cc
pair_doubled f c doubled w (Bits v m) (Whole z) h k = cc
pair_doubled f c doubled w (Truth b) y h k = cc
pair_doubled f c doubled w (Whole z) y h k = cc

-- an operator taken from the left

module _ (operator : Op) (f : ℕ → ℕ → ℕ) (says : (values : List Val) → op_value operator values ≡ from_left (on_pair (λ w. f)) values) where
  list_doubled : (c : Bool) (x y : Val) (rest : List Val) → on_pair (λ w. f) (on_pair (λ w. f) x y) y ≡ cond c x (on_pair (λ w. f) x y) → op_value operator (x ∷ y ∷ y ∷ rest) ≡ op_value operator (x ∷ cond c rest (y ∷ rest))
  list_doubled true x y rest e = says (x ∷ y ∷ y ∷ rest) ∙ ap (λ (v : Val). from_left (on_pair (λ w. f)) (v ∷ rest)) e ∙ sym (says (x ∷ rest))
  list_doubled false x y rest e = says (x ∷ y ∷ y ∷ rest) ∙ ap (λ (v : Val). from_left (on_pair (λ w. f)) (v ∷ rest)) e ∙ sym (says (x ∷ y ∷ rest))

  told_by : (over : ℕ → ℕ → ℕ) → ((m n : ℕ) → f (over m n) m ≡ m) → ((m n : ℕ) → f (over m n) n ≡ n) → (w : ℕ) (x y : Val) → sort_of_value x ≡ sorts.Bits w → sort_of_value y ≡ sorts.Bits w → GiveTheSame (sorts.Bits w) operator (x ∷ []) (y ∷ []) → x ≡ y
  told_by over left right w (Bits v m) (Bits u n) h k same =
      let first : v ≡ w = cc in
      let second : u ≡ w = cc in
      let x : Val = Bits w (over m n) in
      ap (λ (i : ℕ). Bits i m) first ∙ ap (Bits w) (sym (left m n)) ∙ sym (says (x ∷ Bits v m ∷ [])) ∙ same x refl ∙ says (x ∷ Bits u n ∷ []) ∙ ap (Bits w) (right m n) ∙ ap (λ (i : ℕ). Bits i n) (sym second)
  told_by over left right w (Bits v m) (Truth b) h k same = cc
  told_by over left right w (Bits v m) (Whole z) h k same = cc
  told_by over left right w (Truth b) y h k same = cc
  told_by over left right w (Whole z) y h k same = cc

  vectors_unordered : (w : ℕ) (over : ℕ → ℕ → ℕ) → ((a b c : ℕ) → f (f a b) c ≡ f (f a c) b) → ((a b c : ℕ) → f (f a b) c ≡ f a (f b c)) → ((m n : ℕ) → f (over m n) m ≡ m) → ((m n : ℕ) → f (over m n) n ≡ n) →
      ((m n : ℕ) → f (f m n) n ≡ cond (cancels operator) m (f m n)) → IsUnordered (sorts.Bits w) operator
  vectors_unordered w over turned grouped left right doubled = record {
    both = on_pair (λ w. f);
    steps = λ x y rest. says (x ∷ y ∷ rest) ∙ sym (says (on_pair (λ w. f) x y ∷ rest));
    first_alone = λ x rest. ap (λ (v : Val). op_value operator (v ∷ rest)) (says (x ∷ []));
    second_alone = λ x y rest. ap (λ (v : Val). op_value operator (x ∷ v ∷ rest)) (says (y ∷ []));
    turned = pair_turned f turned;
    grouped = pair_grouped f grouped;
    keeps = pair_keeps f w;
    doubled = λ x y rest h k. list_doubled (cancels operator) x y rest (pair_doubled f (cancels operator) doubled w x y h k);
    told = told_by over left right w;
  }

-- the operators

or_assoc : (c a b : ℕ) → bit_or (bit_or a b) c ≡ bit_or a (bit_or b c)
or_assoc =
    bin_ind (λ (c : ℕ). (a b : ℕ) → bit_or (bit_or a b) c ≡ bit_or a (bit_or b c)) (λ a b. or_zero_r (bit_or a b) ∙ sym (ap (bit_or a) (or_zero_r b)))
    (λ c ih a b.
    let p : bit_or (bit_or a b / 2) (c / 2) ≡ bit_or (a / 2) (bit_or b c / 2) = ap (λ (x : ℕ). bit_or x (c / 2)) (or_shr a b 1) ∙ ih (a / 2) (b / 2) ∙ sym (ap (bit_or (a / 2)) (or_shr b c 1)) in
    omega (arith, or_step (bit_or a b) c, or_step a (bit_or b c), or_step a b, or_step b c))

turned_by : (f : ℕ → ℕ → ℕ) → ((a b : ℕ) → f a b ≡ f b a) → ((a b c : ℕ) → f (f a b) c ≡ f a (f b c)) → (a b c : ℕ) → f (f a b) c ≡ f (f a c) b
turned_by f comm assoc a b c = assoc a b c ∙ ap (f a) (comm b c) ∙ sym (assoc a c b)

pub vector_and : (w : ℕ) → IsUnordered (sorts.Bits w) ops.BvAnd
unfolding op_value
vector_and w =
    vectors_unordered ops.BvAnd bit_and (λ values. refl) w bit_or (turned_by bit_and and_comm (λ a b c. and_assoc c a b)) (λ a b c. and_assoc c a b)
    (λ m n. ap (λ (k : ℕ). bit_and k m) (or_comm m n) ∙ and_or_self m n) (λ m n. and_or_self n m)
    (λ m n. and_assoc n m n ∙ ap (bit_and m) (and_self n))

pub vector_or : (w : ℕ) → IsUnordered (sorts.Bits w) ops.BvOr
unfolding op_value
vector_or w =
    vectors_unordered ops.BvOr bit_or (λ values. refl) w (λ m n. 0) (turned_by bit_or or_comm (λ a b c. or_assoc c a b)) (λ a b c. or_assoc c a b)
    (λ m n. refl) (λ m n. refl) (λ m n. or_assoc n m n ∙ ap (bit_or m) (or_self n))

pub vector_xor : (w : ℕ) → IsUnordered (sorts.Bits w) ops.BvXor
unfolding op_value
vector_xor w =
    vectors_unordered ops.BvXor bit_xor (λ values. refl) w (λ m n. 0) (turned_by bit_xor xor_comm xor_assoc) xor_assoc
    (λ m n. refl) (λ m n. refl) (λ m n. xor_assoc m n n ∙ ap (bit_xor m) (xor_self n) ∙ xor_zero_r m)

-- the vector of zeros changes nothing
pub zero_nothing : (w : ℕ) → GiveTheSame (sorts.Bits w) ops.BvXor (Bits w 0 ∷ []) []
unfolding op_value
zero_nothing w (Bits v m) fits = ap (Bits v) (xor_zero_r m)
zero_nothing w (Truth b) fits = cc
zero_nothing w (Whole z) fits = cc
