-- What one operation after another answers.
use Rattle.std.proofs.Common.{◌≡◌, ◌≢◌, refl, ◌∙◌, ap, subst, lit<, Bool, true, false, not}
use Rattle.std.proofs.lemmas.Int.{to_z-of_z}
use mir.Syntax.{w128}
use mir.Val.{to_z, of_z, SFits}
use Rattle.std.specs.Prelude.{ℤ, pos, ◌*ℤ◌, Option, Some, None, MatchOption, is_some}
use Rattle.sy_frac.specs.Fraction.{Fraction, IsInRange, QuotientIff, sum_over}
use Rattle.sy_simplex.proofs.Exact.{one_positive, whole_exact}
use Rattle.sy_simplex.specs.Operations.{HasResult, OperationFits, sum, difference, product, quotient, fraction_of_whole, IsPlusProduct, PlusProductUnfit, sum_unfit, IsShift, ShiftUnfit, quotient_unfit}

pub shift_is : (bound value coefficient gap : Fraction) (r : Option Fraction) → HasResult difference bound value gap → QuotientIff r (OperationFits quotient gap coefficient) (gap.num *ℤ pos coefficient.den) (pos gap.den *ℤ coefficient.num) → MatchOption r (ShiftUnfit bound value coefficient) (λ f. IsShift bound value coefficient f)
shift_is bound value coefficient gap None g q = quotient_unfit gap g q
shift_is bound value coefficient gap (Some f) g q = record { gap = gap; gap_is = g; quotient_is = record { fits = q.0; exact = q.1 } }

pub plus_product_is : (own factor other part : Fraction) (r : Option Fraction) → HasResult product factor other part → QuotientIff r (OperationFits sum own part) (sum_over own part) (pos own.den *ℤ pos part.den) → MatchOption r (PlusProductUnfit own factor other) (λ f. IsPlusProduct own factor other f)
plus_product_is own factor other part None g q = sum_unfit part g q
plus_product_is own factor other part (Some f) g q = record { part = part; part_is = g; sum_is = record { fits = q.0; exact = q.1 } }

pub whole_is : (n : ℤ) (r : Option Fraction) → QuotientIff r ((pos 1 ≢ pos 0) × IsInRange n × IsInRange (pos 1)) n (pos 1) → MatchOption r (¬ (IsInRange n)) (λ f. IsInRange n × (f ≡ fraction_of_whole n))
whole_is n None q = λ h. q (one_positive, h, lit< tt)
whole_is n (Some f) q = (q.0.1, whole_exact f n (pos 1) q.0.1 refl q.1)

pub moved₃ : (P : Fraction → Fraction → Fraction → Type 0) (a b c a' b' c' : Fraction) → a ≡ a' → b ≡ b' → c ≡ c' → P a b c → P a' b' c'
moved₃ P a b c a' b' c' e f g h = subst (λ x. P x b' c') e (subst (λ x. P a x c') f (subst (λ x. P a b x) g h))

-- the same for a number that comes back from its bits
pub whole_bits : (n : ℤ) (r : Option Fraction) → SFits w128 n → QuotientIff r ((pos 1 ≢ pos 0) × IsInRange (to_z w128 (of_z w128 n)) × IsInRange (pos 1)) (to_z w128 (of_z w128 n)) (pos 1) → MatchOption r (¬ (IsInRange n)) (λ f. IsInRange n × (f ≡ fraction_of_whole n))
whole_bits n r h q = whole_is n r (subst (λ k. QuotientIff r ((pos 1 ≢ pos 0) × IsInRange k × IsInRange (pos 1)) k (pos 1)) (to_z-of_z w128 n h) q)

-- what a test for `None` tells
pub none_of : {A : Type 0} → (r : Option A) (b : Bool) (P Q : Type 0) → is_some r ≡ not b → b ≡ true → MatchOption r P (λ _. Q) → P
none_of None b P Q e h m = m
none_of (Some a) b P Q e h m = absurd (clash (e ∙ ap not h))
  where
    clash : true ≡ false → ⊥
    clash e = cc

pub some_of : {A : Type 0} → (r : Option A) (b : Bool) (P Q : Type 0) → is_some r ≡ not b → b ≡ false → MatchOption r P (λ _. Q) → Q
some_of None b P Q e h m = absurd (clash (e ∙ ap not h))
  where
    clash : false ≡ true → ⊥
    clash e = cc
some_of (Some a) b P Q e h m = m
