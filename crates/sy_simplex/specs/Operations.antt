-- Operations on fractions: whether one fits, and its result in lowest terms.
use Rattle.std.specs.Prelude.{ℤ, pos, neg_ℤ, ◌*ℤ◌}
use Rattle.sy_frac.specs.Fraction.{Fraction, IsInRange, IsQuotient, SumFits, sum_over, difference_over}

pub data Operation : Type 0 where
  sum difference product quotient : Operation

-- each number that the operation forms is at most 2^127 - 1 in magnitude
abbrev pub OperationFits : Operation → Fraction → Fraction → Type 0
OperationFits sum f g = SumFits f g (sum_over f g)
OperationFits difference f g = SumFits f g (difference_over f g)
OperationFits product f g = IsInRange (f.num *ℤ g.num) × IsInRange (pos f.den *ℤ pos g.den)
OperationFits quotient f g = IsInRange (f.num *ℤ pos g.den) × IsInRange (pos f.den *ℤ g.num)

abbrev pub IsExact : Operation → Fraction → Fraction → Fraction → Type 0
IsExact sum f g r = IsQuotient r (sum_over f g) (pos f.den *ℤ pos g.den)
IsExact difference f g r = IsQuotient r (difference_over f g) (pos f.den *ℤ pos g.den)
IsExact product f g r = IsQuotient r (f.num *ℤ g.num) (pos f.den *ℤ pos g.den)
IsExact quotient f g r = IsQuotient r (f.num *ℤ pos g.den) (pos f.den *ℤ g.num)

-- the operation fits and has this result
pub record HasResult (o : Operation) (f g r : Fraction) : Type 0 where
  pub fits : OperationFits o f g
  pub exact : IsExact o f g r

-- turning a sign is exact, and is no operation
abbrev pub fraction_opposite : Fraction → Fraction
fraction_opposite f = record { num = neg_ℤ f.num; den = f.den }

abbrev pub fraction_of_whole : ℤ → Fraction
fraction_of_whole n = record { num = n; den = 1 }

-- own + factor * other, by a product and a sum
pub record IsPlusProduct (own factor other r : Fraction) : Type 0 where
  pub part : Fraction
  pub part_is : HasResult product factor other part
  pub sum_is : HasResult sum own part r

-- one of the two operations doesn't fit
pub data PlusProductUnfit (own factor other : Fraction) : Type 0 where
  product_unfit : ¬ (OperationFits product factor other) → PlusProductUnfit own factor other
  sum_unfit : (part : Fraction) → HasResult product factor other part → ¬ (OperationFits sum own part) → PlusProductUnfit own factor other

-- (bound - value) / coefficient, by a difference and a quotient
pub record IsShift (bound value coefficient r : Fraction) : Type 0 where
  pub gap : Fraction
  pub gap_is : HasResult difference bound value gap
  pub quotient_is : HasResult quotient gap coefficient r

pub data ShiftUnfit (bound value coefficient : Fraction) : Type 0 where
  gap_unfit : ¬ (OperationFits difference bound value) → ShiftUnfit bound value coefficient
  quotient_unfit : (gap : Fraction) → HasResult difference bound value gap → ¬ (OperationFits quotient gap coefficient) → ShiftUnfit bound value coefficient
