-- Which operators and sorts a logic has, and which theories are its own.
use Rattle.std.specs.Prelude.{ℕ, ◌≡◌, ◌||◌, Bool, not, true, false}
use Rattle.sy_terms.specs.Theories.{in_core, in_ints}
use Rattle.sy_terms.specs.declared.op.Op.{Op}
use Rattle.sy_terms.specs.declared.sort.Logic.{Logic}
use Rattle.sy_terms.specs.declared.sort.Logic.TheVariants.{Lia, Bv}
use Rattle.sy_terms.specs.declared.sort.Sort.{Sort}
use Rattle.sy_terms.specs.declared.sort.Sort.TheVariants as sorts

-- the operators of a logic
abbrev pub operators_of : Logic → Op → Bool
operators_of Lia operator = in_core operator || in_ints operator
operators_of Bv operator = not (in_ints operator)

-- the sorts of its numbers
abbrev pub number_sorts : Logic → Sort → Bool
number_sorts Lia sorts.Int = true
number_sorts Bv (sorts.Bits width) = true
number_sorts _ _ = false

-- a theory with these operators and sorts of numbers is the logic's
pub record IsTheoryOf (logic : Logic) (owned : Op → Bool) (numeric : Sort → Bool) : Type 0 where
  pub operators : (operator : Op) → owned operator ≡ operators_of logic operator
  pub sorts : (sort : Sort) → numeric sort ≡ number_sorts logic sort

-- each sort of the logic's numbers is one of the theory's
abbrev pub Serves : (Sort → Bool) → Logic → Type 0
Serves numeric Lia = numeric sorts.Int ≡ true
Serves numeric Bv = (width : ℕ) → numeric (sorts.Bits width) ≡ true
