-- The sizes of constants and of arguments that rules for all of a sort give.
use Rattle.std.specs.Prelude.{ℕ, ◌+◌, ◌-◌, ◌^◌, List, ◌≡◌, ◌≤◌, Bool, true, not, cond, ◌&&◌, ◌||◌, ◌==◌, nat_eq, pos, negsuc, Option, Some, None, slice_get}
use Rattle.std.specs.List.{list_any}
use Rattle.sy_terms.specs.Values.{Val, Whole, Bits, same}
use Rattle.sy_terms.specs.Sorts.{same_sort}
use Rattle.sy_terms.specs.Theories.{sort_of_value}
use Rattle.sy_terms.specs.declared.sort.Sort.{Sort}
use Rattle.sy_terms.specs.declared.sort.Sort.TheVariants as sorts
use Rattle.sy_grammar_base.specs.Trees.{is_written, is_sort, is_small, is_negative, value_magnitude, constant_size}

-- a value that a rule for all constants of the sort gives
pub record IsConstantOf (sort : Sort) (value : Val) : Type 0 where
  pub sorted : same_sort sort (sort_of_value value) ≡ true
  pub written : is_written value ≡ true

-- some constant of the sort has this size
abbrev pub IsConstantSize : List Val → Sort → ℕ → Type 0
IsConstantSize pool sort size = (value : Val) × IsConstantOf sort value × (constant_size pool value ≡ size)

-- some argument has the sort, and counts 1
abbrev pub IsVariableSize : List Sort → Sort → ℕ → Type 0
IsVariableSize arguments sort size = (position : ℕ) × (is_sort sort (slice_get arguments position) ≡ true) × (size ≡ 1)

-- the greatest number of a kind; none where there is no such number
abbrev pub IsGreatest : (ℕ → Type 0) → Option ℕ → Type 0
IsGreatest Kind None = (size : ℕ) → Kind size → ⊥
IsGreatest Kind (Some greatest) = Kind greatest × ((size : ℕ) → Kind size → size ≤ greatest)

-- the value has this sort and sign
abbrev pub has_sign : Sort → Bool → Val → Bool
has_sign sort negative value = same_sort sort (sort_of_value value) && cond negative (is_negative value) (not (is_negative value))

-- the value has this sort, magnitude and sign
abbrev pub is_at : Sort → ℕ → Bool → Val → Bool
is_at sort size negative value = has_sign sort negative value && (value_magnitude value == size)

-- the constant counts 1
abbrev pub is_one : List Val → Val → Bool
is_one pool value = is_small value || list_any (same value) pool

-- each constant of the sort with this magnitude, above 0, counts 1
abbrev pub are_one : List Val → Sort → ℕ → Bool
are_one pool sorts.Bool size = true
are_one pool sorts.Int size = is_one pool (Whole (negsuc (size - 1))) && is_one pool (Whole (pos size))
are_one pool (sorts.Bits width) size = is_one pool (Bits width size)

-- the same, where the pool has values of the sort with these magnitudes
abbrev pub are_held : (ℕ → Bool) → (ℕ → Bool) → Sort → ℕ → Bool
are_held positive negative sorts.Bool size = true
are_held positive negative sorts.Int size = negative size && (nat_eq size 1 || positive size)
are_held positive negative (sorts.Bits width) size = nat_eq size 1 || positive size

-- the greatest magnitude of a constant of the sort
abbrev pub IsTop : Sort → ℕ → Type 0
IsTop sorts.Bool top = ⊥
IsTop sorts.Int top = top + 1 ≡ 2 ^ 127
IsTop (sorts.Bits width) top = (1 ≤ width) × (width ≤ 64) × (top + 1 ≡ 2 ^ width)
