-- Numbers that are written are read as the same numbers.
use Rattle.std.proofs.Common.{◌≡◌, ◌<◌, ◌≤◌, ◌^◌, ◌+◌, ◌-◌, ℕ, refl, ap, sym, subst, ◌∙◌, arith, add-one, Some, None, Bool, true, false, lit<}
use Rattle.std.specs.Prelude.{Option, ℤ, pos, negsuc, codes, option_and_then, nat_eq, if◌then◌else◌}
use Rattle.std.specs.Option.{option_map}
use Rattle.std.proofs.lemmas.Bool.{lt-ltb, eqb-true, eqb-false}
use Rattle.sy_text_items.specs.Items.{Item, leaf, group, none, more}
use Rattle.sy_text_items.specs.Lexicon.{bar_content, quotable, space}
use Rattle.sy_text.specs.Spelling.{all_bytes, ItemFits}
use Rattle.sy_frac.specs.Fraction.{Fraction, IsInRange, IsLowest}
use Rattle.sy_proof.specs.Lists.{below, nowhere, number_item, word_item}
use Rattle.sy_proof.specs.Numbers.{denominator_in, fraction_by, fraction_in, fraction_item, from_two, negative_in, opposite, quotient_in, quotient_item, whole_in, whole_item, whole_or, WholeFits}
use Rattle.sy_proof.proofs.Again.{below_limit}

large_again : (n : ℕ) → n < 2 ^ 127 → option_map pos (below (2 ^ 127) (Some n)) ≡ Some (pos n)
large_again n small = ap (option_map pos) (below_limit (2 ^ 127) n small)

opposite_again : (n : ℕ) → opposite (pos (n + 1)) ≡ Some (negsuc n)
opposite_again n = rw add-one refl

minus_again : (n : ℕ) → n + 1 < 2 ^ 127 → negative_in (more (word_item (codes "-")) (more (number_item (n + 1)) none)) ≡ Some (negsuc n)
minus_again n small = ap (option_and_then opposite) (large_again (n + 1) small) ∙ opposite_again n

-- the item of a number below 0, by whether it is the least
abbrev minus_item : Bool → ℕ → Item
minus_item least n = if least then word_item (codes "min") else group (more (word_item (codes "-")) (more (number_item (n + 1)) none)) nowhere

least_is : (n : ℕ) → n + 1 ≡ 2 ^ 127 → n ≡ 2 ^ 127 - 1
least_is n e = omega arith

not_least : (n : ℕ) → n < 2 ^ 127 → nat_eq (n + 1) (2 ^ 127) ≡ false → n + 1 < 2 ^ 127
not_least n small e = let differs : n + 1 ≡ 2 ^ 127 → ⊥ = eqb-false (n + 1) (2 ^ 127) e in omega arith

minus_read : (least : Bool) (n : ℕ) → n < 2 ^ 127 → nat_eq (n + 1) (2 ^ 127) ≡ least → whole_in (minus_item least n) ≡ Some (negsuc n)
minus_read true n small is = ap (λ m. Some (negsuc m)) (sym (least_is n (eqb-true (n + 1) (2 ^ 127) is)))
minus_read false n small is = minus_again n (not_least n small is)

pub whole_again : (z : ℤ) → WholeFits z → whole_in (whole_item z) ≡ Some z
whole_again (pos n) small = large_again n small
whole_again (negsuc n) small = minus_read (nat_eq (n + 1) (2 ^ 127)) n small refl

whole_or-leaf : (z : ℤ) (item : Item) → whole_in item ≡ Some z → fraction_in item ≡ Some (record { num = z; den = 1 })
whole_or-leaf z (leaf atom place) is = ap (λ (whole : Option ℤ). whole_or whole None) is
whole_or-leaf z (group parts place) is = ap (λ (whole : Option ℤ). whole_or whole (quotient_in parts)) is

denominator_again : (n : ℕ) → 1 < n → n < 2 ^ 127 → denominator_in (number_item n) ≡ Some n
denominator_again n two small = ap from_two (below_limit (2 ^ 127) n small) ∙ ap (λ b. if b then Some n else None) (lt-ltb 1 n two)

quotient_again : (num : ℤ) (den : ℕ) → WholeFits num → 1 < den → den < 2 ^ 127 → fraction_in (quotient_item num den) ≡ Some (record { num = num; den = den })
quotient_again num den fits two small =
    ap (λ (n : Option ℤ). fraction_by n (denominator_in (number_item den))) (whole_again num fits) ∙ ap (fraction_by (Some num)) (denominator_again den two small)

pub lowest_fits : (z : ℤ) → IsInRange z → WholeFits z
lowest_fits (pos n) range = range
lowest_fits (negsuc n) range = omega (arith, range)

by_den : (f : Fraction) (whole : Bool) → IsLowest f → nat_eq f.den 1 ≡ whole → fraction_in (if whole then whole_item f.num else quotient_item f.num f.den) ≡ Some f
by_den f true lowest is =
    let one : f.den ≡ 1 = eqb-true f.den 1 is in
    whole_or-leaf f.num (whole_item f.num) (whole_again f.num (lowest_fits f.num lowest.num_fits)) ∙ ap Some (λ i. record { num = f.num; den = sym one i })
by_den f false lowest is = quotient_again f.num f.den (lowest_fits f.num lowest.num_fits) (above f.den lowest.positive is) lowest.den_fits
  where
    above : (n : ℕ) → 0 < n → nat_eq n 1 ≡ false → 1 < n
    above n positive e = let differs : n ≡ 1 → ⊥ = eqb-false n 1 e in omega arith

pub fraction_again : (f : Fraction) → IsLowest f → fraction_in (fraction_item f) ≡ Some f
fraction_again f lowest = by_den f (nat_eq f.den 1) lowest refl

-- ---- what can be spelled
min_fits : all_bytes bar_content (codes "min") ≡ true
unfolding bar_content quotable space
min_fits = refl

minus_fits : all_bytes bar_content (codes "-") ≡ true
unfolding bar_content quotable space
minus_fits = refl

slash_fits : all_bytes bar_content (codes "/") ≡ true
unfolding bar_content quotable space
slash_fits = refl

below_zero_fits : (room : ℕ) (least : Bool) (n : ℕ) → 1 ≤ room → n < 2 ^ 127 → nat_eq (n + 1) (2 ^ 127) ≡ least → ItemFits room (minus_item least n)
below_zero_fits room true n space small is = min_fits
below_zero_fits room false n space small is = (space, (minus_fits, (not_least n small is, tt)))

pub whole_fits : (room : ℕ) → 1 ≤ room → (z : ℤ) → WholeFits z → ItemFits room (whole_item z)
whole_fits room space (pos n) small = small
whole_fits room space (negsuc n) small = below_zero_fits room (nat_eq (n + 1) (2 ^ 127)) n space small refl

quotient_fits : (room : ℕ) → 1 ≤ room → (num : ℤ) (den : ℕ) → WholeFits num → den < 2 ^ 127 → ItemFits (room + 1) (quotient_item num den)
quotient_fits room space num den fits small = (omega arith, (slash_fits, (subst (λ r. ItemFits r (whole_item num)) (same room) (whole_fits room space num fits), (small, tt))))
  where
    same : (r : ℕ) → r ≡ (r + 1) - 1
    same r = omega arith

pub fraction_fits : (room : ℕ) → 1 ≤ room → (f : Fraction) → IsLowest f → ItemFits (room + 1) (fraction_item f)
fraction_fits room space f lowest = by (nat_eq f.den 1)
  where
    by : (whole : Bool) → ItemFits (room + 1) (if whole then whole_item f.num else quotient_item f.num f.den)
    by true = whole_fits (room + 1) (omega arith) f.num (lowest_fits f.num lowest.num_fits)
    by false = quotient_fits room space f.num f.den (lowest_fits f.num lowest.num_fits) lowest.den_fits

pub small_fits : (n : ℕ) → n < 2 ^ 32 → n < 2 ^ 127
small_fits n small = let far : 2 ^ 32 < 2 ^ 127 = lit< tt in omega arith
