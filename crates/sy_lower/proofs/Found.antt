-- Divisions that are found by their keys.
use Rattle.std.specs.Prelude.{ℕ, ◌+◌, ◌<◌, ◌≤◌, Bool, true, false, ◌&&◌, List, [], ◌∷◌, ◌++◌, ℤ, length, map, ◌≡◌, ◌≢◌, refl, Option, Some, None}
use Rattle.std.specs.Ordering.{int_eq}
use Rattle.std.proofs.Common.{ap, ap₂, sym, ◌∙◌, get_or, take, drop}
use Rattle.std.proofs.lemmas.Bool.{and_parts}
use Rattle.std.proofs.lemmas.Bool.Decides.{Decides-int_eq}
use Rattle.std.proofs.lemmas.List.{drop_more, drop_all, length-map, get_or-map, map-append}
use Rattle.std.proofs.Common.{arith}
use Rattle.std.proofs.Math.Seq.{take-append_seam}
use Rattle.sy_terms.specs.Expr.{Expr}
use Rattle.sy_lower_laws.specs.Lowering.{Pair, same_expr, pair_of}
use Rattle.sy_lower_laws.proofs.Same.{same_is}
use Rattle.sy_lower.specs.declared.pairs.Pair as kept
use Rattle.sy_lower.specs.Codes.{division_key, pair_key}
use Rattle.sy_lower.specs.Kept.{pair_in, pairs_in}

-- the pair is of this division
abbrev pub is_of : Pair → Expr → ℤ → Bool
is_of pair dividend divisor = int_eq pair.divisor divisor && same_expr pair.dividend dividend

same_key : (pair : Pair) (dividend : Expr) (divisor : ℤ) → is_of pair dividend divisor ≡ true → pair_key pair ≡ division_key dividend divisor
same_key pair dividend divisor is =
    let both = and_parts (int_eq pair.divisor divisor) (same_expr pair.dividend dividend) is in
    ap₂ division_key (same_is pair.dividend dividend both.1) ((Decides-int_eq pair.divisor divisor).0 both.0)

-- a pair with another key is of another division
pub other_key : (pair : Pair) (dividend : Expr) (divisor : ℤ) → pair_key pair ≢ division_key dividend divisor → is_of pair dividend divisor ≡ false
other_key pair dividend divisor differ = by (is_of pair dividend divisor) refl
  where
    by : (b : Bool) → is_of pair dividend divisor ≡ b → is_of pair dividend divisor ≡ false
    by true is = absurd (differ (same_key pair dividend divisor is))
    by false is = is

-- the first pair that is left is of this division, or it isn't
pub first_is : (pair : Pair) (pairs : List Pair) (dividend : Expr) (divisor : ℤ) → is_of pair dividend divisor ≡ true → pair_of (pair ∷ pairs) dividend divisor ≡ Some pair.quotient
unfolding pair_of
first_is pair pairs dividend divisor is = rw is refl

pub first_other : (pair : Pair) (pairs : List Pair) (dividend : Expr) (divisor : ℤ) → is_of pair dividend divisor ≡ false → pair_of (pair ∷ pairs) dividend divisor ≡ pair_of pairs dividend divisor
unfolding pair_of
first_other pair pairs dividend divisor is = rw is refl

-- ---- keys of pairs
pub as_long : (keys : List ℕ) (all : List kept.Pair) → keys ≡ map pair_key (pairs_in all) → length keys ≡ length all
as_long keys all is = ap length is ∙ length-map (pairs_in all) pair_key ∙ length-map all pair_in

pub key_at : (keys : List ℕ) (all : List kept.Pair) (i : ℕ) (pair : kept.Pair) → keys ≡ map pair_key (pairs_in all) → i < length all → pair ≡ get_or all i pair → get_or keys i 0 ≡ pair_key (pair_in pair)
key_at keys all i pair is within found =
    let among : i < length (pairs_in all) = omega (arith, within, length-map all pair_in) in
    ap (λ ks. get_or ks i 0) is ∙ get_or-map pair_key (pairs_in all) i (pair_in pair) 0 among ∙ ap pair_key (get_or-map pair_in all i pair (pair_in pair) within) ∙ ap (λ (p : kept.Pair). pair_key (pair_in p)) (sym found)

-- ---- the pairs from the one at a place on
left_from : (all : List kept.Pair) (i : ℕ) (pair : kept.Pair) → i < length all → pair ≡ get_or all i pair → pairs_in (drop i all) ≡ pair_in pair ∷ pairs_in (drop (i + 1) all)
left_from all i pair within is = ap pairs_in (drop_more all i pair within) ∙ ap (λ (p : kept.Pair). pair_in p ∷ pairs_in (drop (i + 1) all)) (sym is)

pub found_here : (all : List kept.Pair) (i : ℕ) (pair : kept.Pair) (dividend : Expr) (divisor : ℤ) (found : Option ℕ) → i < length all → pair ≡ get_or all i pair → is_of (pair_in pair) dividend divisor ≡ true →
    pair_of (pairs_in (drop i all)) dividend divisor ≡ found → Some pair.quotient ≡ found
found_here all i pair dividend divisor found within is same left =
    sym (first_is (pair_in pair) (pairs_in (drop (i + 1) all)) dividend divisor same) ∙ sym (ap (λ ps. pair_of ps dividend divisor) (left_from all i pair within is)) ∙ left

pub found_later : (all : List kept.Pair) (i : ℕ) (pair : kept.Pair) (dividend : Expr) (divisor : ℤ) (found : Option ℕ) → i < length all → pair ≡ get_or all i pair → is_of (pair_in pair) dividend divisor ≡ false →
    pair_of (pairs_in (drop i all)) dividend divisor ≡ found → pair_of (pairs_in (drop (i + 1) all)) dividend divisor ≡ found
found_later all i pair dividend divisor found within is differ left =
    sym (first_other (pair_in pair) (pairs_in (drop (i + 1) all)) dividend divisor differ) ∙ sym (ap (λ ps. pair_of ps dividend divisor) (left_from all i pair within is)) ∙ left

no_pairs : (dividend : Expr) (divisor : ℤ) → pair_of [] dividend divisor ≡ None
unfolding pair_of
no_pairs dividend divisor = refl

pub not_found : (all : List kept.Pair) (i : ℕ) (dividend : Expr) (divisor : ℤ) (found : Option ℕ) → length all ≤ i → pair_of (pairs_in (drop i all)) dividend divisor ≡ found → None ≡ found
not_found all i dividend divisor found beyond left =
    sym (no_pairs dividend divisor) ∙ sym (ap (λ (ps : List kept.Pair). pair_of (pairs_in ps) dividend divisor) (drop_all i all beyond)) ∙ left

-- ---- one pair more
pub keyed_more : (keys longer : List ℕ) (all after : List kept.Pair) (key : ℕ) (pair : kept.Pair) → keys ≡ map pair_key (pairs_in all) → longer ≡ keys ++ key ∷ [] → after ≡ all ++ pair ∷ [] → key ≡ pair_key (pair_in pair) → longer ≡ map pair_key (pairs_in after)
keyed_more keys longer all after key pair is one two own =
    one ∙ ap₂ (λ ks k. ks ++ k ∷ []) is own ∙ sym (map-append pair_key (pairs_in all) (pair_in pair ∷ [])) ∙ ap (map pair_key) (sym (map-append pair_in all (pair ∷ []))) ∙ ap (λ (ps : List kept.Pair). map pair_key (pairs_in ps)) (sym two)

pub keyed_back : (keys longer cut : List ℕ) (all : List kept.Pair) (key n : ℕ) → keys ≡ map pair_key (pairs_in all) → longer ≡ keys ++ key ∷ [] → cut ≡ take n longer → n ≡ length all → cut ≡ map pair_key (pairs_in all)
keyed_back keys longer cut all key n is one two count =
    two ∙ ap₂ take (count ∙ sym (as_long keys all is)) one ∙ take-append_seam keys (key ∷ []) ∙ is
