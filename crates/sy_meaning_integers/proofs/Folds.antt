-- One step of an operator that is taken from the left.
use Rattle.std.specs.Prelude.{ℕ, ◌+◌, ◌<◌, ◌≤◌, ℤ, Bool, true, false, ◌&&◌, List, [], ◌∷◌, length, slice_index_or as get_or, ◌≡◌, refl, Option, Some}
use Rattle.std.proofs.Common.{subst, arith, drop, add-one, ap, ◌∙◌, sym}
use Rattle.std.proofs.lemmas.List.{drop_all}
use Rattle.std.proofs.Math.Seq.{drop-cons}
use Rattle.sy_terms.specs.Values.{Val, Whole, whole, from_left}
use Rattle.sy_terms.specs.Operators.{on_wholes}
use Rattle.sy_terms.specs.Theories.{partials_fit, from_left_fits, fits_128}
use Rattle.sy_terms.specs.Denoted.{val_of, vals_of}
use Rattle.sy_terms.specs.declared.sort.Value.{Value}
use Rattle.sy_terms.specs.declared.sort.Value.TheVariants as value
use Rattle.sy_meaning_integers.specs.Found.{Found}

-- what is left of a fold: the value so far, and the values that follow
pub record Left (f : ℤ → ℤ → ℤ) (first : ℤ) (all : List (Value ℤ)) (total : ℤ) (rest : List (Value ℤ)) : Type 0 where
  pub fits : partials_fit f first (vals_of Whole all) ≡ partials_fit f total (vals_of Whole rest)
  pub value : from_left (on_wholes f) (Whole first ∷ vals_of Whole all) ≡ from_left (on_wholes f) (Whole total ∷ vals_of Whole rest)

-- the value at i
abbrev pub item : List (Value ℤ) → ℕ → Value ℤ
item all i = get_or all i (value.Truth false)

pub drop-step : (all : List (Value ℤ)) (i : ℕ) → i < length all → drop i all ≡ item all i ∷ drop (i + 1) all
drop-step all i less = rw (add-one, drop-cons all i (value.Truth false) less) refl

whole-same : (m n : ℤ) → Whole m ≡ Whole n → m ≡ n
whole-same m n e = cc

and-left : (a b c : Bool) → a ≡ true → b ≡ c → (a && b) ≡ c
and-left true b c e h = h
and-left false b c e h = cc

and-none : (a b : Bool) → a ≡ false → (a && b) ≡ false
and-none true b e = cc
and-none false b e = refl

-- one value more
partials-some : (f : ℤ → ℤ → ℤ) (total : ℤ) (v : Val) (rest : List Val) (next : ℤ) → fits_128 (f total (whole v)) ≡ true → f total (whole v) ≡ next → partials_fit f total (v ∷ rest) ≡ partials_fit f next rest
partials-some f total v rest next fits is =
    and-left (fits_128 (f total (whole v))) (partials_fit f (f total (whole v)) rest) (partials_fit f next rest) fits (ap (λ z. partials_fit f z rest) is)

value-step : (f : ℤ → ℤ → ℤ) (total : ℤ) (v : Val) (rest : List Val) (next : ℤ) → f total (whole v) ≡ next → from_left (on_wholes f) (Whole total ∷ v ∷ rest) ≡ from_left (on_wholes f) (Whole next ∷ rest)
value-step f total v rest next is = ap (λ z. from_left (on_wholes f) (Whole z ∷ rest)) is

-- what a step is taken at
pub record At (all : List (Value ℤ)) (total : ℤ) (i : ℕ) (x y : ℤ) : Type 0 where
  pub less : i < length all
  pub left_is : x ≡ total
  pub right_is : y ≡ whole (val_of Whole (item all i))

-- a step that fits
pub step-some : (f : ℤ → ℤ → ℤ) (first : ℤ) (all : List (Value ℤ)) (total : ℤ) (i : ℕ) (x y next : ℤ) → Left f first all total (drop i all) → At all total i x y → (fits_128 (f x y) ≡ true) × (Whole next ≡ Whole (f x y)) → Left f first all next (drop (i + 1) all)
step-some f first all total i x y next left at found =
    let e = drop-step all i at.less in
    let exact : f total (whole (val_of Whole (item all i))) ≡ f x y = cc in
    let gives : f total (whole (val_of Whole (item all i))) ≡ next = exact ∙ sym (whole-same next (f x y) found.1) in
    let fits : fits_128 (f total (whole (val_of Whole (item all i)))) ≡ true = ap fits_128 exact ∙ found.0 in
    record {
      fits = left.fits ∙ ap (λ l. partials_fit f total (vals_of Whole l)) e ∙ partials-some f total (val_of Whole (item all i)) (vals_of Whole (drop (i + 1) all)) next fits gives;
      value = left.value ∙ ap (λ l. from_left (on_wholes f) (Whole total ∷ vals_of Whole l)) e ∙ value-step f total (val_of Whole (item all i)) (vals_of Whole (drop (i + 1) all)) next gives;
    }

-- a step that doesn't
pub step-none : (f : ℤ → ℤ → ℤ) (first : ℤ) (all : List (Value ℤ)) (total : ℤ) (i : ℕ) (x y : ℤ) → Left f first all total (drop i all) → At all total i x y → fits_128 (f x y) ≡ false → partials_fit f first (vals_of Whole all) ≡ false
step-none f first all total i x y left at found =
    let e = drop-step all i at.less in
    let exact : f total (whole (val_of Whole (item all i))) ≡ f x y = cc in
    left.fits ∙ ap (λ l. partials_fit f total (vals_of Whole l)) e
    ∙ and-none (fits_128 (f total (whole (val_of Whole (item all i))))) (partials_fit f (f total (whole (val_of Whole (item all i)))) (vals_of Whole (drop (i + 1) all))) (ap fits_128 exact ∙ found)

-- the end
pub fold-done : (f : ℤ → ℤ → ℤ) (first : ℤ) (all : List (Value ℤ)) (total : ℤ) (i : ℕ) → Left f first all total (drop i all) → length all ≤ i → Found (partials_fit f first (vals_of Whole all)) (from_left (on_wholes f) (Whole first ∷ vals_of Whole all)) (Some total)
fold-done f first all total i left done =
    let e = drop_all i all done in
    (left.fits ∙ ap (λ l. partials_fit f total (vals_of Whole l)) e, sym (left.value ∙ ap (λ l. from_left (on_wholes f) (Whole total ∷ vals_of Whole l)) e))

whole-cons : (f : ℤ → ℤ → ℤ) (first : Value ℤ) (rest : List (Value ℤ)) (r : Option ℤ) → 1 < length (first ∷ rest) → Found (partials_fit f (whole (val_of Whole first)) (vals_of Whole rest)) (from_left (on_wholes f) (Whole (whole (val_of Whole first)) ∷ vals_of Whole rest)) r → Found (from_left_fits f (vals_of Whole (first ∷ rest))) (from_left (on_wholes f) (vals_of Whole (first ∷ rest))) r
whole-cons f first [] r more found = absurd (omega arith)
whole-cons f first (v ∷ rest) r more found = found

-- the whole list
pub fold-found : (f : ℤ → ℤ → ℤ) (values : List (Value ℤ)) (first : Value ℤ) (rest : List (Value ℤ)) (x : ℤ) (r : Option ℤ) → values ≡ first ∷ rest → 1 < length values → x ≡ whole (val_of Whole first) → Found (partials_fit f x (vals_of Whole rest)) (from_left (on_wholes f) (Whole x ∷ vals_of Whole rest)) r → Found (from_left_fits f (vals_of Whole values)) (from_left (on_wholes f) (vals_of Whole values)) r
fold-found f values first rest x r is more same found =
    subst (λ (all : List (Value ℤ)). Found (from_left_fits f (vals_of Whole all)) (from_left (on_wholes f) (vals_of Whole all)) r) (sym is)
    (whole-cons f first rest r (rw is at more)
    (subst (λ (z : ℤ). Found (partials_fit f z (vals_of Whole rest)) (from_left (on_wholes f) (Whole z ∷ vals_of Whole rest)) r) same found))
