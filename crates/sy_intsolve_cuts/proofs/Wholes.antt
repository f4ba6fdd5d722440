-- A whole point of a path is an assignment that meets it.
use Rattle.std.specs.Prelude.{◌≡◌, ℕ, zero, suc, ◌<◌, ◌≤◌, ◌+◌, ◌≤ℤ◌, Bool, true, false, List, [], ◌∷◌, ◌++◌, length, get_or, drop, map, slice_get, All, int_lt, ℤ, pos, negsuc, Some}
use Rattle.std.specs.List.{list_all}
use Rattle.std.proofs.Common.{refl, sym, ◌∙◌, ap, ap₂, subst, arith}
use borrow.Author.Differences.{at_most_in}
use Rattle.std.proofs.lemmas.List.{append_assoc, append-nil, drop_more, drop_all, map-append}
use Rattle.std.proofs.lemmas.List.Elements.{All-nil, All-cons, All-head, All-tail, All-append}
use Rattle.sy_frac.specs.Fraction.{Fraction}
use Rattle.sy_frac.specs.Rational.{ℚ, ◌+ℚ◌, ◌*ℚ◌, over, value, is_negative_rational, over_negative}
use Rattle.sy_terms.specs.Values.{Val, Truth, Whole, Bits, whole}
use Rattle.sy_terms.specs.Denoted.{val_of, vals_of}
use Rattle.sy_terms.specs.Meaning.{value_at_position}
use Rattle.sy_terms.specs.declared.sort.Value.{Value}
use Rattle.sy_terms.specs.declared.sort.Sort.{Sort}
use Rattle.sy_terms.specs.declared.sort.Sort.TheVariants as sorts
use Rattle.sy_linear_known.specs.declared.form.Form.{Form}
use Rattle.sy_linear_known.specs.Forms.{Coefficient}
use Rattle.sy_linear_known.specs.declared.path.Fact.{Fact}
use Rattle.sy_linear_known.specs.declared.path.Fact.TheVariants.{AtLeast, Is}
use Rattle.sy_linear_known.specs.Paths.{number_in, form_at, MeetsPath}
use Rattle.sy_linear_known.specs.Points.{combined_at, form_value_at}
use Rattle.sy_linear_known.specs.Right.{Assigns, is_linear_sort}
use Rattle.sy_linear_known.specs.Trees.{forms, whole_ℚ, IsOf, OverIntegers}
use Rattle.sy_linear_known.proofs.Refutation.{whole-value_at}
use Rattle.sy_simplex.specs.Problems.{numbers}
use Rattle.sy_simplex.specs.Rows.{at}
use Rattle.sy_intsolve_paths_laws.specs.Paths.{Suit, AgreesWithPath, IsPath}
use Rattle.sy_intsolve_cuts.specs.Points.{AreMet, IsPointOf, IsMetBy, ValuesAreWhole, given_or, value_at_point}

-- ---- one fact more
met-append : (xs ys : List Form) (x : ℕ → ℚ) → AreMet xs x → AreMet ys x → AreMet (xs ++ ys) x
met-append xs ys x h k = All-append (λ f. is_negative_rational (form_value_at f x) ≡ false) xs ys h k

forms-append : (path : List Fact) (fact : Fact) → forms (path ++ fact ∷ []) ≡ forms path ++ forms (fact ∷ [])
forms-append [] fact = refl
forms-append (AtLeast f ∷ path) fact = ap (λ fs. f ∷ fs) (forms-append path fact)
forms-append (Is u b ∷ path) fact = forms-append path fact

met-one : (point : List Fraction) (fact : Fact) → IsMetBy point fact → AreMet (forms (fact ∷ [])) (numbers point)
met-one point (AtLeast f) h = All-cons (λ g. is_negative_rational (form_value_at g (numbers point)) ≡ false) f [] h (All-nil (λ g. is_negative_rational (form_value_at g (numbers point)) ≡ false))
met-one point (Is u b) h = All-nil (λ g. is_negative_rational (form_value_at g (numbers point)) ≡ false)

-- a point of a path that meets one fact more is one of the longer path
pub at-more : (vars : List Sort) (path : List Fact) (point : List Fraction) (fact : Fact) → IsPointOf vars path point → IsMetBy point fact → IsPointOf vars (path ++ fact ∷ []) point
at-more vars path point fact h k = record {
  len = h.len;
  met = subst (λ fs. AreMet fs (numbers point)) (sym (forms-append path fact)) (met-append (forms path) (forms (fact ∷ [])) (numbers point) h.met (met-one point fact k));
  truths = h.truths;
}

-- ---- the assignment
-- of the variables from number i on
abbrev pub values_from : List Fact → List Fraction → ℕ → List Sort → List Val
values_from path point i [] = []
values_from path point i (s ∷ rest) = value_at_point path point s i ∷ values_from path point (suc i) rest

pub assigns : (path : List Fact) (point : List Fraction) (i : ℕ) (vars : List Sort) → list_all is_linear_sort vars ≡ true → Assigns vars (values_from path point i vars)
assigns path point i [] h = tt
assigns path point i (sorts.Int ∷ rest) h = assigns path point (suc i) rest h
assigns path point i (sorts.Bool ∷ rest) h = assigns path point (suc i) rest h
assigns path point i (sorts.Bits w ∷ rest) h = absurd cc

value-position : (path : List Fact) (point : List Fraction) (i j k : ℕ) (vars : List Sort) (s : Sort) → k ≡ i + j → slice_get vars j ≡ Some s → value_at_position (values_from path point i vars) j ≡ value_at_point path point s k
value-position path point i j k [] s e h = absurd cc
value-position path point i zero k (t ∷ rest) s e h =
    let same : t ≡ s = cc in
    let place : i ≡ k = omega (arith, e) in
    ap₂ (value_at_point path point) same place
value-position path point i (suc j) k (t ∷ rest) s e h = value-position path point (suc i) j k rest s (omega (arith, e)) h

-- a whole point's number of an integer variable
whole-number : (vars : List Sort) (path : List Fact) (point : List Fraction) → length point ≡ length vars → ValuesAreWhole point → (i : ℕ) → IsOf sorts.Int vars i → numbers point i ≡ whole_ℚ (number_in (values_from path point 0 vars) i)
unfolding numbers
whole-number vars path point e h i o =
    ap (λ d. over (at point i).num d) (h i (below vars i o e)) ∙ sym (ap (λ v. whole_ℚ (whole v)) (value-position path point 0 i i vars sorts.Int (omega arith) o))
  where
    get_below : (vars : List Sort) (i : ℕ) (s : Sort) → slice_get vars i ≡ Some s → i < length vars
    get_below [] i s e = absurd cc
    get_below (v ∷ vars) zero s e = omega arith
    get_below (v ∷ vars) (suc i) s e = omega (arith, get_below vars i s e)

    below : (vars : List Sort) (i : ℕ) → IsOf sorts.Int vars i → length point ≡ length vars → i < length point
    below vars i o e = omega (arith, get_below vars i sorts.Int o, e)

combined-same : (vars : List Sort) (x y : ℕ → ℚ) → ((i : ℕ) → IsOf sorts.Int vars i → x i ≡ y i) → (cs : List Coefficient) → OverIntegers vars cs → combined_at cs x ≡ combined_at cs y
unfolding combined_at
combined-same vars x y h [] k = refl
combined-same vars x y h (c ∷ cs) k = ap₂ (λ s t. whole_ℚ c.1 *ℚ s +ℚ t) (h c.0 k.0) (combined-same vars x y h cs k.1)

value-same : (vars : List Sort) (x y : ℕ → ℚ) → ((i : ℕ) → IsOf sorts.Int vars i → x i ≡ y i) → (f : Form) → OverIntegers vars f.coefs → form_value_at f x ≡ form_value_at f y
unfolding form_value_at
value-same vars x y h f k = ap (λ t. t +ℚ whole_ℚ f.constant) (combined-same vars x y h f.coefs k)

not_below : (z : ℤ) → int_lt z (pos 0) ≡ false → pos 0 ≤ℤ z
not_below (pos n) e = at_most_in (pos 0) (pos n) (omega arith)
not_below (negsuc n) e = absurd cc

form-met : (vars : List Sort) (path : List Fact) (point : List Fraction) → length point ≡ length vars → ValuesAreWhole point → (f : Form) → OverIntegers vars f.coefs → is_negative_rational (form_value_at f (numbers point)) ≡ false → pos 0 ≤ℤ form_at (values_from path point 0 vars) f
form-met vars path point e h f k m =
    not_below (form_at (values_from path point 0 vars) f)
    (sym (over_negative (form_at (values_from path point 0 vars) f) 1)
    ∙ sym (ap is_negative_rational (value-same vars (numbers point) (λ i. whole_ℚ (number_in (values_from path point 0 vars) i)) (whole-number vars path point e h) f k ∙ whole-value_at f (number_in (values_from path point 0 vars))))
    ∙ m)

-- each fact of the rest of the path holds
meets-rest : (vars : List Sort) (path : List Fact) (point : List Fraction) → length point ≡ length vars → ValuesAreWhole point → (rest : List Fact) → All (Suit vars) rest → All (AgreesWithPath path) rest → AreMet (forms rest) (numbers point) → MeetsPath (values_from path point 0 vars) rest
meets-rest vars path point e h [] s a m = tt
meets-rest vars path point e h (AtLeast f ∷ rest) s a m = (
  form-met vars path point e h f (All-head (Suit vars) (AtLeast f) rest s).1 (All-head (λ g. is_negative_rational (form_value_at g (numbers point)) ≡ false) f (forms rest) m),
  meets-rest vars path point e h rest (All-tail (Suit vars) (AtLeast f) rest s) (All-tail (AgreesWithPath path) (AtLeast f) rest a) (All-tail (λ g. is_negative_rational (form_value_at g (numbers point)) ≡ false) f (forms rest) m),
)
meets-rest vars path point e h (Is u b ∷ rest) s a m = (
  value-position path point 0 u u vars sorts.Bool (omega arith) (All-head (Suit vars) (Is u b) rest s) ∙ ap (λ o. Truth (given_or o)) (All-head (AgreesWithPath path) (Is u b) rest a),
  meets-rest vars path point e h rest (All-tail (Suit vars) (Is u b) rest s) (All-tail (AgreesWithPath path) (Is u b) rest a) m,
)

-- the assignment meets the path
pub meets : (vars : List Sort) (path : List Fact) (point : List Fraction) → IsPath vars path → IsPointOf vars path point → ValuesAreWhole point → MeetsPath (values_from path point 0 vars) path
meets vars path point p a h = meets-rest vars path point a.len h path p.each p.told a.met

-- ---- one value after the other
pub values-more : (path : List Fact) (point : List Fraction) (vars : List Sort) (i n : ℕ) (d : Sort) (old new : List (Value ℤ)) (item : Value ℤ) (all : List Val) → i < length vars → new ≡ old ++ item ∷ [] → val_of Whole item ≡ value_at_point path point (get_or vars i d) n → vals_of Whole old ++ values_from path point n (drop i vars) ≡ all → vals_of Whole new ++ values_from path point (n + 1) (drop (i + 1) vars) ≡ all
values-more path point vars i n d old new item all l e is kept =
    let next : n + 1 ≡ suc n = omega arith in
    let rest : List Sort = drop (i + 1) vars in
    ap₂ (λ vs k. vals_of Whole vs ++ values_from path point k rest) e next
    ∙ ap (λ vs. vs ++ values_from path point (suc n) rest) (map-append (val_of Whole) old (item ∷ []))
    ∙ append_assoc (vals_of Whole old) (val_of Whole item ∷ []) (values_from path point (suc n) rest)
    ∙ ap (λ v. vals_of Whole old ++ v ∷ values_from path point (suc n) rest) is
    ∙ sym (ap (λ ss. vals_of Whole old ++ values_from path point n ss) (drop_more vars i d l))
    ∙ kept

pub values-end : (path : List Fact) (point : List Fraction) (vars : List Sort) (i n : ℕ) (values : List (Value ℤ)) (all : List Val) → length vars ≤ i → vals_of Whole values ++ values_from path point n (drop i vars) ≡ all → vals_of Whole values ≡ all
values-end path point vars i n values all l kept = sym (ap (λ ss. vals_of Whole values ++ values_from path point n ss) (drop_all i vars l) ∙ append-nil (vals_of Whole values)) ∙ kept
