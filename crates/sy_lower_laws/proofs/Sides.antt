-- Side conditions: their sorts, and when they are true.
use Rattle.std.specs.Prelude.{ℕ, suc, ◌-◌, Bool, true, false, ◌&&◌, List, [], ◌∷◌, ◌++◌, ◌≡◌, refl, length, slice_get, ℤ, pos, ◌+ℤ◌, ◌*ℤ◌, ◌≤ℤ◌, int_le, unsigned_abs, Some}
use Rattle.std.specs.List.{list_all}
use Rattle.std.proofs.Common.{ap, arith, ◌∙◌, sym}
use Rattle.std.proofs.lemmas.Int.{ints}
use Rattle.sy_terms.specs.Values.{Val, Truth, Whole, Bits, truth, whole, same}
use Rattle.sy_terms.specs.Operators.{op_value}
use Rattle.sy_terms.specs.Sorts.{sort_of, same_sort}
use Rattle.sy_terms.specs.Expr.{Expr, Exprs, Variable, Apply, none, more, append}
use Rattle.sy_terms.specs.Fitting.{sort_in, sorts_in, applied_sort, given_by}
use Rattle.sy_terms.specs.Meaning.{meaning, meanings, value_at_position}
use Rattle.sy_terms.specs.declared.op.Op.TheVariants as ops
use Rattle.sy_terms.specs.declared.sort.Sort.{Sort}
use Rattle.sy_terms.specs.declared.sort.Sort.TheVariants as kinds
use Rattle.sy_terms.specs.declared.sorts.Sorted.TheVariants.{Is}
use Rattle.sy_terms_operators.specs.Plain.{is_plain, are_plain}
use Rattle.sy_terms_operators.proofs.Equations.{both_true, same_sort_is, with_sort_Some}
use Rattle.sy_terms_operators.proofs.Plain.{stays}
use Rattle.sy_lower_laws.specs.Lowering.{equation, at_most, whole_constant, recomposed, division_sides}
use Rattle.sy_lower_laws.proofs.Arithmetic.{IsDivision}
use Rattle.sy_lower_laws.proofs.Same.{same_value, value_same}
use Rattle.sy_lower_laws.proofs.Sorts.{integers, IsKnown, sort_stays, with_both}

pub and_both : (a b : Bool) → a ≡ true → b ≡ true → (a && b) ≡ true
and_both true b e f = f
and_both false b e f = cc

truth_is : (a b : Bool) → Truth a ≡ Truth b → a ≡ b
truth_is a b e = cc

-- each is true at the values

abbrev pub AreTrue : List Val → Exprs → Type 0
AreTrue values none = Unit {0}
AreTrue values (more term terms) = (meaning [] [] values term ≡ Truth true) × AreTrue values terms

pub true_append : (values : List Val) (terms others : Exprs) → AreTrue values terms → AreTrue values others → AreTrue values (append terms others)
true_append values none others first second = second
true_append values (more term terms) others first second = (first.0, true_append values terms others first.1 second)

pub true_first : (values : List Val) (terms others : Exprs) → AreTrue values (append terms others) → AreTrue values terms
true_first values none others all = tt
true_first values (more term terms) others all = (all.0, true_first values terms others all.1)

pub true_last : (values : List Val) (terms others : Exprs) → AreTrue values (append terms others) → AreTrue values others
true_last values none others all = all
true_last values (more term terms) others all = true_last values terms others all.1

pub true_stay : (values later : List Val) (terms : Exprs) → are_plain (length values) terms ≡ true → AreTrue values terms → AreTrue (values ++ later) terms
unfolding are_plain
true_stay values later none plain all = tt
true_stay values later (more term terms) plain all =
    let both = both_true (is_plain (length values) term) (are_plain (length values) terms) plain in
    (stays [] [] values later term both.0 ∙ all.0, true_stay values later terms both.1 all.1)

is_true : (value : Val) → truth value ≡ true → value ≡ Truth true
is_true (Truth b) e = ap Truth e
is_true (Whole z) e = cc
is_true (Bits w n) e = cc

pub true_each : (values : List Val) (terms : Exprs) → list_all truth (meanings [] [] values terms) ≡ true → AreTrue values terms
unfolding meanings
true_each values none e = tt
true_each values (more term terms) e =
    let both = both_true (truth (meaning [] [] values term)) (list_all truth (meanings [] [] values terms)) e in
    (is_true (meaning [] [] values term) both.0, true_each values terms both.1)

pub each_true : (values : List Val) (terms : Exprs) → AreTrue values terms → list_all truth (meanings [] [] values terms) ≡ true
unfolding meanings
each_true values none all = refl
each_true values (more term terms) all = and_both (truth (meaning [] [] values term)) (list_all truth (meanings [] [] values terms)) (ap truth all.0) (each_true values terms all.1)

-- each is a term of the sort

abbrev pub AreOf : Sort → List Sort → Exprs → Type 0
AreOf sort sorts none = Unit {0}
AreOf sort sorts (more term terms) = (sort_in integers sorts term ≡ Some sort) × AreOf sort sorts terms

pub of_append : (sort : Sort) (sorts : List Sort) (terms others : Exprs) → AreOf sort sorts terms → AreOf sort sorts others → AreOf sort sorts (append terms others)
of_append sort sorts none others first second = second
of_append sort sorts (more term terms) others first second = (first.0, of_append sort sorts terms others first.1 second)

pub of_stay : (sort : Sort) (count : ℕ) (sorts others : List Sort) (terms : Exprs) → are_plain count terms ≡ true → AreOf sort sorts terms → AreOf sort (sorts ++ others) terms
unfolding are_plain
of_stay sort count sorts others none plain all = tt
of_stay sort count sorts others (more term terms) plain all =
    let both = both_true (is_plain count term) (are_plain count terms) plain in
    (sort_stays count sorts others term both.0 sort all.0, of_stay sort count sorts others terms both.1 all.1)

pub of_sorts : (sort : Sort) (sorts : List Sort) (terms : Exprs) (found : List Sort) → sorts_in integers sorts terms ≡ Some found → list_all (same_sort sort) found ≡ true → AreOf sort sorts terms
unfolding sorts_in
of_sorts sort sorts none found e all = tt
of_sorts sort sorts (more term terms) found e all =
    let parts = with_sort_Some (sort_in integers sorts term) (sorts_in integers sorts terms) found e in
    let both = both_true (same_sort sort parts.sort) (list_all (same_sort sort) parts.sorts) (ap (list_all (same_sort sort)) parts.whole_is ∙ all) in
    (parts.first_is ∙ ap Some (sym (same_sort_is sort parts.sort both.0)), of_sorts sort sorts terms parts.sorts parts.rest_is both.1)

-- so many truth values
abbrev pub truth_sorts : Exprs → List Sort
truth_sorts none = []
truth_sorts (more term terms) = kinds.Bool ∷ truth_sorts terms

pub truths_sorts : (sorts : List Sort) (terms : Exprs) → AreOf kinds.Bool sorts terms → sorts_in integers sorts terms ≡ Some (truth_sorts terms)
unfolding sorts_in
truths_sorts ss none all = refl
truths_sorts ss (more term terms) all = with_both (sort_in integers ss term) (sorts_in integers ss terms) kinds.Bool (truth_sorts terms) all.0 (truths_sorts ss terms all.1)

pub truths_all : (terms : Exprs) → list_all (same_sort kinds.Bool) (truth_sorts terms) ≡ true
truths_all none = refl
truths_all (more term terms) = truths_all terms

-- equations and comparisons

pub two_sorts : (sorts : List Sort) (a b : Expr) (s t : Sort) → sort_in integers sorts a ≡ Some s → sort_in integers sorts b ≡ Some t → sorts_in integers sorts (more a (more b none)) ≡ Some (s ∷ t ∷ [])
unfolding sorts_in
two_sorts sorts a b s t e f = with_both (sort_in integers sorts a) (sorts_in integers sorts (more b none)) s (t ∷ []) e (with_both (sort_in integers sorts b) (Some []) t [] f refl)

alike : (sort : Sort) → IsKnown sort → sort_of ops.Equal (sort ∷ sort ∷ []) ≡ Is kinds.Bool
unfolding sort_of
alike kinds.Bool known = refl
alike kinds.Int known = refl
alike (kinds.Bits w) known = cc

pub equation_sort : (sorts : List Sort) (a b : Expr) (sort : Sort) → IsKnown sort → sort_in integers sorts a ≡ Some sort → sort_in integers sorts b ≡ Some sort → sort_in integers sorts (equation a b) ≡ Some kinds.Bool
unfolding sort_in
equation_sort sorts a b sort known e f = ap (applied_sort integers ops.Equal) (two_sorts sorts a b sort sort e f) ∙ ap given_by (alike sort known)

pub at_most_sort : (sorts : List Sort) (a b : Expr) → sort_in integers sorts a ≡ Some kinds.Int → sort_in integers sorts b ≡ Some kinds.Int → sort_in integers sorts (at_most a b) ≡ Some kinds.Bool
unfolding sort_in sort_of
at_most_sort sorts a b e f = ap (applied_sort integers ops.Le) (two_sorts sorts a b kinds.Int kinds.Int e f)

and_last : (a : Bool) → (a && true) ≡ a
and_last true = refl
and_last false = refl

pub equation_is : (values : List Val) (a b : Expr) → meaning [] [] values (equation a b) ≡ Truth true → meaning [] [] values a ≡ meaning [] [] values b
unfolding meaning meanings op_value
equation_is values a b e = same_value _ _ (sym (and_last (same (meaning [] [] values a) (meaning [] [] values b))) ∙ truth_is _ _ e)

pub is_equation : (values : List Val) (a b : Expr) → meaning [] [] values a ≡ meaning [] [] values b → meaning [] [] values (equation a b) ≡ Truth true
unfolding meaning meanings op_value
is_equation values a b e =
    ap Truth (and_last (same (meaning [] [] values a) (meaning [] [] values b)) ∙ (ap (λ (v : Val). same v (meaning [] [] values b)) e ∙ value_same (meaning [] [] values b)))

pub at_most_is : (values : List Val) (a b : Expr) → meaning [] [] values (at_most a b) ≡ Truth true → int_le (whole (meaning [] [] values a)) (whole (meaning [] [] values b)) ≡ true
unfolding meaning meanings op_value
at_most_is values a b e = sym (and_last (int_le (whole (meaning [] [] values a)) (whole (meaning [] [] values b)))) ∙ truth_is _ _ e

pub is_at_most : (values : List Val) (a b : Expr) → int_le (whole (meaning [] [] values a)) (whole (meaning [] [] values b)) ≡ true → meaning [] [] values (at_most a b) ≡ Truth true
unfolding meaning meanings op_value
is_at_most values a b e = ap Truth (and_last (int_le (whole (meaning [] [] values a)) (whole (meaning [] [] values b))) ∙ e)

-- the three side conditions of a division

le_is : (a b : ℤ) → int_le a b ≡ true → a ≤ℤ b
le_is a b e = omega (arith, ints)

is_le : (a b : ℤ) → a ≤ℤ b → int_le a b ≡ true
is_le a b e = grind (arith, ints)

recomposed_is : (values : List Val) (k : ℤ) (v : ℕ) → meaning [] [] values (recomposed k v) ≡ Whole ((k *ℤ whole (value_at_position values v)) +ℤ whole (value_at_position values (suc v)))
unfolding meaning meanings op_value
recomposed_is values k v = refl

pub divided_is : (values : List Val) (dividend : Expr) (k : ℤ) (v : ℕ) → AreTrue values (division_sides dividend k v) →
    IsDivision (whole (meaning [] [] values dividend)) k (whole (value_at_position values v)) (whole (value_at_position values (suc v)))
unfolding meaning
divided_is values dividend k v all = record {
  is = ap whole (equation_is values dividend (recomposed k v) all.0 ∙ recomposed_is values k v);
  least = le_is _ _ (at_most_is values (whole_constant (pos 0)) (Variable (suc v)) all.1.0);
  most = le_is _ _ (at_most_is values (Variable (suc v)) (whole_constant (pos (unsigned_abs k - 1))) all.1.1.0);
}

pub is_divided : (values : List Val) (dividend : Expr) (k : ℤ) (v : ℕ) → meaning [] [] values dividend ≡ Whole (whole (meaning [] [] values dividend)) →
    IsDivision (whole (meaning [] [] values dividend)) k (whole (value_at_position values v)) (whole (value_at_position values (suc v))) → AreTrue values (division_sides dividend k v)
unfolding meaning
is_divided values dividend k v own is = (
  is_equation values dividend (recomposed k v) (own ∙ ap Whole is.is ∙ sym (recomposed_is values k v)),
  (
    is_at_most values (whole_constant (pos 0)) (Variable (suc v)) (is_le _ _ is.least),
    (is_at_most values (Variable (suc v)) (whole_constant (pos (unsigned_abs k - 1))) (is_le _ _ is.most), tt),
  ),
)

pub division_truths : (sorts : List Sort) (dividend : Expr) (k : ℤ) (v : ℕ) → sort_in integers sorts dividend ≡ Some kinds.Int → slice_get sorts v ≡ Some kinds.Int → slice_get sorts (suc v) ≡ Some kinds.Int → AreOf kinds.Bool sorts (division_sides dividend k v)
unfolding sort_in sorts_in sort_of
division_truths sorts dividend k v e f g =
    let product : sort_in integers sorts (Apply ops.Mul (more (whole_constant k) (more (Variable v) none))) ≡ Some kinds.Int =
    ap (applied_sort integers ops.Mul) (two_sorts sorts (whole_constant k) (Variable v) kinds.Int kinds.Int refl f) in
    let sum : sort_in integers sorts (recomposed k v) ≡ Some kinds.Int =
    ap (applied_sort integers ops.Add) (two_sorts sorts (Apply ops.Mul (more (whole_constant k) (more (Variable v) none))) (Variable (suc v)) kinds.Int kinds.Int product g) in (
      equation_sort sorts dividend (recomposed k v) kinds.Int refl e sum,
      (
        at_most_sort sorts (whole_constant (pos 0)) (Variable (suc v)) refl g,
        (at_most_sort sorts (Variable (suc v)) (whole_constant (pos (unsigned_abs k - 1))) g refl, tt),
      ),
    )

pub division_plain : (count : ℕ) (dividend : Expr) (k : ℤ) (v : ℕ) → is_plain count dividend ≡ true → is_plain count (Variable v) ≡ true → is_plain count (Variable (suc v)) ≡ true → are_plain count (division_sides dividend k v) ≡ true
unfolding is_plain are_plain
division_plain count dividend k v e f g =
    rw (e, f, g) refl
