-- What a cut adds, and of which multipliers.
use Rattle.std.specs.Prelude.{◌≡◌, ℕ, ◌<ℤ◌, ◌*ℤ◌, Bool, true, false, cond, ◌&&◌, List, [], ◌∷◌, ℤ, pos, int_le, int_lt, slice_get, Option, Some, None, Ok, IfSome}
use Rattle.std.specs.List.{list_all}
use Rattle.std.proofs.Common.{refl, sym, ◌∙◌, ap, subst, arith}
use Rattle.std.proofs.Math.IntN.{*ℤ_comm, *ℤ-one}
use Rattle.std.proofs.lemmas.Int.{ints}
use Rattle.std.proofs.lemmas.List.Elements.{All-nil, All-cons}
use borrow.Author.Differences.{at_most_in}
use Rattle.sy_frac.specs.Fraction.{Fraction}
use Rattle.sy_frac.specs.Rational.{value, is_negative_rational, over_negative}
use Rattle.sy_frac.specs.Kinds.{is_below_one}
use Rattle.sy_terms.specs.declared.sort.Sort.{Sort}
use Rattle.sy_terms.specs.declared.sort.Sort.TheVariants as sorts
use Rattle.sy_linear_known.specs.declared.form.Form.{Form}
use Rattle.sy_linear_known.specs.Forms.{Coefficient}
use Rattle.sy_linear_known.specs.declared.path.Fact.{Fact}
use Rattle.sy_linear_known.specs.declared.path.Fact.TheVariants.{AtLeast}
use Rattle.sy_linear_known.specs.Points.{form_value_at}
use Rattle.sy_linear_known.specs.Trees.{forms, OverIntegers, IsCut}
use Rattle.sy_linear.specs.Combining.{are_multipliers, checked_combination, divided, rounded}
use Rattle.sy_linear.specs.Judging.{NodeOutcome, AnswersAt, Adds, Fails, added_form, divided_combination, rounded_outcome, cut_outcome, is_int, has_int}
use Rattle.sy_linear.proofs.Lowest.{left_true, right_true}
use Rattle.sy_linear.proofs.Accepting.{cut}
use Rattle.sy_simplex.specs.Problems.{numbers}
use Rattle.sy_intsolve_paths_laws.specs.Paths.{Suit}
use Rattle.sy_intsolve_cuts.specs.Cuts.{AreBelowDivisor, IsRoundingForm}

-- the added form is that of a cut
same_form : (f e : Form) → Adds (AtLeast f) ≡ Adds (AtLeast e) → f ≡ e
same_form f e h = cc

pub cut_adds : (ms : List Fraction) (path : List Fact) (e : Form) → cut_outcome path ms (pos 1) ≡ Adds (AtLeast e) → IsCut ms (pos 1) (forms path) e
cut_adds ms path e = by (are_multipliers ms (forms path)) refl (checked_combination ms (forms path)) refl
  where
    by : (b : Bool) → are_multipliers ms (forms path) ≡ b → (o : _) → checked_combination ms (forms path) ≡ o → cond (b && int_le (pos 1) (pos 1)) (rounded_outcome (divided_combination (pos 1) o)) Fails ≡ Adds (AtLeast e) → IsCut ms (pos 1) (forms path) e
    by false a o k h = absurd cc
    by true a None k h = absurd cc
    by true a (Some c) k h = part (divided (pos 1) c) refl h
      where
        part : (p : _) → divided (pos 1) c ≡ p → rounded_outcome p ≡ Adds (AtLeast e) → IsCut ms (pos 1) (forms path) e
        part None d h = absurd cc
        part (Some g) d h = form (rounded g) refl h
          where
            form : (p : Option Form) → rounded g ≡ p → added_form p ≡ Adds (AtLeast e) → IsCut ms (pos 1) (forms path) e
            form None r h = absurd cc
            form (Some f) r h = cut ms (forms path) (pos 1) c g e a (at_most_in (pos 1) (pos 1) (omega arith)) k d (r ∙ ap Some (same_form f e h))

-- an answer of `cut` with a form says that a cut adds it
pub adds_form : (n : ℕ) (found : Option Fact) (fact : Fact) (e : Form) (outcome : NodeOutcome Fact) → found ≡ Some fact → fact ≡ AtLeast e → AnswersAt n (Ok found) outcome → outcome ≡ Adds (AtLeast e)
adds_form n found fact e outcome is form h = subst (λ o. AnswersAt n (Ok o) outcome) is h ∙ ap (λ f. Adds f) form

-- multipliers below 1
less : (a b : ℤ) → int_lt a b ≡ true → a <ℤ b
less a b e = omega (arith, ints, e)

abbrev IsBelowOne : Fraction → Type 0
IsBelowOne m = m.num <ℤ (pos 1 *ℤ pos m.den)

below_one : (m : Fraction) → is_below_one m ≡ true → m.num <ℤ (pos 1 *ℤ pos m.den)
unfolding lib.IntN.one
below_one m e = subst (λ z. m.num <ℤ z) (sym (*ℤ_comm (pos 1) (pos m.den) ∙ *ℤ-one (pos m.den))) (less m.num (pos m.den) e)

pub all_below : (ms : List Fraction) → list_all is_below_one ms ≡ true → AreBelowDivisor (pos 1) ms
all_below [] e = All-nil IsBelowOne
all_below (m ∷ ms) e = All-cons IsBelowOne m ms (below_one m (left_true (is_below_one m) (list_all is_below_one ms) e)) (all_below ms (right_true (is_below_one m) (list_all is_below_one ms) e))

-- ---- what the checks of a form give
-- variables of a suiting test are integer variables
int_is : (o : Option Sort) → is_int o ≡ true → o ≡ Some sorts.Int
int_is (Some sorts.Int) e = refl
int_is (Some sorts.Bool) e = absurd cc
int_is (Some (sorts.Bits w)) e = absurd cc
int_is None e = absurd cc

pub over_integers : (vars : List Sort) (cs : List Coefficient) → list_all (has_int vars) cs ≡ true → OverIntegers vars cs
over_integers vars [] e = tt
over_integers vars (c ∷ cs) e = (int_is (slice_get vars c.0) (left_true (has_int vars c) (list_all (has_int vars) cs) e), over_integers vars cs (right_true (has_int vars c) (list_all (has_int vars) cs) e))

pub broken_by : (f : Form) (point : List Fraction) (n : Fraction) → value n ≡ form_value_at f (numbers point) → int_lt n.num (pos 0) ≡ true → is_negative_rational (form_value_at f (numbers point)) ≡ true
broken_by f point n e h = sym (ap is_negative_rational e) ∙ over_negative n.num n.den ∙ h

pub all_checked : (vars : List Sort) (path : List Fact) (ms point : List Fraction) (form : Form) (found : Option Form) → IfSome found (λ same. (same ≡ form) × Suit vars (AtLeast same)) → cut_outcome path ms (pos 1) ≡ Adds (AtLeast form) → list_all is_below_one ms ≡ true → is_negative_rational (form_value_at form (numbers point)) ≡ true → IfSome found (IsRoundingForm vars path ms (pos 1) point)
all_checked vars path ms point form None s a l b = tt
all_checked vars path ms point form (Some same) s a l b = record {
  cut = subst (IsCut ms (pos 1) (forms path)) (sym s.0) (cut_adds ms path form a);
  below = all_below ms l;
  broken = subst (λ e. is_negative_rational (form_value_at e (numbers point)) ≡ true) (sym s.0) b;
  suits = s.1;
}
