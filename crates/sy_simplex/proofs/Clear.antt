-- The least variable that isn't clear, row by row.
use Rattle.std.proofs.Common.{◌≡◌, ◌≢◌, ◌<◌, ◌≤◌, ◌+◌, ℕ, List, length, arith, sym, ◌∙◌, ap, subst, inl, inr, ◌⊎◌, Bool, true, false, not}
use Rattle.std.specs.Prelude.{Option, Some, None, MatchOption, SomeIff, IsTrue, ◌↔◌, is_some}
use Rattle.std.specs.Int.Signed.{<ℤ_irrefl, <ℤ-≤ℤ_trans}
use Rattle.std.proofs.lemmas.Int.{by_lt_z}
use Rattle.std.proofs.Math.Dec.{eqb}
use Rattle.std.proofs.lemmas.Bool.Decides.{eqb_tells}
use Rattle.sy_frac.specs.Fraction.{Fraction, CrossesFit}
use Rattle.sy_simplex.specs.Rows.{LeastRaising, NoneRaises}
use Rattle.sy_simplex.specs.States.{TableauState, basic, row, row_value, bound, IsClear, FirstUnclear, SomeChoiceUnfit, IsLeaving}

abbrev pub FirstSoFar : TableauState → ℕ → Option ℕ → Type 0
FirstSoFar t n best = MatchOption best ((k : ℕ) → k < n → IsClear t k) (λ o. FirstUnclear t n o)

pub not_clear : (t : TableauState) (r : ℕ) (b : Bool) → b ≡ false → (IsTrue b ↔ IsClear t r) → ¬ (IsClear t r)
not_clear t r true e h p = clash e
  where
    clash : true ≡ false → ⊥
    clash e = cc
not_clear t r false e h p = clash (h.1 p)
  where
    clash : false ≡ true → ⊥
    clash e = cc

one_more : (P : ℕ → Type 0) (n : ℕ) → ((k : ℕ) → k < n → P k) → P n → (k : ℕ) → k < n + 1 → P k
one_more P n all here k l = by (eqb_tells k n)
  where
    by : ((eqb k n ≡ true) × (k ≡ n)) ⊎ ((eqb k n ≡ false) × (k ≢ n)) → P k
    by (inl s) = subst P (sym s.1) here
    by (inr s) = all k (omega (arith, l, s.1))

pub first_kept : (t : TableauState) (n : ℕ) (best : Option ℕ) → IsClear t n → FirstSoFar t n best → FirstSoFar t (n + 1) best
first_kept t n None here h = one_more (IsClear t) n h here
first_kept t n (Some o) here h = record { row_below = omega (arith, h.row_below); unclear = h.unclear; clear = one_more (λ i. basic t i < basic t o → IsClear t i) n h.clear (λ k. here) }

pub first_found : (t : TableauState) (n : ℕ) → ((k : ℕ) → k < n → IsClear t k) → ¬ (IsClear t n) → FirstUnclear t (n + 1) n
first_found t n all here = record { row_below = omega arith; unclear = here; clear = one_more (λ i. basic t i < basic t n → IsClear t i) n (λ k l m. all k l) (λ m. absurd (omega (arith, m))) }

pub first_replaced : (t : TableauState) (n o : ℕ) → FirstUnclear t n o → ¬ (IsClear t n) → basic t n < basic t o → FirstUnclear t (n + 1) n
first_replaced t n o h here less = record { row_below = omega arith; unclear = here; clear = one_more (λ i. basic t i < basic t n → IsClear t i) n (λ k l m. h.clear k l (omega (arith, m, less))) (λ m. absurd (omega (arith, m))) }

pub first_stays : (t : TableauState) (n o : ℕ) → FirstUnclear t n o → basic t o ≤ basic t n → FirstUnclear t (n + 1) o
first_stays t n o h more = record { row_below = omega (arith, h.row_below); unclear = h.unclear; clear = one_more (λ i. basic t i < basic t o → IsClear t i) n h.clear (λ m. absurd (omega (arith, m, more))) }

-- what a comparison of a variable that isn't clear with its bound tells
pub unclear_bounded : (t : TableauState) (r : ℕ) → ¬ (IsClear t r) → t.vars ≤ basic t r
unclear_bounded t r h = let n : ¬ (basic t r < t.vars) = λ l. h (inl l) in omega (arith, n)

unfit_of : {A : Type 0} → (o : Option A) (b : Bool) (P : Type 0) (x : A) → is_some o ≡ not b → b ≡ true → SomeIff o P x → ¬ P
unfit_of None b P x e h m = m
unfit_of (Some a) b P x e h m = absurd (clash (e ∙ ap not h))
  where
    clash : true ≡ false → ⊥
    clash e = cc

fit_of : {A : Type 0} → (o : Option A) (b : Bool) (P : Type 0) (x : A) → is_some o ≡ not b → b ≡ false → SomeIff o P x → P
fit_of None b P x e h m = absurd (clash (e ∙ ap not h))
  where
    clash : false ≡ true → ⊥
    clash e = cc
fit_of (Some a) b P x e h m = m.0

pub choice_unfit : {A : Type 0} → (t : TableauState) (r : ℕ) (v f : Fraction) (o : Option A) (b : Bool) (x : A) → FirstUnclear t (length t.basics) r → v ≡ row_value t r → f ≡ bound t (basic t r) → is_some o ≡ not b → b ≡ true → SomeIff o (CrossesFit v f) x → SomeChoiceUnfit t
choice_unfit t r v f o b x first v_is f_is e h m = (
  r,
  record {
    first = first;
    bounded = unclear_bounded t r first.unclear;
    unfit = subst (λ g. ¬ (CrossesFit (row_value t r) g)) f_is (subst (λ g. ¬ (CrossesFit g f)) v_is (unfit_of o b (CrossesFit v f) x e h m));
  },
)

pub is_leaving : {A : Type 0} → (t : TableauState) (r : ℕ) (v f : Fraction) (o : Option A) (b : Bool) (x : A) → FirstUnclear t (length t.basics) r → v ≡ row_value t r → f ≡ bound t (basic t r) → is_some o ≡ not b → b ≡ false → SomeIff o (CrossesFit v f) x → IsLeaving t r
is_leaving t r v f o b x first v_is f_is e h m = record { first = first; bounded = unclear_bounded t r first.unclear; fits = fits; below = by_lt_z _ _ (λ l. l) (λ l. absurd (first.unclear (inr (fits, λ k. <ℤ_irrefl (<ℤ-≤ℤ_trans k l))))) }
  where
    fits : CrossesFit (row_value t r) (bound t (basic t r))
    fits = subst (λ g. CrossesFit (row_value t r) g) f_is (subst (λ g. CrossesFit g f) v_is (fit_of o b (CrossesFit v f) x e h m))

pub stuck_read : (t : TableauState) (r : ℕ) (columns : List ℕ) (coefs : List Fraction) → columns ≡ t.columns → coefs ≡ row t r → NoneRaises columns coefs t.vars (length columns) → NoneRaises t.columns (row t r) t.vars (length t.columns)
stuck_read t r columns coefs e g h = subst (λ cs. NoneRaises t.columns cs t.vars (length t.columns)) g (subst (λ ks. NoneRaises ks coefs t.vars (length ks)) e h)

pub entering_read : (t : TableauState) (r : ℕ) (columns : List ℕ) (coefs : List Fraction) (at : ℕ) → columns ≡ t.columns → coefs ≡ row t r → LeastRaising columns coefs t.vars (length columns) at → LeastRaising t.columns (row t r) t.vars (length t.columns) at
entering_read t r columns coefs at e g h = subst (λ cs. LeastRaising t.columns cs t.vars (length t.columns) at) g (subst (λ ks. LeastRaising ks coefs t.vars (length ks) at) e h)

pub first_end : (t : TableauState) (n m : ℕ) (best : Option ℕ) → n ≤ m → m ≤ n → m ≡ length t.basics → FirstSoFar t n best → FirstSoFar t (length t.basics) best
first_end t n m best l k e h = subst (λ i. FirstSoFar t i best) (same n m l k ∙ e) h
  where
    same : (n m : ℕ) → n ≤ m → m ≤ n → n ≡ m
    same n m l k = omega (arith, l, k)

pub first_below : (t : TableauState) (n o m : ℕ) (best : Option ℕ) → best ≡ Some o → FirstSoFar t n best → n < m → o < m
first_below t n o m best e h l = both o n m (first o (subst (FirstSoFar t n) e h)) l
  where
    first : (o : ℕ) → FirstUnclear t n o → o < n
    first o h = h.row_below

    both : (o n m : ℕ) → o < n → n < m → o < m
    both o n m h l = omega (arith, h, l)
