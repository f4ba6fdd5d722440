-- A path on the variables of a query stays one with each side of an open test, with a bound of an integer variable, and with a
-- form on integer variables.
use Rattle.std.specs.Prelude.{◌≡◌, ℕ, Bool, true, false, cond, List, [], ◌∷◌, ◌++◌, All, nat_eq, ℤ, Some, None}
use Rattle.std.specs.Cmp.{unsigned_Decides}
use Rattle.std.proofs.Common.{refl, ap}
use Rattle.std.proofs.lemmas.List.Elements.{All-nil, All-push, All-weaker}
use Rattle.sy_terms.specs.declared.sort.Sort.{Sort}
use Rattle.sy_terms.specs.declared.sort.Sort.TheVariants as sorts
use Rattle.sy_linear_known.specs.declared.form.Form.{Form}
use Rattle.sy_linear_known.specs.Forms.{constant_form, variable_form, form_negation}
use Rattle.sy_linear_known.specs.declared.path.Fact.{Fact}
use Rattle.sy_linear_known.specs.declared.path.Fact.TheVariants.{AtLeast, Is}
use Rattle.sy_linear_known.specs.declared.path.Test.{Test}
use Rattle.sy_linear_known.specs.declared.path.Test.TheVariants as test
use Rattle.sy_linear_known.specs.declared.answer.Known.TheVariants as known
use Rattle.sy_linear_known.specs.Paths.{given}
use Rattle.sy_linear_known.specs.Seen.{LinearQuery, query_known}
use Rattle.sy_linear_known.specs.Trees.{at_or_below, IsOf}
use Rattle.sy_linear.specs.Judging.{is_bool}
use Rattle.sy_intsolve_paths_laws.specs.Paths.{Suit, AgreesWithPath, IsPath, TestIsOpen}
use Rattle.sy_linear_known.proofs.Ascending.{Ascends, ascends-variable, ascends-minus, ascends-negation}
use Rattle.sy_linear_known.proofs.Suiting.{IsOpenTest}
use Rattle.sy_linear_known.proofs.Asking.{open_test}
use Rattle.sy_intsolve_paths_laws.proofs.Ascending.{ascends-is_form, ascends-over, ascends-all}

-- ---- what a longer path gives
given-more : (path : List Fact) (u : ℕ) (b : Bool) (fact : Fact) → given u path ≡ Some b → given u (path ++ fact ∷ []) ≡ Some b
given-more [] u b fact e = absurd cc
given-more (AtLeast f ∷ path) u b fact e = given-more path u b fact e
given-more (Is v c ∷ path) u b fact e = by (nat_eq u v) e (given-more path u b fact)
  where
    by : (t : Bool) → cond t (Some c) (given u path) ≡ Some b → (given u path ≡ Some b → given u (path ++ fact ∷ []) ≡ Some b) → cond t (Some c) (given u (path ++ fact ∷ [])) ≡ Some b
    by true e f = e
    by false e f = f e

same_number : (u : ℕ) → nat_eq u u ≡ true
same_number u = (unsigned_Decides u u).1 refl

given-last : (path : List Fact) (u : ℕ) (b : Bool) → given u path ≡ None → given u (path ++ Is u b ∷ []) ≡ Some b
given-last [] u b e = ap (λ t. cond t (Some b) None) (same_number u)
given-last (AtLeast f ∷ path) u b e = given-last path u b e
given-last (Is v c ∷ path) u b e = by (nat_eq u v) e (given-last path u b)
  where
    by : (t : Bool) → cond t (Some c) (given u path) ≡ None → (given u path ≡ None → given u (path ++ Is u b ∷ []) ≡ Some b) → cond t (Some c) (given u (path ++ Is u b ∷ [])) ≡ Some b
    by true e f = absurd cc
    by false e f = f e

agrees-more : (path : List Fact) (last fact : Fact) → AgreesWithPath path fact → AgreesWithPath (path ++ last ∷ []) fact
agrees-more path last (AtLeast f) h = tt
agrees-more path last (Is u b) h = given-more path u b last h

-- ---- longer paths
pub path-none : (vars : List Sort) → IsPath vars []
path-none vars = record { each = All-nil (Suit vars); told = All-nil (AgreesWithPath []) }

path-more : (vars : List Sort) (path : List Fact) (fact : Fact) → IsPath vars path → Suit vars fact → AgreesWithPath (path ++ fact ∷ []) fact → IsPath vars (path ++ fact ∷ [])
path-more vars path fact p s a = record {
  each = All-push (Suit vars) path fact p.each s;
  told = All-push (AgreesWithPath (path ++ fact ∷ [])) path fact (All-weaker (AgreesWithPath path) (AgreesWithPath (path ++ fact ∷ [])) (λ other. agrees-more path fact other) path p.told) a;
}

-- with a form on integer variables
pub path-form : (vars : List Sort) (path : List Fact) (f : Form) → IsPath vars path → Suit vars (AtLeast f) → IsPath vars (path ++ AtLeast f ∷ [])
path-form vars path f p s = path-more vars path (AtLeast f) p s tt

ascends-suit : (vars : List Sort) (f : Form) → Ascends vars f → Suit vars (AtLeast f)
ascends-suit vars f h = (ascends-is_form vars f h, ascends-over vars f h)

ascends-bound : (vars : List Sort) (i : ℕ) (bound : ℤ) → IsOf sorts.Int vars i → Ascends vars (at_or_below i bound)
ascends-bound vars i bound o = ascends-minus vars (constant_form bound) (variable_form i) tt (ascends-variable vars i o)

-- with an integer variable at most a bound, and with it above
pub path-at_most : (vars : List Sort) (path : List Fact) (i : ℕ) (bound : ℤ) → IsPath vars path → IsOf sorts.Int vars i → IsPath vars (path ++ AtLeast (at_or_below i bound) ∷ [])
path-at_most vars path i bound p o = path-form vars path (at_or_below i bound) p (ascends-suit vars (at_or_below i bound) (ascends-bound vars i bound o))

pub path-above : (vars : List Sort) (path : List Fact) (i : ℕ) (bound : ℤ) → IsPath vars path → IsOf sorts.Int vars i → IsPath vars (path ++ AtLeast (form_negation (at_or_below i bound)) ∷ [])
path-above vars path i bound p o = path-form vars path (form_negation (at_or_below i bound)) p (ascends-suit vars (form_negation (at_or_below i bound)) (ascends-negation vars (at_or_below i bound) (ascends-bound vars i bound o)))

-- with each side of an open test
path-open : (vars : List Sort) (path : List Fact) (t : Test) → IsPath vars path → IsOpenTest vars path t → TestIsOpen vars path t
path-open vars path (test.AtLeast f) p h = record {
  suits = ascends-all vars f h.0;
  fits = h.1;
  left = path-form vars path f p (ascends-suit vars f h.0);
  right = path-form vars path (form_negation f) p (ascends-suit vars (form_negation f) (ascends-negation vars f h.0));
}
path-open vars path (test.Holds u) p h = record {
  suits = ap is_bool h.0;
  fits = refl;
  left = path-more vars path (Is u true) p h.0 (given-last path u true h.1);
  right = path-more vars path (Is u false) p h.0 (given-last path u false h.1);
}

pub asked : (q : LinearQuery) (path : List Fact) (t : Test) → IsPath q.vars path → query_known q path ≡ known.Undecided t → TestIsOpen q.vars path t
asked q path t p e = path-open q.vars path t p (open_test q path t e)
