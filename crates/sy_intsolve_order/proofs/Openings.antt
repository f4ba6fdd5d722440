-- What the conditions of a split that are tested at run time show.
use Rattle.std.specs.Prelude.{◌≡◌, ℕ, zero, suc, ◌+◌, ◌<◌, ◌≤◌, Bool, true, false, cond, not, ◌&&◌, List, [], ◌∷◌, ◌++◌, length, nat_eq, slice_get, Option, Some, None}
use Rattle.std.specs.List.{list_all}
use Rattle.std.specs.Option.{is_some}
use Rattle.std.specs.Cmp.{unsigned_Decides}
use Rattle.std.proofs.Common.{refl, ap, subst, arith}
use Rattle.std.proofs.lemmas.List.Elements.{All-push, All-weaker}
use Rattle.sy_terms.specs.declared.sort.Sort.{Sort}
use Rattle.sy_terms.specs.declared.sort.Sort.TheVariants as sorts
use Rattle.sy_linear_known.specs.declared.form.Form.{Form}
use Rattle.sy_linear_known.specs.Forms.{Coefficient, form_negation}
use Rattle.sy_linear_known.specs.declared.path.Fact.{Fact}
use Rattle.sy_linear_known.specs.declared.path.Fact.TheVariants.{AtLeast, Is}
use Rattle.sy_linear_known.specs.declared.path.Test.{Test}
use Rattle.sy_linear_known.specs.declared.path.Test.TheVariants as test
use Rattle.sy_linear_known.specs.Paths.{given}
use Rattle.sy_linear_known.specs.Trees.{OverIntegers, TestSuits, IsOf}
use Rattle.sy_linear_known.proofs.Ascending.{AscendFrom, Ascends, ascends-negation}
use Rattle.sy_linear.specs.Judging.{is_int, is_bool, has_int, suits, opposite_fits, split_outcome, Adds, Leaves, Fails}
use Rattle.sy_simplex.specs.Problems.{IsForm, variable_at}
use Rattle.sy_intsolve_paths_laws.specs.Paths.{Suit, AgreesWithPath, IsPath, TestIsOpen}
use Rattle.sy_intsolve_paths_laws.proofs.Ascending.{ascends-is_form, ascends-over}
use Rattle.sy_intsolve_paths_laws.proofs.Paths.{path-form}

-- ---- sorts of variables
and_parts : (a b : Bool) → (a && b) ≡ true → (a ≡ true) × (b ≡ true)
and_parts true b e = (refl, e)
and_parts false b e = absurd cc

int_is : (o : Option Sort) → is_int o ≡ true → o ≡ Some sorts.Int
int_is (Some sorts.Int) e = refl
int_is (Some sorts.Bool) e = absurd cc
int_is (Some (sorts.Bits w)) e = absurd cc
int_is None e = absurd cc

bool_is : (o : Option Sort) → is_bool o ≡ true → o ≡ Some sorts.Bool
bool_is (Some sorts.Bool) e = refl
bool_is (Some sorts.Int) e = absurd cc
bool_is (Some (sorts.Bits w)) e = absurd cc
bool_is None e = absurd cc

over_integers : (vars : List Sort) (cs : List Coefficient) → list_all (has_int vars) cs ≡ true → OverIntegers vars cs
over_integers vars [] e = tt
over_integers vars (c ∷ cs) e = let k = and_parts (has_int vars c) (list_all (has_int vars) cs) e in (int_is (slice_get vars c.0) k.0, over_integers vars cs k.1)

pub suits_is : (vars : List Sort) (t : Test) → suits vars t ≡ true → TestSuits vars t
suits_is vars (test.AtLeast f) e = over_integers vars f.coefs e
suits_is vars (test.Holds u) e = bool_is (slice_get vars u) e

-- ---- ascending forms
ascend : (vars : List Sort) (least : ℕ) (cs : List Coefficient) → OverIntegers vars cs → (0 < length cs → least ≤ variable_at cs 0) → ((k : ℕ) → suc k < length cs → variable_at cs k < variable_at cs (suc k)) → AscendFrom vars least cs
ascend vars least [] o f a = tt
ascend vars least (c ∷ cs) o f a = (f (omega arith), o.0, ascend vars (suc c.0) cs o.1 (λ l. omega (arith, a zero (omega (arith, l)))) (λ k l. a (suc k) (omega (arith, l))))

form_ascends : (vars : List Sort) (f : Form) → OverIntegers vars f.coefs → IsForm (length vars) f → Ascends vars f
form_ascends vars f o h = ascend vars 0 f.coefs o (λ l. omega arith) (λ k l. let same : k + 1 ≡ suc k = omega arith in subst (λ m. variable_at f.coefs k < variable_at f.coefs m) same (h.ascending k (omega (arith, l))))

-- ---- paths with a truth value more
given-more : (path : List Fact) (u : ℕ) (b : Bool) (fact : Fact) → given u path ≡ Some b → given u (path ++ fact ∷ []) ≡ Some b
given-more [] u b fact e = absurd cc
given-more (AtLeast f ∷ path) u b fact e = given-more path u b fact e
given-more (Is v c ∷ path) u b fact e = by (nat_eq u v) e (given-more path u b fact)
  where
    by : (t : Bool) → cond t (Some c) (given u path) ≡ Some b → (given u path ≡ Some b → given u (path ++ fact ∷ []) ≡ Some b) → cond t (Some c) (given u (path ++ fact ∷ [])) ≡ Some b
    by true e f = e
    by false e f = f e

given-last : (path : List Fact) (u : ℕ) (b : Bool) → given u path ≡ None → given u (path ++ Is u b ∷ []) ≡ Some b
given-last [] u b e = ap (λ t. cond t (Some b) None) ((unsigned_Decides u u).1 refl)
given-last (AtLeast f ∷ path) u b e = given-last path u b e
given-last (Is v c ∷ path) u b e = by (nat_eq u v) e (given-last path u b)
  where
    by : (t : Bool) → cond t (Some c) (given u path) ≡ None → (given u path ≡ None → given u (path ++ Is u b ∷ []) ≡ Some b) → cond t (Some c) (given u (path ++ Is u b ∷ [])) ≡ Some b
    by true e f = absurd cc
    by false e f = f e

agrees-more : (path : List Fact) (last fact : Fact) → AgreesWithPath path fact → AgreesWithPath (path ++ last ∷ []) fact
agrees-more path last (AtLeast f) h = tt
agrees-more path last (Is u b) h = given-more path u b last h

path-truth : (vars : List Sort) (path : List Fact) (u : ℕ) (b : Bool) → IsPath vars path → IsOf sorts.Bool vars u → given u path ≡ None → IsPath vars (path ++ Is u b ∷ [])
path-truth vars path u b p o n = record {
  each = All-push (Suit vars) path (Is u b) p.each o;
  told = All-push (AgreesWithPath (path ++ Is u b ∷ [])) path (Is u b) (All-weaker (AgreesWithPath path) (AgreesWithPath (path ++ Is u b ∷ [])) (λ other. agrees-more path (Is u b) other) path p.told) (given-last path u b n);
}

-- ---- splits
told : {A : Type 0} (a b : Bool) (x y : A) → cond a (cond b (Adds x) Leaves) Fails ≡ Adds y → (a ≡ true) × (b ≡ true)
told true true x y e = (refl, refl)
told true false x y e = absurd cc
told false b x y e = absurd cc

pub split_told : (vars : List Sort) (t : Test) (facts : Fact × Fact) → split_outcome vars t ≡ Adds facts → (suits vars t ≡ true) × (opposite_fits t ≡ true)
split_told vars t facts e = told (suits vars t) (opposite_fits t) _ facts e

pub form_opens : (vars : List Sort) (path : List Fact) (f : Form) (facts : Fact × Fact) → split_outcome vars (test.AtLeast f) ≡ Adds facts → IsForm (length vars) f → IsPath vars path → TestIsOpen vars path (test.AtLeast f)
form_opens vars path f facts e h p =
    let k = split_told vars (test.AtLeast f) facts e in
    let o = over_integers vars f.coefs k.0 in
    let n : Ascends vars (form_negation f) = ascends-negation vars f (form_ascends vars f o h) in
    record {
      suits = k.0;
      fits = k.1;
      left = path-form vars path f p (h, o);
      right = path-form vars path (form_negation f) p (ascends-is_form vars (form_negation f) n, ascends-over vars (form_negation f) n);
    }

pub truth_opens : (vars : List Sort) (path : List Fact) (u : ℕ) (facts : Fact × Fact) → split_outcome vars (test.Holds u) ≡ Adds facts → given u path ≡ None → IsPath vars path → TestIsOpen vars path (test.Holds u)
truth_opens vars path u facts e n p =
    let k = split_told vars (test.Holds u) facts e in
    let o = bool_is (slice_get vars u) k.0 in
    record { suits = k.0; fits = k.1; left = path-truth vars path u true p o n; right = path-truth vars path u false p o n }

pub not_given : (found : Option Bool) (none : Bool) → is_some found ≡ not none → none ≡ true → found ≡ None
not_given None none e t = refl
not_given (Some b) true e t = absurd cc
not_given (Some b) false e t = absurd cc
