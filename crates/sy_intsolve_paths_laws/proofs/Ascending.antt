-- What a form on integer variables in ascending order is.
use Rattle.std.specs.Prelude.{◌≡◌, ℕ, zero, suc, ◌<◌, ◌≤◌, ◌+◌, true, List, [], ◌∷◌, length, slice_get, Some}
use Rattle.std.specs.List.{list_all}
use Rattle.std.proofs.Common.{refl, ap, arith}
use Rattle.sy_terms.specs.declared.sort.Sort.{Sort}
use Rattle.sy_terms.specs.declared.sort.Sort.TheVariants as sorts
use Rattle.sy_linear_known.specs.declared.form.Form.{Form}
use Rattle.sy_linear_known.specs.Forms.{Coefficient}
use Rattle.sy_linear_known.specs.Trees.{OverIntegers}
use Rattle.sy_linear_known.proofs.Ascending.{AscendFrom, Ascends}
use Rattle.sy_linear.specs.Judging.{is_int, has_int}
use Rattle.sy_simplex.specs.Problems.{IsForm, variable_at}

get_below : (vars : List Sort) (i : ℕ) (s : Sort) → slice_get vars i ≡ Some s → i < length vars
get_below [] i s e = absurd cc
get_below (v ∷ vars) zero s e = omega arith
get_below (v ∷ vars) (suc i) s e = omega (arith, get_below vars i s e)

each_below : (vars : List Sort) (least : ℕ) (cs : List Coefficient) → AscendFrom vars least cs → (k : ℕ) → k < length cs → variable_at cs k < length vars
each_below vars least [] h k l = absurd (omega arith)
each_below vars least (c ∷ cs) h zero l = get_below vars c.0 sorts.Int h.1
each_below vars least (c ∷ cs) h (suc k) l = each_below vars (suc c.0) cs h.2 k (omega (arith, l))

first_least : (vars : List Sort) (least : ℕ) (cs : List Coefficient) → AscendFrom vars least cs → 0 < length cs → least ≤ variable_at cs 0
first_least vars least [] h l = absurd (omega arith)
first_least vars least (c ∷ cs) h l = h.0

each_ascending : (vars : List Sort) (least : ℕ) (cs : List Coefficient) → AscendFrom vars least cs → (k : ℕ) → suc k < length cs → variable_at cs k < variable_at cs (suc k)
each_ascending vars least [] h k l = absurd (omega arith)
each_ascending vars least (c ∷ cs) h zero l = omega (arith, first_least vars (suc c.0) cs h.2 (omega (arith, l)))
each_ascending vars least (c ∷ cs) h (suc k) l = each_ascending vars (suc c.0) cs h.2 k (omega (arith, l))

pub ascends-is_form : (vars : List Sort) (f : Form) → Ascends vars f → IsForm (length vars) f
ascends-is_form vars f h = record {
  below = each_below vars 0 f.coefs h;
  ascending = λ k l. let same : k + 1 ≡ suc k = omega arith in rw same (each_ascending vars 0 f.coefs h k (omega (arith, l)));
}

ascend-over : (vars : List Sort) (least : ℕ) (cs : List Coefficient) → AscendFrom vars least cs → OverIntegers vars cs
ascend-over vars least [] h = tt
ascend-over vars least (c ∷ cs) h = (h.1, ascend-over vars (suc c.0) cs h.2)

pub ascends-over : (vars : List Sort) (f : Form) → Ascends vars f → OverIntegers vars f.coefs
ascends-over vars f h = ascend-over vars 0 f.coefs h

ascend-all : (vars : List Sort) (least : ℕ) (cs : List Coefficient) → AscendFrom vars least cs → list_all (has_int vars) cs ≡ true
ascend-all vars least [] h = refl
ascend-all vars least (c ∷ cs) h = rw (ap is_int h.1, ascend-all vars (suc c.0) cs h.2)

pub ascends-all : (vars : List Sort) (f : Form) → Ascends vars f → list_all (has_int vars) f.coefs ≡ true
ascends-all vars f h = ascend-all vars 0 f.coefs h
