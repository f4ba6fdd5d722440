-- The forms of bounds, and copies of coefficients.
use Rattle.std.specs.Prelude.{◌≡◌, ℕ, ◌+◌, ◌<◌, true, cond, ◌&&◌, List, [], ◌∷◌, ◌++◌, length, get_or, take, ℤ, pos, negsuc, ◌-ℤ◌, slice_get}
use Rattle.std.proofs.Common.{refl, sym, ◌∙◌, ap, ap₂, arith, rules}
use Rattle.std.proofs.lemmas.Int.{to_z-of_z}
use Rattle.std.proofs.lemmas.List.{take_more}
use mir.Syntax.{w128}
use mir.Val.{SFits, to_z, of_z}
use borrow.Author.Differences.{ints, same_in}
use Rattle.sy_terms.specs.declared.sort.Sort.{Sort}
use Rattle.sy_linear_known.specs.declared.form.Form.{Form}
use Rattle.sy_linear_known.specs.Forms.{Coefficient, subtracted, scaled, form_negation, in_range, all_in_range}
use Rattle.sy_linear_known.specs.declared.path.Fact.{Fact}
use Rattle.sy_linear_known.specs.declared.path.Fact.TheVariants.{AtLeast}
use Rattle.sy_linear_known.specs.Trees.{at_or_below}
use Rattle.sy_linear.proofs.Lowest.{left_true, right_true}
use Rattle.sy_linear.specs.Judging.{Adds, Fails, is_int, branch_outcome}

-- ---- bounds
abbrev bounded : ℤ → ℕ → ℤ → Form
bounded k i c = record { coefs = (i, k) ∷ []; constant = c }

below_is : (i : ℕ) (k : ℤ) → at_or_below i k ≡ bounded (negsuc 0) i k
unfolding subtracted scaled
below_is i k = ap (bounded (negsuc 0) i) (same_in _ _ (omega (arith, ints)))

above_is : (i : ℕ) (k : ℤ) → form_negation (at_or_below i k) ≡ bounded (pos 1) i (negsuc 0 -ℤ k)
unfolding scaled
above_is i k = ap form_negation (below_is i k) ∙ ap (bounded (pos 1) i) (same_in _ _ (omega (arith, ints)))

-- both facts of a branch
pub branch_adds : (vars : List Sort) (i : ℕ) (k : ℤ) (below above : Fact) → is_int (slice_get vars i) ≡ true → below ≡ AtLeast (bounded (negsuc 0) i k) → above ≡ AtLeast (bounded (pos 1) i (negsuc 0 -ℤ k)) → branch_outcome vars i k ≡ Adds (below, above)
branch_adds vars i k below above int e f =
    ap (λ b. cond b (Adds (AtLeast (at_or_below i k), AtLeast (form_negation (at_or_below i k)))) Fails) int
    ∙ ap₂ (λ b a. Adds (b, a)) (ap AtLeast (below_is i k) ∙ sym e) (ap AtLeast (above_is i k) ∙ sym f)

minus_fits : (k : ℤ) → SFits w128 k → SFits w128 (negsuc 0 -ℤ k)
minus_fits k h = search rules

-- the bound, as 128 bits say it
pub past_is : (k : ℤ) → SFits w128 k → to_z w128 (of_z w128 (negsuc 0 -ℤ to_z w128 (of_z w128 k))) ≡ negsuc 0 -ℤ k
past_is k h = ap (λ z. to_z w128 (of_z w128 (negsuc 0 -ℤ z))) (to_z-of_z w128 k h) ∙ to_z-of_z w128 (negsuc 0 -ℤ k) (minus_fits k h)

-- ---- copies
fits_in : (n : ℤ) → SFits w128 n → in_range n ≡ true
fits_in n h = search rules

and_both : (cs : List Coefficient) (c : Coefficient) → all_in_range cs ≡ true → in_range c.1 ≡ true → all_in_range (cs ++ c ∷ []) ≡ true
and_both [] c h k = rw k refl
and_both (d ∷ cs) c h k = ap₂ (λ a b. a && b) (left_true (in_range d.1) (all_in_range cs) h) (and_both cs c (right_true (in_range d.1) (all_in_range cs) h) k)

-- one coefficient more, whose number is n
pub copied_kept : (cs out new : List Coefficient) (i : ℕ) (n : ℤ) → SFits w128 n → i < length cs → n ≡ (get_or cs i (0, pos 0)).1 → new ≡ out ++ ((get_or cs i (0, pos 0)).0, to_z w128 (of_z w128 n)) ∷ [] → out ≡ take i cs → new ≡ take (i + 1) cs
copied_kept cs out new i n fits within same pushed kept =
    pushed ∙ ap₂ (λ xs m. xs ++ ((get_or cs i (0, pos 0)).0, m) ∷ []) kept (to_z-of_z w128 n fits ∙ same)
    ∙ sym (take_more cs i (0, pos 0) within)

pub copied_fits : (out new : List Coefficient) (i : ℕ) (n : ℤ) → SFits w128 n → new ≡ out ++ (i, to_z w128 (of_z w128 n)) ∷ [] → all_in_range out ≡ true → all_in_range new ≡ true
copied_fits out new i n fits pushed kept =
    ap all_in_range pushed ∙ and_both out (i, to_z w128 (of_z w128 n)) kept (ap in_range (to_z-of_z w128 n fits) ∙ fits_in n fits)
