-- What is told of terms fits.
use Rattle.std.specs.Prelude.{◌≡◌, Bool, true, false, cond, ◌&&◌, List, [], ◌∷◌, negsuc, Option, Some, None, map}
use Rattle.std.specs.List.{list_all, list_any}
use Rattle.std.proofs.Common.{refl}
use Rattle.sy_terms.specs.Values.{Val, Truth, Whole, Bits}
use Rattle.sy_terms.specs.Operators.{op_value}
use Rattle.sy_terms.specs.Sorts.{sort_of}
use Rattle.sy_terms.specs.Theories.{sort_of_value}
use Rattle.sy_terms.specs.declared.op.Op.{Op}
use Rattle.sy_terms.specs.declared.op.Op.TheVariants as ops
use Rattle.sy_linear_known.specs.declared.form.Form.{Form}
use Rattle.sy_linear_known.specs.Forms.{form_plus, times, form_minus, form_is_in_range, is_constant_form}
use Rattle.sy_linear_known.specs.declared.path.Fact.{Fact}
use Rattle.sy_linear_known.specs.declared.sight.Sight.{Sight}
use Rattle.sy_linear_known.specs.declared.sight.Sight.TheVariants.{Linear, Settled, Open}
use Rattle.sy_linear_known.specs.declared.sight.Node.{Node}
use Rattle.sy_linear_known.specs.Sights.{is_true, is_false, all_of, any_of, all_truths, of_truth, has_a_sort, truth_at, told, both_nodes, evaluated, built, form_sum, form_multiple, form_difference, form_product, of_form, sights_combined, combined_at, sights_from_left, sights_folded, truth_negated, chosen, at_most, less, forms_equal, distinct, compared, neighbours_in_row, with_each, in_pairs, none_yet, by_truths_or, operator_applied}
use Rattle.sy_linear_known.specs.Fitting.{form_fits, sight_fits, all_fit}
use Rattle.sy_linear_known.proofs.Agreement.{and_parts}

-- ---- forms
pub fits-built : (f : Form) → form_fits (built f) ≡ true
fits-built f = by (form_is_in_range f) refl
  where
    by : (b : Bool) → form_is_in_range f ≡ b → form_fits (cond b (Some f) None) ≡ true
    by true e = e
    by false e = refl

pub fits-difference : (f g : Form) → form_fits (form_difference f g) ≡ true
fits-difference f g = fits-built (form_minus f g)

pub fits-product : (f g : Form) → form_fits (form_product f g) ≡ true
fits-product f g = by (is_constant_form f) (is_constant_form g)
  where
    by : (a b : Bool) → form_fits (cond a (form_multiple f.constant g) (cond b (form_multiple g.constant f) None)) ≡ true
    by true b = fits-built (times f.constant g)
    by false true = fits-built (times g.constant f)
    by false false = refl

fits-of_form : (o : Option Form) → form_fits o ≡ true → sight_fits (of_form o).sight ≡ true
fits-of_form (Some f) h = h
fits-of_form None h = refl

pub fits-combined : (apply : Form → Form → Option Form) → ((f g : Form) → form_fits (apply f g) ≡ true) → (n : Node) (s : Sight) → sight_fits (sights_combined apply n s).sight ≡ true
fits-combined apply each n s = by n.sight s
  where
    by : (r s : Sight) → sight_fits (combined_at n.fits apply r s).sight ≡ true
    by (Linear f) (Linear g) = fits-of_form (apply f g) (each f g)
    by (Linear f) (Settled b) = refl
    by (Linear f) Open = refl
    by (Settled b) s = refl
    by Open s = refl

fits-from_left : (apply : Form → Form → Option Form) → ((f g : Form) → form_fits (apply f g) ≡ true) → (n : Node) → sight_fits n.sight ≡ true → (ss : List Sight) → sight_fits (sights_from_left apply n ss).sight ≡ true
fits-from_left apply each n h [] = h
fits-from_left apply each n h (s ∷ ss) = fits-from_left apply each (sights_combined apply n s) (fits-combined apply each n s) ss

fits-folded : (apply : Form → Form → Option Form) → ((f g : Form) → form_fits (apply f g) ≡ true) → (ss : List Sight) → all_fit ss ≡ true → sight_fits (sights_folded apply ss).sight ≡ true
fits-folded apply each [] h = refl
fits-folded apply each (s ∷ ss) h = fits-from_left apply each (told s) (and_parts (sight_fits s) (all_fit ss) h).0 ss

fits-negated : (ss : List Sight) → sight_fits (truth_negated ss).sight ≡ true
fits-negated (Linear f ∷ []) = fits-of_form (form_multiple (negsuc 0) f) (fits-built (times (negsuc 0) f))
fits-negated (Linear f ∷ s ∷ ss) = refl
fits-negated [] = refl
fits-negated (Settled b ∷ ss) = refl
fits-negated (Open ∷ ss) = refl

fits-chosen : (ss : List Sight) → all_fit ss ≡ true → sight_fits (chosen ss).sight ≡ true
fits-chosen (Settled b ∷ s ∷ t ∷ []) h =
    let k = and_parts (sight_fits s) (sight_fits t && true) h in
    by b k.0 (and_parts (sight_fits t) true k.1).0
  where
    by : (b : Bool) → sight_fits s ≡ true → sight_fits t ≡ true → sight_fits (cond b s t) ≡ true
    by true h k = h
    by false h k = k
fits-chosen [] h = refl
fits-chosen (Linear f ∷ ss) h = refl
fits-chosen (Open ∷ ss) h = refl
fits-chosen (Settled b ∷ []) h = refl
fits-chosen (Settled b ∷ s ∷ []) h = refl
fits-chosen (Settled b ∷ s ∷ t ∷ u ∷ ss) h = refl

-- ---- truth values
fits-either : (a b : Bool) (x y : Bool) → sight_fits (cond a (Settled x) (cond b (Settled y) Open)) ≡ true
fits-either true b x y = refl
fits-either false true x y = refl
fits-either false false x y = refl

fits-all_of : (ss : List Sight) → sight_fits (all_of ss) ≡ true
fits-all_of ss = fits-either (list_any is_false ss) (list_all is_true ss) false true

fits-any_of : (ss : List Sight) → sight_fits (any_of ss) ≡ true
fits-any_of ss = fits-either (list_any is_true ss) (list_all is_false ss) true false

fits-truth_at : (operator : Op) (vs : List Val) → sight_fits (truth_at operator vs) ≡ true
fits-truth_at operator vs = by (has_a_sort (sort_of operator (map sort_of_value vs))) (op_value operator vs)
  where
    by : (b : Bool) (v : Val) → sight_fits (cond b (of_truth v) Open) ≡ true
    by true (Truth b) = refl
    by true (Whole z) = refl
    by true (Bits w n) = refl
    by false v = refl

fits-evaluated : (operator : Op) (o : Option (List Val)) → sight_fits (evaluated operator o).sight ≡ true
fits-evaluated operator None = refl
fits-evaluated operator (Some vs) = fits-truth_at operator vs

fits-by_truths : (operator : Op) (o : Option (List Val)) (n : Node) → sight_fits n.sight ≡ true → sight_fits (by_truths_or operator o n).sight ≡ true
fits-by_truths operator None n h = h
fits-by_truths operator (Some vs) n h = fits-truth_at operator vs

-- ---- comparisons
fits-both : (m n : Node) → sight_fits (both_nodes m n).sight ≡ true
fits-both m n = fits-all_of (m.sight ∷ n.sight ∷ [])

fits-in_row : (compare : Form → Form → Node) (n : Node) → sight_fits n.sight ≡ true → (ss : List Sight) → sight_fits (neighbours_in_row compare n ss).sight ≡ true
fits-in_row compare n h [] = h
fits-in_row compare n h (s ∷ []) = h
fits-in_row compare n h (s ∷ t ∷ ss) = fits-in_row compare (both_nodes n (compared compare s t)) (fits-both n (compared compare s t)) (t ∷ ss)

fits-with_each : (compare : Form → Form → Node) (n : Node) → sight_fits n.sight ≡ true → (s : Sight) (ss : List Sight) → sight_fits (with_each compare n s ss).sight ≡ true
fits-with_each compare n h s [] = h
fits-with_each compare n h s (t ∷ ss) = fits-with_each compare (both_nodes n (compared compare s t)) (fits-both n (compared compare s t)) s ss

fits-in_pairs : (compare : Form → Form → Node) (n : Node) → sight_fits n.sight ≡ true → (ss : List Sight) → sight_fits (in_pairs compare n ss).sight ≡ true
fits-in_pairs compare n h [] = h
fits-in_pairs compare n h (s ∷ ss) = fits-in_pairs compare (with_each compare n s ss) (fits-with_each compare n h s ss) ss

-- ---- applications
pub fits-applied : (path : List Fact) (operator : Op) (ss : List Sight) → all_fit ss ≡ true → sight_fits (operator_applied path operator ss).sight ≡ true
unfolding operator_applied
fits-applied path ops.And ss h = fits-all_of ss
fits-applied path ops.Or ss h = fits-any_of ss
fits-applied path ops.Not ss h = fits-evaluated ops.Not (all_truths ss)
fits-applied path ops.Xor ss h = fits-evaluated ops.Xor (all_truths ss)
fits-applied path ops.Implies ss h = fits-evaluated ops.Implies (all_truths ss)
fits-applied path ops.Equal ss h = fits-by_truths ops.Equal (all_truths ss) (neighbours_in_row (forms_equal path) none_yet ss) (fits-in_row (forms_equal path) none_yet refl ss)
fits-applied path ops.Distinct ss h = fits-by_truths ops.Distinct (all_truths ss) (in_pairs (distinct path) none_yet ss) (fits-in_pairs (distinct path) none_yet refl ss)
fits-applied path ops.Ite ss h = fits-chosen ss h
fits-applied path ops.Neg ss h = fits-negated ss
fits-applied path ops.Add ss h = fits-folded form_sum (λ f g. fits-built (form_plus f g)) ss h
fits-applied path ops.Sub ss h = fits-folded form_difference fits-difference ss h
fits-applied path ops.Mul ss h = fits-folded form_product fits-product ss h
fits-applied path ops.Le ss h = fits-in_row (at_most path) none_yet refl ss
fits-applied path ops.Lt ss h = fits-in_row (less path) none_yet refl ss
fits-applied path ops.Ge ss h = fits-in_row (λ f g. at_most path g f) none_yet refl ss
fits-applied path ops.Gt ss h = fits-in_row (λ f g. less path g f) none_yet refl ss
fits-applied path _ ss h = refl
