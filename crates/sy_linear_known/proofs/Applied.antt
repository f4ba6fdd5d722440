-- What the path tells of an operator's application, by the operation that the code calls.
use Rattle.std.specs.Prelude.{◌≡◌, ◌≢◌, List, [], ◌∷◌, Option}
use Rattle.std.proofs.Common.{refl, sym, ap, ap₂, ◌∙◌}
use Rattle.sy_terms.specs.declared.op.Op.{Op}
use Rattle.sy_terms.specs.declared.op.Op.TheVariants as ops
use Rattle.sy_linear_known.specs.declared.form.Form.{Form}
use Rattle.sy_linear_known.specs.declared.path.Fact.{Fact}
use Rattle.sy_linear_known.specs.declared.sight.Sight.{Sight}
use Rattle.sy_linear_known.specs.declared.sight.Sight.TheVariants.{Linear, Settled, Open}
use Rattle.sy_linear_known.specs.declared.sight.Node.{Node}
use Rattle.sy_linear_known.specs.declared.arithmetic.Operation.TheVariants.{Sum, Difference, Product}
use Rattle.sy_linear_known.specs.declared.comparisons.Comparison.TheVariants as compares
use Rattle.sy_linear_known.specs.Sights.{all_truths, all_of, any_of, told, unfit, both_nodes, evaluated, of_form, combined_at, sights_combined, sights_from_left, sights_folded, form_sum, form_difference, form_product, truth_negated, chosen, at_most, less, forms_equal, distinct, compared, neighbours_in_row, with_each, in_pairs, none_yet, by_truths_or, operator_applied}
use Rattle.sy_linear_known.specs.Operations.{operation_result, comparison}

-- ---- what is the same at all forms
combined-same : (f g : Form → Form → Option Form) → ((a b : Form) → f a b ≡ g a b) → (n : Node) (t : Sight) → sights_combined f n t ≡ sights_combined g n t
combined-same f g each n t = by n.sight t
  where
    by : (s t : Sight) → combined_at n.fits f s t ≡ combined_at n.fits g s t
    by (Linear a) (Linear b) = ap of_form (each a b)
    by (Linear a) (Settled y) = refl
    by (Linear a) Open = refl
    by (Settled x) t = refl
    by Open t = refl

from_left-same : (f g : Form → Form → Option Form) → ((a b : Form) → f a b ≡ g a b) → (n : Node) (ss : List Sight) → sights_from_left f n ss ≡ sights_from_left g n ss
from_left-same f g each n [] = refl
from_left-same f g each n (s ∷ ss) = ap (λ k. sights_from_left f k ss) (combined-same f g each n s) ∙ from_left-same f g each (sights_combined g n s) ss

folded-same : (f g : Form → Form → Option Form) → ((a b : Form) → f a b ≡ g a b) → (ss : List Sight) → sights_folded f ss ≡ sights_folded g ss
folded-same f g each [] = refl
folded-same f g each (s ∷ ss) = from_left-same f g each (told s) ss

compared-same : (f g : Form → Form → Node) → ((a b : Form) → f a b ≡ g a b) → (s t : Sight) → compared f s t ≡ compared g s t
compared-same f g each (Linear a) (Linear b) = each a b
compared-same f g each (Linear a) (Settled y) = refl
compared-same f g each (Linear a) Open = refl
compared-same f g each (Settled x) t = refl
compared-same f g each Open t = refl

row-same : (f g : Form → Form → Node) → ((a b : Form) → f a b ≡ g a b) → (n : Node) (ss : List Sight) → neighbours_in_row f n ss ≡ neighbours_in_row g n ss
row-same f g each n [] = refl
row-same f g each n (s ∷ []) = refl
row-same f g each n (s ∷ t ∷ ss) = ap (λ k. neighbours_in_row f (both_nodes n k) (t ∷ ss)) (compared-same f g each s t) ∙ row-same f g each (both_nodes n (compared g s t)) (t ∷ ss)

with_each-same : (f g : Form → Form → Node) → ((a b : Form) → f a b ≡ g a b) → (n : Node) (s : Sight) (ss : List Sight) → with_each f n s ss ≡ with_each g n s ss
with_each-same f g each n s [] = refl
with_each-same f g each n s (t ∷ ss) = ap (λ k. with_each f (both_nodes n k) s ss) (compared-same f g each s t) ∙ with_each-same f g each (both_nodes n (compared g s t)) s ss

pairs-same : (f g : Form → Form → Node) → ((a b : Form) → f a b ≡ g a b) → (n : Node) (ss : List Sight) → in_pairs f n ss ≡ in_pairs g n ss
pairs-same f g each n [] = refl
pairs-same f g each n (s ∷ ss) = ap (λ k. in_pairs f k ss) (with_each-same f g each n s ss) ∙ pairs-same f g each (with_each g n s ss) ss

-- ---- operators
pub applied-and : (path : List Fact) (o : Op) (ss : List Sight) → o ≡ ops.And → told (all_of ss) ≡ operator_applied path o ss
unfolding operator_applied
applied-and path o ss is = sym (ap (λ p. operator_applied path p ss) is)

pub applied-or : (path : List Fact) (o : Op) (ss : List Sight) → o ≡ ops.Or → told (any_of ss) ≡ operator_applied path o ss
unfolding operator_applied
applied-or path o ss is = sym (ap (λ p. operator_applied path p ss) is)

pub applied-not : (path : List Fact) (o : Op) (ss : List Sight) → o ≡ ops.Not → evaluated o (all_truths ss) ≡ operator_applied path o ss
unfolding operator_applied
applied-not path o ss is = ap (λ p. evaluated p (all_truths ss)) is ∙ sym (ap (λ p. operator_applied path p ss) is)

pub applied-xor : (path : List Fact) (o : Op) (ss : List Sight) → o ≡ ops.Xor → evaluated o (all_truths ss) ≡ operator_applied path o ss
unfolding operator_applied
applied-xor path o ss is = ap (λ p. evaluated p (all_truths ss)) is ∙ sym (ap (λ p. operator_applied path p ss) is)

pub applied-implies : (path : List Fact) (o : Op) (ss : List Sight) → o ≡ ops.Implies → evaluated o (all_truths ss) ≡ operator_applied path o ss
unfolding operator_applied
applied-implies path o ss is = ap (λ p. evaluated p (all_truths ss)) is ∙ sym (ap (λ p. operator_applied path p ss) is)

pub applied-ite : (path : List Fact) (o : Op) (ss : List Sight) → o ≡ ops.Ite → chosen ss ≡ operator_applied path o ss
unfolding operator_applied
applied-ite path o ss is = sym (ap (λ p. operator_applied path p ss) is)

pub applied-neg : (path : List Fact) (o : Op) (ss : List Sight) → o ≡ ops.Neg → truth_negated ss ≡ operator_applied path o ss
unfolding operator_applied
applied-neg path o ss is = sym (ap (λ p. operator_applied path p ss) is)

pub applied-add : (path : List Fact) (o : Op) (ss : List Sight) → o ≡ ops.Add → sights_folded (operation_result Sum) ss ≡ operator_applied path o ss
unfolding operator_applied
applied-add path o ss is = folded-same (operation_result Sum) form_sum (λ a b. refl) ss ∙ sym (ap (λ p. operator_applied path p ss) is)

pub applied-sub : (path : List Fact) (o : Op) (ss : List Sight) → o ≡ ops.Sub → sights_folded (operation_result Difference) ss ≡ operator_applied path o ss
unfolding operator_applied
applied-sub path o ss is = folded-same (operation_result Difference) form_difference (λ a b. refl) ss ∙ sym (ap (λ p. operator_applied path p ss) is)

pub applied-mul : (path : List Fact) (o : Op) (ss : List Sight) → o ≡ ops.Mul → sights_folded (operation_result Product) ss ≡ operator_applied path o ss
unfolding operator_applied
applied-mul path o ss is = folded-same (operation_result Product) form_product (λ a b. refl) ss ∙ sym (ap (λ p. operator_applied path p ss) is)

pub applied-le : (path : List Fact) (o : Op) (ss : List Sight) → o ≡ ops.Le → neighbours_in_row (comparison compares.AtMost path) none_yet ss ≡ operator_applied path o ss
unfolding operator_applied
applied-le path o ss is = row-same (comparison compares.AtMost path) (at_most path) (λ a b. refl) none_yet ss ∙ sym (ap (λ p. operator_applied path p ss) is)

pub applied-lt : (path : List Fact) (o : Op) (ss : List Sight) → o ≡ ops.Lt → neighbours_in_row (comparison compares.Less path) none_yet ss ≡ operator_applied path o ss
unfolding operator_applied
applied-lt path o ss is = row-same (comparison compares.Less path) (less path) (λ a b. refl) none_yet ss ∙ sym (ap (λ p. operator_applied path p ss) is)

pub applied-ge : (path : List Fact) (o : Op) (ss : List Sight) → o ≡ ops.Ge → neighbours_in_row (comparison compares.AtLeast path) none_yet ss ≡ operator_applied path o ss
unfolding operator_applied
applied-ge path o ss is = row-same (comparison compares.AtLeast path) (λ a b. at_most path b a) (λ a b. refl) none_yet ss ∙ sym (ap (λ p. operator_applied path p ss) is)

pub applied-gt : (path : List Fact) (o : Op) (ss : List Sight) → o ≡ ops.Gt → neighbours_in_row (comparison compares.Greater path) none_yet ss ≡ operator_applied path o ss
unfolding operator_applied
applied-gt path o ss is = row-same (comparison compares.Greater path) (λ a b. less path b a) (λ a b. refl) none_yet ss ∙ sym (ap (λ p. operator_applied path p ss) is)

pub applied-equal : (path : List Fact) (o : Op) (ss : List Sight) (n : Node) → o ≡ ops.Equal → n ≡ neighbours_in_row (comparison compares.Equal path) none_yet ss → by_truths_or o (all_truths ss) n ≡ operator_applied path o ss
unfolding operator_applied
applied-equal path o ss n is e =
    ap₂ (λ p k. by_truths_or p (all_truths ss) k) is (e ∙ row-same (comparison compares.Equal path) (forms_equal path) (λ a b. refl) none_yet ss)
    ∙ sym (ap (λ p. operator_applied path p ss) is)

pub applied-distinct : (path : List Fact) (o : Op) (ss : List Sight) (n : Node) → o ≡ ops.Distinct → n ≡ in_pairs (comparison compares.Distinct path) none_yet ss → by_truths_or o (all_truths ss) n ≡ operator_applied path o ss
unfolding operator_applied
applied-distinct path o ss n is e =
    ap₂ (λ p k. by_truths_or p (all_truths ss) k) is (e ∙ pairs-same (comparison compares.Distinct path) (distinct path) (λ a b. refl) none_yet ss)
    ∙ sym (ap (λ p. operator_applied path p ss) is)

-- no operator of linear arithmetic
pub applied-unfit : (path : List Fact) (o : Op) (ss : List Sight) → o ≢ ops.And → o ≢ ops.Or → o ≢ ops.Not → o ≢ ops.Xor → o ≢ ops.Implies → o ≢ ops.Equal → o ≢ ops.Distinct → o ≢ ops.Ite → o ≢ ops.Neg → o ≢ ops.Add → o ≢ ops.Sub → o ≢ ops.Mul → o ≢ ops.Le → o ≢ ops.Lt → o ≢ ops.Ge → o ≢ ops.Gt → unfit ≡ operator_applied path o ss
unfolding operator_applied
applied-unfit path ops.And ss h _ _ _ _ _ _ _ _ _ _ _ _ _ _ _ = absurd (h refl)
applied-unfit path ops.Or ss _ h _ _ _ _ _ _ _ _ _ _ _ _ _ _ = absurd (h refl)
applied-unfit path ops.Not ss _ _ h _ _ _ _ _ _ _ _ _ _ _ _ _ = absurd (h refl)
applied-unfit path ops.Xor ss _ _ _ h _ _ _ _ _ _ _ _ _ _ _ _ = absurd (h refl)
applied-unfit path ops.Implies ss _ _ _ _ h _ _ _ _ _ _ _ _ _ _ _ = absurd (h refl)
applied-unfit path ops.Equal ss _ _ _ _ _ h _ _ _ _ _ _ _ _ _ _ = absurd (h refl)
applied-unfit path ops.Distinct ss _ _ _ _ _ _ h _ _ _ _ _ _ _ _ _ = absurd (h refl)
applied-unfit path ops.Ite ss _ _ _ _ _ _ _ h _ _ _ _ _ _ _ _ = absurd (h refl)
applied-unfit path ops.Neg ss _ _ _ _ _ _ _ _ h _ _ _ _ _ _ _ = absurd (h refl)
applied-unfit path ops.Add ss _ _ _ _ _ _ _ _ _ h _ _ _ _ _ _ = absurd (h refl)
applied-unfit path ops.Sub ss _ _ _ _ _ _ _ _ _ _ h _ _ _ _ _ = absurd (h refl)
applied-unfit path ops.Mul ss _ _ _ _ _ _ _ _ _ _ _ h _ _ _ _ = absurd (h refl)
applied-unfit path ops.Le ss _ _ _ _ _ _ _ _ _ _ _ _ h _ _ _ = absurd (h refl)
applied-unfit path ops.Lt ss _ _ _ _ _ _ _ _ _ _ _ _ _ h _ _ = absurd (h refl)
applied-unfit path ops.Ge ss _ _ _ _ _ _ _ _ _ _ _ _ _ _ h _ = absurd (h refl)
applied-unfit path ops.Gt ss _ _ _ _ _ _ _ _ _ _ _ _ _ _ _ h = absurd (h refl)
applied-unfit path _ ss _ _ _ _ _ _ _ _ _ _ _ _ _ _ _ _ = refl
