-- One step of a loop over what is told of terms.
use Rattle.std.specs.Prelude.{◌≡◌, ℕ, ◌+◌, ◌<◌, ◌≤◌, Bool, true, false, cond, ◌&&◌, ◌||◌, List, [], ◌∷◌, length, get_or, drop, Option, Some, None, Result, Ok, IfOk}
use Rattle.std.proofs.Common.{refl, sym, ◌∙◌, ap, subst, arith}
use Rattle.std.specs.List.{list_any, list_all}
use Rattle.std.proofs.lemmas.List.{drop_more, drop_all}
use Rattle.sy_linear_known.specs.declared.form.Form.{Form}
use Rattle.sy_linear_known.specs.declared.form.FormEnd.{FormEnd}
use Rattle.sy_linear_known.specs.Forms.{form_plus, form_negation, form_is_in_range}
use Rattle.sy_linear_known.specs.declared.path.Fact.{Fact}
use Rattle.sy_linear_known.specs.declared.sight.Sight.{Sight}
use Rattle.sy_linear_known.specs.declared.sight.Node.{Node}
use Rattle.sy_linear_known.specs.declared.arithmetic.Operation.{Operation}
use Rattle.sy_linear_known.specs.declared.arithmetic.Operation.TheVariants.{Sum, Difference, Product}
use Rattle.sy_linear_known.specs.Sights.{unfit, built, answered, tested, both_nodes, compared, sights_combined, sights_from_left, with_each, neighbours_in_row}
use Rattle.sy_linear_known.specs.Fitting.{form_fits}
use Rattle.sy_linear_known.specs.Operations.{operation_result}
use Rattle.sy_linear_known.proofs.Fitting.{fits-built, fits-difference, fits-product}

-- what is left begins with the item
pub drop_item : {A : Type 0} (xs : List A) (i : ℕ) (x : A) → i < length xs → x ≡ get_or xs i x → drop i xs ≡ x ∷ drop (i + 1) xs
drop_item xs i x within is = drop_more xs i x within ∙ ap (λ y. y ∷ drop (i + 1) xs) (sym is)

-- ---- a test of each
pub any_here : {A : Type 0} (test : A → Bool) (xs : List A) (i : ℕ) (x : A) (whole : Bool) → i < length xs → x ≡ get_or xs i x → test x ≡ true → list_any test (drop i xs) ≡ whole → true ≡ whole
any_here test xs i x whole within is found kept =
    sym (ap (λ b. b || list_any test (drop (i + 1) xs)) found) ∙ sym (ap (list_any test) (drop_item xs i x within is)) ∙ kept

pub any_next : {A : Type 0} (test : A → Bool) (xs : List A) (i : ℕ) (x : A) (whole : Bool) → i < length xs → x ≡ get_or xs i x → test x ≡ false → list_any test (drop i xs) ≡ whole → list_any test (drop (i + 1) xs) ≡ whole
any_next test xs i x whole within is missed kept =
    sym (ap (λ b. b || list_any test (drop (i + 1) xs)) missed) ∙ sym (ap (list_any test) (drop_item xs i x within is)) ∙ kept

pub any_end : {A : Type 0} (test : A → Bool) (xs : List A) (i : ℕ) (whole : Bool) → length xs ≤ i → list_any test (drop i xs) ≡ whole → false ≡ whole
any_end test xs i whole past kept = sym (ap (list_any test) (drop_all i xs past)) ∙ kept

pub all_here : {A : Type 0} (test : A → Bool) (xs : List A) (i : ℕ) (x : A) (whole : Bool) → i < length xs → x ≡ get_or xs i x → test x ≡ false → list_all test (drop i xs) ≡ whole → false ≡ whole
all_here test xs i x whole within is missed kept =
    sym (ap (λ b. b && list_all test (drop (i + 1) xs)) missed) ∙ sym (ap (list_all test) (drop_item xs i x within is)) ∙ kept

pub all_next : {A : Type 0} (test : A → Bool) (xs : List A) (i : ℕ) (x : A) (whole : Bool) → i < length xs → x ≡ get_or xs i x → test x ≡ true → list_all test (drop i xs) ≡ whole → list_all test (drop (i + 1) xs) ≡ whole
all_next test xs i x whole within is found kept =
    sym (ap (λ b. b && list_all test (drop (i + 1) xs)) found) ∙ sym (ap (list_all test) (drop_item xs i x within is)) ∙ kept

pub all_end : {A : Type 0} (test : A → Bool) (xs : List A) (i : ℕ) (whole : Bool) → length xs ≤ i → list_all test (drop i xs) ≡ whole → true ≡ whole
all_end test xs i whole past kept = sym (ap (list_all test) (drop_all i xs past)) ∙ kept

-- ---- forms
-- a form that was made
pub made-built : (made : Result Form FormEnd) (f g : Form) → made ≡ Ok g → IfOk made (λ k. k ≡ f) → IfOk made (λ k. form_is_in_range k ≡ true) → Some g ≡ built f
made-built made f g is same fits =
    let e : g ≡ f = subst (λ (r : Result Form FormEnd). IfOk r (λ k. k ≡ f)) is same in
    let h : form_is_in_range g ≡ true = subst (λ (r : Result Form FormEnd). IfOk r (λ k. form_is_in_range k ≡ true)) is fits in
    ap Some e ∙ ap (λ b. cond b (Some f) None) (sym (ap form_is_in_range (sym e) ∙ h))

pub unmade-built : (f : Form) → form_is_in_range f ≡ false → None ≡ built f
unmade-built f h = sym (ap (λ b. cond b (Some f) None) h)

pub made-fits : (made : Result Form FormEnd) (g : Form) → made ≡ Ok g → IfOk made (λ k. form_is_in_range k ≡ true) → form_fits (Some g) ≡ true
made-fits made g is fits = subst (λ (r : Result Form FormEnd). IfOk r (λ k. form_is_in_range k ≡ true)) is fits

-- the test of a form whose negation fits
pub tested_is : (path : List Fact) (o : Option Form) (f g : Form) (n : Node) → o ≡ Some f → g ≡ form_negation f → form_is_in_range g ≡ true → n ≡ answered path f g → n ≡ tested path o
tested_is path o f g n e h k r = r ∙ sym (ap (tested path) e ∙ ap (λ b. cond b (answered path f (form_negation f)) unfit) (ap form_is_in_range (sym h) ∙ k) ∙ ap (answered path f) (sym h))

pub from_left_next : (apply : Form → Form → Option Form) (n m all : Node) (ss : List Sight) (i : ℕ) (s : Sight) → i < length ss → s ≡ get_or ss i s → m ≡ sights_combined apply n s → sights_from_left apply n (drop i ss) ≡ all → sights_from_left apply m (drop (i + 1) ss) ≡ all
from_left_next apply n m all ss i s within is e kept = ap (λ k. sights_from_left apply k (drop (i + 1) ss)) e ∙ sym (ap (sights_from_left apply n) (drop_item ss i s within is)) ∙ kept

pub with_each_next : (compare : Form → Form → Node) (n m k all : Node) (s : Sight) (ts : List Sight) (i : ℕ) (t : Sight) → i < length ts → t ≡ get_or ts i t → k ≡ compared compare s t → m ≡ both_nodes n k → with_each compare n s (drop i ts) ≡ all → with_each compare m s (drop (i + 1) ts) ≡ all
with_each_next compare n m k all s ts i t within is e f kept = ap (λ j. with_each compare j s (drop (i + 1) ts)) (f ∙ ap (both_nodes n) e) ∙ sym (ap (with_each compare n s) (drop_item ts i t within is)) ∙ kept

pub fits-operation : (o : Operation) (f g : Form) → form_fits (operation_result o f g) ≡ true
fits-operation Sum f g = fits-built (form_plus f g)
fits-operation Difference f g = fits-difference f g
fits-operation Product f g = fits-product f g

-- a list of fewer than two has no neighbours
pub in_row_end : (compare : Form → Form → Node) (n : Node) (ss : List Sight) → length ss < 2 → neighbours_in_row compare n ss ≡ n
in_row_end compare n [] h = refl
in_row_end compare n (s ∷ []) h = refl
in_row_end compare n (s ∷ t ∷ ss) h = absurd (omega arith)
