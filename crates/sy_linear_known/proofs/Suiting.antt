-- What an application is told is on the variables of the query, and so is its open test.
use Rattle.std.specs.Prelude.{◌≡◌, Bool, true, false, cond, List, [], ◌∷◌, negsuc, Option, Some, None, map}
use Rattle.std.specs.List.{list_all, list_any}
use Rattle.std.proofs.Common.{refl}
use Rattle.sy_terms.specs.Values.{Val, Truth, Whole, Bits}
use Rattle.sy_terms.specs.Operators.{op_value}
use Rattle.sy_terms.specs.Sorts.{sort_of}
use Rattle.sy_terms.specs.Theories.{sort_of_value}
use Rattle.sy_terms.specs.declared.op.Op.{Op}
use Rattle.sy_terms.specs.declared.op.Op.TheVariants as ops
use Rattle.sy_terms.specs.declared.sort.Sort.{Sort}
use Rattle.sy_terms.specs.declared.sort.Sort.TheVariants as sorts
use Rattle.sy_linear_known.specs.declared.form.Form.{Form}
use Rattle.sy_linear_known.specs.Forms.{form_plus, times, form_minus, above, form_negation, form_is_in_range, is_constant_form}
use Rattle.sy_linear_known.specs.declared.path.Fact.{Fact}
use Rattle.sy_linear_known.specs.declared.path.Test.{Test}
use Rattle.sy_linear_known.specs.declared.path.Test.TheVariants as test
use Rattle.sy_linear_known.specs.declared.sight.Sight.{Sight}
use Rattle.sy_linear_known.specs.declared.sight.Sight.TheVariants.{Linear, Settled, Open}
use Rattle.sy_linear_known.specs.declared.sight.Node.{Node}
use Rattle.sy_linear_known.specs.Paths.{given}
use Rattle.sy_linear_known.specs.Sights.{is_true, is_false, all_of, any_of, sight_opposite, all_truths, of_truth, has_a_sort, truth_at, told, unfit, or_else, both_nodes, turned, evaluated, built, form_sum, form_multiple, form_difference, excess, form_product, of_form, sights_combined, combined_at, sights_from_left, sights_folded, truth_negated, chosen, known_true, known_false, answered, tested, at_most, less, forms_equal, distinct, compared, neighbours_in_row, with_each, in_pairs, none_yet, by_truths_or, operator_applied}
use Rattle.sy_linear_known.specs.Trees.{IsOf}
use Rattle.sy_linear_known.proofs.Ascending.{Ascends, ascends-plus, ascends-times, ascends-minus}

-- ---- what is told, and tests
abbrev pub SightSuits : List Sort → Sight → Type 0
SightSuits vars (Linear f) = Ascends vars f
SightSuits vars (Settled b) = Unit {0}
SightSuits vars Open = Unit {0}

abbrev pub AllSuit : List Sort → List Sight → Type 0
AllSuit vars [] = Unit {0}
AllSuit vars (s ∷ ss) = SightSuits vars s × AllSuit vars ss

abbrev FormSuits : List Sort → Option Form → Type 0
FormSuits vars (Some f) = Ascends vars f
FormSuits vars None = Unit {0}

-- a test that the path leaves open
abbrev pub IsOpenTest : List Sort → List Fact → Test → Type 0
IsOpenTest vars path (test.AtLeast f) = Ascends vars f × (form_is_in_range (form_negation f) ≡ true)
IsOpenTest vars path (test.Holds u) = IsOf sorts.Bool vars u × (given u path ≡ None)

abbrev pub MaybeOpen : List Sort → List Fact → Option Test → Type 0
MaybeOpen vars path (Some t) = IsOpenTest vars path t
MaybeOpen vars path None = Unit {0}

pub record NodeSuits (vars : List Sort) (path : List Fact) (n : Node) : Type 0 where
  pub sight : SightSuits vars n.sight
  pub unknown : MaybeOpen vars path n.unknown

pub open-or_else : (vars : List Sort) (path : List Fact) (a b : Option Test) → MaybeOpen vars path a → MaybeOpen vars path b → MaybeOpen vars path (or_else a b)
open-or_else vars path (Some t) b h k = h
open-or_else vars path None b h k = k

-- a condition on both sides of a choice
suits-cond : (vars : List Sort) (b : Bool) (x y : Sight) → SightSuits vars x → SightSuits vars y → SightSuits vars (cond b x y)
suits-cond vars true x y h k = h
suits-cond vars false x y h k = k

suits-told : (vars : List Sort) (path : List Fact) (s : Sight) → SightSuits vars s → NodeSuits vars path (told s)
suits-told vars path s h = record { sight = h; unknown = tt }

-- ---- forms
suits-built : (vars : List Sort) (f : Form) → Ascends vars f → FormSuits vars (built f)
suits-built vars f h = by (form_is_in_range f)
  where
    by : (b : Bool) → FormSuits vars (cond b (Some f) None)
    by true = h
    by false = tt

suits-sum : (vars : List Sort) (f g : Form) → Ascends vars f → Ascends vars g → FormSuits vars (form_sum f g)
suits-sum vars f g h k = suits-built vars (form_plus f g) (ascends-plus vars f g h k)

suits-multiple : (vars : List Sort) (f : Form) → Ascends vars f → (n : _) → FormSuits vars (form_multiple n f)
suits-multiple vars f h n = suits-built vars (times n f) (ascends-times vars n f h)

suits-difference : (vars : List Sort) (f g : Form) → Ascends vars f → Ascends vars g → FormSuits vars (form_difference f g)
suits-difference vars f g h k = suits-built vars (form_minus f g) (ascends-minus vars f g h k)

suits-product : (vars : List Sort) (f g : Form) → Ascends vars f → Ascends vars g → FormSuits vars (form_product f g)
suits-product vars f g h k = by (is_constant_form f) (is_constant_form g)
  where
    by : (a b : Bool) → FormSuits vars (cond a (form_multiple f.constant g) (cond b (form_multiple g.constant f) None))
    by true b = suits-multiple vars g k f.constant
    by false true = suits-multiple vars f h g.constant
    by false false = tt

suits-of_form : (vars : List Sort) (path : List Fact) (o : Option Form) → FormSuits vars o → NodeSuits vars path (of_form o)
suits-of_form vars path (Some f) h = record { sight = h; unknown = tt }
suits-of_form vars path None h = record { sight = tt; unknown = tt }

-- ---- arithmetic
abbrev Keeps : List Sort → (Form → Form → Option Form) → Type 0
Keeps vars apply = (f g : Form) → Ascends vars f → Ascends vars g → FormSuits vars (apply f g)

suits-combined : (vars : List Sort) (path : List Fact) (apply : Form → Form → Option Form) → Keeps vars apply → (n : Node) (s : Sight) → NodeSuits vars path n → SightSuits vars s → NodeSuits vars path (sights_combined apply n s)
suits-combined vars path apply keeps n s h k = by n.sight s h.sight k
  where
    by : (r s : Sight) → SightSuits vars r → SightSuits vars s → NodeSuits vars path (combined_at n.fits apply r s)
    by (Linear f) (Linear g) h k = suits-of_form vars path (apply f g) (keeps f g h k)
    by (Linear f) (Settled b) h k = record { sight = tt; unknown = tt }
    by (Linear f) Open h k = record { sight = tt; unknown = tt }
    by (Settled b) s h k = record { sight = tt; unknown = tt }
    by Open s h k = record { sight = tt; unknown = tt }

suits-from_left : (vars : List Sort) (path : List Fact) (apply : Form → Form → Option Form) → Keeps vars apply → (n : Node) (ss : List Sight) → NodeSuits vars path n → AllSuit vars ss → NodeSuits vars path (sights_from_left apply n ss)
suits-from_left vars path apply keeps n [] h k = h
suits-from_left vars path apply keeps n (s ∷ ss) h k = suits-from_left vars path apply keeps (sights_combined apply n s) ss (suits-combined vars path apply keeps n s h k.0) k.1

suits-folded : (vars : List Sort) (path : List Fact) (apply : Form → Form → Option Form) → Keeps vars apply → (ss : List Sight) → AllSuit vars ss → NodeSuits vars path (sights_folded apply ss)
suits-folded vars path apply keeps [] h = suits-told vars path Open tt
suits-folded vars path apply keeps (s ∷ ss) h = suits-from_left vars path apply keeps (told s) ss (suits-told vars path s h.0) h.1

suits-negated : (vars : List Sort) (path : List Fact) (ss : List Sight) → AllSuit vars ss → NodeSuits vars path (truth_negated ss)
suits-negated vars path (Linear f ∷ []) h = suits-of_form vars path (form_multiple (negsuc 0) f) (suits-multiple vars f h.0 (negsuc 0))
suits-negated vars path (Linear f ∷ s ∷ ss) h = suits-told vars path Open tt
suits-negated vars path [] h = suits-told vars path Open tt
suits-negated vars path (Settled b ∷ ss) h = suits-told vars path Open tt
suits-negated vars path (Open ∷ ss) h = suits-told vars path Open tt

suits-chosen : (vars : List Sort) (path : List Fact) (ss : List Sight) → AllSuit vars ss → NodeSuits vars path (chosen ss)
suits-chosen vars path (Settled b ∷ s ∷ t ∷ []) h = suits-told vars path (cond b s t) (suits-cond vars b s t h.1.0 h.1.1.0)
suits-chosen vars path [] h = suits-told vars path Open tt
suits-chosen vars path (Linear f ∷ ss) h = suits-told vars path Open tt
suits-chosen vars path (Open ∷ ss) h = suits-told vars path Open tt
suits-chosen vars path (Settled b ∷ []) h = suits-told vars path Open tt
suits-chosen vars path (Settled b ∷ s ∷ []) h = suits-told vars path Open tt
suits-chosen vars path (Settled b ∷ s ∷ t ∷ u ∷ ss) h = suits-told vars path Open tt

-- ---- truth values
suits-either : (vars : List Sort) (a b x y : Bool) → SightSuits vars (cond a (Settled x) (cond b (Settled y) Open))
suits-either vars a b x y = suits-cond vars a (Settled x) (cond b (Settled y) Open) tt (suits-cond vars b (Settled y) Open tt tt)

suits-all_of : (vars : List Sort) (ss : List Sight) → SightSuits vars (all_of ss)
suits-all_of vars ss = suits-either vars (list_any is_false ss) (list_all is_true ss) false true

suits-any_of : (vars : List Sort) (ss : List Sight) → SightSuits vars (any_of ss)
suits-any_of vars ss = suits-either vars (list_any is_true ss) (list_all is_false ss) true false

suits-truth_at : (vars : List Sort) (operator : Op) (vs : List Val) → SightSuits vars (truth_at operator vs)
suits-truth_at vars operator vs = by (has_a_sort (sort_of operator (map sort_of_value vs))) (op_value operator vs)
  where
    by : (b : Bool) (v : Val) → SightSuits vars (cond b (of_truth v) Open)
    by true (Truth b) = tt
    by true (Whole z) = tt
    by true (Bits w n) = tt
    by false v = tt

suits-evaluated : (vars : List Sort) (path : List Fact) (operator : Op) (o : Option (List Val)) → NodeSuits vars path (evaluated operator o)
suits-evaluated vars path operator None = suits-told vars path Open tt
suits-evaluated vars path operator (Some vs) = suits-told vars path (truth_at operator vs) (suits-truth_at vars operator vs)

suits-by_truths : (vars : List Sort) (path : List Fact) (operator : Op) (o : Option (List Val)) (n : Node) → NodeSuits vars path n → NodeSuits vars path (by_truths_or operator o n)
suits-by_truths vars path operator None n h = h
suits-by_truths vars path operator (Some vs) n h = suits-told vars path (truth_at operator vs) (suits-truth_at vars operator vs)

-- ---- tests
suits-answered : (vars : List Sort) (path : List Fact) (f : Form) → Ascends vars f → form_is_in_range (form_negation f) ≡ true → NodeSuits vars path (answered path f (form_negation f))
suits-answered vars path f h k = by (known_true path f) (known_false path f (form_negation f))
  where
    by : (a b : Bool) → NodeSuits vars path (cond a (told (Settled true)) (cond b (told (Settled false)) (record { sight = Open; unknown = Some (test.AtLeast f); fits = true })))
    by true b = record { sight = tt; unknown = tt }
    by false true = record { sight = tt; unknown = tt }
    by false false = record { sight = tt; unknown = (h, k) }

suits-tested : (vars : List Sort) (path : List Fact) (o : Option Form) → FormSuits vars o → NodeSuits vars path (tested path o)
suits-tested vars path None h = record { sight = tt; unknown = tt }
suits-tested vars path (Some f) h = by (form_is_in_range (form_negation f)) refl
  where
    by : (b : Bool) → form_is_in_range (form_negation f) ≡ b → NodeSuits vars path (cond b (answered path f (form_negation f)) unfit)
    by true e = suits-answered vars path f h e
    by false e = record { sight = tt; unknown = tt }

suits-both : (vars : List Sort) (path : List Fact) (m n : Node) → NodeSuits vars path m → NodeSuits vars path n → NodeSuits vars path (both_nodes m n)
suits-both vars path m n h k = record { sight = suits-all_of vars (m.sight ∷ n.sight ∷ []); unknown = open-or_else vars path m.unknown n.unknown h.unknown k.unknown }

suits-turned : (vars : List Sort) (path : List Fact) (n : Node) → NodeSuits vars path n → NodeSuits vars path (turned n)
suits-turned vars path n h = record { sight = by n.sight; unknown = h.unknown }
  where
    by : (s : Sight) → SightSuits vars (sight_opposite s)
    by (Settled b) = tt
    by (Linear f) = tt
    by Open = tt

-- ---- comparisons
abbrev Compares : List Sort → List Fact → (Form → Form → Node) → Type 0
Compares vars path compare = (f g : Form) → Ascends vars f → Ascends vars g → NodeSuits vars path (compare f g)

suits-at_most : (vars : List Sort) (path : List Fact) → Compares vars path (at_most path)
suits-at_most vars path f g h k = suits-tested vars path (form_difference g f) (suits-difference vars g f k h)

suits-less : (vars : List Sort) (path : List Fact) → Compares vars path (less path)
suits-less vars path f g h k = suits-tested vars path (excess g f) (suits-built vars (above g f) (ascends-minus vars g f k h))

suits-equal : (vars : List Sort) (path : List Fact) → Compares vars path (forms_equal path)
suits-equal vars path f g h k = suits-both vars path (at_most path g f) (at_most path f g) (suits-at_most vars path g f k h) (suits-at_most vars path f g h k)

suits-distinct : (vars : List Sort) (path : List Fact) → Compares vars path (distinct path)
suits-distinct vars path f g h k = suits-turned vars path (forms_equal path f g) (suits-equal vars path f g h k)

suits-compared : (vars : List Sort) (path : List Fact) (compare : Form → Form → Node) → Compares vars path compare → (s t : Sight) → SightSuits vars s → SightSuits vars t → NodeSuits vars path (compared compare s t)
suits-compared vars path compare each (Linear f) (Linear g) h k = each f g h k
suits-compared vars path compare each (Linear f) (Settled b) h k = suits-told vars path Open tt
suits-compared vars path compare each (Linear f) Open h k = suits-told vars path Open tt
suits-compared vars path compare each (Settled b) t h k = suits-told vars path Open tt
suits-compared vars path compare each Open t h k = suits-told vars path Open tt

suits-in_row : (vars : List Sort) (path : List Fact) (compare : Form → Form → Node) → Compares vars path compare → (n : Node) (ss : List Sight) → NodeSuits vars path n → AllSuit vars ss → NodeSuits vars path (neighbours_in_row compare n ss)
suits-in_row vars path compare each n [] h k = h
suits-in_row vars path compare each n (s ∷ []) h k = h
suits-in_row vars path compare each n (s ∷ t ∷ ss) h k = suits-in_row vars path compare each (both_nodes n (compared compare s t)) (t ∷ ss) (suits-both vars path n (compared compare s t) h (suits-compared vars path compare each s t k.0 k.1.0)) k.1

suits-with_each : (vars : List Sort) (path : List Fact) (compare : Form → Form → Node) → Compares vars path compare → (n : Node) (s : Sight) (ss : List Sight) → NodeSuits vars path n → SightSuits vars s → AllSuit vars ss → NodeSuits vars path (with_each compare n s ss)
suits-with_each vars path compare each n s [] h k l = h
suits-with_each vars path compare each n s (t ∷ ss) h k l = suits-with_each vars path compare each (both_nodes n (compared compare s t)) s ss (suits-both vars path n (compared compare s t) h (suits-compared vars path compare each s t k l.0)) k l.1

suits-in_pairs : (vars : List Sort) (path : List Fact) (compare : Form → Form → Node) → Compares vars path compare → (n : Node) (ss : List Sight) → NodeSuits vars path n → AllSuit vars ss → NodeSuits vars path (in_pairs compare n ss)
suits-in_pairs vars path compare each n [] h k = h
suits-in_pairs vars path compare each n (s ∷ ss) h k = suits-in_pairs vars path compare each (with_each compare n s ss) ss (suits-with_each vars path compare each n s ss h k.0 k.1) k.1

-- ---- applications
pub suits-applied : (vars : List Sort) (path : List Fact) (operator : Op) (ss : List Sight) → AllSuit vars ss → NodeSuits vars path (operator_applied path operator ss)
unfolding operator_applied
suits-applied vars path ops.And ss h = suits-told vars path (all_of ss) (suits-all_of vars ss)
suits-applied vars path ops.Or ss h = suits-told vars path (any_of ss) (suits-any_of vars ss)
suits-applied vars path ops.Not ss h = suits-evaluated vars path ops.Not (all_truths ss)
suits-applied vars path ops.Xor ss h = suits-evaluated vars path ops.Xor (all_truths ss)
suits-applied vars path ops.Implies ss h = suits-evaluated vars path ops.Implies (all_truths ss)
suits-applied vars path ops.Equal ss h = suits-by_truths vars path ops.Equal (all_truths ss) (neighbours_in_row (forms_equal path) none_yet ss) (suits-in_row vars path (forms_equal path) (suits-equal vars path) none_yet ss (suits-told vars path (Settled true) tt) h)
suits-applied vars path ops.Distinct ss h = suits-by_truths vars path ops.Distinct (all_truths ss) (in_pairs (distinct path) none_yet ss) (suits-in_pairs vars path (distinct path) (suits-distinct vars path) none_yet ss (suits-told vars path (Settled true) tt) h)
suits-applied vars path ops.Ite ss h = suits-chosen vars path ss h
suits-applied vars path ops.Neg ss h = suits-negated vars path ss h
suits-applied vars path ops.Add ss h = suits-folded vars path form_sum (suits-sum vars) ss h
suits-applied vars path ops.Sub ss h = suits-folded vars path form_difference (suits-difference vars) ss h
suits-applied vars path ops.Mul ss h = suits-folded vars path form_product (suits-product vars) ss h
suits-applied vars path ops.Le ss h = suits-in_row vars path (at_most path) (suits-at_most vars path) none_yet ss (suits-told vars path (Settled true) tt) h
suits-applied vars path ops.Lt ss h = suits-in_row vars path (less path) (suits-less vars path) none_yet ss (suits-told vars path (Settled true) tt) h
suits-applied vars path ops.Ge ss h = suits-in_row vars path (λ f g. at_most path g f) (λ f g a b. suits-at_most vars path g f b a) none_yet ss (suits-told vars path (Settled true) tt) h
suits-applied vars path ops.Gt ss h = suits-in_row vars path (λ f g. less path g f) (λ f g a b. suits-less vars path g f b a) none_yet ss (suits-told vars path (Settled true) tt) h
suits-applied vars path _ ss h = record { sight = tt; unknown = tt }
