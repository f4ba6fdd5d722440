-- What a path tells of an application, by what it tells of the arguments.
use Rattle.std.specs.Prelude.{Bool, true, false, cond, not, ◌&&◌, ◌||◌, List, [], ◌∷◌, ℤ, pos, negsuc, int_le, int_lt, Option, Some, None, map}
use Rattle.std.specs.List.{list_all, list_any}
use Rattle.sy_terms.specs.Values.{Val, Truth, Whole, Bits}
use Rattle.sy_terms.specs.Operators.{op_value}
use Rattle.sy_terms.specs.Sorts.{sort_of}
use Rattle.sy_terms.specs.Theories.{sort_of_value}
use Rattle.sy_terms.specs.declared.op.Op.{Op}
use Rattle.sy_terms.specs.declared.op.Op.TheVariants as ops
use Rattle.sy_terms.specs.declared.sorts.Sorted.{Sorted}
use Rattle.sy_terms.specs.declared.sorts.Sorted.TheVariants as sorted
use Rattle.sy_linear_known.specs.declared.form.Form.{Form}
use Rattle.sy_linear_known.specs.Forms.{form_plus, times, form_minus, above, form_negation, form_is_in_range, is_constant_form}
use Rattle.sy_linear_known.specs.declared.path.Fact.{Fact}
use Rattle.sy_linear_known.specs.declared.path.Test.TheVariants as test
use Rattle.sy_linear_known.specs.declared.sight.Sight.{Sight}
use Rattle.sy_linear_known.specs.declared.sight.Sight.TheVariants.{Linear, Settled, Open}
use Rattle.sy_linear_known.specs.declared.sight.Node.{Node}
use Rattle.sy_linear_known.specs.Paths.{has_form}

-- ---- truth values
abbrev pub is_true : Sight → Bool
is_true (Settled b) = b
is_true (Linear f) = false
is_true Open = false

abbrev pub is_false : Sight → Bool
is_false (Settled b) = not b
is_false (Linear f) = false
is_false Open = false

abbrev pub is_open : Sight → Bool
is_open Open = true
is_open (Settled b) = false
is_open (Linear f) = false

-- false where one is known false, true where all are known true
abbrev pub all_of : List Sight → Sight
all_of sights = cond (list_any is_false sights) (Settled false) (cond (list_all is_true sights) (Settled true) Open)

-- true where one is known true, false where all are known false
abbrev pub any_of : List Sight → Sight
any_of sights = cond (list_any is_true sights) (Settled true) (cond (list_all is_false sights) (Settled false) Open)

abbrev pub sight_opposite : Sight → Sight
sight_opposite (Settled b) = Settled (not b)
sight_opposite (Linear f) = Open
sight_opposite Open = Open

-- all truth values, where all are known
abbrev pub truth_before : Sight → Option (List Val) → Option (List Val)
truth_before (Settled b) (Some rest) = Some (Truth b ∷ rest)
truth_before _ _ = None

abbrev pub all_truths : List Sight → Option (List Val)
all_truths [] = Some []
all_truths (s ∷ rest) = truth_before s (all_truths rest)

abbrev pub of_truth : Val → Sight
of_truth (Truth b) = Settled b
of_truth (Whole z) = Open
of_truth (Bits w n) = Open

abbrev pub has_a_sort : Sorted → Bool
has_a_sort (sorted.Is s) = true
has_a_sort sorted.Mismatch = false
has_a_sort sorted.BadWidth = false

-- the operator's value at truth values, where it takes them
abbrev pub truth_at : Op → List Val → Sight
truth_at operator values = cond (has_a_sort (sort_of operator (map sort_of_value values))) (of_truth (op_value operator values)) Open

-- ---- nodes
abbrev pub told : Sight → Node
told s = record { sight = s; unknown = None; fits = true }

-- nothing, since a form doesn't fit
abbrev pub unfit : Node
unfit = record { sight = Open; unknown = None; fits = false }

abbrev pub or_else : {A : Type 0} → Option A → Option A → Option A
or_else (Some x) other = Some x
or_else None other = other

-- both, the first before the second
abbrev pub both_nodes : Node → Node → Node
both_nodes a b = record { sight = all_of (a.sight ∷ b.sight ∷ []); unknown = or_else a.unknown b.unknown; fits = a.fits && b.fits }

-- the opposite, by the same tests
abbrev pub turned : Node → Node
turned a = record { sight = sight_opposite a.sight; unknown = a.unknown; fits = a.fits }

-- the operator's value where all arguments' truth values are known
abbrev pub evaluated : Op → Option (List Val) → Node
evaluated operator None = told Open
evaluated operator (Some values) = told (truth_at operator values)

-- ---- forms
-- the form, where it fits
abbrev pub built : Form → Option Form
built f = cond (form_is_in_range f) (Some f) None

abbrev pub form_sum : Form → Form → Option Form
form_sum f g = built (form_plus f g)

abbrev pub form_multiple : ℤ → Form → Option Form
form_multiple k f = built (times k f)

abbrev pub form_difference : Form → Form → Option Form
form_difference f g = built (form_minus f g)

-- f - g - 1, which is at least 0 exactly where f is above g
abbrev pub excess : Form → Form → Option Form
excess f g = built (above f g)

-- a product of which one factor is constant; no other is linear
abbrev pub form_product : Form → Form → Option Form
form_product f g = cond (is_constant_form f) (form_multiple f.constant g) (cond (is_constant_form g) (form_multiple g.constant f) None)

abbrev pub of_form : Option Form → Node
of_form (Some f) = told (Linear f)
of_form None = unfit

-- an operation on two forms; where one has none, nothing is built
abbrev pub combined_at : Bool → (Form → Form → Option Form) → Sight → Sight → Node
combined_at fits apply (Linear f) (Linear g) = of_form (apply f g)
combined_at fits apply _ _ = record { sight = Open; unknown = None; fits = fits }

abbrev pub sights_combined : (Form → Form → Option Form) → Node → Sight → Node
sights_combined apply n s = combined_at n.fits apply n.sight s

-- the operation taken from the left over all
abbrev pub sights_from_left : (Form → Form → Option Form) → Node → List Sight → Node
sights_from_left apply n [] = n
sights_from_left apply n (s ∷ rest) = sights_from_left apply (sights_combined apply n s) rest

abbrev pub sights_folded : (Form → Form → Option Form) → List Sight → Node
sights_folded apply [] = told Open
sights_folded apply (s ∷ rest) = sights_from_left apply (told s) rest

abbrev pub truth_negated : List Sight → Node
truth_negated (Linear f ∷ []) = of_form (form_multiple (negsuc 0) f)
truth_negated _ = told Open

-- the branch that a known condition chooses
abbrev pub chosen : List Sight → Node
chosen (Settled b ∷ s ∷ t ∷ []) = told (cond b s t)
chosen _ = told Open

-- ---- tests
-- the path has the form, or it is a constant that isn't negative
abbrev pub known_true : List Fact → Form → Bool
known_true path f = is_constant_form f && int_le (pos 0) f.constant || has_form f path

-- the path has the form's negation, or it is a constant below 0
abbrev pub known_false : List Fact → Form → Form → Bool
known_false path f g = is_constant_form f && int_lt f.constant (pos 0) || has_form g path

-- what the path tells of the form's being at least 0, where g is the form's negation
abbrev pub answered : List Fact → Form → Form → Node
answered path f g =
    cond (known_true path f) (told (Settled true))
    (cond (known_false path f g) (told (Settled false))
    (record { sight = Open; unknown = Some (test.AtLeast f); fits = true }))

-- the test whether the form is at least 0, for which its negation is built too
abbrev pub tested : List Fact → Option Form → Node
tested path None = unfit
tested path (Some f) = cond (form_is_in_range (form_negation f)) (answered path f (form_negation f)) unfit

abbrev pub at_most : List Fact → Form → Form → Node
at_most path f g = tested path (form_difference g f)

abbrev pub less : List Fact → Form → Form → Node
less path f g = tested path (excess g f)

abbrev pub forms_equal : List Fact → Form → Form → Node
forms_equal path f g = both_nodes (at_most path g f) (at_most path f g)

abbrev pub distinct : List Fact → Form → Form → Node
distinct path f g = turned (forms_equal path f g)

-- a comparison of two terms that have forms
abbrev pub compared : (Form → Form → Node) → Sight → Sight → Node
compared compare (Linear f) (Linear g) = compare f g
compared compare _ _ = told Open

-- each neighbour pair, after those before
abbrev pub neighbours_in_row : (Form → Form → Node) → Node → List Sight → Node
neighbours_in_row compare n [] = n
neighbours_in_row compare n (s ∷ []) = n
neighbours_in_row compare n (s ∷ t ∷ rest) = neighbours_in_row compare (both_nodes n (compared compare s t)) (t ∷ rest)

abbrev pub with_each : (Form → Form → Node) → Node → Sight → List Sight → Node
with_each compare n s [] = n
with_each compare n s (t ∷ rest) = with_each compare (both_nodes n (compared compare s t)) s rest

-- each pair, after those before
abbrev pub in_pairs : (Form → Form → Node) → Node → List Sight → Node
in_pairs compare n [] = n
in_pairs compare n (s ∷ rest) = in_pairs compare (with_each compare n s rest) rest

-- nothing compared yet
abbrev pub none_yet : Node
none_yet = told (Settled true)

-- by the arguments' truth values where all are known, or else by a comparison of forms
abbrev pub by_truths_or : Op → Option (List Val) → Node → Node
by_truths_or operator (Some values) compared = told (truth_at operator values)
by_truths_or operator None compared = compared

-- ---- operators
-- no operator of linear arithmetic: nothing is built
unfoldable pub operator_applied : List Fact → Op → List Sight → Node
operator_applied path ops.And sights = told (all_of sights)
operator_applied path ops.Or sights = told (any_of sights)
operator_applied path ops.Not sights = evaluated ops.Not (all_truths sights)
operator_applied path ops.Xor sights = evaluated ops.Xor (all_truths sights)
operator_applied path ops.Implies sights = evaluated ops.Implies (all_truths sights)
operator_applied path ops.Equal sights = by_truths_or ops.Equal (all_truths sights) (neighbours_in_row (forms_equal path) none_yet sights)
operator_applied path ops.Distinct sights = by_truths_or ops.Distinct (all_truths sights) (in_pairs (distinct path) none_yet sights)
operator_applied path ops.Ite sights = chosen sights
operator_applied path ops.Neg sights = truth_negated sights
operator_applied path ops.Add sights = sights_folded form_sum sights
operator_applied path ops.Sub sights = sights_folded form_difference sights
operator_applied path ops.Mul sights = sights_folded form_product sights
operator_applied path ops.Le sights = neighbours_in_row (at_most path) none_yet sights
operator_applied path ops.Lt sights = neighbours_in_row (less path) none_yet sights
operator_applied path ops.Ge sights = neighbours_in_row (λ f g. at_most path g f) none_yet sights
operator_applied path ops.Gt sights = neighbours_in_row (λ f g. less path g f) none_yet sights
operator_applied path _ sights = unfit
