-- How a tree is judged: its nodes in preorder, of which the first that fails decides.
use Rattle.std.specs.Prelude.{◌≡◌, ℕ, suc, ◌+◌, Bool, true, false, cond, ◌&&◌, List, [], ◌∷◌, ◌++◌, ℤ, pos, int_le, Option, Some, None, slice_get, Result, Ok, Err}
use Rattle.std.specs.List.{list_all}
use Rattle.sy_frac.specs.Fraction.{Fraction}
use Rattle.sy_terms.specs.declared.sort.Sort.{Sort}
use Rattle.sy_terms.specs.declared.sort.Sort.TheVariants as sorts
use Rattle.sy_linear_known.specs.declared.form.Form.{Form}
use Rattle.sy_linear_known.specs.declared.form.FormEnd.{FormEnd}
use Rattle.sy_linear_known.specs.declared.form.FormEnd.TheVariants as forms_end
use Rattle.sy_linear_known.specs.Forms.{Coefficient, form_is_in_range, form_negation}
use Rattle.sy_linear_known.specs.declared.path.Fact.{Fact}
use Rattle.sy_linear_known.specs.declared.path.Fact.TheVariants.{AtLeast}
use Rattle.sy_linear_known.specs.declared.path.Test.{Test}
use Rattle.sy_linear_known.specs.declared.path.Test.TheVariants as test
use Rattle.sy_linear_known.specs.declared.answer.Known.{Known}
use Rattle.sy_linear_known.specs.declared.answer.Known.TheVariants as known
use Rattle.sy_linear_known.specs.declared.tree.CheckEnd.{CheckEnd}
use Rattle.sy_linear_known.specs.declared.tree.CheckEnd.TheVariants.{Range, Want}
use Rattle.sy_linear_known.specs.Seen.{LinearQuery, query_known}
use Rattle.sy_linear_known.specs.Trees.{TreeShape, Split, Branch, Cut, Farkas, Shown, Unfinished, added_fact, opposite_fact, at_or_below, forms}
use Rattle.sy_linear.specs.declared.combination.Combination.{Combination}
use Rattle.sy_linear.specs.Combining.{are_multipliers, checked_combination, is_negative_constant, divided, rounded}

-- ---- judgements
-- a tree refutes, or it doesn't, or at its node of this number, in preorder, a number leaves 128 bits
pub data Judgement : Type 0 where
  Accepted : Judgement
  Broken : Judgement
  Unfit : (node : ℕ) → Judgement

-- the answer says so
abbrev pub TellsJudgement : Result Bool CheckEnd → Judgement → Type 0
TellsJudgement (Ok true) j = j ≡ Accepted
TellsJudgement (Ok false) j = j ≡ Broken
TellsJudgement (Err (Range n)) j = j ≡ Unfit n
TellsJudgement (Err Want) j = Unit {0}

-- the end of the judging where a form isn't built at the node of this number
abbrev pub end_at : ℕ → FormEnd → CheckEnd
end_at n forms_end.OutOfRange = Range n
end_at n forms_end.Want = Want

-- the second, where the first is accepted
abbrev pub judged_in_turn : Judgement → Judgement → Judgement
judged_in_turn Accepted second = second
judged_in_turn Broken second = Broken
judged_in_turn (Unfit n) second = Unfit n

-- what comes of one node: what it adds to the path, where it is as it is asked to be
pub data NodeOutcome (A : Type 0) : Type 0 where
  Adds : (added : A) → NodeOutcome A
  Fails : NodeOutcome A
  Leaves : NodeOutcome A

-- the answer at the node of this number says so
abbrev pub AnswersAt : {A : Type 0} → ℕ → Result (Option A) CheckEnd → NodeOutcome A → Type 0
AnswersAt n (Ok (Some a)) outcome = outcome ≡ Adds a
AnswersAt n (Ok None) outcome = outcome ≡ Fails
AnswersAt n (Err (Range m)) outcome = (m ≡ n) × (outcome ≡ Leaves)
AnswersAt n (Err Want) outcome = Unit {0}

-- how many nodes a tree has
unfoldable pub size : TreeShape → ℕ
size (Split t left right) = suc (size left + size right)
size (Branch i bound left right) = suc (size left + size right)
size (Cut ms d inner) = suc (size inner)
size (Farkas ms) = 1
size Shown = 1
size Unfinished = 1

-- ---- variables
abbrev pub is_int : Option Sort → Bool
is_int (Some sorts.Int) = true
is_int (Some sorts.Bool) = false
is_int (Some (sorts.Bits w)) = false
is_int None = false

abbrev pub is_bool : Option Sort → Bool
is_bool (Some sorts.Bool) = true
is_bool (Some sorts.Int) = false
is_bool (Some (sorts.Bits w)) = false
is_bool None = false

abbrev pub has_int : List Sort → Coefficient → Bool
has_int vars c = is_int (slice_get vars c.0)

-- each variable of the test is one of the query, of the sort that the test asks for
abbrev pub suits : List Sort → Test → Bool
suits vars (test.AtLeast f) = list_all (has_int vars) f.coefs
suits vars (test.Holds u) = is_bool (slice_get vars u)

-- ---- nodes: first what is asked of variables, multipliers and divisors, then that operations fit, then the rest
abbrev pub opposite_fits : Test → Bool
opposite_fits (test.AtLeast f) = form_is_in_range (form_negation f)
opposite_fits (test.Holds u) = true

abbrev pub split_outcome : List Sort → Test → NodeOutcome (Fact × Fact)
split_outcome vars t = cond (suits vars t) (cond (opposite_fits t) (Adds (added_fact t, opposite_fact t)) Leaves) Fails

abbrev pub branch_outcome : List Sort → ℕ → ℤ → NodeOutcome (Fact × Fact)
branch_outcome vars i bound = cond (is_int (slice_get vars i)) (Adds (AtLeast (at_or_below i bound), AtLeast (form_negation (at_or_below i bound)))) Fails

abbrev pub divided_combination : ℤ → Option Combination → Option Combination
divided_combination d (Some c) = divided d c
divided_combination d None = None

abbrev pub added_form : Option Form → NodeOutcome Fact
added_form (Some e) = Adds (AtLeast e)
added_form None = Fails

abbrev pub rounded_outcome : Option Combination → NodeOutcome Fact
rounded_outcome (Some c) = added_form (rounded c)
rounded_outcome None = Leaves

abbrev pub cut_outcome : List Fact → List Fraction → ℤ → NodeOutcome Fact
cut_outcome path ms d = cond (are_multipliers ms (forms path) && int_le (pos 1) d) (rounded_outcome (divided_combination d (checked_combination ms (forms path)))) Fails

abbrev pub of_combination : ℕ → Option Combination → Judgement
of_combination n (Some c) = cond (is_negative_constant c) Accepted Broken
of_combination n None = Unfit n

abbrev pub contradiction_judged : List Fact → ℕ → List Fraction → Judgement
contradiction_judged path n ms = cond (are_multipliers ms (forms path)) (of_combination n (checked_combination ms (forms path))) Broken

abbrev pub shown_judged : ℕ → Known → Judgement
shown_judged n known.False = Accepted
shown_judged n known.True = Broken
shown_judged n (known.Undecided t) = Broken
shown_judged n (known.OutOfRange m) = Unfit n

-- ---- what a node adds on one of its sides
-- the fact on the left, or that on the right
abbrev pub side_of : Bool → Fact × Fact → Fact
side_of on_left facts = cond on_left facts.0 facts.1

abbrev pub one_of : Bool → NodeOutcome (Fact × Fact) → NodeOutcome Fact
one_of on_left (Adds facts) = Adds (side_of on_left facts)
one_of on_left Fails = Fails
one_of on_left Leaves = Leaves

-- the root of the tree does
abbrev pub side_outcome : List Sort → List Fact → Bool → TreeShape → NodeOutcome Fact
side_outcome vars path on_left (Split t left right) = one_of on_left (split_outcome vars t)
side_outcome vars path on_left (Branch i bound left right) = one_of on_left (branch_outcome vars i bound)
side_outcome vars path on_left (Cut ms d inner) = cut_outcome path ms d
side_outcome vars path on_left (Farkas ms) = Fails
side_outcome vars path on_left Shown = Fails
side_outcome vars path on_left Unfinished = Fails

-- the path with it
abbrev pub path_with : List Fact → NodeOutcome Fact → NodeOutcome (List Fact)
path_with path (Adds fact) = Adds (path ++ fact ∷ [])
path_with path Fails = Fails
path_with path Leaves = Leaves

abbrev pub entered_side : List Sort → List Fact → Bool → TreeShape → NodeOutcome (List Fact)
entered_side vars path on_left above = path_with path (side_outcome vars path on_left above)

-- the answer at the node of this number says so, of this path
abbrev pub EntersAt : ℕ → Result Bool CheckEnd → List Fact → NodeOutcome (List Fact) → Type 0
EntersAt n (Ok true) path outcome = outcome ≡ Adds path
EntersAt n (Ok false) path outcome = outcome ≡ Fails
EntersAt n (Err (Range m)) path outcome = (m ≡ n) × (outcome ≡ Leaves)
EntersAt n (Err Want) path outcome = Unit {0}

-- ---- trees
-- the rest of the tree with what the node of this number adds
abbrev pub after_node : {A : Type 0} → ℕ → NodeOutcome A → (A → Judgement) → Judgement
after_node n (Adds a) rest = rest a
after_node n Fails rest = Broken
after_node n Leaves rest = Unfit n

-- the tree under the path, whose root has this number
unfoldable pub judged : LinearQuery → List Fact → ℕ → TreeShape → Judgement
judged q path n (Split t left right) = after_node n (split_outcome q.vars t) (λ facts. judged_in_turn (judged q (path ++ facts.0 ∷ []) (n + 1) left) (judged q (path ++ facts.1 ∷ []) (n + 1 + size left) right))
judged q path n (Branch i bound left right) = after_node n (branch_outcome q.vars i bound) (λ facts. judged_in_turn (judged q (path ++ facts.0 ∷ []) (n + 1) left) (judged q (path ++ facts.1 ∷ []) (n + 1 + size left) right))
judged q path n (Cut ms d inner) = after_node n (cut_outcome path ms d) (λ fact. judged q (path ++ fact ∷ []) (n + 1) inner)
judged q path n (Farkas ms) = contradiction_judged path n ms
judged q path n Shown = shown_judged n (query_known q path)
judged q path n Unfinished = Broken

-- ---- sides of trees
-- the tree on this side of the one above, whose root has the number n; its own has the number m
unfoldable pub side_judged : LinearQuery → List Fact → ℕ → Bool → TreeShape → ℕ → TreeShape → Judgement
side_judged q path n on_left above m tree =
    after_node n (entered_side q.vars path on_left above) (λ facts. judged q facts m tree)

-- both trees below it
abbrev pub both_judged : LinearQuery → List Fact → ℕ → TreeShape → ℕ → TreeShape → TreeShape → Judgement
both_judged q path n above m left right =
    judged_in_turn (side_judged q path n true above m left) (side_judged q path n false above (m + size left) right)
