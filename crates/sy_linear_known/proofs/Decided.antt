-- A query of linear arithmetic is known, or a node of it is out of range, or a test of it is open.
use Rattle.std.specs.Prelude.{◌≡◌, ℕ, zero, suc, ◌+◌, Bool, true, false, cond, not, ◌&&◌, ◌||◌, List, [], ◌∷◌, ◌++◌, length, nat_le, negsuc, Option, Some, None, map, slice_get, if◌then◌else◌}
use Rattle.std.specs.List.{list_all, list_any}
use Rattle.std.specs.Cmp.{unsigned_Decides}
use Rattle.std.proofs.Common.{refl, sym, ◌∙◌, ap, subst, arith, inl, inr, ◌⊎◌}
use Rattle.std.proofs.lemmas.List.{append_assoc, append-nil}
use Rattle.sy_terms.specs.Values.{Val, Truth, Whole, Bits, same, from_left as values_from_left}
use Rattle.sy_terms.specs.Operators.{op_value}
use Rattle.sy_terms.specs.Sorts.{sort_of, same_sort}
use Rattle.sy_terms.specs.Theories.{sort_of_value, valid}
use Rattle.sy_terms.specs.Fitting.{Scope, applied_sort, with_sort, after as sort_after, given_by, sort_in, sorts_in}
use Rattle.sy_terms.specs.Expr.{Expr, Exprs, Constant, Variable, Apply, Invoke, Bind, none, more, nodes, nodes_of}
use Rattle.sy_terms.specs.declared.op.Op.{Op}
use Rattle.sy_terms.specs.declared.op.Op.TheVariants as ops
use Rattle.sy_terms.specs.declared.sort.Sort.{Sort}
use Rattle.sy_terms.specs.declared.sort.Sort.TheVariants as sorts
use Rattle.sy_terms.specs.declared.sorts.Sorted.{Sorted}
use Rattle.sy_terms.specs.declared.sorts.Sorted.TheVariants as sorted
use Rattle.sy_linear_known.specs.declared.form.Form.{Form}
use Rattle.sy_linear_known.specs.Forms.{constant_form, form_negation, form_is_in_range}
use Rattle.sy_linear_known.specs.declared.path.Fact.{Fact}
use Rattle.sy_linear_known.specs.declared.path.Test.{Test}
use Rattle.sy_linear_known.specs.declared.path.Test.TheVariants as test
use Rattle.sy_linear_known.specs.declared.sight.Sight.{Sight}
use Rattle.sy_linear_known.specs.declared.sight.Sight.TheVariants.{Linear, Settled, Open}
use Rattle.sy_linear_known.specs.declared.sight.Node.{Node}
use Rattle.sy_linear_known.specs.declared.sight.Seen.{Seen}
use Rattle.sy_linear_known.specs.declared.sight.Found.{Found}
use Rattle.sy_linear_known.specs.Sights.{is_true, is_false, is_open, all_of, any_of, sight_opposite, truth_before, all_truths, of_truth, has_a_sort, truth_at, told, unfit, or_else, both_nodes, turned, evaluated, form_sum, form_difference, form_product, form_multiple, of_form, sights_combined, combined_at, sights_from_left, sights_folded, truth_negated, chosen, known_true, known_false, answered, tested, at_most, less, forms_equal, distinct, neighbours_in_row, with_each, in_pairs, none_yet, by_truths_or, operator_applied}
use Rattle.sy_linear_known.specs.Seen.{of_given, variable_sights, is_truths, is_ite, live, seen_as, value_seen, sight_at, variable_test, nothing_found, with_next, node_noted, seen, all_seen, LinearQuery, query_seen, of_misfit, of_sight, of_open, query_known}
use Rattle.sy_linear_known.specs.Paths.{given}
use Rattle.sy_linear_known.specs.Right.{is_linear_sort, IsLinearQuery, IsMisfit}
use Rattle.sy_meaning_integers.specs.Lia.{owned as linear_owned}
use Rattle.sy_linear_known.proofs.Agreement.{and_parts}

-- ---- truth values
abbrev has : {A : Type 0} → Option A → Bool
has (Some x) = true
has None = false

or_true : (a : Bool) → (a || true) ≡ true
or_true true = refl
or_true false = refl

-- ---- what is told of a term of a sort
abbrev Told : Sort → Sight → Type 0
Told sorts.Int (Linear f) = Unit {0}
Told sorts.Bool (Settled b) = Unit {0}
Told _ _ = ⊥

abbrev AllTold : List Sort → List Sight → Type 0
AllTold [] [] = Unit {0}
AllTold (s ∷ ss) (x ∷ xs) = Told s x × AllTold ss xs
AllTold _ _ = ⊥

abbrev AllSettled : List Sight → Type 0
AllSettled [] = Unit {0}
AllSettled (Settled b ∷ xs) = AllSettled xs
AllSettled _ = ⊥

abbrev AllLinear : List Sight → Type 0
AllLinear [] = Unit {0}
AllLinear (Linear f ∷ xs) = AllLinear xs
AllLinear _ = ⊥

-- it is told, or a test is open or a form doesn't fit
abbrev NodeOk : Sort → Node → Type 0
NodeOk s n = Told s n.sight ⊎ ((has n.unknown || not n.fits) ≡ true)

-- ---- sorts of operators
if_is : (b : Bool) (v s : Sort) → (if b then sorted.Is v else sorted.Mismatch) ≡ sorted.Is s → (b ≡ true) × (v ≡ s)
if_is true v s e = (refl, cc)
if_is false v s e = absurd cc

same_is : (s t : Sort) → same_sort s t ≡ true → s ≡ t
same_is sorts.Bool sorts.Bool e = refl
same_is sorts.Int sorts.Int e = refl
same_is (sorts.Bits v) (sorts.Bits w) e = ap sorts.Bits ((unsigned_Decides v w).0 e)
same_is sorts.Bool sorts.Int e = absurd cc
same_is sorts.Bool (sorts.Bits w) e = absurd cc
same_is sorts.Int sorts.Bool e = absurd cc
same_is sorts.Int (sorts.Bits w) e = absurd cc
same_is (sorts.Bits v) sorts.Bool e = absurd cc
same_is (sorts.Bits v) sorts.Int e = absurd cc

settled_all : (ss : List Sort) (xs : List Sight) → list_all (same_sort sorts.Bool) ss ≡ true → AllTold ss xs → AllSettled xs
settled_all [] [] e h = tt
settled_all [] (x ∷ xs) e h = absurd h
settled_all (sorts.Bool ∷ ss) [] e h = absurd h
settled_all (sorts.Bool ∷ ss) (Settled b ∷ xs) e h = settled_all ss xs e h.1
settled_all (sorts.Bool ∷ ss) (Linear f ∷ xs) e h = absurd h.0
settled_all (sorts.Bool ∷ ss) (Open ∷ xs) e h = absurd h.0
settled_all (sorts.Int ∷ ss) xs e h = absurd cc
settled_all (sorts.Bits w ∷ ss) xs e h = absurd cc

linear_all : (ss : List Sort) (xs : List Sight) → list_all (same_sort sorts.Int) ss ≡ true → AllTold ss xs → AllLinear xs
linear_all [] [] e h = tt
linear_all [] (x ∷ xs) e h = absurd h
linear_all (sorts.Int ∷ ss) [] e h = absurd h
linear_all (sorts.Int ∷ ss) (Linear f ∷ xs) e h = linear_all ss xs e h.1
linear_all (sorts.Int ∷ ss) (Settled b ∷ xs) e h = absurd h.0
linear_all (sorts.Int ∷ ss) (Open ∷ xs) e h = absurd h.0
linear_all (sorts.Bool ∷ ss) xs e h = absurd cc
linear_all (sorts.Bits w ∷ ss) xs e h = absurd cc

-- ---- and, or
told_either : (a b : Bool) (x y : Bool) → (a ≡ true) ⊎ (b ≡ true) → Told sorts.Bool (cond a (Settled x) (cond b (Settled y) Open))
told_either true b x y h = tt
told_either false true x y h = tt
told_either false false x y (inl e) = absurd cc
told_either false false x y (inr e) = absurd cc

one_or_all : (xs : List Sight) → AllSettled xs → (list_any is_false xs ≡ true) ⊎ (list_all is_true xs ≡ true)
one_or_all [] h = inr refl
one_or_all (Settled true ∷ xs) h = one_or_all xs h
one_or_all (Settled false ∷ xs) h = inl refl
one_or_all (Linear f ∷ xs) h = absurd h
one_or_all (Open ∷ xs) h = absurd h

one_or_none : (xs : List Sight) → AllSettled xs → (list_any is_true xs ≡ true) ⊎ (list_all is_false xs ≡ true)
one_or_none [] h = inr refl
one_or_none (Settled false ∷ xs) h = one_or_none xs h
one_or_none (Settled true ∷ xs) h = inl refl
one_or_none (Linear f ∷ xs) h = absurd h
one_or_none (Open ∷ xs) h = absurd h

-- ---- operators on truth values
abbrev IsTruth : Val → Type 0
IsTruth (Truth b) = Unit {0}
IsTruth _ = ⊥

abbrev AllTruths : List Val → Type 0
AllTruths [] = Unit {0}
AllTruths (v ∷ vs) = IsTruth v × AllTruths vs

record Truths (ss : List Sort) (xs : List Sight) : Type 0 where
  values : List Val
  are : all_truths xs ≡ Some values
  of : map sort_of_value values ≡ ss
  each : AllTruths values

truths_of : (ss : List Sort) (xs : List Sight) → list_all (same_sort sorts.Bool) ss ≡ true → AllTold ss xs → Truths ss xs
truths_of [] [] e h = record { values = []; are = refl; of = refl; each = tt }
truths_of [] (x ∷ xs) e h = absurd h
truths_of (sorts.Bool ∷ ss) [] e h = absurd h
truths_of (sorts.Bool ∷ ss) (Settled b ∷ xs) e h = let t : Truths ss xs = truths_of ss xs e h.1 in
    record { values = Truth b ∷ t.values; are = ap (truth_before (Settled b)) t.are; of = ap (λ r. sorts.Bool ∷ r) t.of; each = (tt, t.each) }
truths_of (sorts.Bool ∷ ss) (Linear f ∷ xs) e h = absurd h.0
truths_of (sorts.Bool ∷ ss) (Open ∷ xs) e h = absurd h.0
truths_of (sorts.Int ∷ ss) xs e h = absurd cc
truths_of (sorts.Bits w ∷ ss) xs e h = absurd cc

told_at : (b : Bool) (v : Val) → b ≡ true → IsTruth v → Told sorts.Bool (cond b (of_truth v) Open)
told_at true (Truth b) e h = tt
told_at true (Whole z) e h = absurd h
told_at true (Bits w n) e h = absurd h
told_at false v e h = absurd cc

truth_told : (operator : Op) (ss : List Sort) (vs : List Val) (s : Sort) → map sort_of_value vs ≡ ss → sort_of operator ss ≡ sorted.Is s → IsTruth (op_value operator vs) → Told sorts.Bool (truth_at operator vs)
truth_told operator ss vs s e h k = told_at (has_a_sort (sort_of operator (map sort_of_value vs))) (op_value operator vs) (ap (λ r. has_a_sort (sort_of operator r)) e ∙ ap has_a_sort h) k

evaluated_told : (operator : Op) (ss : List Sort) (xs : List Sight) (s : Sort) → list_all (same_sort sorts.Bool) ss ≡ true → AllTold ss xs → sort_of operator ss ≡ sorted.Is s → ((vs : List Val) → AllTruths vs → IsTruth (op_value operator vs)) → NodeOk sorts.Bool (evaluated operator (all_truths xs))
evaluated_told operator ss xs s e h k f =
    let t : Truths ss xs = truths_of ss xs e h in
    inl (subst (λ o. Told sorts.Bool (evaluated operator o).sight) (sym t.are) (truth_told operator ss t.values s t.of k (f t.values t.each)))

by_truths_told : (operator : Op) (ss : List Sort) (xs : List Sight) (s : Sort) (n : Node) → list_all (same_sort sorts.Bool) ss ≡ true → AllTold ss xs → sort_of operator ss ≡ sorted.Is s → ((vs : List Val) → AllTruths vs → IsTruth (op_value operator vs)) → NodeOk sorts.Bool (by_truths_or operator (all_truths xs) n)
by_truths_told operator ss xs s n e h k f =
    let t : Truths ss xs = truths_of ss xs e h in
    inl (subst (λ o. Told sorts.Bool (by_truths_or operator o n).sight) (sym t.are) (truth_told operator ss t.values s t.of k (f t.values t.each)))

xor_truth : (v : Val) (vs : List Val) → IsTruth v → IsTruth (values_from_left (λ x y. Truth (not (same x y))) (v ∷ vs))
xor_truth v [] h = h
xor_truth v (u ∷ vs) h = xor_truth (Truth (not (same v u))) vs tt

xor_is : (vs : List Val) → AllTruths vs → IsTruth (op_value ops.Xor vs)
unfolding op_value
xor_is [] h = tt
xor_is (v ∷ vs) h = xor_truth v vs h.0

-- ---- tests
answered_ok : (path : List Fact) (f g : Form) → NodeOk sorts.Bool (answered path f g)
answered_ok path f g = by (known_true path f) (known_false path f g)
  where
    by : (a b : Bool) → NodeOk sorts.Bool (cond a (told (Settled true)) (cond b (told (Settled false)) (record { sight = Open; unknown = Some (test.AtLeast f); fits = true })))
    by true b = inl tt
    by false true = inl tt
    by false false = inr refl

tested_ok : (path : List Fact) (o : Option Form) → NodeOk sorts.Bool (tested path o)
tested_ok path None = inr refl
tested_ok path (Some f) = by (form_is_in_range (form_negation f))
  where
    by : (b : Bool) → NodeOk sorts.Bool (cond b (answered path f (form_negation f)) unfit)
    by true = answered_ok path f (form_negation f)
    by false = inr refl

told_both : (x y : Sight) → Told sorts.Bool x → Told sorts.Bool y → Told sorts.Bool (all_of (x ∷ y ∷ []))
told_both (Settled true) (Settled true) h k = tt
told_both (Settled true) (Settled false) h k = tt
told_both (Settled false) y h k = tt
told_both (Settled true) (Linear f) h k = absurd k
told_both (Settled true) Open h k = absurd k
told_both (Linear f) y h k = absurd h
told_both Open y h k = absurd h

left_open : (u v : Option Test) (p q : Bool) → (has u || not p) ≡ true → (has (or_else u v) || not (p && q)) ≡ true
left_open (Some t) v p q h = refl
left_open None v true q h = absurd cc
left_open None v false q h = or_true (has v)

right_open : (u v : Option Test) (p q : Bool) → (has v || not q) ≡ true → (has (or_else u v) || not (p && q)) ≡ true
right_open (Some t) v p q h = refl
right_open None (Some t) p q h = refl
right_open None None p true h = absurd cc
right_open None None true false h = refl
right_open None None false false h = refl

both_ok : (m n : Node) → NodeOk sorts.Bool m → NodeOk sorts.Bool n → NodeOk sorts.Bool (both_nodes m n)
both_ok m n (inl h) (inl k) = inl (told_both m.sight n.sight h k)
both_ok m n (inr h) k = inr (left_open m.unknown n.unknown m.fits n.fits h)
both_ok m n (inl h) (inr k) = inr (right_open m.unknown n.unknown m.fits n.fits k)

told_opposite : (x : Sight) → Told sorts.Bool x → Told sorts.Bool (sight_opposite x)
told_opposite (Settled b) h = tt
told_opposite (Linear f) h = absurd h
told_opposite Open h = absurd h

turned_ok : (n : Node) → NodeOk sorts.Bool n → NodeOk sorts.Bool (turned n)
turned_ok n (inl h) = inl (told_opposite n.sight h)
turned_ok n (inr h) = inr h

equal_ok : (path : List Fact) (f g : Form) → NodeOk sorts.Bool (forms_equal path f g)
equal_ok path f g = both_ok (at_most path g f) (at_most path f g) (tested_ok path (form_difference f g)) (tested_ok path (form_difference g f))

in_row_ok : (compare : Form → Form → Node) → ((f g : Form) → NodeOk sorts.Bool (compare f g)) → (n : Node) → NodeOk sorts.Bool n → (xs : List Sight) → AllLinear xs → NodeOk sorts.Bool (neighbours_in_row compare n xs)
in_row_ok compare each n ok [] h = ok
in_row_ok compare each n ok (Linear f ∷ []) h = ok
in_row_ok compare each n ok (Linear f ∷ Linear g ∷ xs) h = in_row_ok compare each (both_nodes n (compare f g)) (both_ok n (compare f g) ok (each f g)) (Linear g ∷ xs) h
in_row_ok compare each n ok (Linear f ∷ Settled b ∷ xs) h = absurd h
in_row_ok compare each n ok (Linear f ∷ Open ∷ xs) h = absurd h
in_row_ok compare each n ok (Settled b ∷ xs) h = absurd h
in_row_ok compare each n ok (Open ∷ xs) h = absurd h

with_each_ok : (compare : Form → Form → Node) → ((f g : Form) → NodeOk sorts.Bool (compare f g)) → (n : Node) → NodeOk sorts.Bool n → (f : Form) (xs : List Sight) → AllLinear xs → NodeOk sorts.Bool (with_each compare n (Linear f) xs)
with_each_ok compare each n ok f [] h = ok
with_each_ok compare each n ok f (Linear g ∷ xs) h = with_each_ok compare each (both_nodes n (compare f g)) (both_ok n (compare f g) ok (each f g)) f xs h
with_each_ok compare each n ok f (Settled b ∷ xs) h = absurd h
with_each_ok compare each n ok f (Open ∷ xs) h = absurd h

in_pairs_ok : (compare : Form → Form → Node) → ((f g : Form) → NodeOk sorts.Bool (compare f g)) → (n : Node) → NodeOk sorts.Bool n → (xs : List Sight) → AllLinear xs → NodeOk sorts.Bool (in_pairs compare n xs)
in_pairs_ok compare each n ok [] h = ok
in_pairs_ok compare each n ok (Linear f ∷ xs) h = in_pairs_ok compare each (with_each compare n (Linear f) xs) (with_each_ok compare each n ok f xs h) xs h
in_pairs_ok compare each n ok (Settled b ∷ xs) h = absurd h
in_pairs_ok compare each n ok (Open ∷ xs) h = absurd h

-- ---- arithmetic
abbrev NumberOk : Node → Type 0
NumberOk n = Told sorts.Int n.sight ⊎ ((n.sight ≡ Open) × (n.fits ≡ false))

of_form_ok : (o : Option Form) → NumberOk (of_form o)
of_form_ok (Some f) = inl tt
of_form_ok None = inr (refl, refl)

combined_ok : (apply : Form → Form → Option Form) (n : Node) (f : Form) → NumberOk n → NumberOk (sights_combined apply n (Linear f))
combined_ok apply n f ok = by n.sight n.fits ok
  where
    by : (r : Sight) (p : Bool) → Told sorts.Int r ⊎ ((r ≡ Open) × (p ≡ false)) → NumberOk (combined_at p apply r (Linear f))
    by (Linear g) p h = of_form_ok (apply g f)
    by (Settled b) p (inl h) = absurd h
    by (Settled b) p (inr e) = let k = e.0 in absurd cc
    by Open p (inl h) = absurd h
    by Open p (inr e) = inr (refl, e.1)

from_left_ok : (apply : Form → Form → Option Form) (n : Node) (xs : List Sight) → AllLinear xs → NumberOk n → NumberOk (sights_from_left apply n xs)
from_left_ok apply n [] h ok = ok
from_left_ok apply n (Linear f ∷ xs) h ok = from_left_ok apply (sights_combined apply n (Linear f)) xs h (combined_ok apply n f ok)
from_left_ok apply n (Settled b ∷ xs) h ok = absurd h
from_left_ok apply n (Open ∷ xs) h ok = absurd h

number_node : (n : Node) → NumberOk n → NodeOk sorts.Int n
number_node n (inl h) = inl h
number_node n (inr e) = inr (ap (λ b. has n.unknown || not b) e.1 ∙ or_true (has n.unknown))

folded_ok : (apply : Form → Form → Option Form) (ss : List Sort) (xs : List Sight) → nat_le 2 (length ss) ≡ true → AllTold ss xs → AllLinear xs → NodeOk sorts.Int (sights_folded apply xs)
folded_ok apply [] [] e h k = absurd cc
folded_ok apply (s ∷ ss) [] e h k = absurd h
folded_ok apply ss (Linear f ∷ xs) e h k = number_node (sights_from_left apply (told (Linear f)) xs) (from_left_ok apply (told (Linear f)) xs k (inl tt))
folded_ok apply ss (Settled b ∷ xs) e h k = absurd k
folded_ok apply ss (Open ∷ xs) e h k = absurd k

-- ---- applications
as_sort : (n : Node) (s t : Sort) → t ≡ s → NodeOk t n → NodeOk s n
as_sort n s t e h = subst (λ r. NodeOk r n) e h

not_sorts : (ss : List Sort) (s : Sort) → sort_of ops.Not ss ≡ sorted.Is s → (list_all (same_sort sorts.Bool) ss ≡ true) × (sorts.Bool ≡ s)
unfolding sort_of
not_sorts [] s e = absurd cc
not_sorts (sorts.Bool ∷ []) s e = (refl, cc)
not_sorts (sorts.Bool ∷ t ∷ ss) s e = absurd cc
not_sorts (sorts.Int ∷ ss) s e = absurd cc
not_sorts (sorts.Bits w ∷ ss) s e = absurd cc

negated_ok : (ss : List Sort) (xs : List Sight) (s : Sort) → AllTold ss xs → sort_of ops.Neg ss ≡ sorted.Is s → NodeOk s (truth_negated xs)
unfolding sort_of
negated_ok [] xs s h e = absurd cc
negated_ok (sorts.Int ∷ []) [] s h e = absurd h
negated_ok (sorts.Int ∷ []) (Linear f ∷ []) s h e = as_sort (of_form (form_multiple (negsuc 0) f)) s sorts.Int (cc) (number_node (of_form (form_multiple (negsuc 0) f)) (of_form_ok (form_multiple (negsuc 0) f)))
negated_ok (sorts.Int ∷ []) (Linear f ∷ x ∷ xs) s h e = absurd h.1
negated_ok (sorts.Int ∷ []) (Settled b ∷ xs) s h e = absurd h.0
negated_ok (sorts.Int ∷ []) (Open ∷ xs) s h e = absurd h.0
negated_ok (sorts.Int ∷ t ∷ ss) xs s h e = absurd cc
negated_ok (sorts.Bool ∷ ss) xs s h e = absurd cc
negated_ok (sorts.Bits w ∷ ss) xs s h e = absurd cc

-- a comparison of numbers, or of truth values
equal_or : (operator : Op) (ss : List Sort) (xs : List Sight) (s : Sort) (n : Node) → ((t : Sort) (rest : List Sort) → ss ≡ t ∷ rest → (list_all (same_sort t) rest ≡ true) × (sorts.Bool ≡ s)) → (ss ≡ [] → ⊥) → AllTold ss xs → sort_of operator ss ≡ sorted.Is s → ((vs : List Val) → AllTruths vs → IsTruth (op_value operator vs)) → (AllLinear xs → NodeOk sorts.Bool n) → NodeOk s (by_truths_or operator (all_truths xs) n)
equal_or operator [] xs s n k nothing h e f g = absurd (nothing refl)
equal_or operator (t ∷ rest) [] s n k nothing h e f g = absurd h
equal_or operator (sorts.Bool ∷ rest) (x ∷ xs) s n k nothing h e f g =
    let l = k sorts.Bool rest refl in
    as_sort (by_truths_or operator (all_truths (x ∷ xs)) n) s sorts.Bool l.1 (by_truths_told operator (sorts.Bool ∷ rest) (x ∷ xs) s n l.0 h e f)
equal_or operator (sorts.Int ∷ rest) (Linear a ∷ xs) s n k nothing h e f g =
    let l = k sorts.Int rest refl in
    as_sort n s sorts.Bool l.1 (g (linear_all (sorts.Int ∷ rest) (Linear a ∷ xs) l.0 h))
equal_or operator (sorts.Int ∷ rest) (Settled b ∷ xs) s n k nothing h e f g = absurd h.0
equal_or operator (sorts.Int ∷ rest) (Open ∷ xs) s n k nothing h e f g = absurd h.0
equal_or operator (sorts.Bits w ∷ rest) (x ∷ xs) s n k nothing h e f g = absurd h.0

alike : (operator : Op) (ss : List Sort) (xs : List Sight) (s : Sort) (n : Node) → ((t : Sort) (rest : List Sort) → sort_of operator (t ∷ rest) ≡ (if nat_le 1 (length rest) && list_all (same_sort t) rest then sorted.Is sorts.Bool else sorted.Mismatch)) → sort_of operator [] ≡ sorted.Mismatch → AllTold ss xs → sort_of operator ss ≡ sorted.Is s → ((vs : List Val) → AllTruths vs → IsTruth (op_value operator vs)) → (AllLinear xs → NodeOk sorts.Bool n) → NodeOk s (by_truths_or operator (all_truths xs) n)
alike operator ss xs s n is nothing h e f g = equal_or operator ss xs s n
    (λ t rest k. let l = if_is (nat_le 1 (length rest) && list_all (same_sort t) rest) sorts.Bool s (sym (is t rest) ∙ sym (ap (sort_of operator) k) ∙ e) in ((and_parts (nat_le 1 (length rest)) (list_all (same_sort t) rest) l.0).1, l.1))
    (λ k. clash (sym nothing ∙ sym (ap (sort_of operator) k) ∙ e)) h e f g
  where
    clash : sorted.Mismatch ≡ sorted.Is s → ⊥
    clash e = absurd cc

compared_ok : (ss : List Sort) (xs : List Sight) (s : Sort) (compare : Form → Form → Node) → ((f g : Form) → NodeOk sorts.Bool (compare f g)) → AllTold ss xs → (if nat_le 2 (length ss) && list_all (same_sort sorts.Int) ss then sorted.Is sorts.Bool else sorted.Mismatch) ≡ sorted.Is s → NodeOk s (neighbours_in_row compare none_yet xs)
compared_ok ss xs s compare each h e =
    let k = if_is (nat_le 2 (length ss) && list_all (same_sort sorts.Int) ss) sorts.Bool s e in
    as_sort (neighbours_in_row compare none_yet xs) s sorts.Bool k.1 (in_row_ok compare each none_yet (inl tt) xs (linear_all ss xs (and_parts (nat_le 2 (length ss)) (list_all (same_sort sorts.Int) ss) k.0).1 h))

computed_ok : (ss : List Sort) (xs : List Sight) (s : Sort) (apply : Form → Form → Option Form) → AllTold ss xs → (if nat_le 2 (length ss) && list_all (same_sort sorts.Int) ss then sorted.Is sorts.Int else sorted.Mismatch) ≡ sorted.Is s → NodeOk s (sights_folded apply xs)
computed_ok ss xs s apply h e =
    let k = if_is (nat_le 2 (length ss) && list_all (same_sort sorts.Int) ss) sorts.Int s e in
    let p = and_parts (nat_le 2 (length ss)) (list_all (same_sort sorts.Int) ss) k.0 in
    as_sort (sights_folded apply xs) s sorts.Int k.1 (folded_ok apply ss xs p.0 h (linear_all ss xs p.1 h))

truths_sorts : (least : ℕ) (ss : List Sort) (s : Sort) → (if nat_le least (length ss) && list_all (same_sort sorts.Bool) ss then sorted.Is sorts.Bool else sorted.Mismatch) ≡ sorted.Is s → (list_all (same_sort sorts.Bool) ss ≡ true) × (sorts.Bool ≡ s)
truths_sorts least ss s e =
    let k = if_is (nat_le least (length ss) && list_all (same_sort sorts.Bool) ss) sorts.Bool s e in
    ((and_parts (nat_le least (length ss)) (list_all (same_sort sorts.Bool) ss) k.0).1, k.1)

applied_ok : (path : List Fact) (operator : Op) (ss : List Sort) (xs : List Sight) (s : Sort) → is_ite operator ≡ false → AllTold ss xs → sort_of operator ss ≡ sorted.Is s → NodeOk s (operator_applied path operator xs)
unfolding operator_applied sort_of op_value
applied_ok path ops.And ss xs s c h e =
    let k = truths_sorts 1 ss s e in
    as_sort (told (all_of xs)) s sorts.Bool k.1 (inl (told_either (list_any is_false xs) (list_all is_true xs) false true (one_or_all xs (settled_all ss xs k.0 h))))
applied_ok path ops.Or ss xs s c h e =
    let k = truths_sorts 1 ss s e in
    as_sort (told (any_of xs)) s sorts.Bool k.1 (inl (told_either (list_any is_true xs) (list_all is_false xs) true false (one_or_none xs (settled_all ss xs k.0 h))))
applied_ok path ops.Not ss xs s c h e =
    let k = not_sorts ss s e in
    as_sort (evaluated ops.Not (all_truths xs)) s sorts.Bool k.1 (evaluated_told ops.Not ss xs s k.0 h e (λ vs t. tt))
applied_ok path ops.Xor ss xs s c h e =
    let k = truths_sorts 2 ss s e in
    as_sort (evaluated ops.Xor (all_truths xs)) s sorts.Bool k.1 (evaluated_told ops.Xor ss xs s k.0 h e (λ vs t. xor_is vs t))
applied_ok path ops.Implies ss xs s c h e =
    let k = truths_sorts 2 ss s e in
    as_sort (evaluated ops.Implies (all_truths xs)) s sorts.Bool k.1 (evaluated_told ops.Implies ss xs s k.0 h e (λ vs t. tt))
applied_ok path ops.Equal ss xs s c h e =
    alike ops.Equal ss xs s (neighbours_in_row (forms_equal path) none_yet xs) (λ t rest. refl) refl h e (λ vs t. tt) (λ k. in_row_ok (forms_equal path) (equal_ok path) none_yet (inl tt) xs k)
applied_ok path ops.Distinct ss xs s c h e =
    alike ops.Distinct ss xs s (in_pairs (distinct path) none_yet xs) (λ t rest. refl) refl h e (λ vs t. tt) (λ k. in_pairs_ok (distinct path) (λ f g. turned_ok (forms_equal path f g) (equal_ok path f g)) none_yet (inl tt) xs k)
applied_ok path ops.Ite ss xs s c h e = absurd cc
applied_ok path ops.Neg ss xs s c h e = negated_ok ss xs s h e
applied_ok path ops.Add ss xs s c h e = computed_ok ss xs s form_sum h e
applied_ok path ops.Sub ss xs s c h e = computed_ok ss xs s form_difference h e
applied_ok path ops.Mul ss xs s c h e = computed_ok ss xs s form_product h e
applied_ok path ops.Le ss xs s c h e = compared_ok ss xs s (at_most path) (λ f g. tested_ok path _) h e
applied_ok path ops.Lt ss xs s c h e = compared_ok ss xs s (less path) (λ f g. tested_ok path _) h e
applied_ok path ops.Ge ss xs s c h e = compared_ok ss xs s (λ f g. at_most path g f) (λ f g. tested_ok path _) h e
applied_ok path ops.Gt ss xs s c h e = compared_ok ss xs s (λ f g. less path g f) (λ f g. tested_ok path _) h e
applied_ok path _ ss xs s c h e = inr refl

-- ---- live arguments
-- of the arguments after those before, the live ones are told
abbrev Fine : Bool → List Sight → List Sort → List Sight → Type 0
Fine choice before [] [] = Unit {0}
Fine choice before (s ∷ ss) (x ∷ xs) = (live choice before ≡ true → Told s x) × Fine choice (before ++ x ∷ []) ss xs
Fine choice before _ _ = ⊥

fine_all : (before : List Sight) (ss : List Sort) (xs : List Sight) → Fine false before ss xs → AllTold ss xs
fine_all before [] [] h = tt
fine_all before (s ∷ ss) (x ∷ xs) h = (h.0 refl, fine_all (before ++ x ∷ []) ss xs h.1)
fine_all before [] (x ∷ xs) h = absurd h
fine_all before (s ∷ ss) [] h = absurd h

choice_ok : (path : List Fact) (ss : List Sort) (xs : List Sight) (s : Sort) → Fine true [] ss xs → sort_of ops.Ite ss ≡ sorted.Is s → NodeOk s (chosen xs)
unfolding sort_of
choice_ok path [] xs s h e = absurd cc
choice_ok path (sorts.Int ∷ ss) xs s h e = absurd cc
choice_ok path (sorts.Bits w ∷ ss) xs s h e = absurd cc
choice_ok path (sorts.Bool ∷ []) xs s h e = absurd cc
choice_ok path (sorts.Bool ∷ t ∷ []) xs s h e = absurd cc
choice_ok path (sorts.Bool ∷ t ∷ u ∷ r ∷ ss) xs s h e = absurd cc
choice_ok path (sorts.Bool ∷ t ∷ u ∷ []) [] s h e = absurd h
choice_ok path (sorts.Bool ∷ t ∷ u ∷ []) (Linear f ∷ xs) s h e = absurd (h.0 refl)
choice_ok path (sorts.Bool ∷ t ∷ u ∷ []) (Open ∷ xs) s h e = absurd (h.0 refl)
choice_ok path (sorts.Bool ∷ t ∷ u ∷ []) (Settled b ∷ []) s h e = absurd h.1
choice_ok path (sorts.Bool ∷ t ∷ u ∷ []) (Settled b ∷ x ∷ []) s h e = absurd h.1.1
choice_ok path (sorts.Bool ∷ t ∷ u ∷ []) (Settled b ∷ x ∷ y ∷ z ∷ xs) s h e = absurd h.1.1.1
choice_ok path (sorts.Bool ∷ t ∷ u ∷ []) (Settled true ∷ x ∷ y ∷ []) s h e =
    let k = if_is (same_sort t u) t s e in
    inl (subst (λ r. Told r x) k.1 (h.1.0 refl))
choice_ok path (sorts.Bool ∷ t ∷ u ∷ []) (Settled false ∷ x ∷ y ∷ []) s h e =
    let k = if_is (same_sort t u) t s e in
    inl (subst (λ r. Told r y) (sym (same_is t u k.0) ∙ k.1) (h.1.1.0 refl))

node_ok : (path : List Fact) (operator : Op) (choice : Bool) (ss : List Sort) (xs : List Sight) (s : Sort) → is_ite operator ≡ choice → Fine choice [] ss xs → sort_of operator ss ≡ sorted.Is s → NodeOk s (operator_applied path operator xs)
unfolding operator_applied
node_ok path operator false ss xs s c h e = applied_ok path operator ss xs s c (fine_all [] ss xs h) e
node_ok path ops.Ite true ss xs s c h e = choice_ok path ss xs s h e
node_ok path _ true ss xs s c h e = absurd cc

-- ---- the walk
-- a test is open, or a node is out of range, or one was before
abbrev pending : Bool → Option Test → Option ℕ → Bool
pending c u m = (has u || has m) || c

abbrev Ok : Bool → Sort → Seen → Type 0
Ok c s x = Told s x.sight ⊎ (pending c x.unknown x.misfit ≡ true)

pending_left : (c : Bool) (u v : Option Test) (m n : Option ℕ) → pending c u m ≡ true → pending c (or_else u v) (or_else m n) ≡ true
pending_left c (Some t) v m n h = refl
pending_left c None (Some t) m n h = refl
pending_left c None None (Some k) n h = refl
pending_left c None None None (Some k) h = refl
pending_left c None None None None h = h

pending_right : (c : Bool) (u v : Option Test) (m n : Option ℕ) → pending c v n ≡ true → pending c (or_else u v) (or_else m n) ≡ true
pending_right c (Some t) v m n h = refl
pending_right c None (Some t) m n h = refl
pending_right c None None (Some k) n h = refl
pending_right c None None None n h = h

pending_after : (c : Bool) (u v : Option Test) (m n : Option ℕ) → pending (pending c u m) v n ≡ true → pending c (or_else u v) (or_else m n) ≡ true
pending_after c (Some t) v m n h = refl
pending_after c None (Some t) m n h = refl
pending_after c None None (Some k) n h = refl
pending_after c None None None (Some k) h = refl
pending_after c None None None None h = h

pending_node : (c : Bool) (at : ℕ) (n : Node) (u : Option Test) (m : Option ℕ) → (has n.unknown || not n.fits) ≡ true → pending c (or_else n.unknown u) (or_else (cond n.fits None (Some at)) m) ≡ true
pending_node c at n u m h = by n.unknown n.fits u m h
  where
    by : (a : Option Test) (p : Bool) (u : Option Test) (m : Option ℕ) → (has a || not p) ≡ true → pending c (or_else a u) (or_else (cond p None (Some at)) m) ≡ true
    by (Some t) p u m h = refl
    by None true u m h = absurd cc
    by None false (Some t) m h = refl
    by None false None m h = refl

-- what is told of a name of a sort, where an open name has an open test of its own or one was before
abbrev NameOk : Bool → List Sort → ℕ → Sort → Sight → Type 0
NameOk c vars i s x = Told s x ⊎ (((is_open x && is_truths (slice_get vars i)) || c) ≡ true)

abbrev NamesOk : Bool → List Sort → ℕ → List Sort → List Sight → Type 0
NamesOk c vars i [] [] = Unit {0}
NamesOk c vars i (s ∷ ss) (x ∷ xs) = NameOk c vars i s x × NamesOk c vars (suc i) ss xs
NamesOk c vars i _ _ = ⊥

names_at : (c : Bool) (vars : List Sort) (i j k : ℕ) (ss : List Sort) (xs : List Sight) (s : Sort) → k ≡ i + j → NamesOk c vars i ss xs → slice_get ss j ≡ Some s → NameOk c vars k s (sight_at xs j)
names_at c vars i j k [] xs s e h g = absurd cc
names_at c vars i j k (t ∷ ss) [] s e h g = absurd h
names_at c vars i zero k (t ∷ ss) (x ∷ xs) s e h g =
    let at : i ≡ k = omega (arith, e) in
    let same : t ≡ s = cc in
    subst (λ r. NameOk c vars r s x) at (subst (λ r. NameOk c vars i r x) same h.0)
names_at c vars i (suc j) k (t ∷ ss) (x ∷ xs) s e h g = names_at c vars (suc i) j k ss xs s (omega (arith, e)) h.1 g

variable_ok : (c : Bool) (vars : List Sort) (i : ℕ) (s : Sort) (x : Sight) → NameOk c vars i s x → Told s x ⊎ (pending c (variable_test vars x i) None ≡ true)
variable_ok c vars i s x (inl h) = inl h
variable_ok c vars i s x (inr h) = inr (by (is_open x && is_truths (slice_get vars i)) c h)
  where
    by : (b c : Bool) → (b || c) ≡ true → pending c (cond b (Some (test.Holds i)) None) None ≡ true
    by true c h = refl
    by false c h = h

-- the names of a logic whose terms call nothing
abbrev pub alone : (Op → Bool) → Scope
alone owned = record { owned = owned; defined = []; wanted = [] }

applied_inv : (scope : Scope) (operator : Op) (o : Option (List Sort)) (s : Sort) → applied_sort scope operator o ≡ Some s → (ss : List Sort) × ((o ≡ Some ss) × (sort_of operator ss ≡ sorted.Is s))
applied_inv scope operator None s e = absurd cc
applied_inv scope operator (Some ss) s e = (ss, (refl, by (scope.owned operator) (sort_of operator ss) e))
  where
    by : (b : Bool) (r : Sorted) → (if b then given_by r else None) ≡ Some s → r ≡ sorted.Is s
    by true (sorted.Is t) e = cc
    by true sorted.Mismatch e = absurd cc
    by true sorted.BadWidth e = absurd cc
    by false r e = absurd cc

with_inv : (a : Option Sort) (o : Option (List Sort)) (ss : List Sort) → with_sort a o ≡ Some ss → (s : Sort) × ((rest : List Sort) × ((a ≡ Some s) × (o ≡ Some rest) × (s ∷ rest ≡ ss)))
with_inv None o ss e = absurd cc
with_inv (Some s) None ss e = absurd cc
with_inv (Some s) (Some rest) ss e = (s, (rest, (refl, refl, cc)))

after_inv : (o : Option (List Sort)) (next : List Sort → Option Sort) (s : Sort) → sort_after o next ≡ Some s → (ss : List Sort) × ((o ≡ Some ss) × (next ss ≡ Some s))
after_inv None next s e = absurd cc
after_inv (Some ss) next s e = (ss, (refl, e))

abbrev Aligned : List Sort → List Sight → Type 0
Aligned [] [] = Unit {0}
Aligned (s ∷ ss) (x ∷ xs) = Aligned ss xs
Aligned _ _ = ⊥

record Walked (c choice : Bool) (before : List Sight) (ss : List Sort) (out : Found) : Type 0 where
  sights : List Sight
  are : out.sights ≡ before ++ sights
  aligned : Aligned ss sights
  fine : Fine choice before ss sights ⊎ (pending c out.unknown out.misfit ≡ true)

pending_all : (vars : List Sort) (path : List Fact) (names : List Sight) (choice c : Bool) (at : ℕ) (before : Found) (es : Exprs) → pending c before.unknown before.misfit ≡ true → pending c (all_seen vars path names choice at before es).unknown (all_seen vars path names choice at before es).misfit ≡ true
unfolding all_seen
pending_all vars path names choice c at before none h = h
pending_all vars path names choice c at before (more first rest) h =
    let x : Seen = cond (live choice before.sights) (seen vars path names at first) (seen_as Open) in
    pending_all vars path names choice c (at + nodes first) (with_next before x) rest (pending_left c before.unknown x.unknown before.misfit x.misfit h)

in_case : {A B C : Type 0} → (A → C) → (B → C) → A ⊎ B → C
in_case f g (inl a) = f a
in_case f g (inr b) = g b

apply_ok : (c : Bool) (path : List Fact) (operator : Op) (at : ℕ) (ss : List Sort) (s : Sort) (below : Found) → Walked c (is_ite operator) [] ss below → sort_of operator ss ≡ sorted.Is s → Ok c s (node_noted at (operator_applied path operator below.sights) below)
apply_ok c path operator at ss s below w e =
    let n : Node = operator_applied path operator below.sights in
    in_case
    (λ f. in_case (λ h. inl h) (λ h. inr (pending_node c at n below.unknown below.misfit h))
    (subst (λ xs. NodeOk s (operator_applied path operator xs)) (sym w.are) (node_ok path operator (is_ite operator) ss w.sights s refl f e)))
    (λ p. inr (pending_right c n.unknown below.unknown (cond n.fits None (Some at)) below.misfit p))
    w.fine

weaker : (b c d : Bool) → (c ≡ true → d ≡ true) → (b || c) ≡ true → (b || d) ≡ true
weaker true c d f h = refl
weaker false c d f h = f h

names_append : (c d : Bool) (vars : List Sort) (i : ℕ) (ss : List Sort) (xs : List Sight) (ts : List Sort) (ys : List Sight) → (c ≡ true → d ≡ true) → NamesOk c vars i ss xs → ((j : ℕ) → NamesOk d vars j ts ys) → NamesOk d vars i (ss ++ ts) (xs ++ ys)
names_append c d vars i [] [] ts ys f h k = k i
names_append c d vars i [] (x ∷ xs) ts ys f h k = absurd h
names_append c d vars i (s ∷ ss) [] ts ys f h k = absurd h
names_append c d vars i (s ∷ ss) (x ∷ xs) ts ys f h k = (in_case (λ t. inl t) (λ e. inr (weaker (is_open x && is_truths (slice_get vars i)) c d f e)) h.0, names_append c d vars (suc i) ss xs ts ys f h.1 k)

bound_ok : (d : Bool) (vars : List Sort) (ss : List Sort) (ys : List Sight) → Aligned ss ys → AllTold ss ys ⊎ (d ≡ true) → (j : ℕ) → NamesOk d vars j ss ys
bound_ok d vars [] [] a h j = tt
bound_ok d vars [] (y ∷ ys) a h j = absurd a
bound_ok d vars (s ∷ ss) [] a h j = absurd a
bound_ok d vars (s ∷ ss) (y ∷ ys) a (inl h) j = (inl h.0, bound_ok d vars ss ys a (inl h.1) (suc j))
bound_ok d vars (s ∷ ss) (y ∷ ys) a (inr e) j =
    let b : Bool = is_open y && is_truths (slice_get vars j) in
    (inr (ap (λ r. b || r) e ∙ or_true b), bound_ok d vars ss ys a (inr e) (suc j))

live_ok : (c b : Bool) (s : Sort) (y : Seen) → Ok c s y → (b ≡ true → Told s (cond b y (seen_as Open)).sight) ⊎ (pending c (cond b y (seen_as Open)).unknown (cond b y (seen_as Open)).misfit ≡ true)
live_ok c true s y (inl h) = inl (λ k. h)
live_ok c true s y (inr p) = inr p
live_ok c false s y o = inl (λ k. absurd cc)

value_ok : (c : Bool) (at : ℕ) (v : Val) (s : Sort) → (if valid v then Some (sort_of_value v) else None) ≡ Some s → Ok c s (value_seen at v)
value_ok c at (Truth b) s e = let k : sorts.Bool ≡ s = cc in inl (subst (λ r. Told r (Settled b)) k tt)
value_ok c at (Whole z) s e = let k : sorts.Int ≡ s = cc in inl (subst (λ r. Told r (Linear (constant_form z))) k tt)
value_ok c at (Bits w n) s e = inr refl

mutual
  unfolding seen all_seen sort_in sorts_in

  -- a term that fits is told, or a test is open or a node out of range
  decided : (owned : Op → Bool) (c : Bool) (vars : List Sort) (path : List Fact) (ss : List Sort) (names : List Sight) → NamesOk c vars 0 ss names → (at : ℕ) (e : Expr) (s : Sort) → sort_in (alone owned) ss e ≡ Some s → Ok c s (seen vars path names at e)
  decided owned c vars path ss names h at (Constant v) s e = value_ok c at v s e
  decided owned c vars path ss names h at (Variable i) s e = variable_ok c vars i s (sight_at names i) (names_at c vars 0 i i ss names s (omega arith) h e)
  decided owned c vars path ss names h at (Apply operator arguments) s e =
      let a = applied_inv (alone owned) operator (sorts_in (alone owned) ss arguments) s e in
      apply_ok c path operator at a.0 s _ (all_decided owned c vars path ss names h (is_ite operator) (at + 1) nothing_found arguments a.0 a.1.0) a.1.1
  decided owned c vars path ss names h at (Invoke function arguments) s e = inr refl
  decided owned c vars path ss names h at (Bind bound inner) s e =
      let below : Found = all_seen vars path names false (at + 1) nothing_found bound in
      let a = after_inv (sorts_in (alone owned) ss bound) (λ found. sort_in (alone owned) (ss ++ found) inner) s e in
      let w : Walked c false [] a.0 below = all_decided owned c vars path ss names h false (at + 1) nothing_found bound a.0 a.1.0 in
      let d : Bool = pending c below.unknown below.misfit in
      let told_or : AllTold a.0 below.sights ⊎ (d ≡ true) = in_case (λ f. inl (subst (λ xs. AllTold a.0 xs) (sym w.are) (fine_all [] a.0 w.sights f))) (λ p. inr p) w.fine in
      let named : NamesOk d vars 0 (ss ++ a.0) (names ++ below.sights) =
      names_append c d vars 0 ss names a.0 below.sights (λ k. ap (λ r. (has below.unknown || has below.misfit) || r) k ∙ or_true (has below.unknown || has below.misfit)) h
      (bound_ok d vars a.0 below.sights (subst (λ xs. Aligned a.0 xs) (sym w.are) w.aligned) told_or) in
      let x : Seen = seen vars path (names ++ below.sights) (at + 1 + nodes_of bound) inner in
      in_case (λ t. inl t) (λ p. inr (pending_after c below.unknown x.unknown below.misfit x.misfit p))
      (decided owned d vars path (ss ++ a.0) (names ++ below.sights) named (at + 1 + nodes_of bound) inner s a.1.1)

  all_decided : (owned : Op → Bool) (c : Bool) (vars : List Sort) (path : List Fact) (ss : List Sort) (names : List Sight) → NamesOk c vars 0 ss names → (choice : Bool) (at : ℕ) (before : Found) (es : Exprs) (rs : List Sort) → sorts_in (alone owned) ss es ≡ Some rs → Walked c choice before.sights rs (all_seen vars path names choice at before es)
  all_decided owned c vars path ss names h choice at before none rs e =
      let k : [] ≡ rs = cc in
      subst (λ r. Walked c choice before.sights r before) k (record { sights = []; are = sym (append-nil before.sights); aligned = tt; fine = inl tt })
  all_decided owned c vars path ss names h choice at before (more first rest) rs e =
      let a = with_inv (sort_in (alone owned) ss first) (sorts_in (alone owned) ss rest) rs e in
      let x : Seen = cond (live choice before.sights) (seen vars path names at first) (seen_as Open) in
      let out : Found = all_seen vars path names choice (at + nodes first) (with_next before x) rest in
      let w : Walked c choice (before.sights ++ x.sight ∷ []) a.1.0 out = all_decided owned c vars path ss names h choice (at + nodes first) (with_next before x) rest a.1.0 a.1.1.1 in
      let one = live_ok c (live choice before.sights) a.0 (seen vars path names at first) (decided owned c vars path ss names h at first a.0 a.1.1.0) in
      subst (λ r. Walked c choice before.sights r out) a.1.1.2 (record {
        sights = x.sight ∷ w.sights;
        are = w.are ∙ append_assoc before.sights (x.sight ∷ []) w.sights;
        aligned = w.aligned;
        fine = in_case (λ f. in_case (λ g. inl (f, g)) (λ p. inr p) w.fine)
            (λ p. inr (pending_all vars path names choice c (at + nodes first) (with_next before x) rest (pending_right c before.unknown x.unknown before.misfit x.misfit p))) one;
      })

-- ---- queries
variables_ok : (path : List Fact) (vars : List Sort) (i : ℕ) (rest : List Sort) → list_all is_linear_sort rest ≡ true → ((j k : ℕ) → k ≡ i + j → slice_get vars k ≡ slice_get rest j) → NamesOk false vars i rest (variable_sights path i rest)
variables_ok path vars i [] l h = tt
variables_ok path vars i (sorts.Int ∷ rest) l h = (inl tt, variables_ok path vars (suc i) rest l (λ j k e. h (suc j) k (omega (arith, e))))
variables_ok path vars i (sorts.Bool ∷ rest) l h = (by (given i path), variables_ok path vars (suc i) rest l (λ j k e. h (suc j) k (omega (arith, e))))
  where
    by : (o : Option Bool) → NameOk false vars i sorts.Bool (of_given o)
    by (Some b) = inl tt
    by None = inr (ap (λ s. is_truths s || false) (h 0 i (omega arith)))
variables_ok path vars i (sorts.Bits w ∷ rest) l h = absurd cc

query_ok : (q : LinearQuery) (path : List Fact) → IsLinearQuery q → Ok false sorts.Bool (query_seen q path)
query_ok q path f = decided linear_owned false q.vars path q.vars (variable_sights path 0 q.vars) (variables_ok path q.vars 0 q.vars f.vars (λ j k e. ap (slice_get q.vars) (e ∙ omega arith))) 0 q.body sorts.Bool f.body

-- of a query that fits, an answer out of range names a node at which a form doesn't fit
pub known_misfit : (q : LinearQuery) (path : List Fact) → IsLinearQuery q → IsMisfit q path (query_known q path)
known_misfit q path f = by (query_seen q path).misfit (query_seen q path).sight (query_seen q path).unknown refl (query_ok q path f)
  where
    by : (n : Option ℕ) (x : Sight) (o : Option Test) → (query_seen q path).misfit ≡ n → Told sorts.Bool x ⊎ (pending false o n ≡ true) → IsMisfit q path (of_misfit n (of_sight x (of_open o)))
    by (Some n) x o e h = e
    by None (Settled true) o e h = tt
    by None (Settled false) o e h = tt
    by None (Linear g) (Some t) e h = tt
    by None Open (Some t) e h = tt
    by None (Linear g) None e (inl h) = absurd h
    by None Open None e (inl h) = absurd h
    by None (Linear g) None e (inr h) = absurd cc
    by None Open None e (inr h) = absurd cc
