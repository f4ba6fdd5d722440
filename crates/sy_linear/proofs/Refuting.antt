-- A tree that is accepted refutes the query.
use Rattle.std.specs.Prelude.{◌≡◌, ℕ, zero, suc, ◌+◌, ◌≤ℤ◌, Bool, true, false, cond, ◌&&◌, List, [], ◌∷◌, ◌++◌, ℤ, pos, negsuc, int_le, slice_get, Option, Some, None}
use Rattle.std.specs.List.{list_all}
use Rattle.std.proofs.Common.{refl, arith}
use borrow.Author.Differences.{at_most_in}
use Rattle.sy_frac.specs.Fraction.{Fraction}
use Rattle.sy_terms.specs.Values.{Val, truth}
use Rattle.sy_terms.specs.Meaning.{meaning}
use Rattle.sy_terms.specs.declared.sort.Sort.{Sort}
use Rattle.sy_terms.specs.declared.sort.Sort.TheVariants as sorts
use Rattle.sy_linear_known.specs.declared.form.Form.{Form}
use Rattle.sy_linear_known.specs.Forms.{Coefficient, form_negation}
use Rattle.sy_linear_known.specs.declared.path.Fact.{Fact}
use Rattle.sy_linear_known.specs.declared.path.Fact.TheVariants.{AtLeast}
use Rattle.sy_linear_known.specs.declared.path.Test.{Test}
use Rattle.sy_linear_known.specs.declared.path.Test.TheVariants as test
use Rattle.sy_linear_known.specs.declared.answer.Known.{Known}
use Rattle.sy_linear_known.specs.declared.answer.Known.TheVariants as known
use Rattle.sy_linear_known.specs.Seen.{LinearQuery, query_known}
use Rattle.sy_linear_known.specs.Right.{Assigns}
use Rattle.sy_linear_known.specs.Trees.{TreeShape, Split, Branch, Cut, Farkas, Shown, Unfinished, added_fact, opposite_fact, at_or_below, forms, OverIntegers, TestSuits, TreeRefutes, IsCut, IsContradiction}
use Rattle.sy_linear_known.proofs.Refutation.{never_satisfied}
use Rattle.sy_linear.specs.declared.combination.Combination.{Combination}
use Rattle.sy_linear.specs.Combining.{are_multipliers, checked_combination, is_negative_constant, divided, rounded}
use Rattle.sy_linear.specs.Judging.{Judgement, Accepted, Broken, Unfit, Adds, Fails, Leaves, judged_in_turn, after_node, size, is_int, is_bool, has_int, suits, opposite_fits, rounded_outcome, added_form, divided_combination, of_combination, shown_judged, judged}
use Rattle.sy_linear.proofs.Lowest.{left_true, right_true}
use Rattle.sy_linear.proofs.Accepting.{contradiction, cut}

int_is : (o : Option Sort) → is_int o ≡ true → o ≡ Some sorts.Int
int_is (Some sorts.Int) e = refl
int_is (Some sorts.Bool) e = absurd cc
int_is (Some (sorts.Bits w)) e = absurd cc
int_is None e = absurd cc

bool_is : (o : Option Sort) → is_bool o ≡ true → o ≡ Some sorts.Bool
bool_is (Some sorts.Bool) e = refl
bool_is (Some sorts.Int) e = absurd cc
bool_is (Some (sorts.Bits w)) e = absurd cc
bool_is None e = absurd cc

over_integers : (vars : List Sort) (cs : List Coefficient) → list_all (has_int vars) cs ≡ true → OverIntegers vars cs
over_integers vars [] e = tt
over_integers vars (c ∷ cs) e = (int_is (slice_get vars c.0) (left_true (has_int vars c) (list_all (has_int vars) cs) e), over_integers vars cs (right_true (has_int vars c) (list_all (has_int vars) cs) e))

suits_is : (vars : List Sort) (t : Test) → suits vars t ≡ true → TestSuits vars t
suits_is vars (test.AtLeast f) e = over_integers vars f.coefs e
suits_is vars (test.Holds u) e = bool_is (slice_get vars u) e

both_accepted : (a b : Judgement) → judged_in_turn a b ≡ Accepted → (a ≡ Accepted) × (b ≡ Accepted)
both_accepted Accepted b e = (refl, e)
both_accepted Broken b e = absurd cc
both_accepted (Unfit n) b e = absurd cc

at_least : (d : ℤ) → int_le (pos 1) d ≡ true → pos 1 ≤ℤ d
at_least (pos (suc n)) e = at_most_in (pos 1) (pos (suc n)) (omega arith)
at_least (pos zero) e = absurd cc
at_least (negsuc n) e = absurd cc

cut_added : (ms : List Fraction) (fs : List Form) (d : ℤ) (n : ℕ) (rest : Fact → Judgement) → after_node n (cond (are_multipliers ms fs && int_le (pos 1) d) (rounded_outcome (divided_combination d (checked_combination ms fs))) Fails) rest ≡ Accepted → (e : Form) × (IsCut ms d fs e × (rest (AtLeast e) ≡ Accepted))
cut_added ms fs d n rest = by (are_multipliers ms fs && int_le (pos 1) d) refl (checked_combination ms fs) refl
  where
    by : (b : Bool) → (are_multipliers ms fs && int_le (pos 1) d) ≡ b → (o : Option Combination) → checked_combination ms fs ≡ o → after_node n (cond b (rounded_outcome (divided_combination d o)) Fails) rest ≡ Accepted → (e : Form) × (IsCut ms d fs e × (rest (AtLeast e) ≡ Accepted))
    by false a o k h = absurd cc
    by true a None k h = absurd cc
    by true a (Some c) k h = part (divided d c) refl h
      where
        part : (p : Option Combination) → divided d c ≡ p → after_node n (rounded_outcome p) rest ≡ Accepted → (e : Form) × (IsCut ms d fs e × (rest (AtLeast e) ≡ Accepted))
        part None f h = absurd cc
        part (Some g) f h = form (rounded g) refl h
          where
            form : (p : Option Form) → rounded g ≡ p → after_node n (added_form p) rest ≡ Accepted → (e : Form) × (IsCut ms d fs e × (rest (AtLeast e) ≡ Accepted))
            form None r h = absurd cc
            form (Some e) r h = (e, (cut ms fs d c g e (left_true (are_multipliers ms fs) (int_le (pos 1) d) a) (at_least d (right_true (are_multipliers ms fs) (int_le (pos 1) d) a)) k f r, h))

farkas_added : (ms : List Fraction) (fs : List Form) (n : ℕ) → cond (are_multipliers ms fs) (of_combination n (checked_combination ms fs)) Broken ≡ Accepted → IsContradiction ms fs
farkas_added ms fs n = by (are_multipliers ms fs) refl (checked_combination ms fs) refl
  where
    by : (b : Bool) → are_multipliers ms fs ≡ b → (o : Option Combination) → checked_combination ms fs ≡ o → cond b (of_combination n o) Broken ≡ Accepted → IsContradiction ms fs
    by false a o k h = absurd cc
    by true a None k h = absurd cc
    by true a (Some c) k h = negative (is_negative_constant c) refl h
      where
        negative : (t : Bool) → is_negative_constant c ≡ t → cond t Accepted Broken ≡ Accepted → IsContradiction ms fs
        negative true e h = contradiction ms fs c a k e
        negative false e h = absurd cc

shown_is : (n : ℕ) (k : Known) → shown_judged n k ≡ Accepted → k ≡ known.False
shown_is n known.False e = refl
shown_is n known.True e = absurd cc
shown_is n (known.Undecided t) e = absurd cc
shown_is n (known.OutOfRange m) e = absurd cc

-- an accepted tree refutes the query under the path
pub accepted : (q : LinearQuery) (path : List Fact) (n : ℕ) (t : TreeShape) → judged q path n t ≡ Accepted → TreeRefutes q path t
unfolding judged
accepted q path n (Split t left right) e = by (suits q.vars t) refl (opposite_fits t) e (accepted q (path ++ added_fact t ∷ []) (n + 1) left) (accepted q (path ++ opposite_fact t ∷ []) (n + 1 + size left) right)
  where
    by : (b : Bool) → suits q.vars t ≡ b → (f : Bool) → after_node {A = Fact × Fact} n (cond b (cond f (Adds (added_fact t, opposite_fact t)) Leaves) Fails) (λ facts. judged_in_turn (judged q (path ++ facts.0 ∷ []) (n + 1) left) (judged q (path ++ facts.1 ∷ []) (n + 1 + size left) right)) ≡ Accepted → (judged q (path ++ added_fact t ∷ []) (n + 1) left ≡ Accepted → TreeRefutes q (path ++ added_fact t ∷ []) left) → (judged q (path ++ opposite_fact t ∷ []) (n + 1 + size left) right ≡ Accepted → TreeRefutes q (path ++ opposite_fact t ∷ []) right) → TreeRefutes q path (Split t left right)
    by false s f h l r = absurd cc
    by true s false h l r = absurd cc
    by true s true h l r = let k = both_accepted (judged q (path ++ added_fact t ∷ []) (n + 1) left) (judged q (path ++ opposite_fact t ∷ []) (n + 1 + size left) right) h in (suits_is q.vars t s, l k.0, r k.1)
accepted q path n (Branch i bound left right) e = by (is_int (slice_get q.vars i)) refl e (accepted q (path ++ AtLeast (at_or_below i bound) ∷ []) (n + 1) left) (accepted q (path ++ AtLeast (form_negation (at_or_below i bound)) ∷ []) (n + 1 + size left) right)
  where
    by : (b : Bool) → is_int (slice_get q.vars i) ≡ b → after_node {A = Fact × Fact} n (cond b (Adds (AtLeast (at_or_below i bound), AtLeast (form_negation (at_or_below i bound)))) Fails) (λ facts. judged_in_turn (judged q (path ++ facts.0 ∷ []) (n + 1) left) (judged q (path ++ facts.1 ∷ []) (n + 1 + size left) right)) ≡ Accepted → (judged q (path ++ AtLeast (at_or_below i bound) ∷ []) (n + 1) left ≡ Accepted → TreeRefutes q (path ++ AtLeast (at_or_below i bound) ∷ []) left) → (judged q (path ++ AtLeast (form_negation (at_or_below i bound)) ∷ []) (n + 1 + size left) right ≡ Accepted → TreeRefutes q (path ++ AtLeast (form_negation (at_or_below i bound)) ∷ []) right) → TreeRefutes q path (Branch i bound left right)
    by false s h l r = absurd cc
    by true s h l r = let k = both_accepted (judged q (path ++ AtLeast (at_or_below i bound) ∷ []) (n + 1) left) (judged q (path ++ AtLeast (form_negation (at_or_below i bound)) ∷ []) (n + 1 + size left) right) h in (int_is (slice_get q.vars i) s, l k.0, r k.1)
accepted q path n (Cut ms d inner) e =
    let k = cut_added ms (forms path) d n (λ fact. judged q (path ++ fact ∷ []) (n + 1) inner) e in
    (k.0, (k.1.0, accepted q (path ++ AtLeast k.0 ∷ []) (n + 1) inner k.1.1))
accepted q path n (Farkas ms) e = farkas_added ms (forms path) n e
accepted q path n Shown e = shown_is n (query_known q path) e
accepted q path n Unfinished e = absurd cc

-- a query of which a tree is accepted is satisfied by no assignment
pub none_satisfies : (q : LinearQuery) (t : TreeShape) → judged q [] 0 t ≡ Accepted → (values : List Val) → Assigns q.vars values → truth (meaning [] [] values q.body) ≡ false
none_satisfies q t e = never_satisfied q t (accepted q [] 0 t e)
