-- What a path tells of a term is so at every assignment that meets the path.
use Rattle.std.specs.Prelude.{◌≡◌, ℕ, zero, suc, ◌≤ℤ◌, Bool, true, false, cond, not, ◌&&◌, ◌||◌, List, [], ◌∷◌, ◌++◌, ℤ, pos, negsuc, ◌+ℤ◌, ◌-ℤ◌, ◌*ℤ◌, neg_ℤ, int_le, int_lt, nat_eq, Option, Some, None, map}
use Rattle.std.specs.List.{list_all, list_any}
use Rattle.std.specs.Ordering.{int_eq}
use Rattle.std.specs.Cmp.{signed_Decides, unsigned_Decides}
use Rattle.std.proofs.Common.{refl, sym, ◌∙◌, ap, ap₂, subst, arith, inl, inr, ◌⊎◌, ◌+◌}
use Rattle.std.proofs.lemmas.List.{append-nil, append_assoc}
use Rattle.std.proofs.Math.IntN.{*ℤ_comm}
use borrow.Author.Differences.{ints, same_in, at_most_in, le_out, le-true, true_is_le, true_is_lt, false_is_le, lt-true}
use Rattle.sy_terms.specs.Values.{Val, Truth, Whole, Bits, truth, whole, same, neighbours, all_pairs, to_all, from_left as values_from_left}
use Rattle.sy_terms.specs.Operators.{op_value, on_wholes}
use Rattle.sy_terms.specs.Sorts.{sort_of}
use Rattle.sy_terms.specs.Theories.{sort_of_value}
use Rattle.sy_terms.specs.Expr.{Expr, Exprs, Constant, Variable, Apply, Invoke, Bind, none, more, nodes, nodes_of}
use Rattle.sy_terms.specs.Meaning.{value_at_position, meaning, meanings}
use Rattle.sy_terms.specs.declared.op.Op.{Op}
use Rattle.sy_terms.specs.declared.op.Op.TheVariants as ops
use Rattle.sy_terms.specs.declared.sort.Sort.{Sort}
use Rattle.sy_terms.specs.declared.sort.Sort.TheVariants as sorts
use Rattle.sy_linear_known.specs.declared.form.Form.{Form}
use Rattle.sy_linear_known.specs.Forms.{form_plus, times, form_minus, above, form_negation, form_is_in_range, is_constant_form, same_form}
use Rattle.sy_linear_known.specs.Laws.{value-constant, value-variable, value-plus, value-times, value-minus, value-above, value-negation, value-is_constant, same_value, not_both}
use Rattle.sy_linear_known.specs.declared.path.Fact.{Fact}
use Rattle.sy_linear_known.specs.declared.path.Fact.TheVariants.{AtLeast, Is}
use Rattle.sy_linear_known.specs.declared.path.Test.{Test}
use Rattle.sy_linear_known.specs.declared.path.Test.TheVariants as test
use Rattle.sy_linear_known.specs.declared.sight.Sight.{Sight}
use Rattle.sy_linear_known.specs.declared.sight.Sight.TheVariants.{Linear, Settled, Open}
use Rattle.sy_linear_known.specs.declared.sight.Node.{Node}
use Rattle.sy_linear_known.specs.declared.sight.Seen.{Seen}
use Rattle.sy_linear_known.specs.declared.sight.Found.{Found}
use Rattle.sy_linear_known.specs.Paths.{number_in, form_at, MeetsPath, has_form, given}
use Rattle.sy_linear_known.specs.Sights.{is_true, is_false, all_of, any_of, sight_opposite, truth_before, all_truths, of_truth, has_a_sort, truth_at, told, unfit, both_nodes, evaluated, built, form_sum, form_multiple, form_difference, excess, form_product, of_form, sights_combined, combined_at, sights_from_left, sights_folded, truth_negated, chosen, known_true, known_false, answered, tested, at_most, less, forms_equal, distinct, compared, neighbours_in_row, with_each, in_pairs, none_yet, by_truths_or, operator_applied}
use Rattle.sy_linear_known.specs.Seen.{of_given, variable_sights, sight_at, is_ite, live, value_seen, seen_as, nothing_found, with_next, seen, all_seen, LinearQuery, query_seen, of_misfit, of_sight, of_open, query_known}
use Rattle.sy_linear_known.specs.Right.{Assigns, KnownIsRight}

-- what is told of a term is right of its value
abbrev pub Right : List Val → Sight → Val → Type 0
Right values (Linear f) v = v ≡ Whole (form_at values f)
Right values (Settled b) v = v ≡ Truth b
Right values Open v = Unit {0}

abbrev pub AllRight : List Val → List Sight → List Val → Type 0
AllRight values [] [] = Unit {0}
AllRight values (s ∷ ss) (v ∷ vs) = Right values s v × AllRight values ss vs
AllRight values _ _ = ⊥

-- ---- truth values
pub and_parts : (a b : Bool) → (a && b) ≡ true → (a ≡ true) × (b ≡ true)
and_parts true b h = (refl, h)
and_parts false b h = absurd cc

pub or_parts : (a b : Bool) → (a || b) ≡ true → (a ≡ true) ⊎ (b ≡ true)
or_parts true b h = inl refl
or_parts false b h = inr h

alike : (a b : Bool) → (a ≡ true → b ≡ true) → (b ≡ true → a ≡ true) → a ≡ b
alike true b h g = sym (h refl)
alike false true h g = g refl
alike false false h g = refl

and_assoc : (a b c : Bool) → ((a && b) && c) ≡ (a && (b && c))
and_assoc true b c = refl
and_assoc false b c = refl

and_false : (a : Bool) → (a && false) ≡ false
and_false true = refl
and_false false = refl

or_true : (a : Bool) → (a || true) ≡ true
or_true true = refl
or_true false = refl

false_is : (values : List Val) (s : Sight) (v : Val) → Right values s v → is_false s ≡ true → truth v ≡ false
false_is values (Settled true) v h e = absurd cc
false_is values (Settled false) v h e = ap truth h
false_is values (Linear f) v h e = absurd cc
false_is values Open v h e = absurd cc

true_is : (values : List Val) (s : Sight) (v : Val) → Right values s v → is_true s ≡ true → truth v ≡ true
true_is values (Settled true) v h e = ap truth h
true_is values (Settled false) v h e = absurd cc
true_is values (Linear f) v h e = absurd cc
true_is values Open v h e = absurd cc

some_false : (values : List Val) (ss : List Sight) (vs : List Val) → AllRight values ss vs → list_any is_false ss ≡ true → list_all truth vs ≡ false
some_false values [] vs h e = absurd cc
some_false values (s ∷ ss) [] h e = absurd h
some_false values (s ∷ ss) (v ∷ vs) h e = by (or_parts (is_false s) (list_any is_false ss) e) (λ k. some_false values ss vs h.1 k)
  where
    by : (is_false s ≡ true) ⊎ (list_any is_false ss ≡ true) → (list_any is_false ss ≡ true → list_all truth vs ≡ false) → (truth v && list_all truth vs) ≡ false
    by (inl k) rest = ap (λ b. b && list_all truth vs) (false_is values s v h.0 k)
    by (inr k) rest = ap (λ b. truth v && b) (rest k) ∙ and_false (truth v)

each_true : (values : List Val) (ss : List Sight) (vs : List Val) → AllRight values ss vs → list_all is_true ss ≡ true → list_all truth vs ≡ true
each_true values [] [] h e = refl
each_true values [] (v ∷ vs) h e = absurd h
each_true values (s ∷ ss) [] h e = absurd h
each_true values (s ∷ ss) (v ∷ vs) h e =
    let k = and_parts (is_true s) (list_all is_true ss) e in
    ap₂ (λ a b. a && b) (true_is values s v h.0 k.0) (each_true values ss vs h.1 k.1)

some_true : (values : List Val) (ss : List Sight) (vs : List Val) → AllRight values ss vs → list_any is_true ss ≡ true → list_any truth vs ≡ true
some_true values [] vs h e = absurd cc
some_true values (s ∷ ss) [] h e = absurd h
some_true values (s ∷ ss) (v ∷ vs) h e = by (or_parts (is_true s) (list_any is_true ss) e) (λ k. some_true values ss vs h.1 k)
  where
    by : (is_true s ≡ true) ⊎ (list_any is_true ss ≡ true) → (list_any is_true ss ≡ true → list_any truth vs ≡ true) → (truth v || list_any truth vs) ≡ true
    by (inl k) rest = ap (λ b. b || list_any truth vs) (true_is values s v h.0 k)
    by (inr k) rest = ap (λ b. truth v || b) (rest k) ∙ or_true (truth v)

each_false : (values : List Val) (ss : List Sight) (vs : List Val) → AllRight values ss vs → list_all is_false ss ≡ true → list_any truth vs ≡ false
each_false values [] [] h e = refl
each_false values [] (v ∷ vs) h e = absurd h
each_false values (s ∷ ss) [] h e = absurd h
each_false values (s ∷ ss) (v ∷ vs) h e =
    let k = and_parts (is_false s) (list_all is_false ss) e in
    ap₂ (λ a b. a || b) (false_is values s v h.0 k.0) (each_false values ss vs h.1 k.1)

right_all : (values : List Val) (ss : List Sight) (vs : List Val) → AllRight values ss vs → Right values (all_of ss) (Truth (list_all truth vs))
right_all values ss vs h = by (list_any is_false ss) (list_all is_true ss) refl refl
  where
    by : (a b : Bool) → list_any is_false ss ≡ a → list_all is_true ss ≡ b → Right values (cond a (Settled false) (cond b (Settled true) Open)) (Truth (list_all truth vs))
    by true b e k = ap Truth (some_false values ss vs h e)
    by false true e k = ap Truth (each_true values ss vs h k)
    by false false e k = tt

right_any : (values : List Val) (ss : List Sight) (vs : List Val) → AllRight values ss vs → Right values (any_of ss) (Truth (list_any truth vs))
right_any values ss vs h = by (list_any is_true ss) (list_all is_false ss) refl refl
  where
    by : (a b : Bool) → list_any is_true ss ≡ a → list_all is_false ss ≡ b → Right values (cond a (Settled true) (cond b (Settled false) Open)) (Truth (list_any truth vs))
    by true b e k = ap Truth (some_true values ss vs h e)
    by false true e k = ap Truth (each_false values ss vs h k)
    by false false e k = tt

right_both : (values : List Val) (m n : Node) (a b : Bool) → Right values m.sight (Truth a) → Right values n.sight (Truth b) → Right values (both_nodes m n).sight (Truth (a && b))
right_both values m n a b h k = subst (λ c. Right values (both_nodes m n).sight (Truth (a && c))) (and_one b) (right_all values (m.sight ∷ n.sight ∷ []) (Truth a ∷ Truth b ∷ []) (h, (k, tt)))
  where
    and_one : (c : Bool) → (c && true) ≡ c
    and_one true = refl
    and_one false = refl

right_opposite : (values : List Val) (s : Sight) (b : Bool) → Right values s (Truth b) → Right values (sight_opposite s) (Truth (not b))
right_opposite values (Settled a) b h = ap (λ v. Truth (not (truth v))) h
right_opposite values (Linear f) b h = tt
right_opposite values Open b h = tt

-- ---- forms that are built
Built : List Val → Option Form → ℤ → Type 0
Built values None z = Unit {0}
Built values (Some f) z = form_at values f ≡ z

built_is : (values : List Val) (f : Form) (z : ℤ) → form_at values f ≡ z → Built values (built f) z
unfolding Built
built_is values f z h = by (form_is_in_range f)
  where
    by : (b : Bool) → Built values (cond b (Some f) None) z
    by true = h
    by false = tt

built_sum : (values : List Val) (f g : Form) → Built values (form_sum f g) (form_at values f +ℤ form_at values g)
built_sum values f g = built_is values (form_plus f g) _ (value-plus f g (number_in values))

built_multiple : (values : List Val) (k : ℤ) (f : Form) → Built values (form_multiple k f) (k *ℤ form_at values f)
built_multiple values k f = built_is values (times k f) _ (value-times k f (number_in values))

built_difference : (values : List Val) (f g : Form) → Built values (form_difference f g) (form_at values f -ℤ form_at values g)
built_difference values f g = built_is values (form_minus f g) _ (value-minus f g (number_in values))

built_excess : (values : List Val) (f g : Form) → Built values (excess f g) (form_at values f -ℤ form_at values g +ℤ negsuc 0)
built_excess values f g = built_is values (above f g) _ (value-above f g (number_in values))

right_form : (values : List Val) (o : Option Form) (z : ℤ) → Built values o z → Right values (of_form o).sight (Whole z)
unfolding Built
right_form values (Some f) z h = ap Whole (sym h)
right_form values None z h = tt

-- ---- tests
at_least : (x : ℤ) → int_le (pos 0) x ≡ true → pos 0 ≤ℤ x
at_least x h = at_most_in (pos 0) x (le-true (pos 0) x h)

at_least_back : (x : ℤ) → pos 0 ≤ℤ x → int_le (pos 0) x ≡ true
at_least_back x h = sym (true_is_le (pos 0) x (le_out (pos 0) x h))

-- a form that stands in the path is at least 0
in_path : (values : List Val) (path : List Fact) (f : Form) → MeetsPath values path → has_form f path ≡ true → pos 0 ≤ℤ form_at values f
in_path values [] f m h = absurd cc
in_path values (Is u b ∷ facts) f m h = in_path values facts f m.1 h
in_path values (AtLeast g ∷ facts) f m h = by (λ k. in_path values facts f m.1 k) (or_parts (same_form f g) (has_form f facts) h)
  where
    by : (has_form f facts ≡ true → pos 0 ≤ℤ form_at values f) → (same_form f g ≡ true) ⊎ (has_form f facts ≡ true) → pos 0 ≤ℤ form_at values f
    by further (inl e) = subst (λ x. pos 0 ≤ℤ x) (sym (same_value f g (number_in values) e)) m.0
    by further (inr e) = further e

known_true_is : (values : List Val) (path : List Fact) (f : Form) → MeetsPath values path → known_true path f ≡ true → int_le (pos 0) (form_at values f) ≡ true
known_true_is values path f m h = by (or_parts (is_constant_form f && int_le (pos 0) f.constant) (has_form f path) h)
  where
    by : ((is_constant_form f && int_le (pos 0) f.constant) ≡ true) ⊎ (has_form f path ≡ true) → int_le (pos 0) (form_at values f) ≡ true
    by (inl e) = let k = and_parts (is_constant_form f) (int_le (pos 0) f.constant) e in
        ap (int_le (pos 0)) (value-is_constant f (number_in values) k.0) ∙ k.1
    by (inr e) = at_least_back (form_at values f) (in_path values path f m e)

known_false_is : (values : List Val) (path : List Fact) (f : Form) → MeetsPath values path → known_false path f (form_negation f) ≡ true → int_le (pos 0) (form_at values f) ≡ false
known_false_is values path f m h = by (or_parts (is_constant_form f && int_lt f.constant (pos 0)) (has_form (form_negation f) path) h)
  where
    clashing : false ≡ true → ⊥
    clashing e = cc

    below : (x : ℤ) → int_lt x (pos 0) ≡ true → int_le (pos 0) x ≡ false
    below x e = sym (false_is_le (pos 0) x (lt-true x (pos 0) e))

    by : ((is_constant_form f && int_lt f.constant (pos 0)) ≡ true) ⊎ (has_form (form_negation f) path ≡ true) → int_le (pos 0) (form_at values f) ≡ false
    by (inl e) = let k = and_parts (is_constant_form f) (int_lt f.constant (pos 0)) e in
        ap (int_le (pos 0)) (value-is_constant f (number_in values) k.0) ∙ below f.constant k.1
    by (inr e) = alike (int_le (pos 0) (form_at values f)) false
        (λ k. absurd (not_both (form_at values f) (at_least (form_at values f) k) (subst (λ x. pos 0 ≤ℤ x) (value-negation f (number_in values)) (in_path values path (form_negation f) m e))))
        (λ k. absurd (clashing k))

right_answered : (values : List Val) (path : List Fact) (f : Form) → MeetsPath values path → Right values (answered path f (form_negation f)).sight (Truth (int_le (pos 0) (form_at values f)))
right_answered values path f m = by (known_true path f) (known_false path f (form_negation f)) refl refl
  where
    by : (a b : Bool) → known_true path f ≡ a → known_false path f (form_negation f) ≡ b → Right values (cond a (told (Settled true)) (cond b (told (Settled false)) (record { sight = Open; unknown = Some (test.AtLeast f); fits = true }))).sight (Truth (int_le (pos 0) (form_at values f)))
    by true b h g = ap Truth (known_true_is values path f m h)
    by false true h g = ap Truth (known_false_is values path f m g)
    by false false h g = tt

right_tested : (values : List Val) (path : List Fact) → MeetsPath values path → (o : Option Form) (z : ℤ) → Built values o z → Right values (tested path o).sight (Truth (int_le (pos 0) z))
unfolding Built
right_tested values path m None z h = tt
right_tested values path m (Some f) z h = by (form_is_in_range (form_negation f))
  where
    by : (b : Bool) → Right values (cond b (answered path f (form_negation f)) unfit).sight (Truth (int_le (pos 0) z))
    by true = subst (λ x. Right values (answered path f (form_negation f)).sight (Truth (int_le (pos 0) x))) h (right_answered values path f m)
    by false = tt

-- ---- comparisons of forms
at_most_is : (x y : ℤ) → int_le (pos 0) (y -ℤ x) ≡ int_le x y
at_most_is x y = alike _ _ (λ h. sym (true_is_le x y (omega (arith, ints, h)))) (λ h. sym (true_is_le (pos 0) (y -ℤ x) (omega (arith, ints, h))))

less_is : (x y : ℤ) → int_le (pos 0) (y -ℤ x +ℤ negsuc 0) ≡ int_lt x y
less_is x y = alike _ _ (λ h. sym (true_is_lt x y (omega (arith, ints, h)))) (λ h. sym (true_is_le (pos 0) (y -ℤ x +ℤ negsuc 0) (omega (arith, ints, h))))

equal_is : (x y : ℤ) → (int_le y x && int_le x y) ≡ int_eq x y
equal_is x y = alike _ _ there back
  where
    there : (int_le y x && int_le x y) ≡ true → int_eq x y ≡ true
    there h = let k = and_parts (int_le y x) (int_le x y) h in
        (signed_Decides x y).1 (same_in _ _ (omega (arith, ints, k.0, k.1)))

    back : int_eq x y ≡ true → (int_le y x && int_le x y) ≡ true
    back h = let e : x ≡ y = (signed_Decides x y).0 h in
        ap₂ (λ a b. a && b) (sym (true_is_le y x (omega (arith, ints, e)))) (sym (true_is_le x y (omega (arith, ints, e))))

right_at_most : (values : List Val) (path : List Fact) → MeetsPath values path → (f g : Form) → Right values (at_most path f g).sight (Truth (int_le (form_at values f) (form_at values g)))
right_at_most values path m f g = subst (λ b. Right values (at_most path f g).sight (Truth b)) (at_most_is (form_at values f) (form_at values g)) (right_tested values path m (form_difference g f) _ (built_difference values g f))

right_less : (values : List Val) (path : List Fact) → MeetsPath values path → (f g : Form) → Right values (less path f g).sight (Truth (int_lt (form_at values f) (form_at values g)))
right_less values path m f g =
    subst (λ b. Right values (less path f g).sight (Truth b)) (less_is (form_at values f) (form_at values g)) (right_tested values path m (excess g f) _ (built_excess values g f))

right_equal : (values : List Val) (path : List Fact) → MeetsPath values path → (f g : Form) → Right values (forms_equal path f g).sight (Truth (int_eq (form_at values f) (form_at values g)))
right_equal values path m f g =
    subst (λ b. Right values (forms_equal path f g).sight (Truth b)) (equal_is (form_at values f) (form_at values g))
    (right_both values (at_most path g f) (at_most path f g) _ _ (right_at_most values path m g f) (right_at_most values path m f g))

right_distinct : (values : List Val) (path : List Fact) → MeetsPath values path → (f g : Form) → Right values (distinct path f g).sight (Truth (not (int_eq (form_at values f) (form_at values g))))
right_distinct values path m f g = right_opposite values (forms_equal path f g).sight _ (right_equal values path m f g)

-- ---- lists of comparisons
-- a comparison of forms is right of the relation of values
abbrev Compares : List Val → (Form → Form → Node) → (Val → Val → Bool) → Type 0
Compares values compare is = (f g : Form) → Right values (compare f g).sight (Truth (is (Whole (form_at values f)) (Whole (form_at values g))))

right_compared : (values : List Val) (compare : Form → Form → Node) (is : Val → Val → Bool) → Compares values compare is → (s t : Sight) (v u : Val) → Right values s v → Right values t u → Right values (compared compare s t).sight (Truth (is v u))
right_compared values compare is each (Linear f) (Linear g) v u h k = subst (λ w. Right values (compare f g).sight (Truth (is w u))) (sym h) (subst (λ w. Right values (compare f g).sight (Truth (is (Whole (form_at values f)) w))) (sym k) (each f g))
right_compared values compare is each (Linear f) (Settled b) v u h k = tt
right_compared values compare is each (Linear f) Open v u h k = tt
right_compared values compare is each (Settled b) t v u h k = tt
right_compared values compare is each Open t v u h k = tt

right_in_row : (values : List Val) (compare : Form → Form → Node) (is : Val → Val → Bool) → Compares values compare is → (n : Node) (a : Bool) → Right values n.sight (Truth a) → (ss : List Sight) (vs : List Val) → AllRight values ss vs → Right values (neighbours_in_row compare n ss).sight (Truth (a && neighbours is vs))
right_in_row values compare is each n a r [] [] h = subst (λ b. Right values n.sight (Truth b)) (sym (and_one a)) r
  where
    and_one : (c : Bool) → (c && true) ≡ c
    and_one true = refl
    and_one false = refl
right_in_row values compare is each n a r (s ∷ []) (v ∷ []) h = subst (λ b. Right values n.sight (Truth b)) (sym (and_one a)) r
  where
    and_one : (c : Bool) → (c && true) ≡ c
    and_one true = refl
    and_one false = refl
right_in_row values compare is each n a r (s ∷ t ∷ ss) (v ∷ u ∷ vs) h =
    subst (λ b. Right values (neighbours_in_row compare (both_nodes n (compared compare s t)) (t ∷ ss)).sight (Truth b)) (and_assoc a (is v u) (neighbours is (u ∷ vs)))
    (right_in_row values compare is each (both_nodes n (compared compare s t)) (a && is v u) (right_both values n (compared compare s t) a (is v u) r (right_compared values compare is each s t v u h.0 h.1.0)) (t ∷ ss) (u ∷ vs) h.1)
right_in_row values compare is each n a r [] (v ∷ vs) h = absurd h
right_in_row values compare is each n a r (s ∷ ss) [] h = absurd h
right_in_row values compare is each n a r (s ∷ []) (v ∷ u ∷ vs) h = absurd h.1
right_in_row values compare is each n a r (s ∷ t ∷ ss) (v ∷ []) h = absurd h.1

right_with_each : (values : List Val) (compare : Form → Form → Node) (is : Val → Val → Bool) → Compares values compare is → (n : Node) (a : Bool) → Right values n.sight (Truth a) → (s : Sight) (v : Val) → Right values s v → (ss : List Sight) (vs : List Val) → AllRight values ss vs → Right values (with_each compare n s ss).sight (Truth (a && to_all is v vs))
right_with_each values compare is each n a r s v g [] [] h = subst (λ b. Right values n.sight (Truth b)) (sym (and_one a)) r
  where
    and_one : (c : Bool) → (c && true) ≡ c
    and_one true = refl
    and_one false = refl
right_with_each values compare is each n a r s v g (t ∷ ss) (u ∷ vs) h =
    subst (λ b. Right values (with_each compare (both_nodes n (compared compare s t)) s ss).sight (Truth b)) (and_assoc a (is v u) (to_all is v vs))
    (right_with_each values compare is each (both_nodes n (compared compare s t)) (a && is v u) (right_both values n (compared compare s t) a (is v u) r (right_compared values compare is each s t v u g h.0)) s v g ss vs h.1)
right_with_each values compare is each n a r s v g [] (u ∷ vs) h = absurd h
right_with_each values compare is each n a r s v g (t ∷ ss) [] h = absurd h

right_in_pairs : (values : List Val) (compare : Form → Form → Node) (is : Val → Val → Bool) → Compares values compare is → (n : Node) (a : Bool) → Right values n.sight (Truth a) → (ss : List Sight) (vs : List Val) → AllRight values ss vs → Right values (in_pairs compare n ss).sight (Truth (a && all_pairs is vs))
right_in_pairs values compare is each n a r [] [] h = subst (λ b. Right values n.sight (Truth b)) (sym (and_one a)) r
  where
    and_one : (c : Bool) → (c && true) ≡ c
    and_one true = refl
    and_one false = refl
right_in_pairs values compare is each n a r (s ∷ ss) (v ∷ vs) h =
    subst (λ b. Right values (in_pairs compare (with_each compare n s ss) ss).sight (Truth b)) (and_assoc a (to_all is v vs) (all_pairs is vs))
    (right_in_pairs values compare is each (with_each compare n s ss) (a && to_all is v vs) (right_with_each values compare is each n a r s v h.0 ss vs h.1) ss vs h.1)
right_in_pairs values compare is each n a r [] (v ∷ vs) h = absurd h
right_in_pairs values compare is each n a r (s ∷ ss) [] h = absurd h

-- ---- operators on truth values
truths_right : (values : List Val) (ss : List Sight) (vs ws : List Val) → AllRight values ss vs → all_truths ss ≡ Some ws → vs ≡ ws
truths_right values [] [] ws h e = cc
truths_right values [] (v ∷ vs) ws h e = absurd h
truths_right values (s ∷ ss) [] ws h e = absurd h
truths_right values (s ∷ ss) (v ∷ vs) ws h e = by s (all_truths ss) h.0 (λ us k. truths_right values ss vs us h.1 k) refl e
  where
    by : (s : Sight) (k : Option (List Val)) → Right values s v → ((us : List Val) → all_truths ss ≡ Some us → vs ≡ us) → all_truths ss ≡ k → truth_before s k ≡ Some ws → v ∷ vs ≡ ws
    by (Settled b) (Some us) g rest a e = let f : vs ≡ us = rest us a in cc
    by (Settled b) None g rest a e = absurd cc
    by (Linear f) k g rest a e = absurd cc
    by Open k g rest a e = absurd cc

right_of_truth : (values : List Val) (v : Val) → Right values (of_truth v) v
right_of_truth values (Truth b) = refl
right_of_truth values (Whole z) = tt
right_of_truth values (Bits w n) = tt

right_truth_at : (values : List Val) (operator : Op) (vs : List Val) → Right values (truth_at operator vs) (op_value operator vs)
right_truth_at values operator vs = by (has_a_sort (sort_of operator (map sort_of_value vs)))
  where
    by : (b : Bool) → Right values (cond b (of_truth (op_value operator vs)) Open) (op_value operator vs)
    by true = right_of_truth values (op_value operator vs)
    by false = tt

right_evaluated : (values : List Val) (operator : Op) (ss : List Sight) (vs : List Val) → AllRight values ss vs → Right values (evaluated operator (all_truths ss)).sight (op_value operator vs)
right_evaluated values operator ss vs h = by (all_truths ss) refl
  where
    by : (k : Option (List Val)) → all_truths ss ≡ k → Right values (evaluated operator k).sight (op_value operator vs)
    by None e = tt
    by (Some ws) e = subst (λ us. Right values (truth_at operator ws) (op_value operator us)) (sym (truths_right values ss vs ws h e)) (right_truth_at values operator ws)

right_by_truths : (values : List Val) (operator : Op) (ss : List Sight) (vs : List Val) (n : Node) → AllRight values ss vs → Right values n.sight (op_value operator vs) → Right values (by_truths_or operator (all_truths ss) n).sight (op_value operator vs)
right_by_truths values operator ss vs n h g = by (all_truths ss) refl
  where
    by : (k : Option (List Val)) → all_truths ss ≡ k → Right values (by_truths_or operator k n).sight (op_value operator vs)
    by None e = g
    by (Some ws) e = subst (λ us. Right values (truth_at operator ws) (op_value operator us)) (sym (truths_right values ss vs ws h e)) (right_truth_at values operator ws)

-- ---- arithmetic
-- an operation on forms is right of the operation on whole numbers
abbrev Computes : List Val → (Form → Form → Option Form) → (ℤ → ℤ → ℤ) → Type 0
Computes values apply is = (f g : Form) → Built values (apply f g) (is (form_at values f) (form_at values g))

right_combined : (values : List Val) (apply : Form → Form → Option Form) (is : ℤ → ℤ → ℤ) → Computes values apply is → (n : Node) (s : Sight) (v u : Val) → Right values n.sight v → Right values s u → Right values (sights_combined apply n s).sight (on_wholes is v u)
right_combined values apply is each n s v u h k = by n.sight s refl h k
  where
    by : (r s : Sight) → n.sight ≡ r → Right values r v → Right values s u → Right values (combined_at n.fits apply r s).sight (on_wholes is v u)
    by (Linear f) (Linear g) e h k = subst (λ w. Right values (of_form (apply f g)).sight w) (ap₂ (on_wholes is) (sym h) (sym k)) (right_form values (apply f g) _ (each f g))
    by (Linear f) (Settled b) e h k = tt
    by (Linear f) Open e h k = tt
    by (Settled b) s e h k = tt
    by Open s e h k = tt

right_from_left : (values : List Val) (apply : Form → Form → Option Form) (is : ℤ → ℤ → ℤ) → Computes values apply is → (n : Node) (ss : List Sight) (v : Val) (vs : List Val) → Right values n.sight v → AllRight values ss vs → Right values (sights_from_left apply n ss).sight (values_from_left (on_wholes is) (v ∷ vs))
right_from_left values apply is each n [] v [] g h = g
right_from_left values apply is each n (s ∷ ss) v (u ∷ vs) g h = right_from_left values apply is each (sights_combined apply n s) ss (on_wholes is v u) vs (right_combined values apply is each n s v u g h.0) h.1
right_from_left values apply is each n [] v (u ∷ vs) g h = absurd h
right_from_left values apply is each n (s ∷ ss) v [] g h = absurd h

right_folded : (values : List Val) (apply : Form → Form → Option Form) (is : ℤ → ℤ → ℤ) → Computes values apply is → (ss : List Sight) (vs : List Val) → AllRight values ss vs → Right values (sights_folded apply ss).sight (values_from_left (on_wholes is) vs)
right_folded values apply is each [] vs h = tt
right_folded values apply is each (s ∷ ss) (v ∷ vs) h = right_from_left values apply is each (told s) ss v vs h.0 h.1
right_folded values apply is each (s ∷ ss) [] h = absurd h

built_product : (values : List Val) (f g : Form) → Built values (form_product f g) (form_at values f *ℤ form_at values g)
unfolding Built
built_product values f g = by (is_constant_form f) (is_constant_form g) refl refl
  where
    by : (a b : Bool) → is_constant_form f ≡ a → is_constant_form g ≡ b → Built values (cond a (form_multiple f.constant g) (cond b (form_multiple g.constant f) None)) (form_at values f *ℤ form_at values g)
    by true b h k = subst (λ z. Built values (form_multiple f.constant g) (z *ℤ form_at values g)) (sym (value-is_constant f (number_in values) h)) (built_multiple values f.constant g)
    by false true h k = subst (λ z. Built values (form_multiple g.constant f) z) (ap (λ x. x *ℤ form_at values f) (sym (value-is_constant g (number_in values) k)) ∙ *ℤ_comm (form_at values g) (form_at values f)) (built_multiple values g.constant f)
    by false false h k = tt

right_negated : (values : List Val) (ss : List Sight) (vs : List Val) → AllRight values ss vs → Right values (truth_negated ss).sight (op_value ops.Neg vs)
unfolding op_value
right_negated values (Linear f ∷ []) (v ∷ []) h = subst (λ w. Right values (of_form (form_multiple (negsuc 0) f)).sight w) (ap Whole (turned_is (form_at values f)) ∙ ap (λ w. Whole (neg_ℤ (whole w))) (sym h.0)) (right_form values (form_multiple (negsuc 0) f) _ (built_multiple values (negsuc 0) f))
  where
    turned_is : (x : ℤ) → negsuc 0 *ℤ x ≡ neg_ℤ x
    turned_is x = same_in _ _ (omega (arith, ints))
right_negated values (Linear f ∷ []) [] h = absurd h
right_negated values (Linear f ∷ []) (v ∷ u ∷ vs) h = absurd h.1
right_negated values _ vs h = tt

right_chosen : (values : List Val) (ss : List Sight) (vs : List Val) → AllRight values ss vs → Right values (chosen ss).sight (op_value ops.Ite vs)
unfolding op_value
right_chosen values (Settled true ∷ s ∷ t ∷ []) (c ∷ x ∷ y ∷ []) h = subst (λ w. Right values s (cond (truth w) x y)) (sym h.0) h.1.0
right_chosen values (Settled false ∷ s ∷ t ∷ []) (c ∷ x ∷ y ∷ []) h = subst (λ w. Right values t (cond (truth w) x y)) (sym h.0) h.1.1.0
right_chosen values (Settled b ∷ s ∷ t ∷ []) [] h = absurd h
right_chosen values (Settled b ∷ s ∷ t ∷ []) (c ∷ []) h = absurd h.1
right_chosen values (Settled b ∷ s ∷ t ∷ []) (c ∷ x ∷ []) h = absurd h.1.1
right_chosen values (Settled b ∷ s ∷ t ∷ []) (c ∷ x ∷ y ∷ z ∷ vs) h = absurd h.1.1.1
right_chosen values _ vs h = tt

-- ---- applications
right_applied : (values : List Val) (path : List Fact) → MeetsPath values path → (operator : Op) (ss : List Sight) (vs : List Val) → AllRight values ss vs → Right values (operator_applied path operator ss).sight (op_value operator vs)
unfolding operator_applied op_value
right_applied values path m ops.And ss vs h = right_all values ss vs h
right_applied values path m ops.Or ss vs h = right_any values ss vs h
right_applied values path m ops.Not ss vs h = right_evaluated values ops.Not ss vs h
right_applied values path m ops.Xor ss vs h = right_evaluated values ops.Xor ss vs h
right_applied values path m ops.Implies ss vs h = right_evaluated values ops.Implies ss vs h
right_applied values path m ops.Equal ss vs h = right_by_truths values ops.Equal ss vs (neighbours_in_row (forms_equal path) none_yet ss) h (right_in_row values (forms_equal path) same (right_equal values path m) none_yet true refl ss vs h)
right_applied values path m ops.Distinct ss vs h = right_by_truths values ops.Distinct ss vs (in_pairs (distinct path) none_yet ss) h (right_in_pairs values (distinct path) (λ x y. not (same x y)) (right_distinct values path m) none_yet true refl ss vs h)
right_applied values path m ops.Ite ss vs h = right_chosen values ss vs h
right_applied values path m ops.Neg ss vs h = right_negated values ss vs h
right_applied values path m ops.Add ss vs h = right_folded values form_sum ◌+ℤ◌ (built_sum values) ss vs h
right_applied values path m ops.Sub ss vs h = right_folded values form_difference ◌-ℤ◌ (built_difference values) ss vs h
right_applied values path m ops.Mul ss vs h = right_folded values form_product ◌*ℤ◌ (built_product values) ss vs h
right_applied values path m ops.Le ss vs h = right_in_row values (at_most path) (λ x y. int_le (whole x) (whole y)) (right_at_most values path m) none_yet true refl ss vs h
right_applied values path m ops.Lt ss vs h = right_in_row values (less path) (λ x y. int_lt (whole x) (whole y)) (right_less values path m) none_yet true refl ss vs h
right_applied values path m ops.Ge ss vs h = right_in_row values (λ f g. at_most path g f) (λ x y. int_le (whole y) (whole x)) (λ f g. right_at_most values path m g f) none_yet true refl ss vs h
right_applied values path m ops.Gt ss vs h = right_in_row values (λ f g. less path g f) (λ x y. int_lt (whole y) (whole x)) (λ f g. right_less values path m g f) none_yet true refl ss vs h
right_applied values path m _ ss vs h = tt

right_at : (values : List Val) (names : List Sight) (env : List Val) → AllRight values names env → (i : ℕ) → Right values (sight_at names i) (value_at_position env i)
right_at values [] env h i = tt
right_at values (s ∷ names) (v ∷ env) h zero = h.0
right_at values (s ∷ names) (v ∷ env) h (suc i) = right_at values names env h.1 i
right_at values (s ∷ names) [] h i = absurd h

right_append : (values : List Val) (ss : List Sight) (vs : List Val) (ts : List Sight) (us : List Val) → AllRight values ss vs → AllRight values ts us → AllRight values (ss ++ ts) (vs ++ us)
right_append values [] [] ts us h k = k
right_append values (s ∷ ss) (v ∷ vs) ts us h k = (h.0, right_append values ss vs ts us h.1 k)
right_append values [] (v ∷ vs) ts us h k = absurd h
right_append values (s ∷ ss) [] ts us h k = absurd h

right_value : (values : List Val) (at : ℕ) (v : Val) → Right values (value_seen at v).sight v
right_value values at (Truth b) = refl
right_value values at (Whole z) = ap Whole (sym (value-constant z (number_in values)))
right_value values at (Bits w n) = tt

right_live : (values : List Val) (b : Bool) (s : Seen) (v : Val) → Right values s.sight v → Right values (cond b s (seen_as Open)).sight v
right_live values true s v h = h
right_live values false s v h = tt

mutual
  unfolding seen all_seen meaning meanings

  -- what is found in a term is right of its meaning
  pub right_seen : (values : List Val) (vars : List Sort) (path : List Fact) → MeetsPath values path → (names : List Sight) (env : List Val) → AllRight values names env → (at : ℕ) (e : Expr) → Right values (seen vars path names at e).sight (meaning [] [] env e)
  right_seen values vars path m names env h at (Constant v) = right_value values at v
  right_seen values vars path m names env h at (Variable i) = right_at values names env h i
  right_seen values vars path m names env h at (Apply operator arguments) =
      right_applied values path m operator _ _ (right_all_seen values vars path m names env h (is_ite operator) (at + 1) nothing_found [] tt arguments)
  right_seen values vars path m names env h at (Invoke function arguments) = tt
  right_seen values vars path m names env h at (Bind bound inner) =
      right_seen values vars path m _ _ (right_append values names env _ _ h (right_all_seen values vars path m names env h false (at + 1) nothing_found [] tt bound)) (at + 1 + nodes_of bound) inner

  pub right_all_seen : (values : List Val) (vars : List Sort) (path : List Fact) → MeetsPath values path → (names : List Sight) (env : List Val) → AllRight values names env → (choice : Bool) (at : ℕ) (before : Found) (vs : List Val) → AllRight values before.sights vs → (es : Exprs) → AllRight values (all_seen vars path names choice at before es).sights (vs ++ meanings [] [] env es)
  right_all_seen values vars path m names env h choice at before vs k none = subst (λ us. AllRight values before.sights us) (sym (append-nil vs)) k
  right_all_seen values vars path m names env h choice at before vs k (more first rest) =
      let s : Seen = cond (live choice before.sights) (seen vars path names at first) (seen_as Open) in
      subst (λ us. AllRight values (all_seen vars path names choice (at + nodes first) (with_next before s) rest).sights us) (append_assoc vs (meaning [] [] env first ∷ []) (meanings [] [] env rest))
      (right_all_seen values vars path m names env h choice (at + nodes first) (with_next before s) (vs ++ meaning [] [] env first ∷ [])
      (right_append values before.sights vs (s.sight ∷ []) (meaning [] [] env first ∷ []) k (right_live values (live choice before.sights) (seen vars path names at first) (meaning [] [] env first) (right_seen values vars path m names env h at first), tt)) rest)

-- ---- queries
given_right : (values : List Val) (path : List Fact) (i : ℕ) → MeetsPath values path → Right values (of_given (given i path)) (value_at_position values i)
given_right values [] i m = tt
given_right values (AtLeast f ∷ path) i m = given_right values path i m.1
given_right values (Is u b ∷ path) i m = by (given_right values path i m.1) (nat_eq i u) refl
  where
    by : Right values (of_given (given i path)) (value_at_position values i) → (t : Bool) → nat_eq i u ≡ t → Right values (of_given (cond t (Some b) (given i path))) (value_at_position values i)
    by rest true e = ap (value_at_position values) ((unsigned_Decides i u).0 e) ∙ m.0
    by rest false e = rest

each_right : (values : List Val) (path : List Fact) → MeetsPath values path → (i : ℕ) (vars : List Sort) (rest : List Val) → Assigns vars rest → ((j k : ℕ) → k ≡ i + j → value_at_position values k ≡ value_at_position rest j) → AllRight values (variable_sights path i vars) rest
each_right values path m i [] [] a h = tt
each_right values path m i [] (v ∷ rest) a h = absurd a
each_right values path m i (sorts.Int ∷ vars) (Whole z ∷ rest) a h =
    (ap Whole (ap whole (sym (h 0 i (omega arith))) ∙ sym (value-variable i (number_in values))), each_right values path m (suc i) vars rest a (λ j k e. h (suc j) k (omega (arith, e))))
each_right values path m i (sorts.Bool ∷ vars) (Truth b ∷ rest) a h =
    (subst (λ v. Right values (of_given (given i path)) v) (h 0 i (omega arith)) (given_right values path i m), each_right values path m (suc i) vars rest a (λ j k e. h (suc j) k (omega (arith, e))))
each_right values path m i (sorts.Int ∷ vars) [] a h = absurd a
each_right values path m i (sorts.Int ∷ vars) (Truth b ∷ rest) a h = absurd a
each_right values path m i (sorts.Int ∷ vars) (Bits w n ∷ rest) a h = absurd a
each_right values path m i (sorts.Bool ∷ vars) [] a h = absurd a
each_right values path m i (sorts.Bool ∷ vars) (Whole z ∷ rest) a h = absurd a
each_right values path m i (sorts.Bool ∷ vars) (Bits w n ∷ rest) a h = absurd a
each_right values path m i (sorts.Bits w ∷ vars) rest a h = absurd a

variables_right : (path : List Fact) (vars : List Sort) (values : List Val) → Assigns vars values → MeetsPath values path → AllRight values (variable_sights path 0 vars) values
variables_right path vars values a m = each_right values path m 0 vars values a (λ j k e. ap (value_at_position values) (e ∙ omega arith))

right_query : (q : LinearQuery) (path : List Fact) (values : List Val) → Assigns q.vars values → MeetsPath values path → Right values (query_seen q path).sight (meaning [] [] values q.body)
right_query q path values a m = right_seen values q.vars path m (variable_sights path 0 q.vars) values (variables_right path q.vars values a m) 0 q.body

-- what is told of a query is so at every assignment that meets the path
pub known_right : (q : LinearQuery) (path : List Fact) → KnownIsRight q path (query_known q path)
known_right q path = by (query_seen q path).misfit (query_seen q path).sight (query_seen q path).unknown (right_query q path)
  where
    asked : (o : Option Test) → KnownIsRight q path (of_open o)
    asked (Some t) = tt
    asked None = tt

    by : (n : Option ℕ) (s : Sight) (o : Option Test) → ((values : List Val) → Assigns q.vars values → MeetsPath values path → Right values s (meaning [] [] values q.body)) → KnownIsRight q path (of_misfit n (of_sight s (of_open o)))
    by (Some n) s o h = tt
    by None (Settled true) o h = h
    by None (Settled false) o h = h
    by None (Linear f) o h = asked o
    by None Open o h = asked o
