-- Lowered applications mean what the operator gives at their arguments.
use Rattle.std.specs.Prelude.{ℕ, zero, suc, ◌<◌, Bool, true, false, cond, ◌&&◌, nat_le, nat_lt, List, [], ◌∷◌, ◌≡◌, ◌≢◌, refl, length, slice_get, ℤ, pos, negsuc, neg_ℤ, int_le, unsigned_abs, Option, Some, None, if◌then◌else◌}
use Rattle.std.specs.List.{list_all}
use Rattle.std.specs.Ordering.{int_eq}
use Rattle.std.proofs.Common.{ap, arith, ◌∙◌, sym, subst}
use Rattle.std.proofs.lemmas.Bool.Decides.{Decides-int_eq}
use Rattle.std.proofs.lemmas.Option.{slice_get_within}
use Rattle.std.proofs.lemmas.Int.{ints}
use Rattle.sy_terms.specs.Values.{Val, Truth, Whole, Bits, whole, from_left}
use Rattle.sy_terms.specs.Integers.{whole_quotient, modulus, absolute}
use Rattle.sy_terms.specs.Operators.{op_value, on_wholes, on_whole}
use Rattle.sy_terms.specs.Sorts.{sort_of, same_sort, each_is}
use Rattle.sy_terms.specs.Theories.{fits_128}
use Rattle.sy_terms.specs.Expr.{Expr, Exprs, Constant, Variable, Apply, Invoke, Bind, none, more}
use Rattle.sy_terms.specs.Fitting.{sort_in, sorts_in, applied_sort, given_by}
use Rattle.sy_terms.specs.Meaning.{meaning, meanings, value_at_position}
use Rattle.sy_terms.specs.declared.op.Op.{Op}
use Rattle.sy_terms.specs.declared.op.Op.TheVariants as ops
use Rattle.sy_terms.specs.declared.sort.Sort.{Sort}
use Rattle.sy_terms.specs.declared.sort.Sort.TheVariants as kinds
use Rattle.sy_terms.specs.declared.sorts.Sorted.TheVariants.{Is, Mismatch}
use Rattle.sy_terms_operators.specs.Plain.{is_plain, are_plain}
use Rattle.sy_terms_operators.proofs.Equations.{both_true, with_sort_Some}
use Rattle.sy_meaning_integers.specs.Lia.{owned}
use Rattle.sy_lower_laws.specs.Lowering.{Step, Quotient, Remainder, Magnitude, Itself, step_of, Progress, Lowered, AllLowered, Divided, nonzero, is_negation, negated_divisor, divisor, is_variable, at_most, whole_constant, equated, paired, quotient_of, remainder_of, quotient_at, remainder_at, quotient_by, remainder_by, quotients, as_variable, magnitude, absolute_of, divided, reduced, unsigned, applied_by, applied}
use Rattle.sy_lower_laws.proofs.Arithmetic.{only}
use Rattle.sy_lower_laws.proofs.Sorts.{integers, HaveSorts, is_whole, sort_means, with_both}
use Rattle.sy_lower_laws.proofs.Sides.{and_both, AreTrue, AreOf, of_sorts, two_sorts, at_most_sort}
use Rattle.sy_lower_laws.proofs.Steps.{Goes, plains_on, of_on, have_on, true_on, Reaches, Stands, Made, itself_made, after, valued, equated_made, Halves, paired_made}

some_same : {X : Type 0} (x y : X) → Some x ≡ Some y → x ≡ y
some_same x y e = cc

is_same : (s t : Sort) → Is s ≡ Is t → s ≡ t
is_same s t e = cc

-- divisors

record IsNonzero (n k : ℤ) : Type 0 where
  is : n ≡ k
  positive : 0 < unsigned_abs k

apart : (n : ℤ) → n ≢ pos 0 → 0 < unsigned_abs n
apart (pos zero) ne = absurd (ne refl)
apart (pos (suc n)) ne = omega arith
apart (negsuc n) ne = omega arith

unlike : (b : Bool) → b ≡ true → b ≡ false → ⊥
unlike true e f = cc
unlike false e f = cc

nonzero_is : (n k : ℤ) → nonzero n ≡ Some k → IsNonzero n k
nonzero_is n k e = by_test (int_eq n (pos 0)) refl e
  where
    by_test : (b : Bool) → int_eq n (pos 0) ≡ b → (if b then None else Some n) ≡ Some k → IsNonzero n k
    by_test true h f = cc
    by_test false h f =
        let same : n ≡ k = some_same n k f in
        let away : n ≢ pos 0 = λ z. unlike (int_eq n (pos 0)) ((Decides-int_eq n (pos 0)).1 z) h in
        record { is = same; positive = subst (λ m. 0 < unsigned_abs m) same (apart n away) }

negation_is : (f : Op) → is_negation f ≡ true → f ≡ ops.Neg
unfolding is_negation
negation_is ops.Neg e = refl
negation_is f e = cc

-- the divisor's meaning
record IsDivisor (term : Expr) (k : ℤ) : Type 0 where
  is : (values : List Val) → whole (meaning [] [] values term) ≡ k
  positive : 0 < unsigned_abs k

if_true : {X : Type 0} (b : Bool) (o : Option X) (x : X) → (if b then o else None) ≡ Some x → o ≡ Some x
if_true true o x e = e
if_true false o x e = cc

negated_is : (arguments : Exprs) (k : ℤ) → negated_divisor arguments ≡ Some k → IsDivisor (Apply ops.Neg arguments) k
unfolding meaning meanings op_value
negated_is (more (Constant (Whole n)) none) k e =
    let number = nonzero_is (neg_ℤ n) k (if_true (fits_128 (neg_ℤ n)) (nonzero (neg_ℤ n)) k e) in
    record { is = λ values. number.is; positive = number.positive }
negated_is none k e = cc
negated_is (more (Constant (Whole n)) (more b rest)) k e = cc
negated_is (more (Constant (Truth b)) rest) k e = cc
negated_is (more (Constant (Bits w n)) rest) k e = cc
negated_is (more (Variable i) rest) k e = cc
negated_is (more (Apply f us) rest) k e = cc
negated_is (more (Invoke f us) rest) k e = cc
negated_is (more (Bind us u) rest) k e = cc

divisor_is : (term : Expr) (k : ℤ) → divisor term ≡ Some k → IsDivisor term k
unfolding divisor meaning
divisor_is (Constant (Whole n)) k e =
    let number = nonzero_is n k e in
    record { is = λ values. number.is; positive = number.positive }
divisor_is (Constant (Truth b)) k e = cc
divisor_is (Constant (Bits w n)) k e = cc
divisor_is (Variable i) k e = cc
divisor_is (Apply f us) k e = by_test (is_negation f) refl e
  where
    by_test : (b : Bool) → is_negation f ≡ b → (if b then negated_divisor us else None) ≡ Some k → IsDivisor (Apply f us) k
    by_test true h found = subst (λ (g : Op). IsDivisor (Apply g us) k) (sym (negation_is f h)) (negated_is us k found)
    by_test false h found = cc
divisor_is (Invoke f us) k e = cc
divisor_is (Bind us u) k e = cc

-- one quotient, one remainder

wholes_sort : (ss : List Sort) (a b : Expr) → sort_in integers ss a ≡ Some kinds.Int → sort_in integers ss b ≡ Some kinds.Int → sort_in integers ss (Apply ops.Div (more a (more b none))) ≡ Some kinds.Int
unfolding sort_in sort_of
wholes_sort ss a b e f = ap (applied_sort integers ops.Div) (two_sorts ss a b kinds.Int kinds.Int e f)

rest_sort : (ss : List Sort) (a b : Expr) → sort_in integers ss a ≡ Some kinds.Int → sort_in integers ss b ≡ Some kinds.Int → sort_in integers ss (Apply ops.Mod (more a (more b none))) ≡ Some kinds.Int
unfolding sort_in sort_of
rest_sort ss a b e f = ap (applied_sort integers ops.Mod) (two_sorts ss a b kinds.Int kinds.Int e f)

two_plain : (count : ℕ) (f : Op) (a b : Expr) → is_plain count a ≡ true → is_plain count b ≡ true → is_plain count (Apply f (more a (more b none))) ≡ true
unfolding is_plain are_plain
two_plain count f a b e g = and_both _ _ e (and_both _ true g refl)

less_is : (a b : ℕ) → a < b → nat_lt a b ≡ true
less_is a b less = grind arith

within_plain : {X : Type 0} (xs : List X) (i : ℕ) (x : X) → slice_get xs i ≡ Some x → is_plain (length xs) (Variable i) ≡ true
unfolding is_plain
within_plain xs i x e = less_is i (length xs) (slice_get_within xs i x e)

half_made : (before : Progress) (found : Divided) (dividend : Expr) (k : ℤ) → 0 < unsigned_abs k → Halves before found dividend k →
    Made before (quotient_of found) kinds.Int (λ values. Whole (whole_quotient (whole (meaning [] [] values dividend)) k))
unfolding meaning sort_in
half_made before found dividend k positive made = record {
  goes = made.goes;
  stands = made.stands;
  plain = within_plain found.progress.sorts found.quotient kinds.Int made.pair.quotient;
  sorted = made.pair.quotient;
  sound = λ values have all.
      is_whole (value_at_position values found.quotient) (have.at found.quotient kinds.Int made.pair.quotient) ∙
      ap Whole (only (whole (meaning [] [] values dividend)) k (whole (value_at_position values found.quotient)) (whole (value_at_position values (suc found.quotient))) positive (made.pair.holds values all)).0;
  exists = made.exists;
}

rest_made : (before : Progress) (found : Divided) (dividend : Expr) (k : ℤ) → 0 < unsigned_abs k → Halves before found dividend k →
    Made before (remainder_of found) kinds.Int (λ values. Whole (modulus (whole (meaning [] [] values dividend)) k))
unfolding meaning sort_in
rest_made before found dividend k positive made = record {
  goes = made.goes;
  stands = made.stands;
  plain = within_plain found.progress.sorts (suc found.quotient) kinds.Int made.pair.remainder;
  sorted = made.pair.remainder;
  sound = λ values have all.
      is_whole (value_at_position values (suc found.quotient)) (have.at (suc found.quotient) kinds.Int made.pair.remainder) ∙
      ap Whole (only (whole (meaning [] [] values dividend)) k (whole (value_at_position values found.quotient)) (whole (value_at_position values (suc found.quotient))) positive (made.pair.holds values all)).1;
  exists = made.exists;
}

-- a whole number's term that holds below so many variables
record IsTerm (before : Progress) (term : Expr) : Type 0 where
  plain : is_plain (length before.sorts) term ≡ true
  sorted : sort_in integers before.sorts term ≡ Some kinds.Int

quotient_made : (before : Progress) → Stands before → (a b : Expr) → IsTerm before a → IsTerm before b →
    Made before (quotient_by before a b) kinds.Int (λ values. on_wholes whole_quotient (meaning [] [] values a) (meaning [] [] values b))
unfolding quotient_by meaning meanings op_value
quotient_made before stands a b first second = by_divisor (divisor b) refl
  where
    by_divisor : (o : Option ℤ) → divisor b ≡ o → Made before (quotient_at o before a b) kinds.Int (λ values. on_wholes whole_quotient (meaning [] [] values a) (meaning [] [] values b))
    by_divisor None e = itself_made before stands (Apply ops.Div (more a (more b none))) (two_plain (length before.sorts) ops.Div a b first.plain second.plain) kinds.Int (wholes_sort before.sorts a b first.sorted second.sorted)
    by_divisor (Some k) e =
        let number = divisor_is b k e in
        valued before (quotient_of (paired before a k)) kinds.Int _ _
        (half_made before (paired before a k) a k number.positive (paired_made before stands a first.plain first.sorted k number.positive))
        (λ values have all. ap (λ n. Whole (whole_quotient (whole (meaning [] [] values a)) n)) (sym (number.is values)))

remainder_made : (before : Progress) → Stands before → (a b : Expr) → IsTerm before a → IsTerm before b →
    Made before (remainder_by before a b) kinds.Int (λ values. on_wholes modulus (meaning [] [] values a) (meaning [] [] values b))
unfolding remainder_by meaning meanings op_value
remainder_made before stands a b first second = by_divisor (divisor b) refl
  where
    by_divisor : (o : Option ℤ) → divisor b ≡ o → Made before (remainder_at o before a b) kinds.Int (λ values. on_wholes modulus (meaning [] [] values a) (meaning [] [] values b))
    by_divisor None e = itself_made before stands (Apply ops.Mod (more a (more b none))) (two_plain (length before.sorts) ops.Mod a b first.plain second.plain) kinds.Int (rest_sort before.sorts a b first.sorted second.sorted)
    by_divisor (Some k) e =
        let number = divisor_is b k e in
        valued before (remainder_of (paired before a k)) kinds.Int _ _
        (rest_made before (paired before a k) a k number.positive (paired_made before stands a first.plain first.sorted k number.positive))
        (λ values have all. ap (λ n. Whole (modulus (whole (meaning [] [] values a)) n)) (sym (number.is values)))

-- one divisor after the other

quotients_made : (before : Progress) → Stands before → (a : Expr) → IsTerm before a → (divisors : Exprs) → are_plain (length before.sorts) divisors ≡ true → AreOf kinds.Int before.sorts divisors →
    Made before (quotients before a divisors) kinds.Int (λ values. from_left (on_wholes whole_quotient) (meaning [] [] values a ∷ meanings [] [] values divisors))
unfolding quotients meanings are_plain
quotients_made before stands a first none plain all = itself_made before stands a first.plain kinds.Int first.sorted
quotients_made before stands a first (more b rest) plain all =
    let both = both_true (is_plain (length before.sorts) b) (are_plain (length before.sorts) rest) plain in
    let one = quotient_made before stands a b first (record { plain = both.0; sorted = all.0 }) in
    let found : Lowered = quotient_by before a b in
    let others = quotients_made found.progress one.stands found.term (record { plain = one.plain; sorted = one.sorted }) rest (plains_on before found.progress one.goes rest both.1) (of_on before found.progress one.goes kinds.Int rest both.1 all.1) in
    let last : Lowered = quotients found.progress found.term rest in
    valued before last kinds.Int _ _
    (after before found.progress last kinds.Int _ one.goes one.exists others)
    (λ values have true. ap (λ (v : Val). from_left (on_wholes whole_quotient) (v ∷ meanings [] [] values rest)) (one.sound values (have_on found.progress last.progress others.goes values have) (true_on found.progress last.progress others.goes values true)))

-- magnitudes

variable_made : (before : Progress) → Stands before → (a : Expr) → IsTerm before a → Made before (as_variable before a) kinds.Int (λ values. meaning [] [] values a)
variable_made before stands a own = by_test (is_variable a)
  where
    by_test : (b : Bool) → Made before (if b then record { term = a; progress = before } else equated before kinds.Int a) kinds.Int (λ values. meaning [] [] values a)
    by_test true = itself_made before stands a own.plain kinds.Int own.sorted
    by_test false = equated_made before stands a own.plain kinds.Int refl own.sorted

magnitude_of : (z : ℤ) → cond (int_le (pos 0) z && true) (Whole z) (Whole (neg_ℤ z)) ≡ Whole (pos (unsigned_abs z))
magnitude_of (pos n) = positive (int_le (pos 0) (pos n)) (grind (arith, ints))
  where
    positive : (b : Bool) → b ≡ true → cond (b && true) (Whole (pos n)) (Whole (neg_ℤ (pos n))) ≡ Whole (pos n)
    positive true e = refl
    positive false e = cc
magnitude_of (negsuc n) = refl

magnitude_means : (values : List Val) (u : Expr) → meaning [] [] values u ≡ Whole (whole (meaning [] [] values u)) → meaning [] [] values (magnitude u) ≡ Whole (absolute (whole (meaning [] [] values u)))
unfolding meaning meanings op_value
magnitude_means values u e =
    ap (λ (v : Val). cond (int_le (pos 0) (whole (meaning [] [] values u)) && true) v (Whole (neg_ℤ (whole (meaning [] [] values u))))) e ∙ magnitude_of (whole (meaning [] [] values u))

magnitude_sort : (ss : List Sort) (u : Expr) → sort_in integers ss u ≡ Some kinds.Int → sort_in integers ss (magnitude u) ≡ Some kinds.Int
unfolding sort_in sorts_in sort_of
magnitude_sort ss u e =
    let test = at_most_sort ss (whole_constant (pos 0)) u refl e in
    let negated : sort_in integers ss (Apply ops.Neg (more u none)) ≡ Some kinds.Int = ap (applied_sort integers ops.Neg) (with_both (sort_in integers ss u) (Some []) kinds.Int [] e refl) in
    ap (applied_sort integers ops.Ite) (with_both (sort_in integers ss (at_most (whole_constant (pos 0)) u)) (sorts_in integers ss (more u (more (Apply ops.Neg (more u none)) none))) kinds.Bool (kinds.Int ∷ kinds.Int ∷ []) test
    (two_sorts ss u (Apply ops.Neg (more u none)) kinds.Int kinds.Int e negated))

magnitude_plain : (count : ℕ) (u : Expr) → is_plain count u ≡ true → is_plain count (magnitude u) ≡ true
unfolding is_plain are_plain
magnitude_plain count u e = rw e refl

absolute_made : (before : Progress) → Stands before → (a : Expr) → IsTerm before a → Made before (absolute_of before a) kinds.Int (λ values. on_whole absolute (meaning [] [] values a ∷ []))
unfolding absolute_of
absolute_made before stands a own =
    let made = variable_made before stands a own in
    let found : Lowered = as_variable before a in
    record {
      goes = made.goes;
      stands = made.stands;
      plain = magnitude_plain (length found.progress.sorts) found.term made.plain;
      sorted = magnitude_sort found.progress.sorts found.term made.sorted;
      sound = λ values have all.
          magnitude_means values found.term (is_whole (meaning [] [] values found.term) (sort_means (length found.progress.sorts) found.progress.sorts values have found.term made.plain kinds.Int made.sorted)) ∙
          ap (λ (v : Val). Whole (absolute (whole v))) (made.sound values have all);
      exists = made.exists;
    }

-- applications

if_Is : (b : Bool) (x y : Sort) → (if b then Is x else Mismatch) ≡ Is y → (b ≡ true) × (x ≡ y)
if_Is true x y e = (refl, is_same x y e)
if_Is false x y e = cc

-- each of the terms has this sort
record AreSorted (before : Progress) (terms : Exprs) (found : List Sort) : Type 0 where
  plain : are_plain (length before.sorts) terms ≡ true
  sorted : sorts_in integers before.sorts terms ≡ Some found

of_sort : (before : Progress) (found : Lowered) (sort other : Sort) (value : List Val → Val) → sort ≡ other → Made before found sort value → Made before found other value
of_sort before found sort other value e made = subst (λ (s : Sort). Made before found s value) e made

divided_made : (before : Progress) → Stands before → (terms : Exprs) (ss : List Sort) → AreSorted before terms ss → (sort : Sort) → sort_of ops.Div ss ≡ Is sort →
    Made before (divided before terms) sort (λ values. op_value ops.Div (meanings [] [] values terms))
unfolding op_value meanings sort_of are_plain sorts_in
divided_made before stands none ss own sort e = absurd (nothing ss (some_same [] ss own.sorted) e)
  where
    nothing : (found : List Sort) → [] ≡ found → each_is 2 kinds.Int found kinds.Int ≡ Is sort → ⊥
    nothing [] h f = cc
    nothing (s ∷ found) h f = cc
divided_made before stands (more a rest) ss own sort e =
    let parts = if_Is (nat_le 2 (length ss) && list_all (same_sort kinds.Int) ss) kinds.Int sort e in
    let each = both_true (nat_le 2 (length ss)) (list_all (same_sort kinds.Int) ss) parts.0 in
    let all = of_sorts kinds.Int before.sorts (more a rest) ss own.sorted each.1 in
    let both = both_true (is_plain (length before.sorts) a) (are_plain (length before.sorts) rest) own.plain in
    of_sort before (quotients before a rest) kinds.Int sort _ parts.1 (quotients_made before stands a (record { plain = both.0; sorted = all.0 }) rest both.1 all.1)

-- the sorts of two whole numbers, and of one
two_ints_are : (ss : List Sort) (sort : Sort) → sort_of ops.Mod ss ≡ Is sort → (ss ≡ kinds.Int ∷ kinds.Int ∷ []) × (kinds.Int ≡ sort)
unfolding sort_of
two_ints_are [] sort e = cc
two_ints_are (kinds.Bool ∷ rest) sort e = cc
two_ints_are (kinds.Bits w ∷ rest) sort e = cc
two_ints_are (kinds.Int ∷ []) sort e = cc
two_ints_are (kinds.Int ∷ kinds.Bool ∷ rest) sort e = cc
two_ints_are (kinds.Int ∷ kinds.Bits w ∷ rest) sort e = cc
two_ints_are (kinds.Int ∷ kinds.Int ∷ x ∷ rest) sort e = cc
two_ints_are (kinds.Int ∷ kinds.Int ∷ []) sort e = (refl, is_same kinds.Int sort e)

one_int_is : (ss : List Sort) (sort : Sort) → sort_of ops.Abs ss ≡ Is sort → (ss ≡ kinds.Int ∷ []) × (kinds.Int ≡ sort)
unfolding sort_of
one_int_is [] sort e = cc
one_int_is (kinds.Bool ∷ rest) sort e = cc
one_int_is (kinds.Bits w ∷ rest) sort e = cc
one_int_is (kinds.Int ∷ x ∷ rest) sort e = cc
one_int_is (kinds.Int ∷ []) sort e = (refl, is_same kinds.Int sort e)

-- a list of terms is as long as that of their sorts
no_terms : (ss : List Sort) (s : Sort) (found : List Sort) → sorts_in integers ss none ≡ Some (s ∷ found) → ⊥
unfolding sorts_in
no_terms ss s found e = cc

one_term : (ss : List Sort) (a : Expr) (rest : Exprs) (s : Sort) (found : List Sort) → sorts_in integers ss (more a rest) ≡ Some (s ∷ found) → (sort_in integers ss a ≡ Some s) × (sorts_in integers ss rest ≡ Some found)
unfolding sorts_in
one_term ss a rest s found e =
    let parts = with_sort_Some (sort_in integers ss a) (sorts_in integers ss rest) (s ∷ found) e in
    let first : parts.sort ≡ s = heads parts.sort s parts.sorts found parts.whole_is in
    let others : parts.sorts ≡ found = tails parts.sort s parts.sorts found parts.whole_is in
    (parts.first_is ∙ ap Some first, parts.rest_is ∙ ap Some others)
  where
    heads : (x y : Sort) (xs ys : List Sort) → x ∷ xs ≡ y ∷ ys → x ≡ y
    heads x y xs ys h = cc

    tails : (x y : Sort) (xs ys : List Sort) → x ∷ xs ≡ y ∷ ys → xs ≡ ys
    tails x y xs ys h = cc

no_more : (ss : List Sort) (a : Expr) (rest : Exprs) → sorts_in integers ss (more a rest) ≡ Some [] → ⊥
unfolding sorts_in
no_more ss a rest e =
    let parts = with_sort_Some (sort_in integers ss a) (sorts_in integers ss rest) [] e in
    never parts.sort parts.sorts parts.whole_is
  where
    never : (s : Sort) (found : List Sort) → s ∷ found ≡ [] → ⊥
    never s found h = cc

reduced_made : (before : Progress) → Stands before → (terms : Exprs) → AreSorted before terms (kinds.Int ∷ kinds.Int ∷ []) → Made before (reduced before terms) kinds.Int (λ values. op_value ops.Mod (meanings [] [] values terms))
unfolding op_value meanings are_plain
reduced_made before stands none own = absurd (no_terms before.sorts kinds.Int (kinds.Int ∷ []) own.sorted)
reduced_made before stands (more a none) own = absurd (no_terms before.sorts kinds.Int [] (one_term before.sorts a none kinds.Int (kinds.Int ∷ []) own.sorted).1)
reduced_made before stands (more a (more b (more c rest))) own =
    absurd (no_more before.sorts c rest (one_term before.sorts b (more c rest) kinds.Int [] (one_term before.sorts a (more b (more c rest)) kinds.Int (kinds.Int ∷ []) own.sorted).1).1)
reduced_made before stands (more a (more b none)) own =
    let first = one_term before.sorts a (more b none) kinds.Int (kinds.Int ∷ []) own.sorted in
    let second = one_term before.sorts b none kinds.Int [] first.1 in
    let both = both_true (is_plain (length before.sorts) a) (are_plain (length before.sorts) (more b none)) own.plain in
    let last = both_true (is_plain (length before.sorts) b) true both.1 in
    remainder_made before stands a b (record { plain = both.0; sorted = first.0 }) (record { plain = last.0; sorted = second.0 })

unsigned_made : (before : Progress) → Stands before → (terms : Exprs) → AreSorted before terms (kinds.Int ∷ []) → Made before (unsigned before terms) kinds.Int (λ values. op_value ops.Abs (meanings [] [] values terms))
unfolding op_value meanings are_plain
unsigned_made before stands none own = absurd (no_terms before.sorts kinds.Int [] own.sorted)
unsigned_made before stands (more a (more b rest)) own = absurd (no_more before.sorts b rest (one_term before.sorts a (more b rest) kinds.Int [] own.sorted).1)
unsigned_made before stands (more a none) own =
    let first = one_term before.sorts a none kinds.Int [] own.sorted in
    let both = both_true (is_plain (length before.sorts) a) true own.plain in
    absolute_made before stands a (record { plain = both.0; sorted = first.0 })

-- terms that were made, one after the other
pub record AllMade (before : Progress) (found : AllLowered) (ss : List Sort) (value : List Val → List Val) : Type 0 where
  pub goes : Goes before found.progress
  pub stands : Stands found.progress
  pub plain : are_plain (length found.progress.sorts) found.terms ≡ true
  pub sorted : sorts_in integers found.progress.sorts found.terms ≡ Some ss
  pub sound : (values : List Val) → HaveSorts found.progress.sorts values → AreTrue values found.progress.sides → meanings [] [] values found.terms ≡ value values
  pub exists : Reaches before found.progress

pub quotient_step : (f : Op) → step_of f ≡ Quotient → f ≡ ops.Div
unfolding step_of
quotient_step ops.Div e = refl
quotient_step ops.Mod e = cc
quotient_step ops.Abs e = cc
quotient_step f e = cc

pub remainder_step : (f : Op) → step_of f ≡ Remainder → f ≡ ops.Mod
unfolding step_of
remainder_step ops.Mod e = refl
remainder_step ops.Div e = cc
remainder_step ops.Abs e = cc
remainder_step f e = cc

pub magnitude_step : (f : Op) → step_of f ≡ Magnitude → f ≡ ops.Abs
unfolding step_of
magnitude_step ops.Abs e = refl
magnitude_step ops.Div e = cc
magnitude_step ops.Mod e = cc
magnitude_step f e = cc

kept_made : (before : Progress) → Stands before → (operator : Op) → owned operator ≡ true → (terms : Exprs) (ss : List Sort) → AreSorted before terms ss → (sort : Sort) → sort_of operator ss ≡ Is sort →
    Made before (record { term = Apply operator terms; progress = before }) sort (λ values. op_value operator (meanings [] [] values terms))
unfolding meaning sort_in is_plain
kept_made before stands operator own terms ss are sort e =
    itself_made before stands (Apply operator terms) are.plain sort (ap (applied_sort integers operator) are.sorted ∙ (ap (λ (b : Bool). if b then given_by (sort_of operator ss) else None) own ∙ ap given_by e))

-- by what becomes of the operator
step_made : (before : Progress) → Stands before → (operator : Op) → owned operator ≡ true → (terms : Exprs) (ss : List Sort) → AreSorted before terms ss → (sort : Sort) → sort_of operator ss ≡ Is sort →
    (step : Step) → step_of operator ≡ step → Made before (applied_by step operator (record { terms = terms; progress = before })) sort (λ values. op_value operator (meanings [] [] values terms))
step_made before stands operator own terms ss are sort e Itself h = kept_made before stands operator own terms ss are sort e
step_made before stands operator own terms ss are sort e Quotient h =
    let is = quotient_step operator h in
    valued before (divided before terms) sort _ _ (divided_made before stands terms ss are sort (ap (λ (f : Op). sort_of f ss) (sym is) ∙ e))
    (λ values have all. ap (λ (f : Op). op_value f (meanings [] [] values terms)) (sym is))
step_made before stands operator own terms ss are sort e Remainder h =
    let is = remainder_step operator h in
    let two = two_ints_are ss sort (ap (λ (f : Op). sort_of f ss) (sym is) ∙ e) in
    valued before (reduced before terms) sort _ _
    (of_sort before (reduced before terms) kinds.Int sort _ two.1 (reduced_made before stands terms (record { plain = are.plain; sorted = are.sorted ∙ ap Some two.0 })))
    (λ values have all. ap (λ (f : Op). op_value f (meanings [] [] values terms)) (sym is))
step_made before stands operator own terms ss are sort e Magnitude h =
    let is = magnitude_step operator h in
    let one = one_int_is ss sort (ap (λ (f : Op). sort_of f ss) (sym is) ∙ e) in
    valued before (unsigned before terms) sort _ _
    (of_sort before (unsigned before terms) kinds.Int sort _ one.1 (unsigned_made before stands terms (record { plain = are.plain; sorted = are.sorted ∙ ap Some one.0 })))
    (λ values have all. ap (λ (f : Op). op_value f (meanings [] [] values terms)) (sym is))

pub applied_made : (before : Progress) (operator : Op) (found : AllLowered) (ss : List Sort) (value : List Val → List Val) → AllMade before found ss value → owned operator ≡ true → (sort : Sort) → sort_of operator ss ≡ Is sort →
    Made before (applied operator found) sort (λ values. op_value operator (value values))
unfolding applied
applied_made before operator found ss value made own sort e =
    let one = step_made found.progress made.stands operator own found.terms ss (record { plain = made.plain; sorted = made.sorted }) sort e (step_of operator) refl in
    let last : Lowered = applied_by (step_of operator) operator found in
    valued before last sort _ _
    (after before found.progress last sort _ made.goes made.exists one)
    (λ values have all. ap (op_value operator) (made.sound values (have_on found.progress last.progress one.goes values have) (true_on found.progress last.progress one.goes values all)))
