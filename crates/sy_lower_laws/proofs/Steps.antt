-- What the steps of a lowering keep: fresh variables and side conditions at the end, which some values always meet.
use Rattle.std.specs.Prelude.{ℕ, suc, ◌+◌, ◌<◌, Bool, true, false, ◌&&◌, nat_lt, List, [], ◌∷◌, ◌++◌, ◌≡◌, refl, length, slice_get, All, ℤ, unsigned_abs, Option, Some, None, if◌then◌else◌}
use Rattle.std.specs.Ordering.{int_eq}
use Rattle.std.proofs.Common.{ap, arith, ◌∙◌, sym, subst, append_assoc, length-append}
use Rattle.std.proofs.lemmas.List.{length-map}
use Rattle.std.proofs.lemmas.List.Elements.{All-nil, All-cons, All-append}
use Rattle.std.proofs.lemmas.Option.{slice_get_within}
use Rattle.std.proofs.lemmas.Bool.Decides.{Decides-int_eq}
use Rattle.sy_terms.specs.Values.{Val, Whole, whole}
use Rattle.sy_terms.specs.Integers.{whole_quotient, modulus}
use Rattle.sy_terms.specs.Theories.{sort_of_value, valid}
use Rattle.sy_terms.specs.Expr.{Expr, Exprs, Variable, none, more, append}
use Rattle.sy_terms.specs.Fitting.{sort_in, sorts_in}
use Rattle.sy_terms.specs.Meaning.{meaning, value_at_position}
use Rattle.sy_terms.specs.declared.sort.Sort.{Sort}
use Rattle.sy_terms.specs.declared.sort.Sort.TheVariants as kinds
use Rattle.sy_terms_operators.specs.Plain.{is_plain, are_plain}
use Rattle.sy_terms_operators.proofs.Equations.{both_true}
use Rattle.sy_terms_operators.proofs.Plain.{plain_append, stays, further, all_further}
use Rattle.sy_grammar_base.specs.Solving.{AreValues}
use Rattle.sy_lower_laws.specs.Lowering.{Pair, Progress, Lowered, Divided, equation, equated, division_sides, pair_of, fresh_pair, paired_by, paired, same_expr}
use Rattle.sy_lower_laws.proofs.Arithmetic.{IsDivision, divides}
use Rattle.sy_lower_laws.proofs.Same.{same_is}
use Rattle.sy_lower_laws.proofs.Sorts.{integers, IsKnown, HaveSorts, have_sorts, longer_get, fewer_sorts, is_whole, more_values, one_sorted, sort_means, sort_stays, sorts_stay}
use Rattle.sy_lower_laws.proofs.Sides.{and_both, AreTrue, true_append, true_first, true_last, true_stay, AreOf, of_append, of_stay, equation_sort, equation_is, is_equation, divided_is, is_divided, division_truths, division_plain}

-- lists

pub nil_last : {X : Type 0} (xs : List X) → xs ≡ xs ++ []
nil_last [] = refl
nil_last (x ∷ xs) = ap (λ rest. x ∷ rest) (nil_last xs)

none_last : (terms : Exprs) → terms ≡ append terms none
none_last none = refl
none_last (more term terms) = ap (more term) (none_last terms)

append_twice : (terms others last : Exprs) → append (append terms others) last ≡ append terms (append others last)
append_twice none others last = refl
append_twice (more term terms) others last = ap (more term) (append_twice terms others last)

at_end : {X : Type 0} (xs : List X) (x : X) (rest : List X) → slice_get (xs ++ x ∷ rest) (length xs) ≡ Some x
at_end [] x rest = refl
at_end (y ∷ xs) x rest = at_end xs x rest

at_next : {X : Type 0} (xs : List X) (x y : X) (rest : List X) → slice_get (xs ++ x ∷ y ∷ rest) (suc (length xs)) ≡ Some y
at_next [] x y rest = refl
at_next (z ∷ xs) x y rest = at_next xs x y rest

value_at_end : (values : List Val) (v : Val) (rest : List Val) → value_at_position (values ++ v ∷ rest) (length values) ≡ v
value_at_end [] v rest = refl
value_at_end (u ∷ values) v rest = value_at_end values v rest

value_at_next : (values : List Val) (v w : Val) (rest : List Val) → value_at_position (values ++ v ∷ w ∷ rest) (suc (length values)) ≡ w
value_at_next [] v w rest = refl
value_at_next (u ∷ values) v w rest = value_at_next values v w rest

less_is : (a b : ℕ) → a < b → nat_lt a b ≡ true
less_is a b less = grind arith

within_plain : {X : Type 0} (xs : List X) (i : ℕ) (x : X) → slice_get xs i ≡ Some x → is_plain (length xs) (Variable i) ≡ true
unfolding is_plain
within_plain xs i x e = less_is i (length xs) (slice_get_within xs i x e)

pub many_values : (sorts : List Sort) (values : List Val) → AreValues sorts values → length values ≡ length sorts
many_values sorts values are = sym (length-map values sort_of_value) ∙ ap length are.sorted

-- growth

pub record Goes (before after : Progress) : Type 0 where
  pub sorts : List Sort
  pub sides : Exprs
  pub sorts_are : after.sorts ≡ before.sorts ++ sorts
  pub sides_are : after.sides ≡ append before.sides sides

pub goes_same : (before : Progress) → Goes before before
goes_same before = record { sorts = []; sides = none; sorts_are = nil_last before.sorts; sides_are = none_last before.sides }

pub goes_on : (before middle after : Progress) → Goes before middle → Goes middle after → Goes before after
goes_on before middle after first second = record {
  sorts = first.sorts ++ second.sorts;
  sides = append first.sides second.sides;
  sorts_are = second.sorts_are ∙ (ap (λ (ss : List Sort). ss ++ second.sorts) first.sorts_are ∙ append_assoc before.sorts first.sorts second.sorts);
  sides_are = second.sides_are ∙ (ap (λ (es : Exprs). append es second.sides) first.sides_are ∙ append_twice before.sides first.sides second.sides);
}

long_after : (before after : Progress) (goes : Goes before after) → length after.sorts ≡ length before.sorts + length goes.sorts
long_after before after goes = ap length goes.sorts_are ∙ length-append before.sorts goes.sorts

pub plain_on : (before after : Progress) → Goes before after → (term : Expr) → is_plain (length before.sorts) term ≡ true → is_plain (length after.sorts) term ≡ true
plain_on before after goes term plain =
    subst (λ n. is_plain n term ≡ true) (sym (long_after before after goes)) (further (length before.sorts) (length goes.sorts) term plain)

pub plains_on : (before after : Progress) → Goes before after → (terms : Exprs) → are_plain (length before.sorts) terms ≡ true → are_plain (length after.sorts) terms ≡ true
plains_on before after goes terms plain =
    subst (λ n. are_plain n terms ≡ true) (sym (long_after before after goes)) (all_further (length before.sorts) (length goes.sorts) terms plain)

pub sort_on : (before after : Progress) → Goes before after → (term : Expr) → is_plain (length before.sorts) term ≡ true → (sort : Sort) → sort_in integers before.sorts term ≡ Some sort → sort_in integers after.sorts term ≡ Some sort
sort_on before after goes term plain sort e =
    subst (λ ss. sort_in integers ss term ≡ Some sort) (sym goes.sorts_are) (sort_stays (length before.sorts) before.sorts goes.sorts term plain sort e)

pub sorts_on : (before after : Progress) → Goes before after → (terms : Exprs) → are_plain (length before.sorts) terms ≡ true → (found : List Sort) → sorts_in integers before.sorts terms ≡ Some found → sorts_in integers after.sorts terms ≡ Some found
sorts_on before after goes terms plain found e =
    subst (λ ss. sorts_in integers ss terms ≡ Some found) (sym goes.sorts_are) (sorts_stay (length before.sorts) before.sorts goes.sorts terms plain found e)

pub of_on : (before after : Progress) → Goes before after → (sort : Sort) (terms : Exprs) → are_plain (length before.sorts) terms ≡ true → AreOf sort before.sorts terms → AreOf sort after.sorts terms
of_on before after goes sort terms plain all =
    subst (λ ss. AreOf sort ss terms) (sym goes.sorts_are) (of_stay sort (length before.sorts) before.sorts goes.sorts terms plain all)

pub have_on : (before after : Progress) → Goes before after → (values : List Val) → HaveSorts after.sorts values → HaveSorts before.sorts values
have_on before after goes values have = fewer_sorts before.sorts goes.sorts values (subst (λ ss. HaveSorts ss values) goes.sorts_are have)

pub true_on : (before after : Progress) → Goes before after → (values : List Val) → AreTrue values after.sides → AreTrue values before.sides
true_on before after goes values all = true_first values before.sides goes.sides (subst (AreTrue values) goes.sides_are all)

-- values that go on

pub record Reached (values : List Val) (after : Progress) : Type 0 where
  pub further : List Val
  pub are : AreValues after.sorts (values ++ further)
  pub all : AreTrue (values ++ further) after.sides

-- some values meet what is new
abbrev pub Reaches : Progress → Progress → Type 0
Reaches before after = (values : List Val) → AreValues before.sorts values → AreTrue values before.sides → Reached values after

pub reaches_same : (before : Progress) → Reaches before before
reaches_same before values are all = record {
  further = [];
  are = subst (AreValues before.sorts) (nil_last values) are;
  all = subst (λ vs. AreTrue vs before.sides) (nil_last values) all;
}

pub reaches_on : (before middle after : Progress) → Reaches before middle → Reaches middle after → Reaches before after
reaches_on before middle after first second values are all =
    let one = first values are all in
    let other = second (values ++ one.further) one.are one.all in
    let same = append_assoc values one.further other.further in
    record {
      further = one.further ++ other.further;
      are = subst (AreValues after.sorts) same other.are;
      all = subst (λ vs. AreTrue vs after.sides) same other.all;
    }

-- kept divisions

-- quotient and remainder are integers' variables, and say so where the side conditions hold
pub record StandsPair (sorts : List Sort) (sides : Exprs) (pair : Pair) : Type 0 where
  pub quotient : slice_get sorts pair.quotient ≡ Some kinds.Int
  pub remainder : slice_get sorts (suc pair.quotient) ≡ Some kinds.Int
  pub holds : (values : List Val) → AreTrue values sides →
      IsDivision (whole (meaning [] [] values pair.dividend)) pair.divisor (whole (value_at_position values pair.quotient)) (whole (value_at_position values (suc pair.quotient)))

abbrev pub AllStand : List Sort → Exprs → List Pair → Type 0
AllStand sorts sides [] = Unit {0}
AllStand sorts sides (pair ∷ pairs) = StandsPair sorts sides pair × AllStand sorts sides pairs

pairs_stay : (sorts others : List Sort) (sides later : Exprs) (pairs : List Pair) → AllStand sorts sides pairs → AllStand (sorts ++ others) (append sides later) pairs
pairs_stay sorts others sides later [] all = tt
pairs_stay ss others sides later (pair ∷ pairs) all = (
  record {
    quotient = longer_get ss others pair.quotient kinds.Int all.0.quotient;
    remainder = longer_get ss others (suc pair.quotient) kinds.Int all.0.remainder;
    holds = λ values true. all.0.holds values (true_first values sides later true);
  },
  pairs_stay ss others sides later pairs all.1,
)

pairs_last : (sorts : List Sort) (sides : Exprs) (pairs : List Pair) (pair : Pair) → AllStand sorts sides pairs → StandsPair sorts sides pair → AllStand sorts sides (pairs ++ pair ∷ [])
pairs_last sorts sides [] pair all one = (one, tt)
pairs_last sorts sides (first ∷ pairs) pair all one = (all.0, pairs_last sorts sides pairs pair all.1 one)

some_same : {X : Type 0} (x y : X) → Some x ≡ Some y → x ≡ y
some_same x y e = cc

pair_found : (sorts : List Sort) (sides : Exprs) (pairs : List Pair) → AllStand sorts sides pairs → (dividend : Expr) (divisor : ℤ) (quotient : ℕ) → pair_of pairs dividend divisor ≡ Some quotient →
    StandsPair sorts sides (record { dividend = dividend; divisor = divisor; quotient = quotient })
unfolding pair_of
pair_found sorts sides [] all dividend divisor quotient e = cc
pair_found sorts sides (pair ∷ pairs) all dividend divisor quotient e = by_test (int_eq pair.divisor divisor && same_expr pair.dividend dividend) refl e (λ found. pair_found sorts sides pairs all.1 dividend divisor quotient found)
  where
    by_test : (b : Bool) → (int_eq pair.divisor divisor && same_expr pair.dividend dividend) ≡ b → (if b then Some pair.quotient else pair_of pairs dividend divisor) ≡ Some quotient →
        (pair_of pairs dividend divisor ≡ Some quotient → StandsPair sorts sides (record { dividend = dividend; divisor = divisor; quotient = quotient })) →
        StandsPair sorts sides (record { dividend = dividend; divisor = divisor; quotient = quotient })
    by_test true h found rest =
        let both = both_true (int_eq pair.divisor divisor) (same_expr pair.dividend dividend) h in
        let same_divisor : pair.divisor ≡ divisor = (Decides-int_eq pair.divisor divisor).0 both.0 in
        let same_dividend : pair.dividend ≡ dividend = same_is pair.dividend dividend both.1 in
        let same_quotient : pair.quotient ≡ quotient = some_same pair.quotient quotient found in
        let of_parts : (a : Expr) → pair.dividend ≡ a → (k : ℤ) → pair.divisor ≡ k → (q : ℕ) → pair.quotient ≡ q → pair ≡ record { dividend = a; divisor = k; quotient = q } =
        λ a x k y q z. λ i. record { dividend = x i; divisor = y i; quotient = z i } in
        subst (StandsPair sorts sides) (of_parts dividend same_dividend divisor same_divisor quotient same_quotient) all.0
    by_test false h found rest = rest found

-- what a progress keeps

pub record Stands (progress : Progress) : Type 0 where
  pub known : All IsKnown progress.sorts
  pub plain : are_plain (length progress.sorts) progress.sides ≡ true
  pub truths : AreOf kinds.Bool progress.sorts progress.sides
  pub pairs : AllStand progress.sorts progress.sides progress.pairs

abbrev grown : Progress → List Sort → Exprs → List Pair → Progress
grown before new later pairs = record { sorts = before.sorts ++ new; sides = append before.sides later; pairs = pairs }

goes_grown : (before : Progress) (new : List Sort) (later : Exprs) (pairs : List Pair) → Goes before (grown before new later pairs)
goes_grown before new later pairs = record { sorts = new; sides = later; sorts_are = refl; sides_are = refl }

stands_grown : (before : Progress) → Stands before → (new : List Sort) → All IsKnown new → (later : Exprs) → are_plain (length (before.sorts ++ new)) later ≡ true → AreOf kinds.Bool (before.sorts ++ new) later →
    (pairs : List Pair) → AllStand (before.sorts ++ new) (append before.sides later) pairs → Stands (grown before new later pairs)
stands_grown before stands new known later plain truths pairs all =
    let goes = goes_grown before new later pairs in
    record {
      known = All-append IsKnown before.sorts new stands.known known;
      plain = plain_append (length (before.sorts ++ new)) before.sides later (plains_on before (grown before new later pairs) goes before.sides stands.plain) plain;
      truths = of_append kinds.Bool (before.sorts ++ new) before.sides later (of_on before (grown before new later pairs) goes kinds.Bool before.sides stands.plain stands.truths) truths;
      pairs = all;
    }

-- a term that was made: it means such a value wherever the side conditions hold
pub record Made (before : Progress) (found : Lowered) (sort : Sort) (value : List Val → Val) : Type 0 where
  pub goes : Goes before found.progress
  pub stands : Stands found.progress
  pub plain : is_plain (length found.progress.sorts) found.term ≡ true
  pub sorted : sort_in integers found.progress.sorts found.term ≡ Some sort
  pub sound : (values : List Val) → HaveSorts found.progress.sorts values → AreTrue values found.progress.sides → meaning [] [] values found.term ≡ value values
  pub exists : Reaches before found.progress

pub itself_made : (before : Progress) → Stands before → (term : Expr) → is_plain (length before.sorts) term ≡ true → (sort : Sort) → sort_in integers before.sorts term ≡ Some sort →
    Made before (record { term = term; progress = before }) sort (λ values. meaning [] [] values term)
itself_made before stands term plain sort sorted = record {
  goes = goes_same before;
  stands = stands;
  plain = plain;
  sorted = sorted;
  sound = λ values have all. refl;
  exists = reaches_same before;
}

pub after : (before middle : Progress) (found : Lowered) (sort : Sort) (value : List Val → Val) → Goes before middle → Reaches before middle → Made middle found sort value → Made before found sort value
after before middle found sort value goes reaches made = record {
  goes = goes_on before middle found.progress goes made.goes;
  stands = made.stands;
  plain = made.plain;
  sorted = made.sorted;
  sound = made.sound;
  exists = reaches_on before middle found.progress reaches made.exists;
}

pub valued : (before : Progress) (found : Lowered) (sort : Sort) (value other : List Val → Val) → Made before found sort value →
    ((values : List Val) → HaveSorts found.progress.sorts values → AreTrue values found.progress.sides → value values ≡ other values) → Made before found sort other
valued before found sort value other made same = record {
  goes = made.goes;
  stands = made.stands;
  plain = made.plain;
  sorted = made.sorted;
  sound = λ values have all. made.sound values have all ∙ same values have all;
  exists = made.exists;
}

-- a fresh variable that equals a term

one_known : (sort : Sort) → IsKnown sort → All IsKnown (sort ∷ [])
one_known sort known = All-cons IsKnown sort [] known (All-nil IsKnown)

equated_reaches : (before : Progress) → Stands before → (term : Expr) → is_plain (length before.sorts) term ≡ true → (sort : Sort) → IsKnown sort → sort_in integers before.sorts term ≡ Some sort →
    Reaches before (grown before (sort ∷ []) (more (equation (Variable (length before.sorts)) term) none) before.pairs)
unfolding meaning
equated_reaches before stands term plain sort known sorted values are all =
    let long = many_values before.sorts values are in
    let value : Val = meaning [] [] values term in
    let inside : is_plain (length values) term ≡ true = subst (λ n. is_plain n term ≡ true) (sym long) plain in
    let insides : are_plain (length values) before.sides ≡ true = subst (λ n. are_plain n before.sides ≡ true) (sym long) stands.plain in
    let own : value_at_position (values ++ value ∷ []) (length before.sorts) ≡ value = ap (value_at_position (values ++ value ∷ [])) (sym long) ∙ value_at_end values value [] in
    let same : meaning [] [] (values ++ value ∷ []) term ≡ value = stays [] [] values (value ∷ []) term inside in
    let fits : sort_of_value value ≡ sort = sort_means (length before.sorts) before.sorts values (have_sorts before.sorts values are) term plain sort sorted in
    record {
      further = value ∷ [];
      are = more_values before.sorts (sort ∷ []) values (value ∷ []) are (one_sorted sort value fits known);
      all = true_append (values ++ value ∷ []) before.sides (more (equation (Variable (length before.sorts)) term) none)
          (true_stay values (value ∷ []) before.sides insides all)
          (is_equation (values ++ value ∷ []) (Variable (length before.sorts)) term (own ∙ sym same), tt);
    }

pub equated_made : (before : Progress) → Stands before → (term : Expr) → is_plain (length before.sorts) term ≡ true → (sort : Sort) → IsKnown sort → sort_in integers before.sorts term ≡ Some sort →
    Made before (equated before sort term) sort (λ values. meaning [] [] values term)
unfolding equated is_plain are_plain sort_in
equated_made before stands term plain sort known sorted =
    let side : Exprs = more (equation (Variable (length before.sorts)) term) none in
    let goes = goes_grown before (sort ∷ []) side before.pairs in
    let whole_progress = grown before (sort ∷ []) side before.pairs in
    let own : slice_get (before.sorts ++ sort ∷ []) (length before.sorts) ≡ Some sort = at_end before.sorts sort [] in
    let own_plain : is_plain (length (before.sorts ++ sort ∷ [])) (Variable (length before.sorts)) ≡ true = within_plain (before.sorts ++ sort ∷ []) (length before.sorts) sort own in
    let term_plain : is_plain (length (before.sorts ++ sort ∷ [])) term ≡ true = plain_on before whole_progress goes term plain in
    let term_sort : sort_in integers (before.sorts ++ sort ∷ []) term ≡ Some sort = sort_on before whole_progress goes term plain sort sorted in
    record {
      goes = goes;
      stands = stands_grown before stands (sort ∷ []) (one_known sort known) side
          (and_both _ true (and_both _ _ own_plain (and_both _ true term_plain refl)) refl)
          (equation_sort (before.sorts ++ sort ∷ []) (Variable (length before.sorts)) term sort known own term_sort, tt)
          before.pairs (pairs_stay before.sorts (sort ∷ []) before.sides side before.pairs stands.pairs);
      plain = own_plain;
      sorted = own;
      sound = λ values have all. equated_sound before.sides (Variable (length before.sorts)) term values all;
      exists = equated_reaches before stands term plain sort known sorted;
    }
  where
    equated_sound : (sides : Exprs) (a b : Expr) (values : List Val) → AreTrue values (append sides (more (equation a b) none)) → meaning [] [] values a ≡ meaning [] [] values b
    equated_sound sides a b values all = equation_is values a b (true_last values sides (more (equation a b) none) all).0

-- quotient and remainder

pub record Halves (before : Progress) (found : Divided) (dividend : Expr) (divisor : ℤ) : Type 0 where
  pub goes : Goes before found.progress
  pub stands : Stands found.progress
  pub pair : StandsPair found.progress.sorts found.progress.sides (record { dividend = dividend; divisor = divisor; quotient = found.quotient })
  pub exists : Reaches before found.progress

two_known : All IsKnown (kinds.Int ∷ kinds.Int ∷ [])
two_known = All-cons IsKnown kinds.Int (kinds.Int ∷ []) refl (All-cons IsKnown kinds.Int [] refl (All-nil IsKnown))

two_whole : (p q : ℤ) → AreValues (kinds.Int ∷ kinds.Int ∷ []) (Whole p ∷ Whole q ∷ [])
two_whole p q = record {
  sorted = refl;
  valid = All-cons (λ v. valid v ≡ true) (Whole p) (Whole q ∷ []) refl (All-cons (λ v. valid v ≡ true) (Whole q) [] refl (All-nil (λ v. valid v ≡ true)));
}

division_at : (a k v w x y z : ℤ) → a ≡ x → v ≡ y → w ≡ z → IsDivision x k y z → IsDivision a k v w
division_at a k v w x y z e f g is = rw (e, f, g) is

pair_reaches : (before : Progress) → Stands before → (dividend : Expr) → is_plain (length before.sorts) dividend ≡ true → sort_in integers before.sorts dividend ≡ Some kinds.Int → (divisor : ℤ) → 0 < unsigned_abs divisor →
    Reaches before (fresh_pair before dividend divisor).progress
pair_reaches before stands dividend plain sorted k nonzero values are all =
    let long = many_values before.sorts values are in
    let n : ℕ = length before.sorts in
    let value : Val = meaning [] [] values dividend in
    let inside : is_plain (length values) dividend ≡ true = subst (λ n. is_plain n dividend ≡ true) (sym long) plain in
    let insides : are_plain (length values) before.sides ≡ true = subst (λ n. are_plain n before.sides ≡ true) (sym long) stands.plain in
    let p : ℤ = whole_quotient (whole value) k in
    let q : ℤ = modulus (whole value) k in
    let later : List Val = Whole p ∷ Whole q ∷ [] in
    let first : value_at_position (values ++ later) n ≡ Whole p = ap (value_at_position (values ++ later)) (sym long) ∙ value_at_end values (Whole p) (Whole q ∷ []) in
    let second : value_at_position (values ++ later) (suc n) ≡ Whole q = ap (λ m. value_at_position (values ++ later) (suc m)) (sym long) ∙ value_at_next values (Whole p) (Whole q) [] in
    let same : meaning [] [] (values ++ later) dividend ≡ value = stays [] [] values later dividend inside in
    let fits : value ≡ Whole (whole value) = is_whole value (sort_means n before.sorts values (have_sorts before.sorts values are) dividend plain kinds.Int sorted) in
    let own : meaning [] [] (values ++ later) dividend ≡ Whole (whole (meaning [] [] (values ++ later) dividend)) = same ∙ (fits ∙ ap (λ v. Whole (whole v)) (sym same)) in
    let is = division_at (whole (meaning [] [] (values ++ later) dividend)) k (whole (value_at_position (values ++ later) n)) (whole (value_at_position (values ++ later) (suc n))) (whole value) p q
    (ap whole same) (ap whole first) (ap whole second) (divides (whole value) k nonzero) in
    record {
      further = later;
      are = more_values before.sorts (kinds.Int ∷ kinds.Int ∷ []) values later are (two_whole p q);
      all = true_append (values ++ later) before.sides (division_sides dividend k n) (true_stay values later before.sides insides all) (is_divided (values ++ later) dividend k n own is);
    }

fresh_made : (before : Progress) → Stands before → (dividend : Expr) → is_plain (length before.sorts) dividend ≡ true → sort_in integers before.sorts dividend ≡ Some kinds.Int → (divisor : ℤ) → 0 < unsigned_abs divisor →
    Halves before (fresh_pair before dividend divisor) dividend divisor
fresh_made before stands dividend plain sorted k nonzero =
    let n : ℕ = length before.sorts in
    let new : List Sort = kinds.Int ∷ kinds.Int ∷ [] in
    let sides : Exprs = division_sides dividend k n in
    let pair : Pair = record { dividend = dividend; divisor = k; quotient = n } in
    let pairs : List Pair = before.pairs ++ pair ∷ [] in
    let goes : Goes before (grown before new sides pairs) = goes_grown before new sides pairs in
    let first : slice_get (before.sorts ++ new) n ≡ Some kinds.Int = at_end before.sorts kinds.Int (kinds.Int ∷ []) in
    let second : slice_get (before.sorts ++ new) (suc n) ≡ Some kinds.Int = at_next before.sorts kinds.Int kinds.Int [] in
    let inside : is_plain (length (before.sorts ++ new)) dividend ≡ true = plain_on before (grown before new sides pairs) goes dividend plain in
    let fits : sort_in integers (before.sorts ++ new) dividend ≡ Some kinds.Int = sort_on before (grown before new sides pairs) goes dividend plain kinds.Int sorted in
    let one : StandsPair (before.sorts ++ new) (append before.sides sides) pair = record {
      quotient = first;
      remainder = second;
      holds = λ values all. divided_is values dividend k n (true_last values before.sides sides all);
    } in
    record {
      goes = goes;
      stands = stands_grown before stands new two_known sides
          (division_plain (length (before.sorts ++ new)) dividend k n inside (within_plain (before.sorts ++ new) n kinds.Int first) (within_plain (before.sorts ++ new) (suc n) kinds.Int second))
          (division_truths (before.sorts ++ new) dividend k n fits first second)
          pairs (pairs_last (before.sorts ++ new) (append before.sides sides) before.pairs pair (pairs_stay before.sorts new before.sides sides before.pairs stands.pairs) one);
      pair = one;
      exists = pair_reaches before stands dividend plain sorted k nonzero;
    }

pub paired_made : (before : Progress) → Stands before → (dividend : Expr) → is_plain (length before.sorts) dividend ≡ true → sort_in integers before.sorts dividend ≡ Some kinds.Int → (divisor : ℤ) → 0 < unsigned_abs divisor →
    Halves before (paired before dividend divisor) dividend divisor
unfolding paired
paired_made before stands dividend plain sorted divisor nonzero = by_pair (pair_of before.pairs dividend divisor) refl
  where
    by_pair : (found : Option ℕ) → pair_of before.pairs dividend divisor ≡ found → Halves before (paired_by found before dividend divisor) dividend divisor
    by_pair None e = fresh_made before stands dividend plain sorted divisor nonzero
    by_pair (Some quotient) e = record {
      goes = goes_same before;
      stands = stands;
      pair = pair_found before.sorts before.sides before.pairs stands.pairs dividend divisor quotient e;
      exists = reaches_same before;
    }
