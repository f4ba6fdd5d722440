-- A lowered term means what the term does at the values of its names, wherever the side conditions hold.
use Rattle.std.specs.Prelude.{ℕ, zero, suc, Bool, true, false, List, [], ◌∷◌, ◌++◌, ◌≡◌, refl, length, slice_get, All, Option, Some, None, if◌then◌else◌}
use Rattle.std.proofs.Common.{ap, ◌∙◌, sym, subst}
use Rattle.std.proofs.lemmas.List.Elements.{All-append}
use Rattle.sy_terms.specs.Values.{Val}
use Rattle.sy_terms.specs.Expr.{Expr, Exprs, Constant, Variable, Apply, Invoke, Bind, none, more, append}
use Rattle.sy_terms.specs.Fitting.{sort_in, sorts_in}
use Rattle.sy_terms.specs.Meaning.{meaning, meanings, value_at_position}
use Rattle.sy_terms.specs.declared.sort.Sort.{Sort}
use Rattle.sy_terms_operators.specs.Plain.{is_plain, are_plain}
use Rattle.sy_terms_operators.proofs.Equations.{both_true, applied_sort_Some, after_Some, with_sort_Some}
use Rattle.sy_terms_operators.proofs.Plain.{plain_append}
use Rattle.sy_lower_laws.specs.Lowering.{Progress, Lowered, AllLowered, is_name, equated, equated_at, named, name_at, lowered, all_lowered, bound_lowered}
use Rattle.sy_lower_laws.specs.Laws.{has_integers, have_integers}
use Rattle.sy_lower_laws.proofs.Sorts.{integers, IsKnown, with_both, cons_both, sorts_append, uncalled, sort_known, sorts_known}
use Rattle.sy_lower_laws.proofs.Sides.{and_both}
use Rattle.sy_lower_laws.proofs.Steps.{Goes, goes_same, goes_on, plain_on, plains_on, sort_on, sorts_on, have_on, true_on, reaches_same, reaches_on, Stands, Made, itself_made, after, valued, equated_made}
use Rattle.sy_lower_laws.proofs.Applications.{AllMade, applied_made}

-- names

-- what the names in force stand for: plain terms of these sorts
pub record Names (progress : Progress) (names : Exprs) (found : List Sort) : Type 0 where
  pub plain : are_plain (length progress.sorts) names ≡ true
  pub sorted : sorts_in integers progress.sorts names ≡ Some found

some_same : {X : Type 0} (x y : X) → Some x ≡ Some y → x ≡ y
some_same x y e = cc

name_plain : (count : ℕ) (names : Exprs) (i : ℕ) → are_plain count names ≡ true → is_plain count (name_at names i) ≡ true
unfolding is_plain are_plain
name_plain count none i plain = refl
name_plain count (more name names) zero plain = (both_true (is_plain count name) (are_plain count names) plain).0
name_plain count (more name names) (suc i) plain = name_plain count names i (both_true (is_plain count name) (are_plain count names) plain).1

name_sort : (ss : List Sort) (names : Exprs) (found : List Sort) → sorts_in integers ss names ≡ Some found → (i : ℕ) (sort : Sort) → slice_get found i ≡ Some sort → sort_in integers ss (name_at names i) ≡ Some sort
unfolding sorts_in
name_sort ss none found e i sort h = absurd (nothing found (some_same [] found e) h)
  where
    nothing : (other : List Sort) → [] ≡ other → slice_get other i ≡ Some sort → ⊥
    nothing [] is at = cc
    nothing (s ∷ other) is at = cc
name_sort ss (more name names) found e zero sort h =
    let parts = with_sort_Some (sort_in integers ss name) (sorts_in integers ss names) found e in
    parts.first_is ∙ (ap (λ (fs : List Sort). slice_get fs 0) parts.whole_is ∙ h)
name_sort ss (more name names) found e (suc i) sort h =
    let parts = with_sort_Some (sort_in integers ss name) (sorts_in integers ss names) found e in
    name_sort ss names parts.sorts parts.rest_is i sort (ap (λ (fs : List Sort). slice_get fs (suc i)) parts.whole_is ∙ h)

name_means : (values : List Val) (names : Exprs) (i : ℕ) → meaning [] [] values (name_at names i) ≡ value_at_position (meanings [] [] values names) i
unfolding meaning meanings
name_means values none i = refl
name_means values (more name names) zero = refl
name_means values (more name names) (suc i) = name_means values names i

pub meanings_append : (values : List Val) (terms others : Exprs) → meanings [] [] values (append terms others) ≡ meanings [] [] values terms ++ meanings [] [] values others
unfolding meanings
meanings_append values none others = refl
meanings_append values (more term terms) others = ap (λ (rest : List Val). meaning [] [] values term ∷ rest) (meanings_append values terms others)

pub names_on : (before after : Progress) → Goes before after → (names : Exprs) (found : List Sort) → Names before names found → Names after names found
names_on before after goes names found own = record {
  plain = plains_on before after goes names own.plain;
  sorted = sorts_on before after goes names own.plain found own.sorted;
}

pub names_more : (progress : Progress) (names others : Exprs) (found later : List Sort) → Names progress names found → are_plain (length progress.sorts) others ≡ true → sorts_in integers progress.sorts others ≡ Some later →
    Names progress (append names others) (found ++ later)
names_more progress names others found later own plain sorted = record {
  plain = plain_append (length progress.sorts) names others own.plain plain;
  sorted = sorts_append progress.sorts names others found later own.sorted sorted;
}

-- lists of terms

none_made : (before : Progress) → Stands before → (ss : List Sort) → Some [] ≡ Some ss → AllMade before (record { terms = none; progress = before }) ss (λ values. [])
unfolding meanings are_plain sorts_in
none_made before stands ss e = record {
  goes = goes_same before;
  stands = stands;
  plain = refl;
  sorted = e;
  sound = λ values have all. refl;
  exists = reaches_same before;
}

more_made : (before : Progress) (first : Lowered) (rest : AllLowered) (sort : Sort) (ss whole : List Sort) (value : List Val → Val) (others : List Val → List Val) →
    Made before first sort value → AllMade first.progress rest ss others → sort ∷ ss ≡ whole →
    AllMade before (record { terms = more first.term rest.terms; progress = rest.progress }) whole (λ values. value values ∷ others values)
unfolding meanings are_plain sorts_in
more_made before first rest sort ss whole value others one all is = record {
  goes = goes_on before first.progress rest.progress one.goes all.goes;
  stands = all.stands;
  plain = and_both _ _ (plain_on first.progress rest.progress all.goes first.term one.plain) all.plain;
  sorted = with_both _ _ sort ss (sort_on first.progress rest.progress all.goes first.term one.plain sort one.sorted) all.sorted ∙ ap Some is;
  sound = λ values have holds.
      cons_both _ _ _ _ (one.sound values (have_on first.progress rest.progress all.goes values have) (true_on first.progress rest.progress all.goes values holds)) (all.sound values have holds);
  exists = reaches_on before first.progress rest.progress one.exists all.exists;
}

-- a bound term

pub named_made : (before : Progress) (found : Lowered) (sort : Sort) (value : List Val → Val) → IsKnown sort → Made before found sort value → Made before (named found) sort value
unfolding named
named_made before found sort value known made = by_test (is_name found.term)
  where
    by_sort : (o : Option Sort) → o ≡ Some sort → Made before (equated_at o found) sort value
    by_sort None e = cc
    by_sort (Some other) e =
        let is : other ≡ sort = some_same other sort e in
        let one = equated_made found.progress made.stands found.term made.plain sort known made.sorted in
        let last : Lowered = equated found.progress sort found.term in
        let whole : Made before last sort value =
        valued before last sort _ value (after before found.progress last sort _ made.goes made.exists one)
        (λ values have all. made.sound values (have_on found.progress last.progress one.goes values have) (true_on found.progress last.progress one.goes values all)) in
        subst (λ (s : Sort). Made before (equated found.progress s found.term) sort value) (sym is) whole

    by_test : (b : Bool) → Made before (if b then found else equated_at (sort_in integers found.progress.sorts found.term) found) sort value
    by_test true = made
    by_test false = by_sort (sort_in integers found.progress.sorts found.term) made.sorted

-- the walk

mutual
  unfolding lowered all_lowered bound_lowered meaning meanings sort_in sorts_in has_integers have_integers is_plain

  pub walked : (names : Exprs) (ns : List Sort) → All IsKnown ns → (before : Progress) → Stands before → Names before names ns → (term : Expr) → has_integers term ≡ true → (sort : Sort) → sort_in integers ns term ≡ Some sort →
      Made before (lowered names before term) sort (λ values. meaning [] [] (meanings [] [] values names) term)
  walked names ns known before stands own (Constant value) whole sort e = itself_made before stands (Constant value) refl sort e
  walked names ns known before stands own (Variable i) whole sort e =
      valued before (record { term = name_at names i; progress = before }) sort _ _
      (itself_made before stands (name_at names i) (name_plain (length before.sorts) names i own.plain) sort (name_sort before.sorts names ns own.sorted i sort e))
      (λ values have all. name_means values names i)
  walked names ns known before stands own (Apply operator arguments) whole sort e =
      let parts = applied_sort_Some integers operator (sorts_in integers ns arguments) sort e in
      applied_made before operator (all_lowered names before arguments) parts.sorts (λ values. meanings [] [] (meanings [] [] values names) arguments)
      (all_walked names ns known before stands own arguments whole parts.sorts parts.is) parts.owned sort parts.fits
  walked names ns known before stands own (Invoke function arguments) whole sort e = uncalled ns function arguments sort e
  walked names ns known before stands own (Bind bound inner) whole sort e =
      let both = both_true (have_integers bound) (has_integers inner) whole in
      let parts = after_Some (sorts_in integers ns bound) (λ found. sort_in integers (ns ++ found) inner) sort e in
      let first = bound_walked names ns known before stands own bound both.0 parts.sorts parts.is in
      let found : AllLowered = bound_lowered names before bound in
      let later = names_more found.progress names found.terms ns parts.sorts (names_on before found.progress first.goes names ns own) first.plain first.sorted in
      let last : Lowered = lowered (append names found.terms) found.progress inner in
      let second = walked (append names found.terms) (ns ++ parts.sorts) (All-append IsKnown ns parts.sorts known (sorts_known ns known bound both.0 parts.sorts parts.is)) found.progress first.stands later inner both.1 sort parts.next_is in
      valued before last sort _ _
      (after before found.progress last sort _ first.goes first.exists second)
      (λ values have all.
      ap (λ (vs : List Val). meaning [] [] vs inner)
      (meanings_append values names found.terms ∙
      ap (λ (vs : List Val). meanings [] [] values names ++ vs) (first.sound values (have_on found.progress last.progress second.goes values have) (true_on found.progress last.progress second.goes values all))))

  pub all_walked : (names : Exprs) (ns : List Sort) → All IsKnown ns → (before : Progress) → Stands before → Names before names ns → (terms : Exprs) → have_integers terms ≡ true → (found : List Sort) → sorts_in integers ns terms ≡ Some found →
      AllMade before (all_lowered names before terms) found (λ values. meanings [] [] (meanings [] [] values names) terms)
  all_walked names ns known before stands own none whole found e = none_made before stands found e
  all_walked names ns known before stands own (more term terms) whole found e =
      let both = both_true (has_integers term) (have_integers terms) whole in
      let parts = with_sort_Some (sort_in integers ns term) (sorts_in integers ns terms) found e in
      let first : Lowered = lowered names before term in
      let one = walked names ns known before stands own term both.0 parts.sort parts.first_is in
      let others = all_walked names ns known first.progress one.stands (names_on before first.progress one.goes names ns own) terms both.1 parts.sorts parts.rest_is in
      more_made before first (all_lowered names first.progress terms) parts.sort parts.sorts found _ _ one others parts.whole_is

  pub bound_walked : (names : Exprs) (ns : List Sort) → All IsKnown ns → (before : Progress) → Stands before → Names before names ns → (terms : Exprs) → have_integers terms ≡ true → (found : List Sort) → sorts_in integers ns terms ≡ Some found →
      AllMade before (bound_lowered names before terms) found (λ values. meanings [] [] (meanings [] [] values names) terms)
  bound_walked names ns known before stands own none whole found e = none_made before stands found e
  bound_walked names ns known before stands own (more term terms) whole found e =
      let both = both_true (has_integers term) (have_integers terms) whole in
      let parts = with_sort_Some (sort_in integers ns term) (sorts_in integers ns terms) found e in
      let first : Lowered = named (lowered names before term) in
      let made = walked names ns known before stands own term both.0 parts.sort parts.first_is in
      let one = named_made before (lowered names before term) parts.sort _ (sort_known ns known term both.0 parts.sort parts.first_is) made in
      let others = bound_walked names ns known first.progress one.stands (names_on before first.progress one.goes names ns own) terms both.1 parts.sorts parts.rest_is in
      more_made before first (bound_lowered names first.progress terms) parts.sort parts.sorts found _ _ one others parts.whole_is
